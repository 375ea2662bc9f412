-- The words by which clauses state what a call answers. NoMemory has no cause in them: a call that allocates may answer it
-- at any time.
use Rattle.std.specs.Prelude.{◌≡◌, Bool, true, false, Option, Some, None, Result, Ok, Err, MatchResult}
use Rattle.vx_base.specs.declared.error.VortexError.{VortexError}
use Rattle.vx_base.specs.declared.error.VortexError.TheVariants.{NoMemory}
use Rattle.vx_base.specs.declared.error.Refused.{Refused}

-- Ok of something with P, or NoMemory
abbrev pub OrMemory : {A : Type 0} → Result A VortexError → (A → Type 0) → Type 0
OrMemory result P = MatchResult result P (λ e. e ≡ NoMemory)

-- Ok x, or NoMemory
abbrev pub Answers : {A : Type 0} → Result A VortexError → A → Type 0
Answers result x = OrMemory result (λ y. y ≡ x)

-- with a refusal, exactly its Err; without one, Ok of something with P, or NoMemory
abbrev pub Decided : {A : Type 0} → Option VortexError → (A → Type 0) → Result A VortexError → Type 0
Decided None P result = OrMemory result P
Decided (Some e) P (Ok a) = ⊥
Decided (Some e) P (Err f) = f ≡ e

-- `Decided` of a call that allocates nothing, so without NoMemory
abbrev pub SurelyDecided : {A : Type 0} → Option VortexError → (A → Type 0) → Result A VortexError → Type 0
SurelyDecided None P (Ok a) = P a
SurelyDecided None P (Err f) = ⊥
SurelyDecided (Some e) P (Ok a) = ⊥
SurelyDecided (Some e) P (Err f) = f ≡ e

-- with a refusal, its Err and the inputs handed back; without one, Ok made, or NoMemory and the inputs handed back
abbrev pub Makes : {T U : Type 0} → Option VortexError → U → T → Result U (Refused T) → Type 0
Makes None made inputs (Ok a) = a ≡ made
Makes None made inputs (Err r) = (r.error ≡ NoMemory) × (r.inputs ≡ inputs)
Makes (Some e) made inputs (Ok a) = ⊥
Makes (Some e) made inputs (Err r) = (r.error ≡ e) × (r.inputs ≡ inputs)

-- `Makes` of a constructor that allocates nothing, so without NoMemory
abbrev pub MakesSurely : {T U : Type 0} → Option VortexError → U → T → Result U (Refused T) → Type 0
MakesSurely None made inputs (Ok a) = a ≡ made
MakesSurely None made inputs (Err r) = ⊥
MakesSurely (Some e) made inputs (Ok a) = ⊥
MakesSurely (Some e) made inputs (Err r) = (r.error ≡ e) × (r.inputs ≡ inputs)

-- a refusal where the test fails, and else what the later tests refuse
abbrev pub unless : Bool → VortexError → Option VortexError → Option VortexError
unless true error others = others
unless false error others = Some error
