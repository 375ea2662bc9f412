-- What a constructor's answer says to the reader of its parts.
use Rattle.std.proofs.Common.{◌≡◌, ℕ, Bool, List, Option, Some, None, refl, sym, subst}
use Rattle.std.specs.Prelude.{Err, Ok, is_none}
use Rattle.vx_base.specs.Answers.{Makes, SurelyDecided}
use Rattle.vx_base.specs.declared.error.Refused.{Refused}
use Rattle.vx_base.specs.declared.error.VortexError.{VortexError}
use Rattle.vx_codec.specs.declared.error.ReadError.{ReadError}
use Rattle.vx_codec.specs.declared.error.ReadError.TheVariants.{NoMemory, Malformed}
use Rattle.vx_codec.specs.Reads.{Fails}
use Rattle.vx_file.specs.Made.{checked, error_of}

fails_none : {Y : Type 0} (e : ReadError) (read : Option Y) → read ≡ None → Fails e read
fails_none NoMemory read h = tt
fails_none Malformed read h = h

-- what a constructor refuses is no node
not_made : {P T U : Type 0} (r : Option VortexError) (ok : P → Bool) (make : P → U) (parts : P) (rest : List ℕ) (made : U) (inputs : T) (f : Refused T) → ok parts ≡ is_none r → Makes r made inputs (Err f)
    → Fails (error_of f.error) (checked ok make parts rest)
not_made None ok make parts rest made inputs f e h = rw h.0 tt
not_made (Some x) ok make parts rest made inputs f e h = fails_none (error_of f.error) (checked ok make parts rest) (rw e refl)

-- what a constructor refuses is no node, told by the reader's error for that refusal
pub is_refused : {P T U : Type 0} (r : Option VortexError) (ok : P → Bool) (make : P → U) (parts : P) (rest : List ℕ) (made : U) (inputs : T) (f : Refused T) (e : ReadError) → ok parts ≡ is_none r → e ≡ error_of f.error → Makes r made inputs (Err f)
    → Fails e (checked ok make parts rest)
is_refused r ok make parts rest made inputs f e same is h = subst (λ x. Fails x (checked ok make parts rest)) (sym is) (not_made r ok make parts rest made inputs f same h)

-- what a constructor makes is the node
pub is_made : {P T U : Type 0} (r : Option VortexError) (ok : P → Bool) (make : P → U) (parts : P) (rest : List ℕ) (made : U) (inputs : T) (a : U) → ok parts ≡ is_none r → made ≡ make parts → Makes r made inputs (Ok a)
    → checked ok make parts rest ≡ Some (a, rest)
is_made None ok make parts rest made inputs a e m h = rw (e, h, m) refl
is_made (Some x) ok make parts rest made inputs a e m h = absurd h

-- what a constructor refuses that hands nothing back
decided_not_made : {P U : Type 0} (r : Option VortexError) (ok : P → Bool) (make : P → U) (parts : P) (rest : List ℕ) (Made : U → Type 0) (f : VortexError) → ok parts ≡ is_none r → SurelyDecided r Made (Err f)
    → Fails (error_of f) (checked ok make parts rest)
decided_not_made None ok make parts rest Made f e h = absurd h
decided_not_made (Some x) ok make parts rest Made f e h = fails_none (error_of f) (checked ok make parts rest) (rw e refl)

pub is_refused_alone : {P U : Type 0} (r : Option VortexError) (ok : P → Bool) (make : P → U) (parts : P) (rest : List ℕ) (Made : U → Type 0) (f : VortexError) (e : ReadError) → ok parts ≡ is_none r → e ≡ error_of f → SurelyDecided r Made (Err f)
    → Fails e (checked ok make parts rest)
is_refused_alone r ok make parts rest Made f e same is h = subst (λ x. Fails x (checked ok make parts rest)) (sym is) (decided_not_made r ok make parts rest Made f same h)
