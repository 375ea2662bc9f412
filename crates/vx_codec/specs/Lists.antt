-- Lists, optional values, and values in length-delimited frames.
use Rattle.std.specs.Prelude.{◌≡◌, ℕ, zero, suc, Bool, true, false, List, [], ◌∷◌, ◌++◌, length, Option, Some, None, ◌==◌, if◌then◌else◌}
use Rattle.vx_codec.specs.FixedWidth.{byte_at, raw}
use Rattle.vx_codec.specs.Format.{◌>>=◌, Parse, Format, keyed, mapped}
use Rattle.vx_codec.specs.Varint.{varint}

-- the spellings of several values, one after another
abbrev pub spell_all : {A : Type 0} → (A → List ℕ) → List A → List ℕ
spell_all spell [] = []
spell_all spell (x ∷ xs) = spell x ++ spell_all spell xs

-- reads n values, one after another
abbrev pub repeated_at : {A : Type 0} → Parse A → ℕ → Parse (List A)
repeated_at p zero bytes = Some ([], bytes)
repeated_at p (suc n) bytes = p bytes >>= λ x. (repeated_at p n x.1 >>= λ xs. Some (x.0 ∷ xs.0, xs.1))

-- each value of a list fits
abbrev pub AllFit : {A : Type 0} → (A → Type 0) → List A → Type 0
AllFit Fits [] = Unit {0}
AllFit Fits (x ∷ xs) = Fits x × AllFit Fits xs

-- a list of n values, one after another
abbrev pub repeated : {A : Type 0} → Format A → ℕ → Format (List A)
repeated f n = record {
  spell = spell_all f.spell;
  parse = repeated_at f.parse n;
  Fits = λ xs. (length xs ≡ n) × AllFit f.Fits xs;
}

-- a list behind its length
abbrev pub counted : {A : Type 0} → Format A → Format (List A)
counted f = keyed varint length (repeated f)

-- bytes behind their length
abbrev pub delimited : Format (List ℕ)
delimited = keyed varint length raw

-- whether no byte is left
abbrev pub is_end : List ℕ → Bool
is_end [] = true
is_end (b ∷ bytes) = false

-- a value that is spelled by all of the bytes
abbrev pub to_end : {A : Type 0} → Parse A → List ℕ → Option A
to_end p bytes = p bytes >>= λ x. (if is_end x.1 then Some x.0 else None)

-- a value behind the length of its spelling, so that a reader can skip it
abbrev pub framed : {A : Type 0} → Format A → Format A
framed f = mapped f.spell (to_end f.parse) delimited

-- a byte 0 for None; a byte 1 and the spelling of the value for Some
abbrev pub optional_spell : {A : Type 0} → (A → List ℕ) → Option A → List ℕ
optional_spell spell None = 0 ∷ []
optional_spell spell (Some a) = 1 ∷ spell a

-- reads a byte 0 as None, and a byte 1 and a value as Some of it; any other byte is refused
abbrev pub optional_at : {A : Type 0} → Parse A → Parse (Option A)
optional_at p bytes =
    byte_at bytes >>= λ b.
    (if b.0 == 0 then Some (None, b.1) else (if b.0 == 1 then (p b.1 >>= λ x. Some (Some x.0, x.1)) else None))

-- None fits, and a value fits where its format says so
abbrev pub OptionalFits : {A : Type 0} → (A → Type 0) → Option A → Type 0
OptionalFits Fits None = Unit {0}
OptionalFits Fits (Some a) = Fits a

-- a byte 0 for None, or 1 and the value
abbrev pub optional : {A : Type 0} → Format A → Format (Option A)
optional f = record { spell = optional_spell f.spell; parse = optional_at f.parse; Fits = OptionalFits f.Fits }
