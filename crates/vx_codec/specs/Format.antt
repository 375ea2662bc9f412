-- What a format is, and the combinators that make formats of formats.
use Rattle.std.specs.Prelude.{◌≡◌, ℕ, Bool, IsTrue, List, ◌++◌, Option, Some, None, if◌then◌else◌}

-- a step that may fail, and then another
infixl 10 ◌>>=◌
abbrev pub ◌>>=◌ : {A B : Type 0} → Option A → (A → Option B) → Option B
None >>= f = None
(Some x) >>= f = f x

-- what is read at the front of bytes, and the bytes after it; None where nothing is spelled there
abbrev pub Parse : Type 0 → Type 0
Parse A = List ℕ → Option (A × List ℕ)

-- how a value is spelled in bytes, how it is read back, and which values can be spelled: those whose numbers fit their fields
pub record Format (A : Type 0) : Type 1 where
  pub spell : A → List ℕ
  pub parse : Parse A
  pub Fits : A → Type 0

-- A value that fits is read back from its spelling, whatever follows; and only spellings are read, so each value has one.
pub record IsLawful {A : Type 0} (f : Format A) : Type 0 where
  pub round_trip : (a : A) (rest : List ℕ) → f.Fits a → f.parse (f.spell a ++ rest) ≡ Some (a, rest)
  pub canonical : (bytes : List ℕ) (x : A × List ℕ) → f.parse bytes ≡ Some x → (bytes ≡ f.spell x.0 ++ x.1) × f.Fits x.0

-- reads a first value, and then a second one, whose reader may depend on the first
abbrev pub pair_at : {A B : Type 0} → Parse A → (A → Parse B) → Parse (A × B)
pair_at p q bytes = p bytes >>= λ x. (q x.0 x.1 >>= λ y. Some ((x.0, y.0), y.1))

-- two values, one after the other, where the format of the second may depend on the first
abbrev pub pair : {A B : Type 0} → Format A → (A → Format B) → Format (A × B)
pair f g = record {
  spell = λ x. f.spell x.0 ++ (g x.0).spell x.1;
  parse = pair_at f.parse (λ a. (g a).parse);
  Fits = λ x. f.Fits x.0 × (g x.0).Fits x.1;
}

-- two values, one after the other
abbrev pub both : {A B : Type 0} → Format A → Format B → Format (A × B)
both f g = pair f (λ _. g)

-- reads a value, and refuses it where it fails a test
abbrev pub tested_at : {A : Type 0} → (A → Bool) → Parse A → Parse A
tested_at ok p bytes = p bytes >>= λ x. (if ok x.0 then Some x else None)

-- the values that pass a test
abbrev pub tested : {A : Type 0} → (A → Bool) → Format A → Format A
tested ok f = record {
  spell = f.spell;
  parse = tested_at ok f.parse;
  Fits = λ x. f.Fits x × IsTrue (ok x);
}

-- what is made of the parts that are read
abbrev pub made_at : {A B : Type 0} → (A → B) → Parse A → Parse B
made_at make p bytes = p bytes >>= λ x. Some (make x.0, x.1)

-- reads a key, and then a value, whose reader depends on the key
abbrev pub keyed_at : {K A : Type 0} → Parse K → (K → Parse A) → Parse A
keyed_at p q bytes = p bytes >>= λ k. q k.0 k.1

-- a value behind its key, such as a tag or a length, which decides its format
abbrev pub keyed : {K A : Type 0} → Format K → (A → K) → (K → Format A) → Format A
keyed f key g = record {
  spell = λ a. f.spell (key a) ++ (g (key a)).spell a;
  parse = keyed_at f.parse (λ k. (g k).parse);
  Fits = λ a. f.Fits (key a) × (g (key a)).Fits a;
}

-- reads a value and makes another one of it; refused where `back` makes none
abbrev pub mapped_at : {A B : Type 0} → (A → Option B) → Parse A → Parse B
mapped_at back p bytes = p bytes >>= λ x. (back x.0 >>= λ b. Some (b, x.1))

-- a value spelled as another one, from which `back` makes it again
abbrev pub mapped : {A B : Type 0} → (B → A) → (A → Option B) → Format A → Format B
mapped to back f = record {
  spell = λ b. f.spell (to b);
  parse = mapped_at back f.parse;
  Fits = λ b. f.Fits (to b) × (back (to b) ≡ Some b);
}
