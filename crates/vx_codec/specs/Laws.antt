-- The laws of formats, as statements. They speak of any format whose values that fit are told by a test.
use Rattle.std.specs.Prelude.{◌≡◌, ℕ, Bool, IsTrue, List, ◌++◌, Option, Some}
use Rattle.vx_codec.specs.Format.{Parse, Format, IsLawful, pair, mapped}
use Rattle.vx_codec.specs.Message.{Whole, IsWhole}

-- the format with this spelling, this reader and this test
abbrev pub format_by : {A : Type 0} → (A → List ℕ) → Parse A → (A → Bool) → Format A
format_by spell parse fits = record { spell = spell; parse = parse; Fits = λ a. IsTrue (fits a) }

-- what holds of every lawful format
abbrev pub OfLawful : (A : Type 0) → (Format A → Type 0) → Type 0
OfLawful A P = (spell : A → List ℕ) (parse : Parse A) (fits : A → Bool) → IsLawful (format_by spell parse fits) → P (format_by spell parse fits)

-- no spelling begins another: a value is known by its spelling before what follows is seen
abbrev pub NoSpellingBeginsAnother : {A : Type 0} → Format A → Type 0
NoSpellingBeginsAnother {A} f = (a b : A) (x y : List ℕ) → f.Fits a → f.Fits b → f.spell a ++ x ≡ f.spell b ++ y → (a ≡ b) × (x ≡ y)

-- the second of a pair is lawful behind each first value
abbrev pub PairIsLawful : {A : Type 0} → (B : Type 0) → Format A → Type 0
PairIsLawful {A} B f =
    (spell : A → B → List ℕ) (parse : A → Parse B) (fits : A → B → Bool) → ((a : A) → f.Fits a → IsLawful (format_by (spell a) (parse a) (fits a)))
    → IsLawful (pair f (λ a. format_by (spell a) (parse a) (fits a)))

-- a mapped format is lawful where what is made of a value is spelled as that value
abbrev pub MappedIsLawful : {A : Type 0} → (B : Type 0) → Format A → Type 0
MappedIsLawful {A} B f = (to : B → A) (back : A → Option B) → ((a : A) (b : B) → f.Fits a → back a ≡ Some b → to b ≡ a) → IsLawful (mapped to back f)

-- the messages with this spelling, this reader and this test
abbrev pub whole_by : {A : Type 0} → (A → List ℕ) → (List ℕ → Option A) → (A → Bool) → Whole A
whole_by spell parse fits = record { spell = spell; parse = parse; Fits = λ a. IsTrue (fits a) }

-- what holds of all messages that begin above a number
abbrev pub OfMessages : (A : Type 0) → ℕ → (Whole A → Type 0) → Type 0
OfMessages A low P = (spell : A → List ℕ) (parse : List ℕ → Option A) (fits : A → Bool) → IsWhole low (whole_by spell parse fits) → P (whole_by spell parse fits)

-- messages that fit and have one spelling are one message
abbrev pub UnlikeSpellings : {A : Type 0} → Whole A → Type 0
UnlikeSpellings {A} f = (a b : A) → f.Fits a → f.Fits b → f.spell a ≡ f.spell b → a ≡ b
