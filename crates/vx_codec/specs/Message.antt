-- Messages of fields in the order of their numbers, as Protocol Buffers have them, each in one form alone: a number field
-- of value 0 is left out, and a message runs to the end of its bytes.
use Rattle.std.specs.Prelude.{◌≡◌, ℕ, ◌+◌, ◌*◌, ◌<◌, Bool, IsTrue, List, [], ◌∷◌, ◌++◌, Option, Some, None, ◌==◌, if◌then◌else◌}
use Rattle.vx_codec.specs.Format.{◌>>=◌, Parse}
use Rattle.vx_codec.specs.Lists.{delimited}
use Rattle.vx_codec.specs.Varint.{varint}

-- how a value is spelled and read back that takes all of the bytes, and which values can be spelled
pub record Whole (A : Type 0) : Type 1 where
  pub spell : A → List ℕ
  pub parse : List ℕ → Option A
  pub Fits : A → Type 0

-- no bytes, or a first one above a number
abbrev pub Above : ℕ → List ℕ → Type 0
Above low [] = Unit {0}
Above low (b ∷ bytes) = low < b

-- A value that fits is read back from its spelling, only spellings are read, and each begins above a number: the key of the
-- field before, so that a field that is left out isn't mistaken for the next one.
pub record IsWhole {A : Type 0} (low : ℕ) (f : Whole A) : Type 0 where
  pub round_trip : (a : A) → f.Fits a → f.parse (f.spell a) ≡ Some a
  pub canonical : (bytes : List ℕ) (a : A) → f.parse bytes ≡ Some a → (bytes ≡ f.spell a) × f.Fits a
  pub above : (a : A) → Above low (f.spell a)

-- the key of a number field: its field number, and the wire type 0 of varints; below 16 it is one byte
abbrev pub number_key : ℕ → ℕ
number_key number = 8 * number

-- the key of a message field: its field number, and the wire type 2 of what is length-delimited
abbrev pub message_key : ℕ → ℕ
message_key number = 8 * number + 2

-- accepts no bytes alone
abbrev pub end_at : List ℕ → Option (Unit {0})
end_at [] = Some tt
end_at (b ∷ bytes) = None

-- no further field
abbrev pub ended : Whole (Unit {0})
ended = record { spell = λ _. []; parse = end_at; Fits = λ _. Unit {0} }

-- the number behind its key, which isn't 0; or 0, with nothing taken, where another key or none stands there
abbrev pub number_at : ℕ → Parse ℕ
number_at key [] = Some (0, [])
number_at key (b ∷ bytes) = if b == key then (varint.parse bytes >>= λ n. (if n.0 == 0 then None else Some n)) else Some (0, b ∷ bytes)

-- a number behind its key; nothing where it is 0
abbrev pub number_spell : ℕ → ℕ → List ℕ
number_spell key n = if n == 0 then [] else key ∷ varint.spell n

-- reads a number field, and the fields after it
abbrev pub number_field_at : {A : Type 0} → ℕ → (List ℕ → Option A) → List ℕ → Option (ℕ × A)
number_field_at key others bytes = number_at key bytes >>= λ n. (others n.1 >>= λ a. Some (n.0, a))

-- a number field, and the fields after it
abbrev pub number_field : {A : Type 0} → ℕ → Whole A → Whole (ℕ × A)
number_field number g = record {
  spell = λ x. number_spell (number_key number) x.0 ++ g.spell x.1;
  parse = number_field_at (number_key number) g.parse;
  Fits = λ x. varint.Fits x.0 × g.Fits x.1;
}

-- the bytes of a field behind its key and their length
abbrev pub content_at : ℕ → Parse (List ℕ)
content_at key [] = None
content_at key (b ∷ bytes) = if b == key then delimited.parse bytes else None

-- reads a message field, its content as a message of its own, and the fields after it
abbrev pub message_field_at : {A B : Type 0} → ℕ → (List ℕ → Option A) → (List ℕ → Option B) → List ℕ → Option (A × B)
message_field_at key inner others bytes = content_at key bytes >>= λ x. (inner x.0 >>= λ a. (others x.1 >>= λ b. Some (a, b)))

-- a field that holds a message and is always there, and the fields after it
abbrev pub message_field : {A B : Type 0} → ℕ → Whole A → Whole B → Whole (A × B)
message_field number f g = record {
  spell = λ x. message_key number ∷ (delimited.spell (f.spell x.0) ++ g.spell x.1);
  parse = message_field_at (message_key number) f.parse g.parse;
  Fits = λ x. (delimited.Fits (f.spell x.0) × f.Fits x.0) × g.Fits x.1;
}

-- reads a message, and refuses it where it fails a test
abbrev pub tested_to_end : {A : Type 0} → (A → Bool) → (List ℕ → Option A) → List ℕ → Option A
tested_to_end ok p bytes = p bytes >>= λ a. (if ok a then Some a else None)

-- the messages that pass a test
abbrev pub tested_whole : {A : Type 0} → (A → Bool) → Whole A → Whole A
tested_whole ok f = record {
  spell = f.spell;
  parse = tested_to_end ok f.parse;
  Fits = λ a. f.Fits a × IsTrue (ok a);
}
