-- Rows that ascend are natural numbers that lie below their bound, and each is a word.
use Rattle.std.proofs.Common.{◌≡◌, ◌+◌, ℕ, pos, Bool, true, List, [], ◌∷◌, map, refl, ap}
use Rattle.std.specs.Prelude.{nat_lt}
use Rattle.std.specs.List.{list_all}
use Rattle.std.proofs.lemmas.Bool.{and_from, and_parts, lt-ltb}
use Rattle.vx_base.specs.declared.ptype.PType.{PType}
use Rattle.vx_base.specs.declared.ptype.PType.TheVariants.{U64}
use Rattle.vx_base.specs.declared.dtype.Nullability.TheVariants.{NonNullable}
use Rattle.vx_base.specs.PlainScalar.{fits}
use Rattle.vx_base.specs.PlainType.{PlainType}
use Rattle.vx_base.specs.PlainType as types
use Rattle.vx_base.specs.PlainValue.{PlainValue, int, whole_or_zero}
use Rattle.vx_model.specs.WellFormed.{ascend}
use Rattle.vx_model.proofs.PatchLemmas.{ascend_parts}
use Rattle.vx_model.proofs.AscentLemmas.{by_ascent}
use Rattle.vx_model.proofs.RisingLemmas.{word_of}

pub rows_below : (low n : ℕ) (chosen : List ℕ) → ascend low n (map int (map pos chosen)) ≡ true → list_all (λ row. nat_lt row n) chosen ≡ true
rows_below low n [] h = refl
rows_below low n (row ∷ chosen) h =
    let a = ascend_parts low n row _ h in
    and_from _ _ (lt-ltb row n a.1) (rows_below (row + 1) n chosen a.2)

-- rows that ascend are their whole numbers
pub ascend-whole : (low high : ℕ) (is : List PlainValue) → ascend low high is ≡ true → map int (map whole_or_zero is) ≡ is
ascend-whole low high = by_ascent high (λ low is. map int (map whole_or_zero is) ≡ is) (λ low. refl) (λ low n is from under rest later. ap (λ vs. int (pos n) ∷ vs) later) low

-- each value fits the type without nulls
abbrev pub fit_all : PType → List PlainValue → Bool
fit_all q is = list_all (fits (types.primitive q NonNullable)) is

pub ascend-words : (t : PlainType) (low high : ℕ) (is : List PlainValue) → ascend low high is ≡ true → list_all (fits t) is ≡ true → fit_all U64 is ≡ true
ascend-words t low high =
    by_ascent high (λ low is. list_all (fits t) is ≡ true → fit_all U64 is ≡ true) (λ low f. refl)
    (λ low n is from under rest later f. (let d = and_parts (fits t (int (pos n))) (list_all (fits t) is) f in and_from _ _ (word_of t n d.0) (later d.1))) low
