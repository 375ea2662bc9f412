-- Narrowed numbers are a column.
use Rattle.std.proofs.Common.{◌≡◌, ◌≤◌, ◌^◌, ◌∙◌, ℕ, pos, Bool, true, false, List, [], ◌∷◌, length, map, None, Some, cond, refl, arith}
use Rattle.std.specs.Prelude.{nat_lt, unwrap_or}
use Rattle.std.specs.List.{list_all}
use Rattle.std.proofs.lemmas.Bool.{and_from, and_parts, ltb-true, lt-ltb}
use Rattle.std.proofs.lemmas.List.{length-map}
use Rattle.vx_base.specs.declared.ptype.PType.TheVariants.{U8, U16, U32, U64}
use Rattle.vx_base.specs.PlainType.{is_leaf}
use Rattle.vx_base.specs.PlainValue.{PlainValue, int}
use Rattle.vx_model.specs.Column.{IsColumn}
use Rattle.vx_model.specs.WellFormed.{ascend}
use Rattle.vx_schemes_common.specs.Rising.{fit_all, rows_below}
use Rattle.vx_schemes_common.specs.Narrowed.{index_type, number_rows, narrowed_numbers}

-- rows that fit in 64 bits fit in the first type that holds them
pub index_type-holds : (is : List PlainValue) → fit_all U64 is ≡ true → fit_all (index_type is) is ≡ true
index_type-holds is h = by_three (fit_all U8 is) (fit_all U16 is) (fit_all U32 is) refl refl refl
  where
    by_three : (a b c : Bool) → fit_all U8 is ≡ a → fit_all U16 is ≡ b → fit_all U32 is ≡ c → fit_all (unwrap_or (cond a (Some U8) (cond b (Some U16) (cond c (Some U32) None))) U64) is ≡ true
    by_three true b c e f g = e
    by_three false true c e f g = f
    by_three false false true e f g = g
    by_three false false false e f g = h

-- numbers below a bound are words
pub words-fit : (n : ℕ) (numbers : List ℕ) → n ≤ 2 ^ 64 → list_all (λ k. nat_lt k n) numbers ≡ true → fit_all U64 (number_rows numbers) ≡ true
words-fit n [] few h = refl
words-fit n (k ∷ numbers) few h =
    let b = and_parts (nat_lt k n) (list_all (λ j. nat_lt j n) numbers) h in
    and_from _ _ (lt-ltb _ _ (omega (arith, ltb-true k n b.0))) (words-fit n numbers few b.1)

pub narrowed-column : (n : ℕ) (numbers : List ℕ) → n ≤ 2 ^ 64 → list_all (λ k. nat_lt k n) numbers ≡ true → IsColumn (narrowed_numbers numbers)
narrowed-column n numbers few h = index_type-holds (number_rows numbers) (words-fit n numbers few h)

-- ascending numbers below a bound make a column
pub rising-column : (low high : ℕ) (numbers : List ℕ) → high ≤ 2 ^ 64 → ascend low high (number_rows numbers) ≡ true → IsColumn (narrowed_numbers numbers)
rising-column low high numbers few h = narrowed-column high numbers few (rows_below low high numbers h)

pub narrowed-leaf : (numbers : List ℕ) → is_leaf (narrowed_numbers numbers).dtype ≡ true
narrowed-leaf numbers = refl

pub number_rows-long : (numbers : List ℕ) → length (number_rows numbers) ≡ length numbers
number_rows-long numbers = length-map (map pos numbers) int ∙ length-map numbers pos
