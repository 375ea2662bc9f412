-- Rows that are found one by one, a row further.
use Rattle.std.proofs.Common.{◌≡◌, ◌<◌, ◌≤◌, ◌+◌, ◌-◌, ◌++◌, ◌∷◌, ◌∙◌, ℕ, true, List, [], drop, length, map, take, ap, arith}
use Rattle.std.specs.Prelude.{nat_le}
use Rattle.std.proofs.lemmas.Bool.{and_parts, leb-true}
use Rattle.std.proofs.lemmas.List.{get_or-drop, length-drop, map-append, take_more}
use Rattle.vx_base.specs.Masks.{is_part, rows_between}
use Rattle.vx_base.specs.PlainValue.{PlainValue, null}
use Rattle.vx_base.specs.TypeOf.{value_of}
use Rattle.vx_base.specs.declared.value.Value.{Value}
use Rattle.vx_model.specs.Rows.{looked_up, row_at}

pub part_ends : (len start end : ℕ) → is_part len start end ≡ true → (start ≤ end) × (end ≤ len)
part_ends len start end h =
    let b = and_parts (nat_le start end) (nat_le end len) h in
    (leb-true start end b.0, leb-true end len b.1)

pub between-none : (all : List PlainValue) (start : ℕ) → [] ≡ rows_between all start start
between-none all start = let none : 0 ≡ start - start = omega arith in ap (λ n. take n (drop start all)) none

pub between-more : (all : List PlainValue) (start row : ℕ) → start ≤ row → row < length all → rows_between all start (row + 1) ≡ rows_between all start row ++ row_at all row ∷ []
between-more all start row l h =
    let more : row + 1 - start ≡ (row - start) + 1 = omega (arith, l) in
    let same : start + (row - start) ≡ row = omega (arith, l) in
    ap (λ n. take n (drop start all)) more ∙ take_more (drop start all) (row - start) null (omega (arith, l, h, length-drop start all))
    ∙ ap (λ v. take (row - start) (drop start all) ++ v ∷ []) (get_or-drop start all (row - start) null ∙ ap (row_at all) same)

-- one value more
pub values-more : (before after : List Value) (v : Value) (w : PlainValue) (vs : List PlainValue) → after ≡ before ++ v ∷ [] → map value_of before ≡ vs → value_of v ≡ w → map value_of after ≡ vs ++ w ∷ []
values-more before after v w vs e h k = ap (map value_of) e ∙ map-append value_of before (v ∷ []) ∙ (λ i. h i ++ k i ∷ [])

-- one looked-up row more
pub looked-more : (all codes : List PlainValue) (row : ℕ) → row < length codes → map (looked_up all) (take (row + 1) codes) ≡ map (looked_up all) (take row codes) ++ looked_up all (row_at codes row) ∷ []
looked-more all codes row h = ap (map (looked_up all)) (take_more codes row null h) ∙ map-append (looked_up all) (take row codes) (row_at codes row ∷ [])
