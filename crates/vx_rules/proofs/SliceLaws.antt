-- A slice of a slice is a slice.
use Rattle.std.proofs.Common.{◌≡◌, ◌≤◌, ◌+◌, ◌-◌, ◌∙◌, ℕ, true, List, length, take, drop, ap, arith, length-take, length-drop}
use Rattle.std.specs.Prelude.{nat_le, None}
use Rattle.std.proofs.lemmas.Bool.{and_parts, and_from, le-leb, leb-true}
use Rattle.std.proofs.lemmas.List.{drop-drop, drop-take, take-take}
use Rattle.vx_base.specs.declared.error.VortexError.TheVariants.{OutOfBounds}
use Rattle.vx_base.specs.Answers.{unless}
use Rattle.vx_base.specs.Masks.{rows_between, is_part}
use Rattle.vx_model.specs.Column.{column}
use Rattle.vx_model.proofs.PackedLemmas.{passed}
use Rattle.vx_rules.specs.Laws.{SlicesCompose}

-- the rows of a range within a range of rows
pub between-between : {A : Type 0} (xs : List A) (start end from to : ℕ) → from ≤ to → to ≤ end - start → rows_between (rows_between xs start end) from to ≡ rows_between xs (start + from) (start + to)
between-between xs start end from to l m =
    let whole : end - start ≡ from + (end - start - from) = omega arith in
    let same : to - from ≡ start + to - (start + from) = omega arith in
    ap (λ n. take (to - from) (drop from (take n (drop start xs)))) whole
    ∙ ap (take (to - from)) (drop-take from (end - start - from) (drop start xs))
    ∙ take-take (to - from) (end - start - from) (drop from (drop start xs)) (omega arith)
    ∙ ap (take (to - from)) (drop-drop from start xs) ∙ ap (λ n. take n (drop (start + from) xs)) same

-- a range in bounds has as many rows as it says
pub length-between : {A : Type 0} (xs : List A) (start end : ℕ) → is_part (length xs) start end ≡ true → length (rows_between xs start end) ≡ end - start
length-between xs start end h =
    let b = and_parts (nat_le start end) (nat_le end (length xs)) h in
    let l = leb-true start end b.0 in
    let m = leb-true end (length xs) b.1 in
    let left = length-drop start xs in
    let taken = length-take (end - start) (drop start xs) in
    omega (arith, l, m, left, taken)

pub slices_compose : SlicesCompose
slices_compose c start end from to h k =
    let outer = (passed _ _ _ h).0 in
    let inner = (passed _ _ _ k).0 in
    let b = and_parts (nat_le start end) (nat_le end (length c.values)) outer in
    let d = and_parts (nat_le from to) (nat_le to (length (rows_between c.values start end))) inner in
    let len = length-between c.values start end outer in
    let l = leb-true start end b.0 in
    let m = leb-true end (length c.values) b.1 in
    let n = leb-true from to d.0 in
    let o = leb-true to (length (rows_between c.values start end)) d.1 in
    let part : is_part (length c.values) (start + from) (start + to) ≡ true =
    and_from _ _ (le-leb (start + from) (start + to) (omega arith)) (le-leb (start + to) (length c.values) (omega arith)) in
    (ap (λ x. unless x OutOfBounds None) part, ap (column c.dtype) (between-between c.values start end from to n (omega arith)))
