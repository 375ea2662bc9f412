-- Rows that come back from bases and deltas, one after another.
use Rattle.std.proofs.Common.{◌≡◌, ◌≢◌, ℕ, ◌+◌, ◌-◌, ◌*◌, ◌/◌, ◌%◌, ◌<◌, ◌≤◌, ℤ, pos, ◌+ℤ◌, true, List, [], ◌∷◌, ◌++◌, length, get_or, take, drop, sym, ap, ◌∙◌, arith, length-drop}
use Rattle.std.proofs.lemmas.Int.{ints}
use Rattle.std.proofs.lemmas.List.{take_more, take-take, drop-drop, get_or-drop}
use Rattle.std.proofs.Math.Seq.{take-add}
use Rattle.vx_base.specs.declared.ptype.PType.{PType}
use Rattle.vx_base.specs.Integers.{lies_in}
use Rattle.vx_base.specs.Masks.{rows_between}
use Rattle.vx_base.specs.Wrapping.{wrap}
use Rattle.vx_base.proofs.WrapLemmas.{wrap-same}
use Rattle.vx_base.specs.Undelta.{total, undelta_row}
use Rattle.vx_blocks.proofs.WrapsAgain.{wrap-sum_left}

total-push : (zs : List ℤ) (z : ℤ) → total (zs ++ z ∷ []) ≡ total zs +ℤ z
total-push [] z = omega (arith, ints)
total-push (y ∷ ys) z = let ih = total-push ys z in omega (arith, ints, ih)

between-more : (zs : List ℤ) (start i : ℕ) → start ≤ i → i < length zs → rows_between zs start (i + 1) ≡ rows_between zs start i ++ get_or zs i (pos 0) ∷ []
between-more zs start i first last =
    let long : i - start < length (drop start zs) = omega (arith, length-drop start zs) in
    let more : i + 1 - start ≡ i - start + 1 = omega arith in
    let place : start + (i - start) ≡ i = omega arith in
    ap (λ n. take n (drop start zs)) more ∙ take_more (drop start zs) (i - start) (pos 0) long
    ∙ ap (λ z. rows_between zs start i ++ z ∷ []) (get_or-drop start zs (i - start) (pos 0) ∙ ap (λ k. get_or zs k (pos 0)) place)

-- the sum with one number more
pub total-more : (zs : List ℤ) (start i : ℕ) → start ≤ i → i < length zs → total (rows_between zs start (i + 1)) ≡ total (rows_between zs start i) +ℤ get_or zs i (pos 0)
total-more zs start i first last = ap total (between-more zs start i first last) ∙ total-push (rows_between zs start i) (get_or zs i (pos 0))

-- ---- the rows of a block, by its base and its deltas

abbrev pub sums : PType → ℤ → List ℤ → ℕ → ℤ
sums kind base deltas k = wrap kind (base +ℤ total (take k deltas))

pub sums-none : (kind : PType) (base : ℤ) (deltas : List ℤ) → lies_in kind base ≡ true → base ≡ sums kind base deltas 0
sums-none kind base deltas held = let same : base +ℤ pos 0 ≡ base = omega (arith, ints) in sym (ap (wrap kind) same ∙ wrap-same kind base held)

pub sums-next : (kind : PType) (base : ℤ) (deltas : List ℤ) (k : ℕ) (last delta made : ℤ) → k < length deltas → last ≡ sums kind base deltas k → delta ≡ get_or deltas k (pos 0) → made ≡ wrap kind (last +ℤ delta) → made ≡ sums kind base deltas (k + 1)
sums-next kind base deltas k last delta made h so_far is e =
    let row = get_or deltas k (pos 0) in
    let more = ap total (take_more deltas k (pos 0) h) ∙ total-push (take k deltas) row in
    let same : (base +ℤ total (take k deltas)) +ℤ row ≡ base +ℤ total (take (k + 1) deltas) = omega (arith, ints, more) in
    e ∙ (λ i. wrap kind (so_far i +ℤ is i)) ∙ wrap-sum_left kind (base +ℤ total (take k deltas)) row ∙ ap (wrap kind) same

-- ---- a part of a block's rows, behind the rows of the block before it

total-append : (xs ys : List ℤ) → total (xs ++ ys) ≡ total xs +ℤ total ys
total-append [] ys = omega (arith, ints)
total-append (x ∷ xs) ys = let ih = total-append xs ys in omega (arith, ints, ih)

total-parts : (zs : List ℤ) (start at n : ℕ) → start ≤ at → total (rows_between zs start (at + n)) ≡ total (rows_between zs start at) +ℤ total (take n (drop at zs))
total-parts zs start at n first =
    let size : at + n - start ≡ at - start + n = omega arith in
    let place : start + (at - start) ≡ at = omega arith in
    ap (λ m. total (take m (drop start zs))) size ∙ ap total (take-add (at - start) n (drop start zs)) ∙ total-append (rows_between zs start at) (take n (drop (at - start) (drop start zs)))
    ∙ ap (λ ys. total (rows_between zs start at) +ℤ total (take n ys)) (drop-drop (at - start) start zs ∙ ap (λ m. drop m zs) place)

-- a number from which sums continue as from the block's base and its deltas before a row
abbrev pub GoesOn : PType → List ℤ → List ℤ → ℕ → ℕ → ℤ → Type 0
GoesOn kind bases deltas block at last = (z : ℤ) → wrap kind (last +ℤ z) ≡ wrap kind ((get_or bases block (pos 0) +ℤ total (rows_between deltas (1024 * block) at)) +ℤ z)

module _ (kind : PType) (bases deltas : List ℤ) (block : ℕ) where
  pub goes_on-base : (last : ℤ) → last ≡ get_or bases block (pos 0) → GoesOn kind bases deltas block (1024 * block) last
  goes_on-base last is z =
      let none : 1024 * block - 1024 * block ≡ 0 = omega arith in
      let some : total (rows_between deltas (1024 * block) (1024 * block)) ≡ pos 0 = ap (λ n. total (take n (drop (1024 * block) deltas))) none in
      let same : last +ℤ z ≡ (get_or bases block (pos 0) +ℤ total (rows_between deltas (1024 * block) (1024 * block))) +ℤ z = omega (arith, ints, is, some) in
      ap (wrap kind) same

  module _ (at n : ℕ) (last : ℤ) (part : List ℤ) (first : 1024 * block ≤ at) (are : part ≡ take n (drop at deltas)) (so_far : GoesOn kind bases deltas block at last) where
    pub goes_on-part : (next : ℤ) → next ≡ wrap kind (last +ℤ total part) → GoesOn kind bases deltas block (at + n) next
    goes_on-part next is z =
        let base = get_or bases block (pos 0) in
        let before = total (rows_between deltas (1024 * block) at) in
        let sum = ap total are in
        let parts = total-parts deltas (1024 * block) at n first in
        let moved : (last +ℤ total part) +ℤ z ≡ last +ℤ (total part +ℤ z) = omega (arith, ints) in
        let same : (base +ℤ before) +ℤ (total part +ℤ z) ≡ (base +ℤ total (rows_between deltas (1024 * block) (at + n))) +ℤ z = omega (arith, ints, sum, parts) in
        ap (λ y. wrap kind (y +ℤ z)) is ∙ wrap-sum_left kind (last +ℤ total part) z ∙ ap (wrap kind) moved ∙ so_far (total part +ℤ z) ∙ ap (wrap kind) same

    -- its rows are those of the column
    pub sums-in_part : (k : ℕ) → k < n → at + n ≤ 1024 * (block + 1) → sums kind last part (k + 1) ≡ undelta_row kind bases deltas (at + k)
    sums-in_part k h end =
        let number : block ≡ (at + k) / 1024 = omega arith in
        let place : at + (k + 1) ≡ at + k + 1 = omega arith in
        let base = get_or bases block (pos 0) in
        let before = total (rows_between deltas (1024 * block) at) in
        let rows : take (k + 1) part ≡ take (k + 1) (drop at deltas) = ap (take (k + 1)) are ∙ take-take (k + 1) n (drop at deltas) (omega arith) in
        let sum = ap total rows in
        let parts = total-parts deltas (1024 * block) at (k + 1) first ∙ ap (λ t. before +ℤ t) (sym sum) in
        let same : (base +ℤ before) +ℤ total (take (k + 1) part) ≡ base +ℤ total (rows_between deltas (1024 * block) (at + (k + 1))) = omega (arith, ints, parts) in
        so_far (total (take (k + 1) part)) ∙ ap (wrap kind) same ∙ (λ i. wrap kind (get_or bases (number i) (pos 0) +ℤ total (rows_between deltas (1024 * number i) (place i))))

-- ---- a row of the column, by the row before it

module _ (kind : PType) (bases deltas : List ℤ) where
  -- a block's first row
  pub undelta-first : (i : ℕ) → i % 1024 ≡ 0 → i < length deltas → wrap kind (get_or bases (i / 1024) (pos 0) +ℤ get_or deltas i (pos 0)) ≡ undelta_row kind bases deltas i
  undelta-first i first within =
      let start : 1024 * (i / 1024) ≡ i = omega arith in
      let none : i - i ≡ 0 = omega arith in
      let some : total (rows_between deltas i i) ≡ pos 0 = ap (λ n. total (take n (drop i deltas))) none in
      let more = total-more deltas i i (omega arith) within in
      let base = get_or bases (i / 1024) (pos 0) in
      let same : base +ℤ total (rows_between deltas i (i + 1)) ≡ base +ℤ get_or deltas i (pos 0) = omega (arith, ints, some, more) in
      ap (wrap kind) (sym same) ∙ ap (λ s. wrap kind (base +ℤ total (rows_between deltas s (i + 1)))) (sym start)

  -- a row behind another of its block
  pub undelta-next : (i : ℕ) → i % 1024 ≢ 0 → i < length deltas → wrap kind (undelta_row kind bases deltas (i - 1) +ℤ get_or deltas i (pos 0)) ≡ undelta_row kind bases deltas i
  undelta-next i other within =
      let block : (i - 1) / 1024 ≡ i / 1024 = omega arith in
      let end : i - 1 + 1 ≡ i = omega arith in
      let base = get_or bases (i / 1024) (pos 0) in
      let start = 1024 * (i / 1024) in
      let delta = get_or deltas i (pos 0) in
      let before : undelta_row kind bases deltas (i - 1) ≡ wrap kind (base +ℤ total (rows_between deltas start i)) =
      λ k. wrap kind (get_or bases (block k) (pos 0) +ℤ total (rows_between deltas (1024 * block k) (end k)))
      in
      let more = total-more deltas start i (omega arith) within in
      let same : (base +ℤ total (rows_between deltas start i)) +ℤ delta ≡ base +ℤ total (rows_between deltas start (i + 1)) = omega (arith, ints, more) in
      ap (λ z. wrap kind (z +ℤ delta)) before ∙ wrap-sum_left kind (base +ℤ total (rows_between deltas start i)) delta ∙ ap (wrap kind) same
