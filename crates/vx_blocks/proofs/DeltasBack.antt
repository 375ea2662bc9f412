-- What comes back from bases and deltas.
use Rattle.std.proofs.Common.{◌≡◌, ◌≢◌, ℕ, zero, suc, ◌-◌, ◌*◌, ◌/◌, ◌%◌, ◌<◌, ℤ, pos, ◌+ℤ◌, ◌-ℤ◌, Bool, true, false, List, [], ◌∷◌, length, get_or, refl, sym, ap, ◌∙◌, arith}
use Rattle.std.specs.Prelude.{◌==◌, nat_le, Some, None}
use Rattle.std.proofs.lemmas.Bool.Decides.{nat_tests}
use Rattle.std.proofs.lemmas.Int.{ints}
use Rattle.std.proofs.lemmas.List.FromFn.{length-map-range_with_len, get_or-map-range_with_len}
use Rattle.vx_base.specs.declared.ptype.PType.{PType}
use Rattle.vx_base.specs.Integers.{lies_in}
use Rattle.vx_base.specs.Packed.{block_count}
use Rattle.vx_base.specs.Wrapping.{wrap}
use Rattle.vx_base.proofs.WrapLemmas.{wrap-same}
use Rattle.vx_base.specs.Undelta.{undelta_row}
use Rattle.vx_blocks.specs.Deltas.{filled_after, filled, bases, delta, deltas}
use Rattle.vx_blocks.specs.GivesBack.{GivesBackDeltas}
use Rattle.vx_blocks.specs.Optional.{optional_row, optional_rows}
use Rattle.vx_blocks.proofs.DeltaRows.{length-filled_after, filled-row, zero-held}
use Rattle.vx_blocks.proofs.OptionalRows.{length-optional_rows, optional_rows-get}
use Rattle.vx_blocks.proofs.DeltaSums.{undelta-first, undelta-next}
use Rattle.vx_blocks.proofs.WrapsAgain.{wrap-sum_right}

module _ (kind : PType) where
  -- ---- filled rows lie in the type

  optional-held : (zs : List ℤ) (valid : List Bool) (last : ℤ) → ((k : ℕ) → k < length zs → lies_in kind (get_or zs k (pos 0)) ≡ true) → lies_in kind last ≡ true
      → (i : ℕ) → lies_in kind (get_or (filled_after last (optional_rows zs valid)) i (pos 0)) ≡ true
  optional-held [] valid last each h i = zero-held kind
  optional-held (z ∷ zs) [] last each h i = zero-held kind
  optional-held (z ∷ zs) (true ∷ valid) last each h zero = each 0 (omega arith)
  optional-held (z ∷ zs) (true ∷ valid) last each h (suc i) = optional-held zs valid z (λ k below. each (suc k) (omega arith)) (each 0 (omega arith)) i
  optional-held (z ∷ zs) (false ∷ valid) last each h zero = h
  optional-held (z ∷ zs) (false ∷ valid) last each h (suc i) = optional-held zs valid last (λ k below. each (suc k) (omega arith)) h i

  -- ---- each filled row comes back

  module _ (rows : List ℤ) (held : (i : ℕ) → lies_in kind (get_or rows i (pos 0)) ≡ true) where
    row : ℕ → ℤ
    row i = get_or rows i (pos 0)

    delta-get : (i : ℕ) → i < length rows → get_or (deltas kind rows) i (pos 0) ≡ delta kind rows i
    delta-get i h = get_or-map-range_with_len (delta kind rows) 0 (1024 * block_count (length rows)) i i (pos 0) (omega arith) (omega arith)

    deltas-room : (i : ℕ) → i < length rows → i < length (deltas kind rows)
    deltas-room i h = omega (arith, length-map-range_with_len (delta kind rows) 0 (1024 * block_count (length rows)))

    base-get : (i : ℕ) → i % 1024 ≡ 0 → i < length rows → get_or (bases rows) (i / 1024) (pos 0) ≡ get_or rows i (pos 0)
    base-get i first h =
        let start : 1024 * (i / 1024) ≡ i = omega arith in
        get_or-map-range_with_len (λ block. get_or rows (1024 * block) (pos 0)) 0 (block_count (length rows)) (i / 1024) (i / 1024) (pos 0) (omega arith) (omega arith) ∙ ap (λ k. get_or rows k (pos 0)) start

    first-back : (i : ℕ) → i % 1024 ≡ 0 → i < length rows → undelta_row kind (bases rows) (deltas kind rows) i ≡ get_or rows i (pos 0)
    first-back i first h =
        let e : (i % 1024 == 0) ≡ true = grind (arith, nat_tests) in
        let none : delta kind rows i ≡ pos 0 = rw e refl in
        let change : get_or (deltas kind rows) i (pos 0) ≡ pos 0 = delta-get i h ∙ none in
        let same : get_or rows i (pos 0) +ℤ pos 0 ≡ get_or rows i (pos 0) = omega (arith, ints) in
        sym (undelta-first kind (bases rows) (deltas kind rows) i first (deltas-room i h)) ∙ (let base = base-get i first h in λ k. wrap kind (base k +ℤ change k)) ∙ ap (wrap kind) same ∙ wrap-same kind _ (held i)

    next-back : (i : ℕ) → i % 1024 ≢ 0 → i < length rows → undelta_row kind (bases rows) (deltas kind rows) (i - 1) ≡ get_or rows (i - 1) (pos 0) → undelta_row kind (bases rows) (deltas kind rows) i ≡ get_or rows i (pos 0)
    next-back i other h before =
        let e : (i % 1024 == 0) ≡ false = grind (arith, nat_tests) in
        let f : nat_le (length rows) i ≡ false = grind (arith, nat_tests) in
        let last = get_or rows (i - 1) (pos 0) in
        let some : delta kind rows i ≡ wrap kind (get_or rows i (pos 0) -ℤ last) = rw (e, f) refl in
        let change = delta-get i h ∙ some in
        let same : last +ℤ (get_or rows i (pos 0) -ℤ last) ≡ get_or rows i (pos 0) = omega (arith, ints) in
        sym (undelta-next kind (bases rows) (deltas kind rows) i other (deltas-room i h)) ∙ (λ k. wrap kind (before k +ℤ change k)) ∙ wrap-sum_right kind last (get_or rows i (pos 0) -ℤ last) ∙ ap (wrap kind) same ∙ wrap-same kind _ (held i)

    either-back : (i : ℕ) → i < length rows → undelta_row kind (bases rows) (deltas kind rows) (i - 1) ≡ get_or rows (i - 1) (pos 0) → undelta_row kind (bases rows) (deltas kind rows) i ≡ get_or rows i (pos 0)
    either-back i h before = by_test (i % 1024 == 0) refl
      where
        by_test : (b : Bool) → (i % 1024 == 0) ≡ b → undelta_row kind (bases rows) (deltas kind rows) i ≡ get_or rows i (pos 0)
        by_test true e = let first : i % 1024 ≡ 0 = grind (arith, nat_tests) in first-back i first h
        by_test false e = let other : i % 1024 ≢ 0 = grind (arith, nat_tests) in next-back i other h before

    row-back : (i : ℕ) → i < length rows → undelta_row kind (bases rows) (deltas kind rows) i ≡ get_or rows i (pos 0)
    row-back zero h = first-back zero refl h
    row-back (suc j) h =
        let place : suc j - 1 ≡ j = omega arith in
        let before = row-back j (omega arith) in
        either-back (suc j) h (ap (undelta_row kind (bases rows) (deltas kind rows)) place ∙ before ∙ sym (ap (λ k. get_or rows k (pos 0)) place))

pub gives_back_deltas : GivesBackDeltas
gives_back_deltas kind values valid same held i h is_valid =
    let rows = optional_rows values valid in
    let size : length (filled rows) ≡ length values = length-filled_after (pos 0) rows ∙ length-optional_rows values valid same in
    let within : i < length (filled rows) = omega (arith, size) in
    let here : i < length rows = omega (arith, length-optional_rows values valid same) in
    let fits = optional-held kind values valid (pos 0) (λ k below. held k (pos 0) below) (zero-held kind) in
    let long = length-map-range_with_len (delta kind (filled rows)) 0 (1024 * block_count (length (filled rows))) in
    let valid-row : get_or rows i None ≡ Some (get_or values i (pos 0)) = optional_rows-get values valid i same h ∙ ap (optional_row (get_or values i (pos 0))) is_valid in
    get_or-map-range_with_len (undelta_row kind (bases (filled rows)) (deltas kind (filled rows))) 0 _ i i (pos 0) (omega (arith, long, within)) (omega arith)
    ∙ row-back kind (filled rows) fits i within ∙ filled-row (pos 0) rows i here ∙ rw valid-row refl
