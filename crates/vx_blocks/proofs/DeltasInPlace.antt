-- Deltas that become rows, one after another, in the same list.
use Rattle.std.proofs.Common.{◌≡◌, ◌≢◌, ◌∙◌, ℕ, ◌+◌, ◌*◌, ◌<◌, ◌≤◌, ℤ, pos, ◌+ℤ◌, List, [], ◌∷◌, length, map, get_or, set, take, drop, sym, ap, subst, arith, length-drop, get_or-set_other, length-set}
use Rattle.std.proofs.lemmas.Int.{ints}
use Rattle.std.proofs.lemmas.List.{take_more, get_or-drop, map-set}
use Rattle.std.proofs.lemmas.List.FromFn.{fill_by_all}
use Rattle.vx_base.specs.declared.ptype.PType.{PType}
use Rattle.vx_base.specs.Undelta.{total, undelta, undelta_row}
use Rattle.vx_base.specs.Wrapping.{wrap}
use Rattle.vx_blocks.proofs.DeltaSums.{GoesOn, goes_on-part, sums-in_part}
use Rattle.vx_blocks.proofs.Written.{set-more}

-- the items before n are rows, the others still deltas
pub record SummedTo (kind : PType) (bases deltas items : List ℤ) (n : ℕ) : Type 0 where
  pub long : length items ≡ length deltas
  pub rows : (k : ℕ) → k < n → get_or items k (pos 0) ≡ undelta_row kind bases deltas k
  pub rest : (k : ℕ) → n ≤ k → get_or items k (pos 0) ≡ get_or deltas k (pos 0)

module _ (kind : PType) (bases deltas : List ℤ) where
  pub summed-all : (items : List ℤ) (n : ℕ) → length deltas ≤ n → SummedTo kind bases deltas items n → items ≡ undelta kind bases deltas
  summed-all items n all s = fill_by_all (undelta_row kind bases deltas) items (length deltas) (pos 0) s.long (λ k lt. s.rows k (omega arith))

  -- a row more of a block
  module _ (block at : ℕ) (last delta next : ℤ) (first : 1024 * block ≤ at) (end : at < 1024 * (block + 1)) (within : at < length deltas) (is : delta ≡ get_or deltas at (pos 0)) (made : next ≡ wrap kind (last +ℤ delta)) (so_far : GoesOn kind bases deltas block at last) where
    one : delta ∷ [] ≡ take 1 (drop at deltas)
    one =
        let some : 0 < length (drop at deltas) = omega (arith, length-drop at deltas) in
        let here : at + 0 ≡ at = omega arith in
        sym (take_more (drop at deltas) 0 (pos 0) some ∙ ap (λ z. z ∷ []) (get_or-drop at deltas 0 (pos 0) ∙ ap (λ k. get_or deltas k (pos 0)) here ∙ sym is))

    sum : next ≡ wrap kind (last +ℤ total (delta ∷ []))
    sum = let none : delta ≡ delta +ℤ pos 0 = omega (arith, ints) in made ∙ ap (λ z. wrap kind (last +ℤ z)) none

    pub goes_on-next : GoesOn kind bases deltas block (at + 1) next
    goes_on-next = goes_on-part kind bases deltas block at 1 last (delta ∷ []) first one so_far next sum

    row : next ≡ undelta_row kind bases deltas at
    row = let here : at + 0 ≡ at = omega arith in sum ∙ sums-in_part kind bases deltas block at 1 last (delta ∷ []) first one so_far 0 (omega arith) (omega arith) ∙ ap (undelta_row kind bases deltas) here

    -- of items that stand for others
    pub summed-more : {X : Type 0} (whole : X → ℤ) (items : List X) (x : X) → whole x ≡ next → SummedTo kind bases deltas (map whole items) at → SummedTo kind bases deltas (map whole (set items at x)) (at + 1)
    summed-more whole items x new s =
        let before = map whole items in
        let in_items : at < length before = omega (arith, s.long) in
        subst (λ ys. SummedTo kind bases deltas ys (at + 1)) (sym (map-set whole items at x)) (record {
          long = length-set before at (whole x) ∙ s.long;
          rows = set-more (pos 0) (undelta_row kind bases deltas) before at (whole x) (at + 1) in_items (new ∙ row) s.rows (omega arith);
          rest = λ k lt. let other : k ≢ at = omega arith in rw get_or-set_other (s.rest k (omega arith));
        })
