-- Sums of a block's differences with its reference.
use Rattle.std.proofs.Common.{◌≡◌, ◌∙◌, ◌<◌, ◌≤◌, ◌+◌, ◌-◌, ◌*◌, ◌/◌, min, ℕ, ℤ, pos, List, length, map, get_or, take, drop, sym, ap, arith}
use Rattle.std.specs.Prelude.{◌+ℤ◌}
use Rattle.std.proofs.lemmas.List.{get_or-drop, get_or-map, get_or-take, length-map}
use Rattle.vx_base.specs.declared.ptype.PType.{PType}
use Rattle.vx_base.specs.Packed.{block_count}
use Rattle.vx_base.specs.Wrapping.{wrap}
use Rattle.vx_values.specs.InBlocks.{moved_row}
use Rattle.vx_values.proofs.DifferenceRows.{map-part, part-long}

-- the rows of a block, of which there is one for each reference, are in bounds
pub block-room : (len blocks block n : ℕ) → blocks ≡ block_count len → block < blocks → n ≡ min (len - 1024 * block) 1024 → 1024 * block + n ≤ len
block-room len blocks block n is lt few = omega arith

-- the number of a row's block
pub block-of : (block k : ℕ) → k < 1024 → (1024 * block + k) / 1024 ≡ block
block-of block k lt = omega arith

-- the items of a part are those of the list, `start` rows further on
module _ {Y : Type 0} (g : ℤ → ℤ) (natural : Y → ℤ) (differences : List Y) (made : List ℤ) (start n : ℕ) (room : start + n ≤ length differences) (is : made ≡ map g (map natural (take (start + n - start) (drop start differences)))) where
  abbrev part : List Y
  part = take (start + n - start) (drop start differences)

  pub mapped-part_length : length made ≡ n
  mapped-part_length = ap length is ∙ length-map (map natural part) g ∙ length-map part natural ∙ part-long differences start n room

  pub mapped-part : (k : ℕ) → k < n → get_or made k (pos 0) ≡ g (get_or (map natural differences) (start + k) (pos 0))
  mapped-part k lt =
      let long : length part ≡ n = part-long differences start n room in
      let same : get_or (map natural part) k (pos 0) ≡ get_or (map natural differences) (start + k) (pos 0) =
      ap (λ l. get_or l k (pos 0)) (map-part natural start (start + n - start) differences) ∙ get_or-take (start + n - start) (drop start (map natural differences)) k (pos 0) (omega arith)
      ∙ get_or-drop start (map natural differences) k (pos 0)
      in
      ap (λ l. get_or l k (pos 0)) is ∙ get_or-map g (map natural part) k (pos 0) (pos 0) (omega (arith, length-map part natural, long)) ∙ ap g same

module _ {X Y : Type 0} (p : PType) (whole : X → ℤ) (natural : Y → ℤ) (references : List X) (differences : List Y) (made : List ℤ) (block n : ℕ) (reference : X) where
  abbrev sum : ℤ → ℤ
  sum z = wrap p (whole reference +ℤ z)

  -- the sums with the reference of a block
  module _ (some : block < length references) (few : n ≤ 1024) (room : 1024 * block + n ≤ length differences) (at : reference ≡ get_or references block reference)
      (is : made ≡ map (λ z. wrap p (whole reference +ℤ z)) (map natural (take (1024 * block + n - 1024 * block) (drop (1024 * block) differences)))) where
    pub moved-part_length : length made ≡ n
    moved-part_length = mapped-part_length sum natural differences made (1024 * block) n room is

    pub moved-part : (k : ℕ) → k < n → get_or made k (pos 0) ≡ moved_row p (map whole references) (map natural differences) (1024 * block + k)
    moved-part k lt =
        let base : whole reference ≡ get_or (map whole references) ((1024 * block + k) / 1024) (pos 0) =
        ap whole at ∙ sym (get_or-map whole references block reference (pos 0) some) ∙ ap (λ b. get_or (map whole references) b (pos 0)) (sym (block-of block k (omega arith)))
        in
        mapped-part sum natural differences made (1024 * block) n room is k lt ∙ ap (λ b. wrap p (b +ℤ get_or (map natural differences) (1024 * block + k) (pos 0))) base
