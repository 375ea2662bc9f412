-- What is unpacked, row by row.
use Rattle.std.proofs.Common.{◌≡◌, ◌+◌, ◌∙◌, ℕ, ℤ, pos, List, ap, arith}
use Rattle.std.proofs.lemmas.List.FromFn.{fill_by_all}
use Rattle.vx_base.specs.Packed.{packed_row}
use Rattle.vx_blocks.specs.IsPacked.{IsUnpackedAs}
use Rattle.vx_model.specs.Rows.{below}

pub unpacked-wholes : (bytes : List ℕ) (width len : ℕ) (wholes : List ℤ) → IsUnpackedAs pos bytes width 0 len wholes → wholes ≡ below (λ i. pos (packed_row bytes width i)) len
unpacked-wholes bytes width len wholes h =
    let row = λ (i : ℕ). pos (packed_row bytes width i) in
    fill_by_all row wholes len (pos 0) (omega (arith, h.size)) (λ k l. let first : 0 + k ≡ k = omega arith in h.each k (omega (arith, l)) ∙ ap row first)
