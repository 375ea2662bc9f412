use Rattle.std.proofs.Common.{◌≡◌, ◌∙◌, length, map, take, ap, arith}
use Rattle.std.specs.List.{list_all}
use Rattle.std.proofs.Math.Seq.{take-length}
use Rattle.vx_base.specs.PlainScalar.{fits}
use Rattle.vx_model.specs.Rows.{row_at, rows}
use Rattle.vx_sparse_array.proofs.RowsAt.{at-fit}
use Rattle.vx_sparse_array.proofs.rows.values_at.Goals as goal

pub of_values-requires : goal.of_values-requires
of_values-requires c =
    let t = c.args.array.now in
    let end : c.loop-place.place ≡ length c.args.numbers.now = omega arith in
    let all = c.loop-place.invariant ∙ ap (λ n. map (row_at (rows t)) (take n c.args.numbers.now)) end ∙ ap (map (row_at (rows t))) (take-length c.args.numbers.now) in
    (λ i. list_all (fits (c.dtype.ensures i)) (all i)) ∙ at-fit t c.args.numbers.now c.known.ensures c.requires
