use Rattle.std.proofs.Common.{◌∙◌, ◌++◌, ◌∷◌, [], ap, arith, false, slice_index_or, sym}
use Rattle.std.specs.Prelude.{◌&&◌}
use Rattle.std.proofs.lemmas.List.{take_more_set}
use Rattle.vx_rows.proofs.PairLemmas.{each_pair-at}
use Rattle.vx_rows.proofs.kernels.validity.write_both.Goals as goal

pub loop-row-preserved : goal.loop-row-preserved
loop-row-preserved c =
    take_more_set c.loop-row.both c.loop-row.row _ (omega (arith, c.loop-row.auto.both)) ∙ ap (λ bs. bs ++ (slice_index_or c.args.bits.now c.loop-row.row false && slice_index_or c.args.others.now c.loop-row.row false) ∷ []) c.loop-row.invariant
    ∙ sym (each_pair-at (λ a b. a && b) c.args.bits.now c.args.others.now c.loop-row.row false false (omega (arith, c.loop-row-test.true)) (omega (arith, c.loop-row-test.true, c.requires.others)))
