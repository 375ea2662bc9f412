use Rattle.std.proofs.Common.{◌∙◌, ◌++◌, ◌∷◌, [], ap, arith, false, slice_index_or, sym}
use Rattle.std.specs.Prelude.{◌&&◌}
use Rattle.std.proofs.lemmas.List.{take_more_set}
use Rattle.vx_selections.proofs.Narrowing.{both-next}
use Rattle.vx_selections.proofs.masks.validity.write_both.Goals as goal

pub loop-row-preserved : goal.loop-row-preserved
loop-row-preserved c =
    take_more_set c.loop-row.out c.loop-row.row _ (omega (arith, c.loop-row.auto.out)) ∙ ap (λ bs. bs ++ (slice_index_or c.args.bits.now c.loop-row.row false && slice_index_or c.args.others.now c.loop-row.row false) ∷ []) c.loop-row.invariant
    ∙ sym (both-next c.args.bits.now c.args.others.now c.loop-row.row (omega (arith, c.loop-row-test.true)) c.requires.others)
