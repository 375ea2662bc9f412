use Rattle.std.proofs.Common.{◌-◌, ◌∙◌, ap}
use Rattle.vx_model.specs.Column.{column_of}
use Rattle.vx_model.specs.Tree.{constant}
use Rattle.vx_selections.proofs.EncodedRows.{constant_sliced}
use Rattle.vx_selections.proofs.slices.encoded.part_constant.Goals as goal

pub returns : goal.returns
returns c = ap column_of (c.constant.ensures ∙ ap (λ s. constant s (c.args.end - c.args.start)) c.in_ok-value.ensures) ∙ constant_sliced c.args.value.now c.args.len c.args.start c.args.end c.requires
