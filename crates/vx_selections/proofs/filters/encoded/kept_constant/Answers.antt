use Rattle.std.proofs.Common.{◌∙◌, ap}
use Rattle.vx_model.specs.Column.{column_of}
use Rattle.vx_model.specs.Tree.{constant}
use Rattle.vx_selections.proofs.EncodedRows.{constant_filtered}
use Rattle.vx_selections.proofs.filters.encoded.kept_constant.Goals as goal

pub returns : goal.returns
returns c = ap column_of (c.constant.ensures ∙ (λ i. constant (c.in_ok-value.ensures i) (c.true_bits.ensures i))) ∙ constant_filtered c.args.value.now c.args.len c.args.keep.now c.requires
