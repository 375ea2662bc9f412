use Rattle.std.proofs.Common.{◌∙◌, ap}
use Rattle.vx_model.specs.Column.{column_of}
use Rattle.vx_model.specs.Tree.{constant}
use Rattle.vx_values.specs.IntsOf.{ptype_of, wholes_of}
use Rattle.vx_selections.proofs.TakenConstants.{constant_taken}
use Rattle.vx_selections.proofs.takes.encoded.taken_constant.Goals as goal

pub returns : goal.returns
returns c =
    ap column_of (c.constant.ensures ∙ (λ i. constant (c.in_ok-value.ensures i) (c.len.ensures i)))
    ∙ constant_taken c.args.value.now c.args.len (ptype_of c.args.codes.now) (wholes_of c.args.codes.now) c.args.valid.now c.args.nulls c.requires.well c.requires.no_null c.requires.places
