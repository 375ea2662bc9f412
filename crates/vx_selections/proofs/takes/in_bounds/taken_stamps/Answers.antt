use Rattle.std.proofs.Common.{◌∙◌, ap}
use Rattle.std.proofs.lemmas.Result.{MatchResult-weaker}
use Rattle.vx_model.specs.Column.{column_of}
use Rattle.vx_model.specs.Tree.{primitive}
use Rattle.vx_values.specs.IntsOf.{ptype_of, wholes_of}
use Rattle.vx_selections.proofs.StampColumns.{stamps_taken}
use Rattle.vx_selections.proofs.takes.in_bounds.taken_stamps.Goals as goal

pub stamped-requires : goal.stamped-requires
stamped-requires c = (stamps_taken c.args.storage.now c.in_ok-chosen.chosen c.args.kind.now c.requires.stamps (column_of (primitive (ptype_of c.args.codes.now) (wholes_of c.args.codes.now) c.args.valid.now c.args.nulls)) c.in_ok-chosen.ensures).accepted

pub returns : goal.returns
returns c = MatchResult-weaker c.stamped.result c.stamped.ensures (λ out is. ap column_of is ∙ (stamps_taken c.args.storage.now c.in_ok-chosen.chosen c.args.kind.now c.requires.stamps (column_of (primitive (ptype_of c.args.codes.now) (wholes_of c.args.codes.now) c.args.valid.now c.args.nulls)) c.in_ok-chosen.ensures).column) (λ e is. is)
