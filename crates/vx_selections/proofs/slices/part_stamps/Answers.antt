use Rattle.std.proofs.Common.{◌∙◌, ap}
use Rattle.std.proofs.lemmas.Result.{MatchResult-weaker}
use Rattle.vx_model.specs.Column.{column_of}
use Rattle.vx_selections.proofs.StampColumns.{stamps_sliced}
use Rattle.vx_selections.proofs.slices.part_stamps.Goals as goal

pub stamped-requires : goal.stamped-requires
stamped-requires c = (stamps_sliced c.args.storage.now c.in_ok-chosen.chosen c.args.kind.now c.requires.well c.args.start c.args.end c.in_ok-chosen.ensures).accepted

pub returns : goal.returns
returns c = MatchResult-weaker c.stamped.result c.stamped.ensures (λ out is. ap column_of is ∙ (stamps_sliced c.args.storage.now c.in_ok-chosen.chosen c.args.kind.now c.requires.well c.args.start c.args.end c.in_ok-chosen.ensures).column) (λ e is. is)
