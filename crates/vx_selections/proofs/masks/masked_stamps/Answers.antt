use Rattle.std.proofs.Common.{◌∙◌, ap}
use Rattle.std.proofs.lemmas.Result.{MatchResult-weaker}
use Rattle.vx_model.specs.Column.{column_of}
use Rattle.vx_selections.proofs.StampColumns.{stamps_masked}
use Rattle.vx_selections.proofs.masks.masked_stamps.Goals as goal

pub stamped-requires : goal.stamped-requires
stamped-requires c = (stamps_masked c.args.storage.now c.in_ok-chosen.chosen c.args.kind.now c.requires.well c.args.keep.now c.in_ok-chosen.ensures).accepted

pub returns : goal.returns
returns c = MatchResult-weaker c.stamped.result c.stamped.ensures (λ out is. ap column_of is ∙ (stamps_masked c.args.storage.now c.in_ok-chosen.chosen c.args.kind.now c.requires.well c.args.keep.now c.in_ok-chosen.ensures).column) (λ e is. is)
