use Rattle.std.proofs.Common.{◌∙◌, ap}
use Rattle.std.proofs.lemmas.Result.{MatchResult-weaker}
use Rattle.vx_model.specs.Column.{column_of}
use Rattle.vx_selections.proofs.EncodedRows.{dict_filtered}
use Rattle.vx_selections.proofs.filters.encoded.kept_dict.Goals as goal

pub over_values-requires : goal.over_values-requires
over_values-requires c = (dict_filtered c.args.codes.now c.args.values.now c.in_ok-chosen.chosen c.requires.well c.args.keep.now c.in_ok-chosen.ensures).accepted

pub returns : goal.returns
returns c = MatchResult-weaker c.over_values.result c.over_values.ensures (λ out is. ap column_of is ∙ (dict_filtered c.args.codes.now c.args.values.now c.in_ok-chosen.chosen c.requires.well c.args.keep.now c.in_ok-chosen.ensures).column) (λ e is. is)
