use Rattle.std.proofs.Common.{◌∙◌, ap}
use Rattle.std.proofs.lemmas.Result.{MatchResult-weaker}
use Rattle.vx_model.specs.Column.{column_of}
use Rattle.vx_model.specs.Tree.{primitive}
use Rattle.vx_values.specs.IntsOf.{ptype_of, wholes_of}
use Rattle.vx_selections.proofs.EncodedRows.{dict_taken}
use Rattle.vx_selections.proofs.takes.in_bounds.taken_dict.Goals as goal

pub over_values-requires : goal.over_values-requires
over_values-requires c = (dict_taken c.args.own.now c.args.values.now c.in_ok-chosen.chosen c.requires.dictionary (column_of (primitive (ptype_of c.args.codes.now) (wholes_of c.args.codes.now) c.args.valid.now c.args.nulls)) c.requires.places c.in_ok-chosen.ensures).accepted

pub returns : goal.returns
returns c = MatchResult-weaker c.over_values.result c.over_values.ensures (λ out is. ap column_of is ∙ (dict_taken c.args.own.now c.args.values.now c.in_ok-chosen.chosen c.requires.dictionary (column_of (primitive (ptype_of c.args.codes.now) (wholes_of c.args.codes.now) c.args.valid.now c.args.nulls)) c.requires.places c.in_ok-chosen.ensures).column) (λ e is. is)
