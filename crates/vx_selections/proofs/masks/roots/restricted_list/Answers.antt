use Rattle.std.proofs.Common.{◌∙◌, ◌-◌, ap, length, sym}
use Rattle.std.proofs.lemmas.Result.{MatchResult-weaker}
use Rattle.vx_model.specs.Column.{column_of}
use Rattle.vx_model.specs.Refusals.{validity_length}
use Rattle.vx_model.specs.Rows.{rows}
use Rattle.vx_model.proofs.ListLemmas.{length-list}
use Rattle.vx_selections.proofs.Restricting.{list_restricted}
use Rattle.vx_selections.proofs.Validities.{own-length}
use Rattle.vx_selections.proofs.masks.roots.restricted_list.Goals as goal

pub count_of-len-requires : goal.count_of-len-requires
count_of-len-requires c = c.requires.well.2.some

pub narrowed-requires-clause-own : goal.narrowed-requires-clause-own
narrowed-requires-clause-own c = ap (validity_length c.args.own) c.count_of-len.ensures ∙ own-length c.args.own (length (rows c.args.offsets) - 1) c.args.nulls c.requires.well.2.validity

pub narrowed-requires-clause-valid : goal.narrowed-requires-clause-valid
narrowed-requires-clause-valid c = ap (validity_length c.args.valid.now) c.count_of-len.ensures ∙ ap (validity_length c.args.valid.now) (sym (length-list c.args.elements c.args.offsets c.args.own c.args.nulls c.requires.well)) ∙ c.requires.bits.long

pub list_of-requires : goal.list_of-requires
list_of-requires c = (list_restricted c.args.elements c.args.offsets c.args.own c.args.nulls c.args.valid.now c.args.nullability c.in_ok-bits.bits c.requires.well c.requires.bits c.in_ok-bits.ensures).accepted

pub returns : goal.returns
returns c = MatchResult-weaker c.list_of.result c.list_of.ensures (λ out is. ap column_of is ∙ (list_restricted c.args.elements c.args.offsets c.args.own c.args.nulls c.args.valid.now c.args.nullability c.in_ok-bits.bits c.requires.well c.requires.bits c.in_ok-bits.ensures).column) (λ e is. is)
