use Rattle.std.proofs.Common.{◌∙◌, ap, sym}
use Rattle.std.proofs.lemmas.Result.{MatchResult-weaker}
use Rattle.vx_model.specs.Column.{column_of}
use Rattle.vx_model.specs.Refusals.{validity_length}
use Rattle.vx_model.specs.Tree.{of_list}
use Rattle.vx_model.proofs.StructLemmas.{length-structure}
use Rattle.vx_selections.proofs.Restricting.{struct_restricted}
use Rattle.vx_selections.proofs.Validities.{own-length}
use Rattle.vx_selections.proofs.masks.roots.restricted_struct.Goals as goal

pub narrowed-requires-clause-own : goal.narrowed-requires-clause-own
narrowed-requires-clause-own c = own-length c.args.own (c.args.len) c.args.nulls c.requires.well.1.validity

pub narrowed-requires-clause-valid : goal.narrowed-requires-clause-valid
narrowed-requires-clause-valid c = ap (validity_length c.args.valid.now) (sym (length-structure c.args.names (of_list c.args.fields) c.args.len c.args.own c.args.nulls c.requires.well)) ∙ c.requires.bits.long

pub structure_of-requires : goal.structure_of-requires
structure_of-requires c = (struct_restricted c.args.names (of_list c.args.fields) c.args.len c.args.own c.args.nulls c.args.valid.now c.args.nullability c.in_ok-bits.bits c.requires.well c.requires.bits c.in_ok-bits.ensures).accepted

pub returns : goal.returns
returns c = MatchResult-weaker c.structure_of.result c.structure_of.ensures (λ out is. ap column_of is ∙ (struct_restricted c.args.names (of_list c.args.fields) c.args.len c.args.own c.args.nulls c.args.valid.now c.args.nullability c.in_ok-bits.bits c.requires.well c.requires.bits c.in_ok-bits.ensures).column) (λ e is. is)
