use Rattle.std.proofs.Common.{◌∙◌, None, sym, subst}
use Rattle.vx_base.specs.Answers.{Answers}
use Rattle.vx_base.specs.declared.dtype.Nullability.TheVariants.{NonNullable}
use Rattle.vx_model.specs.Plain.{plain}
use Rattle.vx_model.specs.Tree.{primitive}
use Rattle.vx_schemes_common.specs.Narrowed.{narrowed_numbers}
use Rattle.vx_schemes_common.proofs.NarrowedLemmas.{narrowed-unsigned, narrowed-held, narrowed-plain}
use Rattle.vx_schemes_common.proofs.narrowed.narrowed_up_to.Goals as goal

pub in_unsigned-requires-clause-unsigned : goal.in_unsigned-requires-clause-unsigned
in_unsigned-requires-clause-unsigned c = narrowed-unsigned c.args.numbers c.args.top c.type_up_to-ptype.result c.requires c.type_up_to-ptype.ensures

pub in_unsigned-requires-clause-held : goal.in_unsigned-requires-clause-held
in_unsigned-requires-clause-held c = narrowed-held c.args.numbers c.args.top c.type_up_to-ptype.result c.requires c.type_up_to-ptype.ensures c.known.ensures

pub returns : goal.returns
returns c =
    let made = c.in_ok-in_unsigned.field-0 in
    subst (λ r. Answers r (plain (narrowed_numbers c.args.numbers))) (sym c.whole_tree.ensures)
    ((λ i. primitive (c.in_ok-in_unsigned.ensures.0 i) (c.in_ok-in_unsigned.ensures.1 i) None NonNullable) ∙ narrowed-plain c.args.numbers c.args.top c.type_up_to-ptype.result c.requires c.type_up_to-ptype.ensures)
