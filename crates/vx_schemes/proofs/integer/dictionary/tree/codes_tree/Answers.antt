use Rattle.std.proofs.Common.{◌∙◌, length, map, ap, subst}
use Rattle.vx_base.specs.Answers.{Answers}
use Rattle.vx_base.specs.PlainValue.{int, whole_or_zero}
use Rattle.vx_model.specs.Rows.{valid_rows}
use Rattle.vx_values.specs.IntsOf.{wholes_of}
use Rattle.vx_schemes_common.specs.Dictionaries.{code_type}
use Rattle.vx_schemes.specs.Dictionary.Tree.{code_in}
use Rattle.vx_schemes.proofs.Dictionary.Tree.{codes_long, codes_tree}
use Rattle.vx_schemes.proofs.integer.dictionary.tree.codes_tree.Goals as goal

pub with_integers-requires-clause-rows : goal.with_integers-requires-clause-rows
with_integers-requires-clause-rows c =
    let parts = c.as_primitive in
    let rs = valid_rows parts.result.1.now (map int (wholes_of parts.result.0.now)) in
    let wholes = c.in_ok-codes_of_ints.ensures.codes ∙ ap (λ ds. map whole_or_zero (map (code_in ds) rs)) c.requires.values in
    codes_long c.args.array.now _ _ parts.result.1.now parts.result.2 parts.ensures.tree _ wholes

pub returns : goal.returns
returns c =
    let parts = c.as_primitive in
    let rs = valid_rows parts.result.1.now (map int (wholes_of parts.result.0.now)) in
    let wholes = c.in_ok-codes_of_ints.ensures.codes ∙ ap (λ ds. map whole_or_zero (map (code_in ds) rs)) c.requires.values in
    let typed = c.in_ok-codes_of_ints.ensures.ptype ∙ ap (λ ds. code_type (length ds)) c.requires.values in
    subst (Answers c.with_integers.result) (codes_tree c.args.array.now _ _ parts.result.1.now parts.result.2 parts.ensures.tree _ wholes _ typed) c.with_integers.ensures
