use Rattle.std.proofs.Common.{◌≡◌, ◌∙◌, map, ap, sym, subst, None}
use Rattle.vx_base.specs.declared.dtype.Nullability.TheVariants.{NonNullable}
use Rattle.vx_base.specs.Answers.{Answers}
use Rattle.vx_base.specs.PlainType.{is_integer}
use Rattle.vx_base.specs.PlainValue.{whole_or_zero}
use Rattle.vx_base.specs.Integers.{unsigned_of}
use Rattle.vx_model.specs.Column.{column_of}
use Rattle.vx_model.specs.Nodes.{encoding}
use Rattle.vx_model.specs.Plain.{plain}
use Rattle.vx_model.specs.Rows.{rows}
use Rattle.vx_model.specs.Tree.{primitive}
use Rattle.vx_model.specs.TreeType.{tree_type}
use Rattle.vx_model.proofs.MadeLemmas.{rows_fit}
use Rattle.vx_model.proofs.PlainLemmas.{plain_is_plain, type-plain_of}
use Rattle.vx_model.proofs.PrimitiveLemmas.{encoding-plain}
use Rattle.vx_values.specs.IntsOf.{ptype_of, wholes_of}
use Rattle.vx_schemes_common.specs.Narrowed.{index_type}
use Rattle.vx_schemes.specs.Patches.Compressed.{narrowed}
use Rattle.vx_schemes.proofs.IndexTypeLemmas.{plain_wholes, words_held, index_type-unsigned}
use Rattle.vx_schemes.proofs.patches.narrowed.Goals as goal

pub in_unsigned-requires-clause-held : goal.in_unsigned-requires-clause-held
in_unsigned-requires-clause-held c =
    let t = c.args.numbers.now in
    let wholes = plain_wholes (column_of t) _ _ _ _ (c.as_primitive.ensures.tree ∙ c.in_ok-plain.ensures.tree) in
    words_held t c.index_type-ptype.result (wholes_of c.as_primitive.result.0.now) c.requires.words c.index_type-ptype.ensures wholes

pub as_primitive-requires : goal.as_primitive-requires
as_primitive-requires c =
    let t = c.args.numbers.now in
    let typed : tree_type (plain (column_of t)) ≡ tree_type t = type-plain_of (tree_type t) (rows t) in
    ap encoding c.in_ok-plain.ensures.tree ∙ encoding-plain (plain (column_of t)) (ap is_integer typed ∙ c.requires.integers) (plain_is_plain (column_of t) (rows_fit t c.known.ensures))

pub in_unsigned-requires-clause-unsigned : goal.in_unsigned-requires-clause-unsigned
in_unsigned-requires-clause-unsigned c =
    let ptype = c.index_type-ptype.ensures in
    ap unsigned_of ptype ∙ index_type-unsigned (rows c.args.numbers.now) ∙ sym ptype

pub returns : goal.returns
returns c =
    let t = c.args.numbers.now in
    let made = c.in_ok-in_unsigned.field-0 in
    let ptype : ptype_of made ≡ index_type (rows t) = c.in_ok-in_unsigned.ensures.0 ∙ c.index_type-ptype.ensures in
    let wholes : wholes_of made ≡ map whole_or_zero (rows t) = c.in_ok-in_unsigned.ensures.1 ∙ plain_wholes (column_of t) _ _ _ _ (c.as_primitive.ensures.tree ∙ c.in_ok-plain.ensures.tree) in
    subst (λ r. Answers r (narrowed t)) (sym c.whole_tree.ensures) (λ i. primitive (ptype i) (wholes i) None NonNullable)
