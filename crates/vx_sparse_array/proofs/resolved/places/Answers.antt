use Rattle.std.proofs.Common.{◌≡◌, ◌∙◌, pos, map, None, sym, ap, subst, rules}
use Rattle.std.specs.Int.{w128}
use Rattle.std.specs.Prelude.{◌-ℤ◌, FitsSigned}
use Rattle.std.proofs.lemmas.Int.{to_z-of_z}
use Rattle.std.specs.List.{list_all}
use Rattle.vx_base.specs.Answers.{Answers}
use Rattle.vx_base.specs.declared.dtype.Nullability.TheVariants.{NonNullable}
use Rattle.vx_base.specs.declared.ptype.PType.TheVariants.{U64}
use Rattle.vx_base.specs.Integers.{lies_in, unsigned_of}
use Rattle.vx_base.specs.PlainValue.{whole_or_zero}
use Rattle.vx_base.specs.Wrapping.{wrap}
use Rattle.vx_model.specs.Rows.{rows}
use Rattle.vx_model.specs.Tree.{primitive}
use Rattle.vx_values.specs.IntsOf.{ptype_of, wholes_of}
use Rattle.vx_sparse_array.specs.Resolved.{patched_places}
use Rattle.vx_sparse_array.proofs.ResolvedLemmas.{indices-held, places-are, plain_numbers}
use Rattle.vx_sparse_array.proofs.resolved.places.Goals as goal

pub in_unsigned-requires-clause-held : goal.in_unsigned-requires-clause-held
in_unsigned-requires-clause-held c =
    let p = c.args.patches.now in
    let numbers : wholes_of c.as_primitive.result.0.now ≡ map whole_or_zero (rows p.indices) =
    plain_numbers c.in_ok-plain.plain _ _ _ _ c.as_primitive.ensures.tree c.in_ok-plain.ensures.plain ∙ ap (λ d. map whole_or_zero d.values) c.in_ok-plain.ensures.column ∙ ap (λ t. map whole_or_zero (rows t)) c.indices.ensures in
    ap (list_all (lies_in U64)) numbers ∙ indices-held p c.known.ensures

pub returns : goal.returns
returns c =
    let p = c.args.patches.now in
    let numbers : wholes_of c.as_primitive.result.0.now ≡ map whole_or_zero (rows p.indices) =
    plain_numbers c.in_ok-plain.plain _ _ _ _ c.as_primitive.ensures.tree c.in_ok-plain.ensures.plain ∙ ap (λ d. map whole_or_zero d.values) c.in_ok-plain.ensures.column ∙ ap (λ t. map whole_or_zero (rows t)) c.indices.ensures in
    let fits : FitsSigned w128 c.from.result = search rules in
    let offset = to_z-of_z w128 c.from.result fits ∙ c.from.ensures ∙ ap pos c.offset.ensures in
    let ptype : ptype_of c.in_ok-words.words ≡ U64 = c.in_ok-words.ensures.0 in
    let words = c.in_ok-words.ensures.1 ∙ numbers in
    let wholes : wholes_of c.in_ok-differences.field-0 ≡ patched_places p =
    c.in_ok-differences.ensures.1 ∙ (λ i. map (λ z. wrap (unsigned_of (ptype i)) (z -ℤ offset i)) (words i)) ∙ places-are p c.known.ensures in
    subst (λ r. Answers r (primitive U64 (patched_places p) None NonNullable)) (sym c.index_tree.ensures) (λ i. primitive ((c.in_ok-differences.ensures.0 ∙ ap unsigned_of ptype) i) (wholes i) None NonNullable)
