use Rattle.std.proofs.Common.{◌∙◌, length, map, sym, ap, subst}
use Rattle.std.proofs.lemmas.List.{length-map}
use Rattle.vx_base.specs.Answers.{Answers}
use Rattle.vx_base.specs.PlainType as types
use Rattle.vx_base.specs.TypeOf.{value_of}
use Rattle.vx_model.specs.Rows.{rows}
use Rattle.vx_model.specs.Tree.{sparse}
use Rattle.vx_model.specs.TreeType.{tree_type}
use Rattle.vx_model.proofs.PlainLemmas.{rows-plain_of, type-plain_of}
use Rattle.vx_sparse.proofs.kernels.comparisons.truths.Goals as goal

pub over_patches-requires-clause-lengths : goal.over_patches-requires-clause-lengths
over_patches-requires-clause-lengths c =
    let t = types.boolean c.args.nullability in
    let items = c.args.values.items in
    ap (λ u. length (rows u)) c.in_ok-values.ensures ∙ ap length (rows-plain_of t (map value_of items) c.requires.values) ∙ length-map items value_of ∙ c.requires.lengths

pub over_patches-requires-clause-typed : goal.over_patches-requires-clause-typed
over_patches-requires-clause-typed c =
    let t = types.boolean c.args.nullability in
    ap tree_type c.in_ok-values.ensures ∙ type-plain_of t (map value_of c.args.values.items) ∙ ap (λ s. s.dtype) (sym c.in_ok-fill.ensures)

pub returns : goal.returns
returns c =
    let p = c.args.patches.now in
    subst (Answers c.over_patches.result) (λ i. sparse p.array_len p.offset p.indices (c.in_ok-values.ensures i) (c.in_ok-fill.ensures i)) c.over_patches.ensures
