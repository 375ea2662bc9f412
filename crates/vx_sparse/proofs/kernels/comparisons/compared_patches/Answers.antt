use Rattle.std.proofs.Common.{◌≡◌, ◌∙◌, length, map, sym, ap, subst, arith, true}
use Rattle.std.specs.List.{list_all}
use Rattle.std.proofs.lemmas.List.{length-map}
use Rattle.vx_base.specs.PlainScalar.{fits, scalar}
use Rattle.vx_base.specs.PlainType as types
use Rattle.vx_base.specs.PlainValue.{PlainValue}
use Rattle.vx_base.specs.TypeOf.{value_of}
use Rattle.vx_model.specs.Column.{column_of}
use Rattle.vx_model.specs.Plain.{plain_of}
use Rattle.vx_model.specs.Rows.{rows}
use Rattle.vx_model.specs.Tree.{sparse, sparse_of}
use Rattle.vx_model.proofs.MadeLemmas.{rows_fit}
use Rattle.vx_model.proofs.PlainLemmas.{rows-plain_of}
use Rattle.vx_rules.specs.Comparisons.{compared, comparison}
use Rattle.vx_rules.specs.Operations.{repeated}
use Rattle.vx_sparse.proofs.KernelTypes.{base-flat, if_ok-all, or_memory-more}
use Rattle.vx_sparse.proofs.MappedRows.{all-compared, compared-fits, comparison-sparse}
use Rattle.vx_sparse.proofs.kernels.comparisons.compared_patches.Goals as goal

pub cell-right-requires : goal.cell-right-requires
cell-right-requires g c = base-flat c.args.fill.now.dtype c.args.value.now.dtype c.requires.flat c.requires.base

pub truths-requires-clause-lengths : goal.truths-requires-clause-lengths
truths-requires-clause-lengths g c =
    let p = c.args.patches.now in
    let items = c.in_ok-values.values.items in
    let judge : PlainValue → PlainValue = λ v. compared c.args.operator v c.args.value.now.value in
    let judged : map value_of items ≡ map judge (rows p.values) = c.in_ok-values.ensures.rows ∙ (λ i. map (λ v. compared c.args.operator v (c.cell-right.ensures i)) (rows (c.values.ensures i))) in
    sym (length-map items value_of) ∙ ap length judged ∙ length-map (rows p.values) judge

pub truths-requires-clause-values : goal.truths-requires-clause-values
truths-requires-clause-values g c =
    let p = c.args.patches.now in
    let fill = c.args.fill.now in
    let s = c.args.value.now in
    let items = c.in_ok-values.values.items in
    let judged : map value_of items ≡ map (λ v. compared c.args.operator v s.value) (rows p.values) =
    c.in_ok-values.ensures.rows ∙ (λ i. map (λ v. compared c.args.operator v (c.cell-right.ensures i)) (rows (c.values.ensures i))) in
    let inside : list_all (fits fill.dtype) (rows p.values) ≡ true = subst (λ t. list_all (fits t) (rows p.values) ≡ true) c.requires.typed (rows_fit p.values c.known.ensures.1) in
    (λ i. list_all (fits (c.truth_nullability-nullability.ensures i)) (judged i)) ∙ all-compared c.args.operator s fill.dtype (rows p.values) inside c.known-3.ensures

pub truths-requires-clause-other : goal.truths-requires-clause-other
truths-requires-clause-other g c =
    let fill = c.args.fill.now in
    let s = c.args.value.now in
    let own = c.judged-other.ensures.value ∙ (λ i. compared c.args.operator (c.cell.ensures i) (c.cell-right.ensures i)) in
    (λ i. fits (c.truth_nullability-nullability.ensures i) (own i)) ∙ compared-fits c.args.operator s fill.dtype fill.value c.known-2.ensures c.known-3.ensures

pub returns-clause-answer : goal.returns-clause-answer
returns-clause-answer g c =
    let p = c.args.patches.now in
    let fill = c.args.fill.now in
    let s = c.args.value.now in
    let items = c.in_ok-values.values.items in
    let t = types.boolean c.truth_nullability-nullability.result in
    let kind = c.truth_nullability-nullability.ensures in
    let judged : map value_of items ≡ map (λ v. compared c.args.operator v s.value) (rows p.values) =
    c.in_ok-values.ensures.rows ∙ (λ i. map (λ v. compared c.args.operator v (c.cell-right.ensures i)) (rows (c.values.ensures i))) in
    let own = c.judged-other.ensures.value ∙ (λ i. compared c.args.operator (c.cell.ensures i) (c.cell-right.ensures i)) in
    let inside : list_all (fits fill.dtype) (rows p.values) ≡ true = subst (λ u. list_all (fits u) (rows p.values) ≡ true) c.requires.typed (rows_fit p.values c.known.ensures.1) in
    let fit : list_all (fits t) (map value_of items) ≡ true = (λ i. list_all (fits (kind i)) (judged i)) ∙ all-compared c.args.operator s fill.dtype (rows p.values) inside c.known-3.ensures in
    let whole = comparison-sparse c.args.operator s p fill (plain_of t (map value_of items)) (scalar t (value_of c.judged-other.result)) (rows-plain_of t (map value_of items) fit ∙ judged) kind own in
    or_memory-more (λ out. out ≡ sparse p.array_len p.offset p.indices (plain_of t (map value_of items)) (scalar t (value_of c.judged-other.result)))
    (λ out. column_of out ≡ comparison c.args.operator (column_of (sparse_of p fill)) (repeated s (column_of (sparse_of p fill)))) c.truths.result (λ out e. ap column_of e ∙ whole) c.truths.ensures

pub returns-clause-judged : goal.returns-clause-judged
returns-clause-judged g c =
    let count = ap (λ t. length (rows t)) c.values.ensures in
    let many = c.known.ensures.2.lengths in
    if_ok-all c.truths.result (omega (arith, c.in_ok-values.ensures.judged, c.judged-other.ensures.step, count, many))
