use Rattle.std.proofs.Common.{◌≡◌, ◌<◌, ◌∙◌, ◌+◌, ◌-◌, length, set, arith, sym, ap, subst, rules, true, None, Some}
use Rattle.std.specs.Int.{w128}
use Rattle.std.specs.Prelude.{FitsSigned}
use Rattle.std.proofs.lemmas.Int.{to_z-of_z}
use Rattle.std.proofs.lemmas.List.{length-set}
use Rattle.vx_base.specs.declared.dtype.Nullability.TheVariants.{NonNullable}
use Rattle.vx_base.specs.PlainScalar.{fits}
use Rattle.vx_base.specs.PlainType as types
use Rattle.vx_base.specs.PlainValue.{null, int, whole_or_zero}
use Rattle.vx_model.specs.Rows.{rows, row_at, index_of}
use Rattle.vx_model.specs.TreeType.{tree_type}
use Rattle.vx_model.specs.WellFormed.{ascend}
use Rattle.vx_model.proofs.FrameOfReferenceLemmas.{row_fits}
use Rattle.vx_model.proofs.PatchLemmas.{ascend-index, ascend-within}
use Rattle.vx_model.proofs.PatchWriteLemmas.{patched_to-next}
use Rattle.vx_values.specs.IntsOf.{ptype_of, wholes_of}
use Rattle.vx_array.proofs.array.Patches.written.Goals as goal

pub unreachable-requires : goal.unreachable-requires
unreachable-requires c =
    let q = c.self.inside in
    let within : c.loop-place.place < length (rows q.indices) = omega (arith, c.loop-place-test.true, c.len-place-end.ensures) in
    let none : index_of (row_at (rows q.indices) c.loop-place.place) ≡ None = sym (c.as_index.ensures ∙ ap index_of c.integer_at.ensures) ∙ c.in_default.is in
    ascend-index q.offset (q.offset + q.array_len) (rows q.indices) c.loop-place.place c.self.invariant.2.ascending within none

pub unreachable-requires-in_default-integer_at : goal.unreachable-requires-in_default-integer_at
unreachable-requires-in_default-integer_at c =
    let q = c.self.inside in
    let within : c.loop-place.place < length (rows q.values) = omega (arith, c.loop-place-test.true, c.len-place-end.ensures, c.self.invariant.2.lengths) in
    let type = ap (λ p. tree_type p.values) c.self.view_is ∙ c.requires.integers in
    let fit = subst (λ t. fits t (row_at (rows q.values) c.loop-place.place) ≡ true) type (row_fits q.values c.loop-place.place c.self.invariant.1 within) in
    let no : fits (types.primitive (ptype_of c.args.values) NonNullable) null ≡ true = subst (λ v. fits (types.primitive (ptype_of c.args.values) NonNullable) v ≡ true) (sym c.in_default-integer_at.ensures) fit in
    cc

pub overflow_sub-index : goal.overflow_sub-index
overflow_sub-index c =
    let q = c.self.inside in
    let within : c.loop-place.place < length (rows q.indices) = omega (arith, c.loop-place-test.true, c.len-place-end.ensures) in
    let found : index_of (row_at (rows q.indices) c.loop-place.place) ≡ Some c.in-Some.index = sym (c.as_index.ensures ∙ ap index_of c.integer_at.ensures) ∙ c.in-Some.is in
    let b = ascend-within q.offset (q.offset + q.array_len) (rows q.indices) c.loop-place.place c.in-Some.index c.self.invariant.2.ascending within found in
    omega (arith, b.0, c.from.ensures)

pub overflow_cast-index : goal.overflow_cast-index
overflow_cast-index c =
    let q = c.self.inside in
    let within : c.loop-place.place < length (rows q.indices) = omega (arith, c.loop-place-test.true, c.len-place-end.ensures) in
    let found : index_of (row_at (rows q.indices) c.loop-place.place) ≡ Some c.in-Some.index = sym (c.as_index.ensures ∙ ap index_of c.integer_at.ensures) ∙ c.in-Some.is in
    let b = ascend-within q.offset (q.offset + q.array_len) (rows q.indices) c.loop-place.place c.in-Some.index c.self.invariant.2.ascending within found in
    let len = ap (λ p. p.array_len) c.self.view_is in
    let small : c.in-Some.index - c.from.result < c.array_len-rows.result = omega (arith, b.0, b.1, c.from.ensures, c.array_len-rows.ensures, len) in
    search rules

pub with_whole-values-requires-clause-held : goal.with_whole-values-requires-clause-held
with_whole-values-requires-clause-held c =
    let q = c.self.inside in
    let within : c.loop-place.place < length (rows q.values) = omega (arith, c.loop-place-test.true, c.len-place-end.ensures, c.self.invariant.2.lengths) in
    let type = ap (λ p. tree_type p.values) c.self.view_is ∙ c.requires.integers in
    let fit = subst (λ t. fits t (row_at (rows q.values) c.loop-place.place) ≡ true) type (row_fits q.values c.loop-place.place c.self.invariant.1 within) in
    let held : fits (types.primitive (ptype_of c.args.values) NonNullable) (int c.in-Some-integer_at.whole) ≡ true =
    subst (λ v. fits (types.primitive (ptype_of c.args.values) NonNullable) v ≡ true) (sym c.in-Some-integer_at.ensures) fit in
    let near : FitsSigned w128 c.in-Some-integer_at.whole = search rules in
    rw (to_z-of_z w128 c.in-Some-integer_at.whole near, c.loop-place.invariant.0) held

pub with_whole-values-requires-clause-in_range : goal.with_whole-values-requires-clause-in_range
with_whole-values-requires-clause-in_range c =
    let q = c.self.inside in
    let within : c.loop-place.place < length (rows q.indices) = omega (arith, c.loop-place-test.true, c.len-place-end.ensures) in
    let found : index_of (row_at (rows q.indices) c.loop-place.place) ≡ Some c.in-Some.index = sym (c.as_index.ensures ∙ ap index_of c.integer_at.ensures) ∙ c.in-Some.is in
    let b = ascend-within q.offset (q.offset + q.array_len) (rows q.indices) c.loop-place.place c.in-Some.index c.self.invariant.2.ascending within found in
    let len = ap (λ p. p.array_len) c.self.view_is in
    omega (arith, b.0, b.1, c.from.ensures, c.loop-place.invariant.1, len)

pub loop-place-preserved : goal.loop-place-preserved
loop-place-preserved c =
    let p = c.args.self.now in
    let view = c.self.view_is in
    let place = c.loop-place.place in
    let ascending = subst (λ q. ascend q.offset (q.offset + q.array_len) (rows q.indices) ≡ true) view c.self.invariant.2.ascending in
    let lengths = subst (λ q. length (rows q.indices) ≡ length (rows q.values)) view c.self.invariant.2.lengths in
    let within = subst (λ q. place < length (rows q.indices)) view (omega (arith, c.loop-place-test.true, c.len-place-end.ensures)) in
    let found = sym (c.as_index.ensures ∙ ap index_of c.integer_at.ensures ∙ ap (λ q. index_of (row_at (rows q.indices) place)) view) ∙ c.in-Some.is in
    let value = ap whole_or_zero (c.in-Some-integer_at.ensures ∙ ap (λ q. row_at (rows q.values) place) view) in
    let offset = c.from.ensures ∙ ap (λ q. q.offset) view in
    let near : FitsSigned w128 c.in-Some-integer_at.whole = search rules in
    let whole = to_z-of_z w128 c.in-Some-integer_at.whole near in
    let wholes = c.with_whole-values.ensures.wholes in (
      c.with_whole-values.ensures.ptype ∙ c.loop-place.invariant.0,
      ap length wholes ∙ length-set (wholes_of c.loop-place.values) _ _ ∙ c.loop-place.invariant.1,
      λ f e. wholes ∙ (λ i. set (c.loop-place.invariant.2 f e i) (c.in-Some.index - offset i) (whole i))
          ∙ sym (patched_to-next (rows p.indices) (rows p.values) f p.offset p.array_len place c.in-Some.index c.in-Some-integer_at.whole lengths ascending within found value),
    )
