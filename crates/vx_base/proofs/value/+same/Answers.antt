use Rattle.std.proofs.Common.{arith, map, ap, sym, ◌∙◌, ◌≡◌}
use Rattle.vx_base.proofs.FieldLemmas.{mapped_same}
use Rattle.vx_base.proofs.WithinLemmas.{of_list_inj}
use Rattle.vx_base.specs.PlainValue.{items, of_list}
use Rattle.vx_base.specs.TypeOf.{value_of}
use Rattle.vx_base.proofs.value.+same.Goals as goal

pub Value::same-returns-in-List-List : goal.Value::same-returns-in-List-List
Value::same-returns-in-List-List t c =
    let a : value_of c.args.self.now ≡ items (of_list c.in-List-List.values) = ap value_of c.in-List-List.is-0 in
    let b : value_of c.args.other.now ≡ items (of_list c.in-List-List.other) = ap value_of c.in-List-List.is-1 in
    let s = c.same.ensures in (
      λ h. a ∙ ap (λ vs. items (of_list vs)) (s.0 h) ∙ sym b,
      λ e. let k : items (of_list c.in-List-List.values) ≡ items (of_list c.in-List-List.other) = sym a ∙ e ∙ b in s.1 (of_list_inj _ _ cc),
    )

pub Values::same-returns-then-not-same : goal.Values::same-returns-then-not-same
Values::same-returns-then-not-same t c = (
  λ h. cc,
  λ e. let same : map value_of c.self.inside.items.items ≡ map value_of c.other.inside.items.items = cc in
      let k = c.same.ensures.1 (mapped_same value_of _ _ c.loop-place.place _ _ (omega arith) c.loop-place.invariant.lengths c.index.ensures c.index-in-loop-place.ensures same) in cc,
)
