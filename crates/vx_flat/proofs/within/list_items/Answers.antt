use Rattle.std.proofs.Common.{rules, ◌≡◌, ◌∙◌, sym, ap, map, ◌++◌, ◌∷◌, [], length}
use Rattle.std.specs.Vec.Iter.{into_iter_items}
use Rattle.vx_base.specs.TypeOf.{value_of}
use Rattle.vx_model.specs.Nested.{list_rows, elements}
use Rattle.vx_flat.proofs.ValueLemmas.{ends_from, offsets_from-ends, elements-more, items-longer, ends-more}
use Rattle.vx_flat.proofs.within.list_items.Goals as goal

pub loop-value-init : goal.loop-value-init
loop-value-init c =
    let left : into_iter_items c.into_iter-value-iterator.result ≡ c.args.values.items = search rules in
    let none = c.new-items.ensures.items in
    record {
      elements = λ i. map value_of (none i) ++ elements (map value_of (left i));
      offsets =
          (λ i. (c.in_ok-push.ensures.items ∙ ap (λ os. os ++ 0 ∷ []) c.new-offsets.ensures.items) i ++ ends_from (length (none i)) (list_rows (map value_of (left i))))
          ∙ sym (offsets_from-ends 0 (list_rows (map value_of c.args.values.items)));
    }

pub loop-value-preserved : goal.loop-value-preserved
loop-value-preserved c =
    let l = c.loop-value in
    let left = into_iter_items l.value-iterator in
    let rest = into_iter_items c.next.new.self in
    let all = map value_of c.args.values.items in
    let new = c.push_items.new.items.items in
    let v = c.in-Some.value in
    let next = c.in-Some.ensures.steps.0 in
    let pushed : c.push-in-loop-value.new.self.items ≡ l.offsets.items ++ length new ∷ [] = c.in_ok-push-2.ensures.items ∙ ap (λ n. l.offsets.items ++ n ∷ []) (search rules) in
    record {
      elements = elements-more l.items.items new left rest v all next c.in_ok-push_items.ensures.ok l.invariant.elements;
      offsets = ap (λ os. os ++ ends_from (length new) (list_rows (map value_of rest))) pushed ∙ ends-more (length l.items.items) (length new) left rest v all l.offsets.items next (items-longer l.items.items new left rest v all next c.in_ok-push_items.ensures.ok) l.invariant.offsets;
    }
