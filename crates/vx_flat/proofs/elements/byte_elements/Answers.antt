use Rattle.std.proofs.Common.{rules, ◌≡◌, ◌∙◌, sym, ap, map, ◌++◌, ◌∷◌, [], length}
use Rattle.std.specs.Vec.Iter.{into_iter_items}
use Rattle.vx_base.specs.PlainValue.{bytes_or_empty}
use Rattle.vx_base.specs.TypeOf.{value_of}
use Rattle.vx_model.specs.Nested.{list_rows, elements}
use Rattle.vx_flat.proofs.ByteLists.{rows-more, rows-longer}
use Rattle.vx_flat.proofs.ValueLemmas.{ends_from, offsets_from-ends, ends-more}
use Rattle.vx_flat.proofs.elements.byte_elements.Goals as goal

pub loop-value-init : goal.loop-value-init
loop-value-init c =
    let left : into_iter_items c.into_iter-value-iterator.result ≡ c.args.values.items = search rules in
    let none = c.in_ok-rows.ensures.items in
    record {
      rows = λ i. none i ++ map bytes_or_empty (elements (map value_of (left i)));
      offsets =
          (λ i. (c.in_ok-push.ensures.items ∙ ap (λ os. os ++ 0 ∷ []) c.in_ok-offsets.ensures.items) i ++ ends_from (length (none i)) (list_rows (map value_of (left i))))
          ∙ sym (offsets_from-ends 0 (list_rows (map value_of c.args.values.items)));
    }

pub loop-value-preserved : goal.loop-value-preserved
loop-value-preserved c =
    let l = c.loop-value in
    let left = into_iter_items l.value-iterator in
    let rest = into_iter_items c.next.new.self in
    let all = map value_of c.args.values.items in
    let new = c.push_bytes.new.rows.items in
    let v = c.in-Some.value in
    let next = c.in-Some.ensures.steps.0 in
    let pushed : c.push-in-loop-value.new.self.items ≡ l.offsets.items ++ length new ∷ [] = c.in_ok-push-2.ensures.items ∙ ap (λ n. l.offsets.items ++ n ∷ []) (search rules) in
    record {
      rows = rows-more l.rows.items new left rest v all next c.in_ok-push_bytes.ensures.ok l.invariant.rows;
      offsets = ap (λ os. os ++ ends_from (length new) (list_rows (map value_of rest))) pushed ∙ ends-more (length l.rows.items) (length new) left rest v all l.offsets.items next (rows-longer l.rows.items new left rest v all next c.in_ok-push_bytes.ensures.ok) l.invariant.offsets;
    }
