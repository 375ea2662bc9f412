use Rattle.std.proofs.Common.{arith, ◌∙◌, ◌++◌, sym, ap, map, take}
use Rattle.std.specs.Prelude.{not}
use Rattle.vx_base.specs.PlainValue.{is_null}
use Rattle.vx_base.specs.TypeOf.{value_of}
use Rattle.vx_model.specs.Nested.{elements}
use Rattle.vx_model.specs.Plain.{valid_bits}
use Rattle.vx_flat.proofs.ByteLists.{mapped-taken}
use Rattle.vx_flat.proofs.elements.element_validity.Goals as goal

pub loop-list-preserved : goal.loop-list-preserved
loop-list-preserved c =
    let lists = c.args.lists.now in
    let i = c.loop-list.list-index in
    let here = c.values_of.result.now in
    c.in_ok-push_valid.ensures.ok ∙ ap (λ bs. bs ++ valid_bits (map value_of here)) c.loop-list.invariant
    ∙ ap (λ vs. valid_bits (elements (map value_of (take i lists))) ++ valid_bits vs) c.values_of.ensures
    ∙ sym (mapped-taken lists i c.list-item.result (omega arith) c.list-item.is (λ v. not (is_null v)))
