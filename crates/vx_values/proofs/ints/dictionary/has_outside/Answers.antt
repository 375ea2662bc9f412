use Rattle.std.proofs.Common.{◌∙◌, sym, true, false}
use Rattle.std.specs.Prelude.{not}
use Rattle.vx_base.specs.PlainValue.{int}
use Rattle.vx_model.specs.WellFormed.{is_place}
use Rattle.std.specs.Slice.Iter.{chunks_rest}
use Rattle.vx_values.proofs.Cells.{any-parts}
use Rattle.vx_values.proofs.ints.dictionary.has_outside.Goals as goal

pub returns-then-some_outside : goal.returns-then-some_outside
returns-then-some_outside g c =
    sym (any-parts g.C.Integer.whole (λ z. not (is_place c.args.items (int z))) (chunks_rest c.loop-rows.rows-iterator) c.in-Some.rows.now (chunks_rest c.next.new.self) true c.in-Some.ensures.steps.1.0 (sym c.some_outside.ensures ∙ c.if-some_outside.true)) ∙ c.loop-rows.invariant

pub loop-rows-preserved : goal.loop-rows-preserved
loop-rows-preserved g c =
    sym (any-parts g.C.Integer.whole (λ z. not (is_place c.args.items (int z))) (chunks_rest c.loop-rows.rows-iterator) c.in-Some.rows.now (chunks_rest c.next.new.self) false c.in-Some.ensures.steps.1.0 (sym c.some_outside.ensures ∙ c.if-some_outside.false)) ∙ c.loop-rows.invariant
