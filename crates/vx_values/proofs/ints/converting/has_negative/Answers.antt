use Rattle.std.proofs.Common.{◌∙◌, pos, sym, true, false}
use Rattle.std.specs.Prelude.{int_lt}
use Rattle.std.specs.Slice.Iter.{chunks_rest}
use Rattle.vx_values.proofs.Cells.{any-parts}
use Rattle.vx_values.proofs.ints.converting.has_negative.Goals as goal

pub returns-then-some_negative : goal.returns-then-some_negative
returns-then-some_negative g c =
    sym (any-parts g.T.Integer.whole (λ z. int_lt z (pos 0)) (chunks_rest c.loop-rows.rows-iterator) c.in-Some.rows.now (chunks_rest c.next.new.self) true c.in-Some.ensures.steps.1.0 (sym c.some_negative.ensures ∙ c.if-some_negative.true)) ∙ c.loop-rows.invariant

pub loop-rows-preserved : goal.loop-rows-preserved
loop-rows-preserved g c =
    sym (any-parts g.T.Integer.whole (λ z. int_lt z (pos 0)) (chunks_rest c.loop-rows.rows-iterator) c.in-Some.rows.now (chunks_rest c.next.new.self) false c.in-Some.ensures.steps.1.0 (sym c.some_negative.ensures ∙ c.if-some_negative.false)) ∙ c.loop-rows.invariant
