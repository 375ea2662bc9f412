use Rattle.std.proofs.Common.{◌≡◌, ◌∙◌, ◌++◌, List, Bool, true, false, ap, sym}
use Rattle.std.proofs.lemmas.List.Folds.{list_all-append}
use Rattle.std.specs.Prelude.{◌&&◌}
use Rattle.std.specs.List.{list_all}
use Rattle.std.specs.Slice.Iter.{chunks_rest}
use Rattle.vx_base.proofs.mask.are_true.Goals as goal

-- where a part has been looked at, what is behind it decides
by_parts : (bits part behind : List Bool) (b : Bool) → bits ≡ part ++ behind → list_all (λ bit. bit) part ≡ b → list_all (λ bit. bit) bits ≡ (b && list_all (λ bit. bit) behind)
by_parts bits part behind b e h = ap (list_all (λ bit. bit)) e ∙ list_all-append (λ bit. bit) part behind ∙ ap (λ test. test && list_all (λ bit. bit) behind) h

pub returns-then-not-each_true : goal.returns-then-not-each_true
returns-then-not-each_true c =
    sym (by_parts (chunks_rest c.loop-rows.rows-iterator) c.in-Some.rows.now (chunks_rest c.next.new.self) false c.in-Some.ensures.steps.1.0 (sym c.each_true.ensures ∙ c.if-not-each_true.true)) ∙ c.loop-rows.invariant

pub loop-rows-preserved : goal.loop-rows-preserved
loop-rows-preserved c =
    sym (by_parts (chunks_rest c.loop-rows.rows-iterator) c.in-Some.rows.now (chunks_rest c.next.new.self) true c.in-Some.ensures.steps.1.0 (sym c.each_true.ensures ∙ c.if-not-each_true.false)) ∙ c.loop-rows.invariant
