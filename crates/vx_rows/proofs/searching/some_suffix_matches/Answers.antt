use Rattle.std.proofs.Common.{◌≡◌, ◌<◌, ◌∙◌, ◌+◌, ◌∷◌, ap, arith, drop, length, map, refl, sym, take, ◌-◌}
use Rattle.std.proofs.lemmas.List.{drop-map}
use Rattle.vx_rules.specs.Patterns.{any_run, matches}
use Rattle.vx_rows.specs.Items.{plain_item}
use Rattle.vx_rows.proofs.SearchLemmas.{cut, fewer-left, ones-taken, rest-of}
use Rattle.vx_rows.proofs.searching.some_suffix_matches.Goals as goal

pub returns-then-count-left : goal.returns-then-count-left
returns-then-count-left g c = c.ends_with.ensures ∙ sym c.loop-left.invariant.same

pub behind_leftmost-requires : goal.behind_leftmost-requires
behind_leftmost-requires g c =
    let count = c.before_run-count.result in
    ones-taken plain_item c.loop-left.left.now count (count + 1) (omega (arith, c.before_run-count.ensures.most, c.if-count-left.false)) refl c.before_run-count.ensures.ones

pub returns-in-None : goal.returns-in-None
returns-in-None g c =
    let count = c.before_run-count.result in
    let left = c.loop-left.left.now in
    let some : count < length left = omega (arith, c.before_run-count.ensures.most, c.if-count-left.false) in
    sym (c.loop-left.invariant.same ∙ ap (λ its. matches (any_run ∷ its) (map g.C.Character.code c.loop-left.rest.now)) (cut plain_item left count (count + 1) some refl (c.before_run-count.ensures.run some)) ∙ c.in-None.ensures.same (map plain_item (drop (count + 1) left)))

pub loop-left-smaller : goal.loop-left-smaller
loop-left-smaller g c =
    let count = c.before_run-count.result in
    fewer-left plain_item c.loop-left.left.now count (count + 1) (omega (arith, c.before_run-count.ensures.most, c.if-count-left.false)) refl

pub loop-left-preserved : goal.loop-left-preserved
loop-left-preserved g c =
    let count = c.before_run-count.result in
    let left = c.loop-left.left.now in
    let some : count < length left = omega (arith, c.before_run-count.ensures.most, c.if-count-left.false) in
    let behind : map plain_item (drop (count + 1) left) ≡ map plain_item (take (length left - (count + 1)) (drop (count + 1) left)) = sym (drop-map plain_item (count + 1) left) ∙ sym (rest-of plain_item left (count + 1)) in
    record {
      same = c.loop-left.invariant.same ∙ ap (λ its. matches (any_run ∷ its) (map g.C.Character.code c.loop-left.rest.now)) (cut plain_item left count (count + 1) some refl (c.before_run-count.ensures.run some)) ∙ c.in-Some.ensures.same (map plain_item (drop (count + 1) left))
          ∙ (λ i. matches (any_run ∷ behind i) (sym (rest-of g.C.Character.code c.loop-left.rest.now c.in-Some.end) i));
      within = omega (arith, c.loop-left.invariant.within, fewer-left plain_item left count (count + 1) some refl);
    }
