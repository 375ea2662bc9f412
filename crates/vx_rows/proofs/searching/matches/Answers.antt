use Rattle.std.proofs.Common.{◌≡◌, ◌<◌, ◌∙◌, ◌-◌, ◌+◌, ◌∷◌, ap, arith, drop, length, map, sym, take}
use Rattle.std.proofs.lemmas.List.{drop-map, length-drop, length-map, take_all}
use Rattle.std.specs.Prelude.{◌==◌}
use Rattle.vx_rules.specs.Patterns.{any_run, matches}
use Rattle.vx_rows.specs.Items.{plain_item}
use Rattle.vx_rows.proofs.PrefixLemmas.{none-behind, none-left}
use Rattle.vx_rows.proofs.SearchLemmas.{rest-of}
use Rattle.vx_rows.proofs.searching.matches.Goals as goal

pub returns-then-count-items : goal.returns-then-count-items
returns-then-count-items g c =
    let items = c.args.items.now in
    let text = c.args.text.now in
    let code = g.C.Character.code in
    let count = c.in-Some.count in
    let none = none-behind plain_item items count (omega (arith, c.if-count-items.true)) in
    ap (λ n. n == count) (sym (length-map text code)) ∙ none-left _ (map code text) count (omega (arith, c.in-Some.ensures.in_text, length-map text code)) none ∙ sym c.in-Some.ensures.same

pub returns : goal.returns
returns g c =
    let items = c.args.items.now in
    let text = c.args.text.now in
    let code = g.C.Character.code in
    let count = c.in-Some.count in
    let next = count + 1 in
    let more : count < length items = omega (arith, c.if-count-items.false, c.in-Some.ensures.in_items) in
    let left = take_all (length items - next) (drop next items) (omega (arith, length-drop next items)) in
    let behind = map code (take (length text - count) (drop count text)) in
    let rest : matches (map plain_item items) (map code text) ≡ matches (any_run ∷ map plain_item (take (length items - next) (drop next items))) behind =
    c.in-Some.ensures.same ∙ (λ i. matches (c.in-Some.ensures.run more i) (sym (rest-of code text count) i)) ∙ ap (λ its. matches (any_run ∷ its) behind) (drop-map plain_item next items ∙ ap (map plain_item) (sym left))
    in
    rw rest c.some_suffix_matches.ensures
