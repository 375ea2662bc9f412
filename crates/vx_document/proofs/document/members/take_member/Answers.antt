use Rattle.std.proofs.Common.{◌≡◌, None, option_map, cond, sym, ap, ◌∙◌}
use Rattle.std.specs.BTreeMap.{get_by_text}
use Rattle.std.proofs.lemmas.Map.Text.{btree_map_updates_text}
use Rattle.serde_json.specs.View.{view}
use Rattle.serde_json.proofs.Views.{view-lookup}
use Rattle.vx_document.proofs.document.members.take_member.Goals as goal

pub returns-clause-taken : goal.returns-clause-taken
returns-clause-taken c = ap (option_map view) c.remove.ensures.value ∙ view-lookup c.args.name.now c.args.map.now.entries

pub returns-clause-others : goal.returns-clause-others
returns-clause-others c = λ key other.
    let old = c.args.map.now in
    let new = c.remove.new.self in
    let kept : get_by_text new key ≡ get_by_text old key =
    btree_map_updates_text c.args.name.now old new _ c.remove.ensures.updates key ∙ ap (λ b. cond b None (get_by_text old key)) other in
    sym (view-lookup key new.entries) ∙ ap (option_map view) kept ∙ view-lookup key old.entries
