use Rattle.std.proofs.Common.{◌≡◌, drop}
use Rattle.serde_json.specs.View.{items_view, members_view}
use Rattle.vx_document.specs.Arguments.{items_float, members_float}
use Rattle.vx_document.proofs.document.commands.floats.+floats.Given as goal

-- the items that are left have a float exactly where all have one
abbrev pub invariant-items_float-loop-item : goal.invariant-items_float-loop-item
invariant-items_float-loop-item l = items_float (items_view (drop l.item-index l.items)) ≡ items_float (items_view l.items)

-- the same of members
abbrev pub invariant-members_float-loop-key : goal.invariant-members_float-loop-key
invariant-members_float-loop-key l = members_float (members_view l._key-iterator) ≡ members_float (members_view l.members.entries)
