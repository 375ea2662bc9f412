use Rattle.std.proofs.Common.{◌≡◌, map}
use Rattle.serde_json.specs.View.{members_view}
use Rattle.vx_document.specs.Reading.{has_only}
use Rattle.vx_document.proofs.document.members.has_only.Given as goal

abbrev pub invariant-loop-key : goal.invariant-loop-key
invariant-loop-key l = has_only (map (λ name. name.now) l.names) (members_view l.key-iterator) ≡ has_only (map (λ name. name.now) l.names) (members_view l.object.entries)
