use Rattle.std.proofs.Common.{ap, sym, ◌∙◌}
use Rattle.std.specs.Prelude.{is_some}
use Rattle.serde_json.specs.View.{view}
use Rattle.serde_json.proofs.Views.{view-lookup}
use Rattle.vx_document.proofs.Documents.{is_some-option_map}
use Rattle.vx_document.proofs.document.members.has_member.Goals as goal

pub returns : goal.returns
returns c = c.contains_key.ensures ∙ sym (is_some-option_map view _) ∙ ap is_some (view-lookup c.args.name.now c.args.map.now.entries)
