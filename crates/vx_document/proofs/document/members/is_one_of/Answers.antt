use Rattle.std.proofs.Common.{◌∙◌}
use Rattle.vx_document.proofs.Documents.{list_any-map}
use Rattle.vx_document.proofs.document.members.is_one_of.Goals as goal

pub returns : goal.returns
returns c = c.contains.ensures.value ∙ list_any-map _ _ c.args.names.now
