use Rattle.vx_document.proofs.Documents.{value_of-text, value_of-none}
use Rattle.vx_document.proofs.document.read_value.Goals as goal

pub returns-in-Ok : goal.returns-in-Ok
returns-in-Ok c = let h = c.in-Ok.ensures.ok in value_of-text _ _ h.0 h.1

pub returns-else-is_memory : goal.returns-else-is_memory
returns-else-is_memory c = value_of-none _ (c.in-Err.ensures.err (λ m. let t = c.is_memory.ensures.1 m in cc))
