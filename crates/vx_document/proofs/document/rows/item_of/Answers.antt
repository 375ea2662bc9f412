use Rattle.vx_document.proofs.DocumentRows.{default-some}
use Rattle.vx_document.proofs.document.rows.item_of.Goals as goal

pub returns-in-Some : goal.returns-in-Some
returns-in-Some g c = rw c.in-Some.is (default-some _ _ (g.met.K.Kind.not_null c.in-Some.item))
