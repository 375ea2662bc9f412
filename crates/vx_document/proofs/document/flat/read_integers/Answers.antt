use Rattle.vx_document.proofs.FlatColumns.{given, never, wholes_made}
use Rattle.vx_document.proofs.document.flat.read_integers.Goals as goal

pub returns-in-Ok : goal.returns-in-Ok
returns-in-Ok c =
    let h = c.in_ok-rows.ensures in
    given _ _ _ _ _ (wholes_made _ _ _ _ _ _ h.2.0 (h.0, h.1, h.2.1)) c.in-Ok.tree c.in-Ok.ensures

pub returns-in-Err : goal.returns-in-Err
returns-in-Err c =
    let h = c.in_ok-rows.ensures in
    absurd (never _ _ _ _ _ (wholes_made _ _ _ _ _ _ h.2.0 (h.0, h.1, h.2.1)) c.in-Err._refused c.in-Err.ensures)
