use Rattle.vx_ffi.proofs.Compressing.{settled_made, settled_refused}
use Rattle.vx_ffi.proofs.compressed.settled_by.Goals as goal

pub returns-in-Ok : goal.returns-in-Ok
returns-in-Ok c = settled_made _ _ _ c.in-Ok.ensures

pub returns-in-Err : goal.returns-in-Err
returns-in-Err c = settled_refused _ _ _ _ c.from.ensures c.in-Err.ensures
