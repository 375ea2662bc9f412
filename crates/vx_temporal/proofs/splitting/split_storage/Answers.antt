use Rattle.std.proofs.Common.{◌≡◌, map, subst, None, Err}
use Rattle.vx_base.specs.PlainType.{nullability_of}
use Rattle.vx_base.specs.PlainValue.{whole_or_zero}
use Rattle.vx_model.specs.Rows.{rows}
use Rattle.vx_model.specs.TreeType.{tree_type}
use Rattle.vx_time.specs.PartsOf.{units_per_second}
use Rattle.vx_temporal.specs.Settled.{Settled}
use Rattle.vx_temporal.specs.SplitOf.{AreSplit}
use Rattle.vx_temporal.specs.SplitRows.{AreParts, days_refusal}
use Rattle.vx_temporal.proofs.Storages.{settled-of}
use Rattle.vx_temporal.proofs.splitting.split_storage.Goals as goal

pub columns_of-requires-clause-parts : goal.columns_of-requires-clause-parts
columns_of-requires-clause-parts c =
    let s = c.in-Ok.split in
    subst (λ ts. AreParts (units_per_second c.args.unit) ts s.days.items s.seconds.items s.subseconds.items) c.stored_rows.ensures.rows c.in-Ok.ensures.1

pub returns-in-Ok : goal.returns-in-Ok
returns-in-Ok c =
    let d = units_per_second c.args.unit in
    let vs = rows c.args.storage.now in
    settled-of (days_refusal d (map whole_or_zero vs)) (AreSplit d (nullability_of (tree_type c.args.storage.now)) vs) c.columns_of.result (subst (λ ts. days_refusal d ts ≡ None) c.stored_rows.ensures.rows c.in-Ok.ensures.0) c.columns_of.ensures

pub returns-in-Err : goal.returns-in-Err
returns-in-Err c =
    let d = units_per_second c.args.unit in
    let P = AreSplit d (nullability_of (tree_type c.args.storage.now)) (rows c.args.storage.now) in
    subst (λ ts. Settled None (days_refusal d ts) P (Err c.in-Err.error)) c.stored_rows.ensures.rows c.in-Err.ensures
