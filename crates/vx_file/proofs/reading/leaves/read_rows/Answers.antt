use Rattle.vx_codec.specs.Lists.{delimited}
use Rattle.vx_codec.specs.Lists.{repeated_at}
use Rattle.vx_codec.proofs.Loops.{handed_on, repeated_end, repeated_next}
use Rattle.vx_file.proofs.reading.leaves.read_rows.Goals as goal

pub returns-in_err-row : goal.returns-in_err-row
returns-in_err-row c =
    let p = delimited.parse in
    let total = repeated_at p c.args.count c.args.bytes.now in
    handed_on (λ x. (x.0, x.1.now)) c.from_residual.result c.in_err-row.field-0.0 total c.from_residual.ensures.1
    (repeated_end p c.in_err-row.field-0.0 c.loop.rows.items c.args.count c.loop.counter c.loop.rest.now total c.loop-test.true c.in_err-row.ensures c.loop.invariant)

pub loop-preserved : goal.loop-preserved
loop-preserved c =
    let p = delimited.parse in
    repeated_next p c.loop.rows.items c.args.count c.loop.counter c.loop.rest.now c.in_ok-row.row c.in_ok-row.after.now (repeated_at p c.args.count c.args.bytes.now) c.push.new.self.items
    c.loop-test.true c.in_ok-row.ensures c.in_ok-push.ensures.items c.loop.invariant
