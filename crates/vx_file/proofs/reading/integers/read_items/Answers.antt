use Rattle.std.proofs.Common.{map}
use Rattle.std.proofs.lemmas.List.{map_push}
use Rattle.vx_spelling.specs.Fields.{integer}
use Rattle.vx_codec.specs.Lists.{repeated_at}
use Rattle.vx_codec.proofs.Loops.{handed_on, repeated_end, repeated_next}
use Rattle.vx_file.proofs.reading.integers.read_items.Goals as goal

pub returns-in_err-item : goal.returns-in_err-item
returns-in_err-item g c =
    let p = (integer g.T.Integer.kind).parse in
    let total = repeated_at p c.args.count c.args.bytes.now in
    handed_on (λ x. (map g.T.Integer.whole x.0, x.1.now)) c.from_residual.result c.in_err-item.field-0.0 total c.from_residual.ensures.1
    (repeated_end p c.in_err-item.field-0.0 (map g.T.Integer.whole c.loop.items.items) c.args.count c.loop.counter c.loop.rest.now total c.loop-test.true c.in_err-item.ensures c.loop.invariant)

pub loop-preserved : goal.loop-preserved
loop-preserved g c =
    let p = (integer g.T.Integer.kind).parse in
    repeated_next p (map g.T.Integer.whole c.loop.items.items) c.args.count c.loop.counter c.loop.rest.now (g.T.Integer.whole c.in_ok-item.item) c.in_ok-item.after.now (repeated_at p c.args.count c.args.bytes.now) (map g.T.Integer.whole c.push.new.self.items)
    c.loop-test.true c.in_ok-item.ensures (rw c.in_ok-push.ensures.items (map_push g.T.Integer.whole c.loop.items.items c.in_ok-item.item)) c.loop.invariant
