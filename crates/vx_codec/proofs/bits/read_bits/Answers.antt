use Rattle.std.proofs.Common.{arith, ◌-◌, sym, ◌∙◌}
use Rattle.std.proofs.lemmas.Result.{err_from_is_err_and}
use Rattle.std.proofs.lemmas.Bool.{ltb-true}
use Rattle.vx_codec.specs.Bits.{bytes_for, bits}
use Rattle.vx_codec.proofs.Loops.{bits_next, bits_too_wide, bits_end}
use Rattle.vx_codec.proofs.bits.read_bits.Goals as goal

pub returns-in_err-byte : goal.returns-in_err-byte
returns-in_err-byte c =
    let p = err_from_is_err_and c.from_residual.result c.from_residual.ensures.1 in
    rw (p.1, p.2) (bits_end c.in_err-byte.field-0.0 c.loop.found.items (bytes_for c.args.count) c.loop.counter c.loop.left c.loop.rest.now ((bits c.args.count).parse c.args.bytes.now) (omega arith) c.in_err-byte.ensures.read c.loop.invariant.read)

pub loop-preserved : goal.loop-preserved
loop-preserved c = record {
  left = omega arith;
  read = bits_next c.loop.found.items (bytes_for c.args.count) c.loop.counter c.loop.left c.loop.rest.now c.in_ok-byte.byte c.in_ok-byte.after.now ((bits c.args.count).parse c.args.bytes.now) c.min-width.result (c.loop.left - c.from-left.result) c.push_bits.new.found.items
      (omega arith) c.in_ok-byte.ensures.read c.min-width.ensures (omega arith) c.in_ok-push_bits.ensures.kept (ltb-true _ _ (sym c.is_within.ensures ∙ c.if-not-is_within.false)) c.loop.invariant.read;
}

pub returns-then-not-is_within : goal.returns-then-not-is_within
returns-then-not-is_within c =
    bits_too_wide c.loop.found.items (bytes_for c.args.count) c.loop.counter c.loop.left c.loop.rest.now c.in_ok-byte.byte c.in_ok-byte.after.now ((bits c.args.count).parse c.args.bytes.now) c.min-width.result
    (omega arith) c.in_ok-byte.ensures.read c.min-width.ensures (sym c.is_within.ensures ∙ c.if-not-is_within.true) c.loop.invariant.read
