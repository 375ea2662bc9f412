use Rattle.std.proofs.Common.{◌≡◌, ◌∙◌, ◌≤◌, ◌*◌, ◌+◌, ℕ, to_z, length, sym, ap, inr, None, arith}
use Rattle.std.specs.Int.{w64}
use Rattle.vx_base.specs.Answers.{unless}
use Rattle.vx_base.specs.declared.error.VortexError.TheVariants.{DaysOutOfRange}
use Rattle.vx_base.specs.declared.ptype.PType.TheVariants.{I64}
use Rattle.vx_base.specs.Integers.{lies_in}
use Rattle.vx_temporal.specs.SplitRows.{day_in, second_in, subsecond_in, has_day}
use Rattle.vx_temporal.proofs.WrittenParts.{block-written, block-all, block-passes, block-fails, parts-next, finer-next, fails-all}
use Rattle.vx_temporal.proofs.row_parts.split_rows_by.Goals as goal

pub write_parts-requires-clause-held : goal.write_parts-requires-clause-held
write_parts-requires-clause-held g c =
    let ts = c.args.rows.now in
    let a : ℕ = 1024 * c.loop-block.block in
    let k : ℕ = 1024 * (c.loop-block.block + 1) in
    let before : a ≤ length ts = omega (arith, c.loop-block-test.true, c.div_ceil-block-end.ensures) in
    block-all ts a c.min-count.result k c.min-count.ensures (omega arith) before (lies_in I64) c.requires.held

pub returns-then-not-write_parts : goal.returns-then-not-write_parts
returns-then-not-write_parts g c =
    let d = to_z w64 g.row.D in
    let ts = c.args.rows.now in
    let a : ℕ = 1024 * c.loop-block.block in
    let k : ℕ = 1024 * (c.loop-block.block + 1) in
    let before : a ≤ length ts = omega (arith, c.loop-block-test.true, c.div_ceil-block-end.ensures) in
    let fails = block-fails ts a c.min-count.result k c.min-count.ensures (omega arith) before (has_day d) (sym c.write_parts.ensures.fits ∙ c.if-not-write_parts.true) in
    inr (ap (λ b. unless b DaysOutOfRange None) (fails-all (has_day d) ts k fails))

pub loop-block-preserved : goal.loop-block-preserved
loop-block-preserved g c =
    let d = to_z w64 g.row.D in
    let ts = c.args.rows.now in
    let a : ℕ = 1024 * c.loop-block.block in
    let n : ℕ = c.min-count.result in
    let k : ℕ = 1024 * (c.loop-block.block + 1) in
    let few = c.min-count.ensures in
    let on : k ≡ a + 1024 = omega arith in
    let before : a ≤ length ts = omega (arith, c.loop-block-test.true, c.div_ceil-block-end.ensures) in
    let inv = c.loop-block.invariant in
    let written = c.write_parts.ensures.written c.if-not-write_parts.false in
    let days = block-written ts a n k few on before (day_in d) c.write_parts.new.days written.days in
    let seconds = block-written ts a n k few on before (second_in d) c.write_parts.new.seconds written.seconds in
    let subseconds = block-written ts a n k few on before (subsecond_in d) c.write_parts.new.subseconds written.subseconds in
    record {
      fits = block-passes ts a n k few on before (has_day d) inv.fits (sym c.write_parts.ensures.fits ∙ c.if-not-write_parts.false);
      days = c.in_ok-extend_from_slice.ensures.items ∙ parts-next ts a n k few on before (day_in d) c.loop-block.days.items _ inv.days days;
      seconds = c.in_ok-extend_from_slice-2.ensures.items ∙ parts-next ts a n k few on before (second_in d) c.loop-block.seconds.items _ inv.seconds seconds;
      subseconds = c.in_ok-add_finer.ensures ∙ finer-next ts a n k few on before d (subsecond_in d) c.loop-block.subseconds.items _ inv.subseconds subseconds;
    }
