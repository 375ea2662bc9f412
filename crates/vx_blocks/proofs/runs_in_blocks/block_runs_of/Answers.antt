use Rattle.std.proofs.Common.{◌≡◌, ◌∙◌, ◌+◌, ◌*◌, ◌<◌, ◌++◌, ◌∷◌, [], length, map, min, sym, ap, arith, length-append}
use Rattle.std.specs.List.{range_with_len}
use Rattle.vx_base.specs.Packed.{block_count}
use Rattle.vx_blocks.specs.Optional.{optional_rows}
use Rattle.vx_blocks.specs.Runs.{heads_before, runs_before, run_number}
use Rattle.vx_blocks.proofs.OptionalRows.{rows-length}
use Rattle.vx_blocks.proofs.HeadsOfRuns.{numbers-filled}
use Rattle.vx_blocks.proofs.Ranges.{map-range_more, map-range_part}
use Rattle.vx_blocks.proofs.Written.{grown-written}
use Rattle.vx_blocks.proofs.runs_in_blocks.block_runs_of.Goals as goal

pub number_block-requires-clause-heads : goal.number_block-requires-clause-heads
number_block-requires-clause-heads g c =
    let xs = c.args.values.now in
    let rows = optional_rows (map g.T.Integer.whole xs) c.args.valid.now in
    let here : min (1024 * c.loop-block.block) (length xs) ≡ 1024 * c.loop-block.block = omega (arith, c.loop-block-test.true, c.div_ceil-blocks.ensures) in
    c.loop-block.invariant.heads ∙ ap (heads_before rows) here

pub loop-block-preserved : goal.loop-block-preserved
loop-block-preserved g c =
    let xs = c.args.values.now in
    let rows = optional_rows (map g.T.Integer.whole xs) c.args.valid.now in
    let block = c.loop-block.block in
    let start = 1024 * block in
    let count = c.min-rows.result in
    let some : start < length xs = omega (arith, c.loop-block-test.true, c.div_ceil-blocks.ensures) in
    let here : min start (length xs) ≡ start = omega arith in
    let next : start + count ≡ min (1024 * (block + 1)) (length xs) = omega (arith, c.min-rows.ensures) in
    let items = c.loop-block.numbers.items in
    let made = c.number_block.new.numbers in
    let size : length items ≡ start = c.loop-block.invariant.size ∙ here in
    let grown : length c.slice_mut.result.now ≡ count = omega (arith, c.slice_mut.ensures.len, c.in_ok-resize.ensures.len) in
    let long : length made ≡ count = c.number_block.auto.numbers ∙ grown in
    let last : start + length c.slice_mut.result.now ≡ min (1024 * (block + 1)) (length xs) = omega (arith, grown, next) in
    let before : c.len.result ≡ runs_before rows start = omega (arith, c.len.ensures, ap length c.loop-block.invariant.heads, ap (runs_before rows) here) in
    let written = grown-written items c.resize.new.self.items made _ 0 start count _ c.resize.new.self.len (sym size) c.in_ok-resize.ensures.items (omega (arith, size)) long (omega (arith, c.in_ok-resize.ensures.len)) in
    record {
      size = ap length written ∙ length-append items made ∙ omega (arith, size, long, next);
      heads = c.in_ok-number_block.ensures.heads ∙ ap (heads_before rows) last;
      numbers = written ∙ ap (λ l. l ++ made) (c.loop-block.invariant.numbers ∙ ap (λ m. map (run_number rows) (range_with_len 0 m)) here)
          ∙ map-range_part (run_number rows) 0 start count made long (λ k h. c.in_ok-number_block.ensures.numbers k (omega (arith, long)))
          ∙ ap (λ m. map (run_number rows) (range_with_len 0 m)) next;
      offsets = c.in_ok-push.ensures.items ∙ ap (λ l. l ++ c.len.result ∷ []) c.loop-block.invariant.offsets ∙ sym (map-range_more (λ k. runs_before rows (1024 * k)) block c.len.result before);
    }

pub returns-clause-heads : goal.returns-clause-heads
returns-clause-heads g c =
    let whole = g.T.Integer.whole in
    let rows = optional_rows (map whole c.args.values.now) c.args.valid.now in
    let end : min (1024 * c.loop-block.block) (length c.args.values.now) ≡ length rows = omega (arith, rows-length whole c.args.values.now c.args.valid.now c.requires, c.div_ceil-blocks.ensures) in
    c.from_vec.ensures ∙ c.loop-block.invariant.heads ∙ ap (heads_before rows) end

pub returns-clause-numbers : goal.returns-clause-numbers
returns-clause-numbers g c =
    let whole = g.T.Integer.whole in
    let rows = optional_rows (map whole c.args.values.now) c.args.valid.now in
    let len = rows-length whole c.args.values.now c.args.valid.now c.requires in
    let end : min (1024 * c.loop-block.block) (length c.args.values.now) ≡ length rows = omega (arith, len, c.div_ceil-blocks.ensures) in
    let size : c.in-Some.size ≡ 1024 * block_count (length rows) = omega (arith, len, c.in-Some.ensures.1, c.div_ceil-blocks.ensures) in
    c.from_vec-2.ensures
    ∙ numbers-filled rows c.loop-block.numbers.items c.resize-2.new.self.items _ c.in-Some.size c.loop-block.numbers.len end size (omega arith) c.loop-block.invariant.numbers c.in_ok-resize-2.ensures.items

pub returns-clause-offsets : goal.returns-clause-offsets
returns-clause-offsets g c =
    let whole = g.T.Integer.whole in
    let rows = optional_rows (map whole c.args.values.now) c.args.valid.now in
    let end : c.loop-block.block ≡ block_count (length rows) = omega (arith, rows-length whole c.args.values.now c.args.valid.now c.requires, c.div_ceil-blocks.ensures) in
    c.from_vec-3.ensures ∙ c.loop-block.invariant.offsets ∙ ap (λ n. map (λ block. runs_before rows (1024 * block)) (range_with_len 0 n)) end
