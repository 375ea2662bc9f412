use Rattle.std.proofs.Common.{◌≡◌, ◌*◌, length, map, min}
use Rattle.std.specs.List.{range_with_len}
use Rattle.vx_blocks.specs.Optional.{optional_rows}
use Rattle.vx_blocks.specs.Runs.{heads_before, runs_before, run_number}
use Rattle.vx_blocks.proofs.runs_in_blocks.block_runs_of.Given as goal

abbrev pub invariant-loop-block : goal.invariant-loop-block
invariant-loop-block g l =
    let rows = optional_rows (map g.T.Integer.whole l.values) l.valid in
    let end = min (1024 * l.block) (length l.values) in
    record {
      size : length l.numbers.items ≡ end;
      heads : l.heads.items ≡ heads_before rows end;
      numbers : l.numbers.items ≡ map (run_number rows) (range_with_len 0 end);
      offsets : l.offsets.items ≡ map (λ block. runs_before rows (1024 * block)) (range_with_len 0 l.block);
    }
