use Rattle.std.proofs.Common.{◌≡◌, ◌<◌, ◌+◌, ℕ, map, get_or}
use Rattle.vx_blocks.specs.Optional.{optional_rows}
use Rattle.vx_blocks.specs.Runs.{heads_before, runs_before, run_number}
use Rattle.vx_blocks.proofs.runs_in_blocks.number_block.Given as goal

abbrev pub invariant-loop-k : goal.invariant-loop-k
invariant-loop-k g l =
    let rows = optional_rows (map g.T.Integer.whole l.values) l.valid in
    record {
      heads : l.heads.items ≡ heads_before rows (l.start + l.k);
      run : l.run + runs_before rows (l.start + 1) ≡ runs_before rows (l.start + l.k);
      few : l.run < l.k;
      numbers : (j : ℕ) → j < l.k → get_or l.numbers j 0 ≡ run_number rows (l.start + j);
    }
