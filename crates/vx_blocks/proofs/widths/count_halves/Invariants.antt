use Rattle.std.proofs.Common.{map, take, drop}
use Rattle.vx_base.specs.Packed.{kept_rows}
use Rattle.vx_blocks.specs.Histogram.{AreByZeros}
use Rattle.vx_base.specs.Integers.{bits_in, bits_of}
use Rattle.vx_blocks.proofs.widths.count_halves.Given as goal

abbrev pub invariant-loop-i : goal.invariant-loop-i
invariant-loop-i g l =
    record {
      first : AreByZeros (bits_of g.T.Integer.kind) (take l.i (kept_rows 64 (map (bits_in g.T.Integer.kind) (map g.T.Integer.whole l.values)) l.valid)) l.first;
      second : AreByZeros (bits_of g.T.Integer.kind) (take l.i (drop l.start (kept_rows 64 (map (bits_in g.T.Integer.kind) (map g.T.Integer.whole l.values)) l.valid))) l.second;
    }

abbrev pub invariant-loop-i-2 : goal.invariant-loop-i-2
invariant-loop-i-2 g l = AreByZeros (bits_of g.T.Integer.kind) (take l.i (kept_rows 64 (map (bits_in g.T.Integer.kind) (map g.T.Integer.whole l.values)) l.valid)) l.first
