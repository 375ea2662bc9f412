use Rattle.std.proofs.Common.{◌≡◌, ◌<◌, ℕ, pos, map, get_or}
use Rattle.vx_base.specs.declared.ptype.PType.TheVariants.{U64}
use Rattle.vx_base.specs.Wrapping.{low_bits}
use Rattle.vx_blocks.specs.Sequence.{sequence_row}
use Rattle.vx_values.proofs.ints.sequences.write_steps.Given as goal

abbrev pub invariant-loop-row : goal.invariant-loop-row
invariant-loop-row g l = record {
  bits : l.bits ≡ low_bits U64 (sequence_row l.fn.first l.fn.step l.row);
  rows : (j : ℕ) → j < l.row → get_or (map g.T.Integer.whole l.items) j (pos 0) ≡ sequence_row l.fn.first l.fn.step j;
}
