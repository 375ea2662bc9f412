use Rattle.std.proofs.Common.{◌*◌, map}
use Rattle.std.specs.Prelude.{unsigned_abs}
use Rattle.vx_base.specs.ZigZag.{unzigzag}
use Rattle.vx_values.proofs.BlockGrowth.{IsGrown}
use Rattle.vx_values.proofs.PackedWords.{of_row}
use Rattle.vx_values.proofs.ints.packed_words.unzigzagged.Given as goal

abbrev pub invariant-loop-block : goal.invariant-loop-block
invariant-loop-block g l = IsGrown (of_row (λ z. unzigzag (unsigned_abs z)) l.packed l.width) l.len (map g.T.Integer.whole l.items.items) (1024 * l.block)
