-- The size of packed rows.
use Rattle.std.proofs.Common.{ℕ, ◌≤◌, arith}
use Rattle.std.proofs.Math.Nat.{mul-le-mul_left}
use Rattle.vx_base.specs.Packed.{packed_size, block_count}

pub block_count_le : (m n : ℕ) → m ≤ n → block_count m ≤ block_count n
block_count_le m n h = omega arith

-- it grows with the rows
pub packed_size_le : (width m n : ℕ) → m ≤ n → packed_size width m ≤ packed_size width n
packed_size_le width m n h = let le = mul-le-mul_left width (block_count_le m n h) in omega arith
