-- The state of a writer of bits: a number of `place` bits, as the whole 64-bit words written so far and the low `fill` bits of
-- the word `acc` behind them.
use Rattle.std.specs.Prelude.{ℕ, ◌+◌, ◌*◌, ◌^◌, ◌≡◌, ◌<◌, List, length}
use Rattle.vx_base.specs.Packed.{packed_number}

-- bytes and word hold the number
pub record Holds (number place : ℕ) (bytes : List ℕ) (acc fill : ℕ) : Type 0 where
  pub value : packed_number 8 bytes + 2 ^ (8 * length bytes) * acc ≡ number
  pub end : 8 * length bytes + fill ≡ place
  pub words : (n : ℕ) × (length bytes ≡ 8 * n)
  pub small : acc < 2 ^ fill
  pub room : fill < 64
