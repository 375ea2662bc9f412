-- What a call appends to a list that it was given.
use Rattle.std.specs.Prelude.{ℕ, ◌≡◌, ◌++◌, ℤ, List}
use Rattle.vx_blocks.specs.IsPacked.{IsUnpackedAs}

-- the packed rows `start` to `end - 1` stand behind what was there
pub record AppendsRows (value : ℕ → ℤ) (bytes : List ℕ) (width start end : ℕ) (old new : List ℤ) : Type 0 where
  pub part : List ℤ
  pub behind : new ≡ old ++ part
  pub rows : IsUnpackedAs value bytes width start end part
