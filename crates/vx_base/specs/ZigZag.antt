-- Zigzag encoding: 0, -1, 1, -2, 2, .. as 0, 1, 2, 3, 4, ..
use Rattle.std.specs.Prelude.{ℕ, ◌+◌, ◌*◌, ◌/◌, ◌%◌, ◌==◌, ℤ, pos, negsuc, if◌then◌else◌}

-- 2v, or -2v - 1 where v is negative; negsuc n is -1 - n
abbrev pub zigzag : ℤ → ℕ
zigzag (pos n) = 2 * n
zigzag (negsuc n) = 2 * n + 1

-- the inverse of zigzag
abbrev pub unzigzag : ℕ → ℤ
unzigzag n = if n % 2 == 0 then pos (n / 2) else negsuc (n / 2)
