-- How many binary digits a number has.
use Rattle.std.specs.Prelude.{ℕ, zero, suc, ◌+◌, ◌^◌, nat_lt, Bool, true, false}

-- the first of the numbers k to k + more - 1 that passes the test, k + more where none does. It is written by `elim`, which
-- computes one case alone: the search ends at the first that passes.
abbrev pub first_from : (ℕ → Bool) → ℕ → ℕ → ℕ
first_from test k zero = k
first_from test k (suc more) = elim (test k) [ true ↦ k | false ↦ first_from test (k + 1) more ]

-- the least k with n < 2^k; it is sought up to n, since n < 2^n. 0 has no digit.
abbrev pub digits : ℕ → ℕ
digits n = first_from (λ k. nat_lt n (2 ^ k)) 0 n
