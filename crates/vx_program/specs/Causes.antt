-- A count of faults, and what the outcome of a read or a write says of it.
use Rattle.std.specs.Prelude.{◌≡◌, ◌≤◌, ◌+◌, ◌-◌, ◌^◌, min, ℕ, Result, Ok, OnOk, OnErr, IsErr}

-- the count with one more fault; it stops at 2^64 - 1
abbrev pub risen : ℕ → ℕ
risen count = min (count + 1) (2 ^ 64 - 1)

-- the count rose, by any number, or stands at 2^64 - 1, where a counter of 64 bits stops
abbrev pub Rose : ℕ → ℕ → Type 0
Rose before now = risen before ≤ now

-- a success leaves the count as it was, a failure raises it; it never falls
pub record HasCause {T E : Type 0} (before now : ℕ) (result : Result T E) : Type 0 where
  pub later : before ≤ now
  pub same : OnOk result (now ≡ before)
  pub failed : OnErr result (Rose before now)

-- ---- of the adapters of std, which count each failure once

-- n is answered, and no fault is counted
abbrev pub Passes : {E : Type 0} → ℕ → ℕ → Result ℕ E → ℕ → Type 0
Passes before now result n = (result ≡ Ok n) × (now ≡ before)

-- a failure is answered, and counted once
abbrev pub CountsOnce : {E : Type 0} → ℕ → ℕ → Result ℕ E → Type 0
CountsOnce before now result = IsErr result × (now ≡ risen before)
