-- The test of 32 and 64 signed bits, as the machine's conversions have it.
use Rattle.std.proofs.Common.{◌≡◌, ◌^◌, true, false, ℤ, pos, negsuc, FitsSigned}
use Rattle.std.proofs.lemmas.Bool.{lt-ltb, ltb-true, false_from_ne_true}
use Rattle.std.specs.Int.{w32, w64}
use Rattle.vx_base.specs.declared.ptype.PType.TheVariants.{I32, I64}
use Rattle.vx_base.specs.Integers.{lies_in}

pub lies_in-I32 : (z : ℤ) → FitsSigned w32 z → lies_in I32 z ≡ true
lies_in-I32 (pos n) h = lt-ltb n (2 ^ 31) h.sfits
lies_in-I32 (negsuc n) h = lt-ltb n (2 ^ 31) h.sfits

fits-I32 : (z : ℤ) → lies_in I32 z ≡ true → FitsSigned w32 z
fits-I32 (pos n) e = record { sfits = ltb-true n (2 ^ 31) e }
fits-I32 (negsuc n) e = record { sfits = ltb-true n (2 ^ 31) e }

pub lies_out-I32 : (z : ℤ) → ¬ FitsSigned w32 z → lies_in I32 z ≡ false
lies_out-I32 z h = false_from_ne_true _ (λ e. h (fits-I32 z e))

pub lies_in-I64 : (z : ℤ) → FitsSigned w64 z → lies_in I64 z ≡ true
lies_in-I64 (pos n) h = lt-ltb n (2 ^ 63) h.sfits
lies_in-I64 (negsuc n) h = lt-ltb n (2 ^ 63) h.sfits

pub fits-I64 : (z : ℤ) → lies_in I64 z ≡ true → FitsSigned w64 z
fits-I64 (pos n) e = record { sfits = ltb-true n (2 ^ 63) e }
fits-I64 (negsuc n) e = record { sfits = ltb-true n (2 ^ 63) e }

pub lies_out-I64 : (z : ℤ) → ¬ FitsSigned w64 z → lies_in I64 z ≡ false
lies_out-I64 z h = false_from_ne_true _ (λ e. h (fits-I64 z e))
