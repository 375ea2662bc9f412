-- From what the machine computes to what the calls promise.
use Rattle.std.proofs.Common.{◌≡◌, ◌^◌, ◌<◌, ◌≤◌, true, false, ℤ, pos, negsuc, ◌+ℤ◌, ◌*ℤ◌, ◌<ℤ◌, None, Result, Ok, Err, FitsSigned, ap, sym, subst, ◌∙◌, refl, arith, unsigned_abs, int_div, int_rem}
use Rattle.std.proofs.lemmas.Int.{ints}
use Rattle.std.specs.Int.{w32, w64, w128}
use Rattle.vx_base.specs.Answers.{SurelyDecided, unless}
use Rattle.vx_base.specs.declared.error.VortexError.{VortexError}
use Rattle.vx_base.specs.declared.error.VortexError.TheVariants.{DaysOutOfRange}
use Rattle.vx_base.specs.declared.ptype.PType.TheVariants.{I32, I64}
use Rattle.vx_base.specs.Integers.{lies_in}
use Rattle.vx_time.specs.declared.parts.TimestampParts.{TimestampParts}
use Rattle.vx_time.specs.PartsOf.{parts, parts_of, sum_of}
use Rattle.vx_time.proofs.Held.{lies_in-I32, lies_out-I32, lies_out-I64, fits-I64}
use Rattle.vx_time.proofs.Products.{unsigned_abs-mul-le}
use Rattle.vx_time.proofs.Rounding.{div-div, parts_by_rem}

-- ---- split

abbrev SplitDecided : ℤ → ℤ → Result TimestampParts VortexError → Type 0
SplitDecided d t result = SurelyDecided (unless (lies_in I32 (parts_of d t).days) DaysOutOfRange None) (λ made. made ≡ parts_of d t) result

pub split_made : (d t days seconds subseconds : ℤ) → pos 0 <ℤ d → FitsSigned w32 days → days ≡ int_div (int_div t d) (pos 86_400) → seconds ≡ int_rem (int_div t d) (pos 86_400) → subseconds ≡ int_rem t d → SplitDecided d t (Ok (parts days seconds subseconds))
split_made (pos k) t days seconds subseconds h fits e f g =
    let held : lies_in I32 (parts_of (pos k) t).days ≡ true = ap (lies_in I32) (sym (e ∙ div-div t k)) ∙ lies_in-I32 days fits in
    let made = (λ i. parts (e i) (f i) (g i)) ∙ sym (parts_by_rem t k) in
    subst (λ b. SurelyDecided (unless b DaysOutOfRange None) (λ p. p ≡ parts_of (pos k) t) (Ok (parts days seconds subseconds))) (sym held) made
split_made (negsuc k) t days seconds subseconds h fits e f g = absurd h.lt

pub split_refused : (d t : ℤ) → pos 0 <ℤ d → ¬ FitsSigned w32 (int_div (int_div t d) (pos 86_400)) → SplitDecided d t (Err DaysOutOfRange)
split_refused (pos k) t h out =
    let held : lies_in I32 (parts_of (pos k) t).days ≡ false = ap (lies_in I32) (sym (div-div t k)) ∙ lies_out-I32 _ out in
    subst (λ b. SurelyDecided (unless b DaysOutOfRange None) (λ p. p ≡ parts_of (pos k) t) (Err DaysOutOfRange)) (sym held) refl
split_refused (negsuc k) t h out = absurd h.lt

-- ---- the sum

-- |seconds * d| is below 2^96
clock_small : (s d : ℤ) → unsigned_abs s < 2 ^ 32 → FitsSigned w64 d → unsigned_abs (s *ℤ d) ≤ 2 ^ 95
clock_small s d h fits = unsigned_abs-mul-le s d (2 ^ 32) (2 ^ 63) (omega arith) (omega (arith, ints))

pub clock_fits : (s d : ℤ) → unsigned_abs s < 2 ^ 32 → FitsSigned w64 d → FitsSigned w128 (s *ℤ d)
clock_fits s d h fits = let k = clock_small s d h fits in omega (arith, ints)

pub clock_sum_fits : (s d u : ℤ) → unsigned_abs s < 2 ^ 32 → FitsSigned w64 d → unsigned_abs u < 2 ^ 64 → FitsSigned w128 (s *ℤ d +ℤ u)
clock_sum_fits s d u h fits j = let k = clock_small s d h fits in omega (arith, ints)

-- where a step passes 128 bits, no sum is within 64
pub days_out : (d : ℤ) (p : TimestampParts) → unsigned_abs p.seconds < 2 ^ 32 → unsigned_abs p.subseconds < 2 ^ 64 → FitsSigned w64 d → ¬ FitsSigned w128 (p.days *ℤ (pos 86_400 *ℤ d)) → lies_in I64 (sum_of d p) ≡ false
days_out d p h j fits out = lies_out-I64 (sum_of d p) (λ held. out (let k = clock_small p.seconds d h fits in omega (arith, ints)))

sum_again : (a b c : ℤ) → a +ℤ (b +ℤ c) ≡ a +ℤ b +ℤ c
sum_again a b c = omega (arith, ints)

pub sum_out-128 : (d : ℤ) (p : TimestampParts) → ¬ FitsSigned w128 (p.days *ℤ (pos 86_400 *ℤ d) +ℤ (p.seconds *ℤ d +ℤ p.subseconds)) → lies_in I64 (sum_of d p) ≡ false
sum_out-128 d p out = lies_out-I64 (sum_of d p) (λ held. out (omega (arith, ints)))

pub sum_out-64 : (d : ℤ) (p : TimestampParts) → ¬ FitsSigned w64 (p.days *ℤ (pos 86_400 *ℤ d) +ℤ (p.seconds *ℤ d +ℤ p.subseconds)) → lies_in I64 (sum_of d p) ≡ false
sum_out-64 d p out = lies_out-I64 (sum_of d p) (λ held. out (subst (FitsSigned w64) (sym (sum_again (p.days *ℤ (pos 86_400 *ℤ d)) (p.seconds *ℤ d) p.subseconds)) held))

pub sum_same : (d : ℤ) (p : TimestampParts) → p.days *ℤ (pos 86_400 *ℤ d) +ℤ (p.seconds *ℤ d +ℤ p.subseconds) ≡ sum_of d p
sum_same d p = sum_again (p.days *ℤ (pos 86_400 *ℤ d)) (p.seconds *ℤ d) p.subseconds

-- ---- canonical parts

-- the products and sums of canonical parts fit 128 bits
pub days_fit : (d : ℤ) (p : TimestampParts) → unsigned_abs p.seconds < 2 ^ 32 → unsigned_abs p.subseconds < 2 ^ 64 → FitsSigned w64 d → lies_in I64 (sum_of d p) ≡ true → FitsSigned w128 (p.days *ℤ (pos 86_400 *ℤ d))
days_fit d p h j fits e = let held = fits-I64 (sum_of d p) e in let k = clock_small p.seconds d h fits in omega (arith, ints)

pub seconds_fit : (d : ℤ) (p : TimestampParts) → unsigned_abs p.seconds < 2 ^ 32 → unsigned_abs p.subseconds < 2 ^ 64 → lies_in I64 (sum_of d p) ≡ true → FitsSigned w128 (p.days *ℤ (pos 86_400 *ℤ d) +ℤ p.seconds *ℤ d)
seconds_fit d p h j e = let held = fits-I64 (sum_of d p) e in omega (arith, ints)
