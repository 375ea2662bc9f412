use Rattle.std.proofs.Common.{◌≡◌, ◌^◌, ◌<◌, ◌+ℤ◌, ◌*ℤ◌, ℤ, pos, ap, subst, sym, ◌∙◌, refl, FitsSigned, unsigned_abs, arith}
use Rattle.std.proofs.lemmas.Int.{ints, to_z-of_z}
use Rattle.std.specs.Int.{w64, w128}
use Rattle.vx_time.specs.PartsOf.{parts, sum_of}
use Rattle.vx_time.specs.declared.parts.TimestampParts.{TimestampParts}
use Rattle.vx_time.proofs.Canonicals.{IsCanonical, canonical_out}
use Rattle.vx_time.proofs.Decided.{clock_fits, days_fit, seconds_fit}
use Rattle.vx_time.proofs.Held.{fits-I64}
use Rattle.vx_time.proofs.Machine.{kept, day_product_fits, days_product, clock_product, sum_told}
use Rattle.vx_time.proofs.kernels.sum_of.Goals as goal

small_seconds : (d : ℤ) (p : TimestampParts) → IsCanonical d p → unsigned_abs p.seconds < 2 ^ 32
small_seconds d p h = omega (arith, h.seconds)

small_subseconds : (d : ℤ) (p : TimestampParts) → IsCanonical d p → FitsSigned w64 d → unsigned_abs p.subseconds < 2 ^ 64
small_subseconds d p h fits = let k = h.subseconds in omega (arith, ints)

-- the steps of the sum, each as the whole number that it is
record Steps (days s u f dd d : ℤ) : Type 0 where
  pub days_at : kept w128 days *ℤ kept w128 (kept w128 f *ℤ kept w128 dd) ≡ days *ℤ (pos 86_400 *ℤ d)
  pub days_fit : FitsSigned w128 (days *ℤ (pos 86_400 *ℤ d))
  pub clock_at : kept w128 s *ℤ kept w128 dd ≡ s *ℤ d
  pub clock_fit : FitsSigned w128 (s *ℤ d)
  pub both_at : kept w128 (kept w128 days *ℤ kept w128 (kept w128 f *ℤ kept w128 dd)) +ℤ kept w128 (kept w128 s *ℤ kept w128 dd) ≡ days *ℤ (pos 86_400 *ℤ d) +ℤ s *ℤ d
  pub both_fit : FitsSigned w128 (days *ℤ (pos 86_400 *ℤ d) +ℤ s *ℤ d)
  pub sum_at : kept w128 (kept w128 (kept w128 days *ℤ kept w128 (kept w128 f *ℤ kept w128 dd)) +ℤ kept w128 (kept w128 s *ℤ kept w128 dd)) +ℤ kept w128 u ≡ sum_of d (parts days s u)
  pub sum_fit : FitsSigned w64 (sum_of d (parts days s u))

steps : (days s u f dd d : ℤ) → FitsSigned w128 days → FitsSigned w128 s → FitsSigned w128 u → FitsSigned w64 d → f ≡ pos 86_400 → dd ≡ kept w64 d → IsCanonical d (parts days s u) → Steps days s u f dd d
steps days s u f dd d g1 g2 g3 fits p e h =
    let q = parts days s u in
    let small = small_seconds d q h in
    let tiny = small_subseconds d q h fits in
    let days_at = days_product days f dd d g1 p e fits in
    let days_in = days_fit d q small tiny fits h.held in
    let clock_at = clock_product s dd d g2 e fits in
    let clock_in = clock_fits s d small fits in
    let both_at = sum_told _ _ (days *ℤ (pos 86_400 *ℤ d)) (s *ℤ d) days_at days_in clock_at clock_in in
    let both_in = seconds_fit d q small tiny h.held in
    record {
      days_at = days_at;
      days_fit = days_in;
      clock_at = clock_at;
      clock_fit = clock_in;
      both_at = both_at;
      both_fit = both_in;
      sum_at = sum_told _ u (days *ℤ (pos 86_400 *ℤ d) +ℤ s *ℤ d) u both_at both_in refl g3;
      sum_fit = fits-I64 (sum_of d q) h.held;
    }

wide : (z : ℤ) → FitsSigned w64 z → FitsSigned w128 z
wide z h = omega (arith, ints)

pub overflow_mul-result : goal.overflow_mul-result
overflow_mul-result c = day_product_fits c.from.result c.from-divisor.result c.args.divisor c.from.ensures c.from-divisor.ensures c.ranges.divisor

pub overflow_mul-result-2 : goal.overflow_mul-result-2
overflow_mul-result-2 c =
    let s = steps c.args.days c.args.seconds c.args.subseconds c.from.result c.from-divisor.result c.args.divisor c.ranges.days c.ranges.seconds c.ranges.subseconds c.ranges.divisor c.from.ensures c.from-divisor.ensures (canonical_out _ _ c.requires) in
    subst (FitsSigned w128) (sym s.days_at) s.days_fit

pub overflow_mul-result-3 : goal.overflow_mul-result-3
overflow_mul-result-3 c =
    let s = steps c.args.days c.args.seconds c.args.subseconds c.from.result c.from-divisor.result c.args.divisor c.ranges.days c.ranges.seconds c.ranges.subseconds c.ranges.divisor c.from.ensures c.from-divisor.ensures (canonical_out _ _ c.requires) in
    subst (FitsSigned w128) (sym s.clock_at) s.clock_fit

pub overflow_add-result : goal.overflow_add-result
overflow_add-result c =
    let s = steps c.args.days c.args.seconds c.args.subseconds c.from.result c.from-divisor.result c.args.divisor c.ranges.days c.ranges.seconds c.ranges.subseconds c.ranges.divisor c.from.ensures c.from-divisor.ensures (canonical_out _ _ c.requires) in
    subst (FitsSigned w128) (sym s.both_at) s.both_fit

pub overflow_add-result-2 : goal.overflow_add-result-2
overflow_add-result-2 c =
    let s = steps c.args.days c.args.seconds c.args.subseconds c.from.result c.from-divisor.result c.args.divisor c.ranges.days c.ranges.seconds c.ranges.subseconds c.ranges.divisor c.from.ensures c.from-divisor.ensures (canonical_out _ _ c.requires) in
    subst (FitsSigned w128) (sym s.sum_at) (wide _ s.sum_fit)

pub overflow_cast-result : goal.overflow_cast-result
overflow_cast-result c =
    let s = steps c.args.days c.args.seconds c.args.subseconds c.from.result c.from-divisor.result c.args.divisor c.ranges.days c.ranges.seconds c.ranges.subseconds c.ranges.divisor c.from.ensures c.from-divisor.ensures (canonical_out _ _ c.requires) in
    subst (FitsSigned w64) (sym (ap (kept w128) s.sum_at ∙ to_z-of_z w128 _ (wide _ s.sum_fit))) s.sum_fit

pub returns : goal.returns
returns c =
    let s = steps c.args.days c.args.seconds c.args.subseconds c.from.result c.from-divisor.result c.args.divisor c.ranges.days c.ranges.seconds c.ranges.subseconds c.ranges.divisor c.from.ensures c.from-divisor.ensures (canonical_out _ _ c.requires) in
    ap (kept w64) (ap (kept w128) s.sum_at ∙ to_z-of_z w128 _ (wide _ s.sum_fit)) ∙ to_z-of_z w64 _ s.sum_fit
