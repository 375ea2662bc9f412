-- Parts fit 32 signed bits: the days where they are tested, the others always.
use Rattle.std.proofs.Common.{◌≡◌, ◌∙◌, ◌^◌, ℤ, pos, negsuc, ◌<ℤ◌, ◌≤ℤ◌, true, ap, sym, subst, FitsSigned, int_div, arith, to_z, of_z}
use Rattle.std.proofs.lemmas.Bool.{ltb-true}
use Rattle.std.proofs.lemmas.Int.{ints, rem_below, to_z-of_z}
use Rattle.std.specs.Int.{w32}
use Rattle.vx_base.specs.declared.ptype.PType.TheVariants.{I32}
use Rattle.vx_base.specs.Integers.{lies_in}
use Rattle.vx_time.specs.declared.parts.TimestampParts.{TimestampParts}
use Rattle.vx_time.specs.PartsOf.{parts_of}
use Rattle.vx_time.proofs.Rounding.{parts_by_rem}
use Rattle.vx_temporal.specs.SplitRows.{day_in, second_in, subsecond_in, has_day}

fits-I32 : (z : ℤ) → lies_in I32 z ≡ true → FitsSigned w32 z
fits-I32 (pos n) e = record { sfits = ltb-true n (2 ^ 31) e }
fits-I32 (negsuc n) e = record { sfits = ltb-true n (2 ^ 31) e }

pub second-small : (d t : ℤ) → pos 0 <ℤ d → FitsSigned w32 (second_in d t)
second-small (pos k) t some = subst (λ p. FitsSigned w32 (p.seconds)) (sym (parts_by_rem t k)) (let lt = rem_below (int_div t (pos k)) (pos 86_400) (omega arith) in omega (arith, ints))
second-small (negsuc k) t some = absurd some.lt

pub subsecond-small : (d t : ℤ) → pos 0 <ℤ d → d ≤ℤ pos 1_000_000_000 → FitsSigned w32 (subsecond_in d t)
subsecond-small (pos k) t some few = subst (λ p. FitsSigned w32 (p.subseconds)) (sym (parts_by_rem t k)) (let lt = rem_below t (pos k) (omega (arith, ints)) in omega (arith, ints))
subsecond-small (negsuc k) t some few = absurd some.lt

-- what stands in 32 bits is the part
module _ (d t : ℤ) (p : TimestampParts) (is : p ≡ parts_of d t) where
  pub day-stored : has_day d t ≡ true → to_z w32 (of_z w32 p.days) ≡ day_in d t
  day-stored held = ap (λ q. to_z w32 (of_z w32 q.days)) is ∙ to_z-of_z w32 (day_in d t) (fits-I32 (day_in d t) held)

  pub second-stored : pos 0 <ℤ d → to_z w32 (of_z w32 p.seconds) ≡ second_in d t
  second-stored some = ap (λ q. to_z w32 (of_z w32 q.seconds)) is ∙ to_z-of_z w32 (second_in d t) (second-small d t some)

  pub subsecond-stored : pos 0 <ℤ d → d ≤ℤ pos 1_000_000_000 → to_z w32 (of_z w32 p.subseconds) ≡ subsecond_in d t
  subsecond-stored some few = ap (λ q. to_z w32 (of_z w32 q.subseconds)) is ∙ to_z-of_z w32 (subsecond_in d t) (subsecond-small d t some few)
