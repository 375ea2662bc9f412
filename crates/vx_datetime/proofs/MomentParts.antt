-- The parts of a timestamp of 64 bits, as the machine's steps give them; the days may pass 32 bits.
use Rattle.std.proofs.Common.{◌≡◌, ◌∙◌, ◌<◌, ℤ, pos, negsuc, ◌<ℤ◌, FitsSigned, sym, ap, arith, unsigned_abs, int_div, int_rem}
use Rattle.std.proofs.lemmas.Int.{ints, quot_fits, rem_below, rem_is, to_z-of_z}
use Rattle.std.specs.Int.{w64, w128}
use Rattle.vx_time.specs.declared.parts.TimestampParts.{TimestampParts}
use Rattle.vx_time.specs.PartsOf.{parts, parts_of}
use Rattle.vx_time.proofs.Machine.{days_is, kept, whole_is}
use Rattle.vx_time.proofs.Rounding.{parts_by_rem}

module _ (t d : ℤ) (t_fits : FitsSigned w64 t) (d_fits : FitsSigned w64 d) (some : pos 0 <ℤ d) where
  seconds-is : kept w64 (int_rem (kept w64 (int_div (kept w64 t) (kept w64 d))) (pos 86_400)) ≡ int_rem (int_div t d) (pos 86_400)
  seconds-is =
      let small : unsigned_abs (int_rem (int_div t d) (pos 86_400)) < 86_400 = rem_below (int_div t d) (pos 86_400) (omega arith) in
      ap (λ x. kept w64 (int_rem x (pos 86_400))) (whole_is t d t_fits d_fits some)
      ∙ to_z-of_z w64 (int_rem (int_div t d) (pos 86_400)) (omega (arith, ints))

  wide : (x z : ℤ) → x ≡ z → FitsSigned w64 z → kept w128 x ≡ z
  wide x z e fits = ap (kept w128) e ∙ to_z-of_z w128 z (omega (arith, ints))

  days-fit : FitsSigned w64 (int_div (int_div t d) (pos 86_400))
  days-fit = quot_fits w64 (int_div t d) (pos 86_400) (quot_fits w64 t d t_fits some) (omega (arith, ints))

  seconds-fit : FitsSigned w64 (int_rem (int_div t d) (pos 86_400))
  seconds-fit = let small = rem_below (int_div t d) (pos 86_400) (omega arith) in omega (arith, ints)

  subseconds-fit : FitsSigned w64 (int_rem t d)
  subseconds-fit = let small = rem_below t d (omega (arith, ints)) in omega (arith, ints)

  pub moment-made : (days seconds subseconds : ℤ) → days ≡ kept w64 (int_div (kept w64 (int_div (kept w64 t) (kept w64 d))) (pos 86_400))
      → seconds ≡ kept w64 (int_rem (kept w64 (int_div (kept w64 t) (kept w64 d))) (pos 86_400)) → subseconds ≡ kept w64 (int_rem (kept w64 t) (kept w64 d))
      → parts (kept w128 days) (kept w128 seconds) (kept w128 subseconds) ≡ parts (int_div (int_div t d) (pos 86_400)) (int_rem (int_div t d) (pos 86_400)) (int_rem t d)
  moment-made days seconds subseconds e f g = λ i. parts
      (wide days _ (e ∙ days_is t d t_fits d_fits some) days-fit i)
      (wide seconds _ (f ∙ seconds-is) seconds-fit i)
      (wide subseconds _ (g ∙ rem_is w64 t d t_fits d_fits) subseconds-fit i)

-- those are the parts of the timestamp
pub moment-is : (t d : ℤ) (p : TimestampParts) → pos 0 <ℤ d → p ≡ parts (int_div (int_div t d) (pos 86_400)) (int_rem (int_div t d) (pos 86_400)) (int_rem t d) → p ≡ parts_of d t
moment-is t (pos k) p some e = e ∙ sym (parts_by_rem t k)
moment-is t (negsuc k) p some e = absurd some.lt
