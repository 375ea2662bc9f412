-- What the machine's conversions leave of a number that fits, and what its steps come to.
use Rattle.std.proofs.Common.{◌≡◌, ◌<◌, false, ℤ, pos, ◌+ℤ◌, ◌*ℤ◌, ◌<ℤ◌, ◌≤ℤ◌, Option, None, Result, Ok, Err, is_some, IfSome, FitsSigned, to_z, of_z, ap, sym, subst, ◌∙◌, arith, unsigned_abs, int_div, int_rem}
use Rattle.std.proofs.lemmas.Int.{ints, to_z-of_z, quot_is, quot_fits, rem_is, rem_below}
use Rattle.std.specs.Int.{Width, w32, w64, w128}
use Rattle.std.specs.Result.{OkIff, result_ok}
use Rattle.vx_base.specs.declared.ptype.PType.TheVariants.{I64}
use Rattle.vx_base.specs.Integers.{lies_in}
use Rattle.vx_time.proofs.Held.{lies_in-I64, lies_out-I64}

-- a number, converted to its bits and back
abbrev pub kept : Width → ℤ → ℤ
kept w z = to_z w (of_z w z)

pub kept_wide : (d : ℤ) → FitsSigned w64 d → kept w128 (kept w64 d) ≡ d
kept_wide d fits = ap (kept w128) (to_z-of_z w64 d fits) ∙ to_z-of_z w128 d (omega (arith, ints))

-- ---- quotients and remainders

small_day : (w : ℤ) → unsigned_abs (int_rem w (pos 86_400)) < 86_400
small_day w = rem_below w (pos 86_400) (omega arith)

pub whole_is : (t d : ℤ) → FitsSigned w64 t → FitsSigned w64 d → pos 0 <ℤ d → kept w64 (int_div (kept w64 t) (kept w64 d)) ≡ int_div t d
whole_is t d f g h = quot_is w64 t d f g (quot_fits w64 t d f h)

pub days_is : (t d : ℤ) → FitsSigned w64 t → FitsSigned w64 d → pos 0 <ℤ d → kept w64 (int_div (kept w64 (int_div (kept w64 t) (kept w64 d))) (pos 86_400)) ≡ int_div (int_div t d) (pos 86_400)
days_is t d f g h =
    ap (λ x. kept w64 (int_div x (pos 86_400))) (whole_is t d f g h)
    ∙ to_z-of_z w64 (int_div (int_div t d) (pos 86_400)) (quot_fits w64 (int_div t d) (pos 86_400) (quot_fits w64 t d f h) (omega (arith, ints)))

pub seconds_is : (t d : ℤ) → FitsSigned w64 t → FitsSigned w64 d → pos 0 <ℤ d → kept w32 (kept w64 (int_rem (kept w64 (int_div (kept w64 t) (kept w64 d))) (pos 86_400))) ≡ int_rem (int_div t d) (pos 86_400)
seconds_is t d f g h =
    let small = small_day (int_div t d) in
    ap (λ x. kept w32 (kept w64 (int_rem x (pos 86_400)))) (whole_is t d f g h)
    ∙ ap (kept w32) (to_z-of_z w64 (int_rem (int_div t d) (pos 86_400)) (omega (arith, ints)))
    ∙ to_z-of_z w32 (int_rem (int_div t d) (pos 86_400)) (omega (arith, ints))

pub subseconds_is : (t d : ℤ) → FitsSigned w64 t → FitsSigned w64 d → pos 0 <ℤ d → d ≤ℤ pos 1_000_000_000 → kept w32 (kept w64 (int_rem (kept w64 t) (kept w64 d))) ≡ int_rem t d
subseconds_is t d f g h most =
    let small = rem_below t d (omega (arith, ints)) in
    ap (kept w32) (rem_is w64 t d f g) ∙ to_z-of_z w32 (int_rem t d) (omega (arith, ints))

-- ---- products and sums of 128 bits. dd is the divisor, widened, and f the seconds of a day

pub divisor_is : (dd d : ℤ) → dd ≡ kept w64 d → FitsSigned w64 d → kept w128 dd ≡ d
divisor_is dd d e fits = ap (kept w128) e ∙ kept_wide d fits

day_seconds_is : (f : ℤ) → f ≡ pos 86_400 → kept w128 f ≡ pos 86_400
day_seconds_is f e = ap (kept w128) e ∙ to_z-of_z w128 (pos 86_400) (omega (arith, ints))

pub day_product : (f dd d : ℤ) → f ≡ pos 86_400 → dd ≡ kept w64 d → FitsSigned w64 d → kept w128 f *ℤ kept w128 dd ≡ pos 86_400 *ℤ d
day_product f dd d p e fits = λ i. day_seconds_is f p i *ℤ divisor_is dd d e fits i

day_fits : (d : ℤ) → FitsSigned w64 d → FitsSigned w128 (pos 86_400 *ℤ d)
day_fits d fits = omega (arith, ints)

pub day_product_fits : (f dd d : ℤ) → f ≡ pos 86_400 → dd ≡ kept w64 d → FitsSigned w64 d → FitsSigned w128 (kept w128 f *ℤ kept w128 dd)
day_product_fits f dd d p e fits = subst (FitsSigned w128) (sym (day_product f dd d p e fits)) (day_fits d fits)

pub days_product : (days f dd d : ℤ) → FitsSigned w128 days → f ≡ pos 86_400 → dd ≡ kept w64 d → FitsSigned w64 d → kept w128 days *ℤ kept w128 (kept w128 f *ℤ kept w128 dd) ≡ days *ℤ (pos 86_400 *ℤ d)
days_product days f dd d g p e fits =
    let day = ap (kept w128) (day_product f dd d p e fits) ∙ to_z-of_z w128 (pos 86_400 *ℤ d) (day_fits d fits) in
    λ i. to_z-of_z w128 days g i *ℤ day i

pub clock_product : (s dd d : ℤ) → FitsSigned w128 s → dd ≡ kept w64 d → FitsSigned w64 d → kept w128 s *ℤ kept w128 dd ≡ s *ℤ d
clock_product s dd d g e fits = λ i. to_z-of_z w128 s g i *ℤ divisor_is dd d e fits i

-- a sum of two that are told
pub sum_told : (x y a b : ℤ) → x ≡ a → FitsSigned w128 a → y ≡ b → FitsSigned w128 b → kept w128 x +ℤ kept w128 y ≡ a +ℤ b
sum_told x y a b p f q g =
    let left = ap (kept w128) p ∙ to_z-of_z w128 a f in
    let right = ap (kept w128) q ∙ to_z-of_z w128 b g in
    λ i. left i +ℤ right i

-- ---- the answer of a checked sum

pub none_told : (r : Option ℤ) (s : ℤ) → r ≡ None → lies_in I64 s ≡ false → is_some r ≡ lies_in I64 s
none_told r s e out = ap is_some e ∙ sym out

pub ok_told : {E : Type 0} (r : Result ℤ E) (o : Option ℤ) (v s : ℤ) → o ≡ result_ok r → OkIff r (FitsSigned w64 v) v → v ≡ s → (is_some o ≡ lies_in I64 s) × IfSome o (λ x. x ≡ s)
ok_told (Ok x) o v s e h f =
    let held = lies_in-I64 s (subst (FitsSigned w64) f h.0) in
    (ap is_some e ∙ sym held, subst (λ q. IfSome q (λ x. x ≡ s)) (sym e) (h.1 ∙ f))
ok_told (Err x) o v s e h f =
    let out = lies_out-I64 s (λ fits. h (subst (FitsSigned w64) (sym f) fits)) in
    (ap is_some e ∙ sym out, subst (λ q. IfSome q (λ x. x ≡ s)) (sym e) tt)
