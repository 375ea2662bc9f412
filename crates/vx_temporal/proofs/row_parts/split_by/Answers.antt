use Rattle.std.proofs.Common.{subst, sym, ap, ◌∙◌, FitsSigned, to_z, ℤ, pos, ◌≤ℤ◌, ◌<ℤ◌, ◌≡◌, int_div, int_rem, arith}
use Rattle.std.proofs.lemmas.Int.{ints, to_z-of_z}
use Rattle.std.specs.Int.{w32, w64}
use Rattle.vx_time.proofs.Decided.{split_made, split_refused}
use Rattle.vx_time.proofs.Machine.{kept, days_is, seconds_is, subseconds_is}
use Rattle.vx_temporal.proofs.row_parts.split_by.Goals as goal

-- the quotients and remainders by a constant, which isn't converted on the way
module _ (t d : ℤ) (held : FitsSigned w64 t) (some : pos 0 <ℤ d) (few : d ≤ℤ pos 1_000_000_000) where
  unit_fits : FitsSigned w64 d
  unit_fits = omega (arith, ints)

  back : d ≡ kept w64 d
  back = sym (to_z-of_z w64 d unit_fits)

  days-by : kept w64 (int_div (kept w64 (int_div (kept w64 t) d)) (pos 86_400)) ≡ int_div (int_div t d) (pos 86_400)
  days-by = ap (λ m. kept w64 (int_div (kept w64 (int_div (kept w64 t) m)) (pos 86_400))) back ∙ days_is t d held unit_fits some

  seconds-by : kept w32 (kept w64 (int_rem (kept w64 (int_div (kept w64 t) d)) (pos 86_400))) ≡ int_rem (int_div t d) (pos 86_400)
  seconds-by = ap (λ m. kept w32 (kept w64 (int_rem (kept w64 (int_div (kept w64 t) m)) (pos 86_400)))) back ∙ seconds_is t d held unit_fits some

  subseconds-by : kept w32 (kept w64 (int_rem (kept w64 t) d)) ≡ int_rem t d
  subseconds-by = ap (λ m. kept w32 (kept w64 (int_rem (kept w64 t) m))) back ∙ subseconds_is t d held unit_fits some few

pub returns-in_default : goal.returns-in_default
returns-in_default g c =
    let t = c.args.timestamp in
    let d = to_z w64 g.row.D in
    let days = days-by t d c.ranges.timestamp c.requires.positive c.requires.small in
    split_refused d t c.requires.positive (λ held. c.in_default.ensures {u = tt} (subst (FitsSigned w32) (sym days) held))

pub returns : goal.returns
returns g c =
    let t = c.args.timestamp in
    let d = to_z w64 g.row.D in
    let ok = c.in-Ok.ensures {u = tt} in
    let days = days-by t d c.ranges.timestamp c.requires.positive c.requires.small in
    let fits = subst (FitsSigned w32) (sym ok.1) ok.0 in
    let day = to_z-of_z w32 c.in-Ok.days fits in
    split_made d t _ _ _ c.requires.positive (subst (FitsSigned w32) (sym day) fits) (day ∙ ok.1 ∙ days)
    (seconds-by t d c.ranges.timestamp c.requires.positive c.requires.small)
    (subseconds-by t d c.ranges.timestamp c.requires.positive c.requires.small)
