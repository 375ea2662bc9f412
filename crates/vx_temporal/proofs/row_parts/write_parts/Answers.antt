use Rattle.std.proofs.Common.{◌≡◌, ◌∙◌, ℤ, true, to_z, of_z, pos, get_or, length, sym, ap, arith}
use Rattle.std.specs.Int.{w64}
use Rattle.std.proofs.lemmas.Int.{to_z-of_z}
use Rattle.vx_base.specs.declared.error.VortexError.TheVariants.{DaysOutOfRange}
use Rattle.vx_base.specs.declared.ptype.PType.TheVariants.{I64}
use Rattle.vx_base.specs.Integers.{lies_in}
use Rattle.vx_time.proofs.Held.{fits-I64}
use Rattle.vx_time.specs.PartsOf.{parts_of}
use Rattle.vx_temporal.specs.SplitRows.{day_in, second_in, subsecond_in, has_day}
use Rattle.vx_temporal.proofs.SmallParts.{day-stored, second-stored, subsecond-stored}
use Rattle.vx_temporal.proofs.WrittenParts.{written-next, written-all, passes-next, passes-all, holds-at, decided-ok}
use Rattle.vx_temporal.proofs.row_parts.write_parts.Goals as goal

pub loop-row-preserved : goal.loop-row-preserved
loop-row-preserved g c =
    let d = to_z w64 g.row.D in
    let ts = c.args.rows.now in
    let i = c.loop-row.row in
    let lt = c.loop-row-test.true in
    let t = get_or ts i (pos 0) in
    let own : ℤ = to_z w64 (of_z w64 t) in
    let back : own ≡ t = to_z-of_z w64 t (fits-I64 t (holds-at (lies_in I64) ts i c.requires.held lt)) in
    let p = c.in-Ok.parts in
    let split = decided-ok (has_day d own) DaysOutOfRange (λ made. made ≡ parts_of d own) p (c.in-Ok.ensures {u = tt}) in
    let fits : has_day d t ≡ true = ap (has_day d) (sym back) ∙ split.0 in
    let is : p ≡ parts_of d t = split.1 ∙ ap (parts_of d) back in
    let inv = c.loop-row.invariant in
    record {
      fits = passes-next (has_day d) ts i lt fits inv.fits;
      days = written-next (day_in d) ts c.loop-row.days i _ lt (omega (arith, c.loop-row.auto.days, c.requires.days)) (day-stored d t p is fits) inv.days;
      seconds = written-next (second_in d) ts c.loop-row.seconds i _ lt (omega (arith, c.loop-row.auto.seconds, c.requires.seconds)) (second-stored d t p is c.requires.positive) inv.seconds;
      subseconds = written-next (subsecond_in d) ts c.loop-row.subseconds i _ lt (omega (arith, c.loop-row.auto.subseconds, c.requires.subseconds)) (subsecond-stored d t p is c.requires.positive c.requires.small) inv.subseconds;
    }

pub returns-clause-fits : goal.returns-clause-fits
returns-clause-fits g c = sym (passes-all (has_day (to_z w64 g.row.D)) c.args.rows.now c.loop-row.row c.loop-row-test.false c.loop-row.invariant.fits)

pub returns-clause-written : goal.returns-clause-written
returns-clause-written g c =
    let d = to_z w64 g.row.D in
    let ts = c.args.rows.now in
    let inv = c.loop-row.invariant in
    let end : c.loop-row.row ≡ length ts = omega (arith, c.loop-row-test.false, c.loop-row.auto.row-end) in
    λ done. record {
      days = written-all (day_in d) ts c.loop-row.days c.loop-row.row end inv.days;
      seconds = written-all (second_in d) ts c.loop-row.seconds c.loop-row.row end inv.seconds;
      subseconds = written-all (subsecond_in d) ts c.loop-row.subseconds c.loop-row.row end inv.subseconds;
    }
