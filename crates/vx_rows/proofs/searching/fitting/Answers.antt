use Rattle.std.proofs.Common.{◌∙◌, ◌+◌, ap, arith, map, refl, sym}
use Rattle.std.proofs.lemmas.List.{length-map}
use Rattle.vx_rows.specs.Items.{plain_item}
use Rattle.vx_rows.proofs.PrefixLemmas.{first-refused, first-run, first-taken, taken_by}
use Rattle.vx_rows.proofs.searching.fitting.Goals.{in-AnyChar, in-Exactly}
use Rattle.vx_rows.proofs.searching.fitting.Goals as goal

pub returns-then-not-fits_at-clause-same : goal.returns-then-not-fits_at-clause-same
returns-then-not-fits_at-clause-same g c =
    let wanted = c.match-items-place.wanted in
    first-refused wanted plain_item c.args.items.now (map g.C.Character.code c.args.text.now) c.loop-place.place _ c.loop-place-test.true
    (elim c.match-items-place.branch [ in-AnyChar w ↦ ap plain_item w.in-AnyChar.is ∙ sym (ap taken_by w.wanted-is) | in-Exactly w ↦ ap plain_item w.in-Exactly.is ∙ sym (ap taken_by w.wanted-is) ])
    _ _ c.fits_at.ensures c.if-not-fits_at.true c.loop-place.invariant.same

pub loop-place-preserved : goal.loop-place-preserved
loop-place-preserved g c =
    let wanted = c.match-items-place.wanted in
    let s = first-taken wanted plain_item c.args.items.now (map g.C.Character.code c.args.text.now) c.loop-place.place _ c.loop-place-test.true
    (elim c.match-items-place.branch [ in-AnyChar w ↦ ap plain_item w.in-AnyChar.is ∙ sym (ap taken_by w.wanted-is) | in-Exactly w ↦ ap plain_item w.in-Exactly.is ∙ sym (ap taken_by w.wanted-is) ])
    _ _ (c.loop-place.place + 1) refl c.fits_at.ensures c.if-not-fits_at.false c.loop-place.invariant.same in
    record { in_text = omega (arith, s.in_text, length-map c.args.text.now g.C.Character.code); same = s.same }

pub returns-in-AnyRun-clause-run : goal.returns-in-AnyRun-clause-run
returns-in-AnyRun-clause-run g c = λ h. first-run plain_item c.args.items.now c.loop-place.place (c.loop-place.place + 1) _ h refl (ap plain_item c.in-AnyRun.is)
