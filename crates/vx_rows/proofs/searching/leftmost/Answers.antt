use Rattle.std.proofs.Common.{◌≡◌, ◌∙◌, Bool, ap, arith, drop, false, map, sym, ℕ}
use Rattle.vx_rows.specs.Items.{plain_item, starts}
use Rattle.vx_rows.proofs.SearchLemmas.{everywhere, first-fails, one-more, rest-of, too-far}
use Rattle.vx_rows.proofs.searching.leftmost.Goals.{else-fits-via-then-fits+else-starts_with, else-fits-via-else-fits}
use Rattle.vx_rows.proofs.searching.leftmost.Goals as goal

pub returns-then-text-piece-clause-there : goal.returns-then-text-piece-clause-there
returns-then-text-piece-clause-there g c = λ k. too-far plain_item g.C.Character.code c.args.piece.now c.args.text.now k (omega (arith, c.if-text-piece.true)) (omega (arith, c.if-text-piece.true))

pub returns-then-starts_with-clause-there : goal.returns-then-starts_with-clause-there
returns-then-starts_with-clause-there g c =
    sym (ap (starts (map plain_item c.args.piece.now)) (rest-of g.C.Character.code c.args.text.now c.loop-place.place)) ∙ sym c.starts_with.ensures ∙ c.if-starts_with.true

pub loop-place-preserved : goal.loop-place-preserved
loop-place-preserved g c =
    let piece = c.args.piece.now in
    let text = c.args.text.now in
    let place = c.loop-place.place in
    let fits : ℕ → Bool = λ k. starts (map plain_item piece) (drop k (map g.C.Character.code text)) in
    let there : fits place ≡ false =
    elim c.else-fits.branch [
      | else-fits-via-then-fits+else-starts_with w ↦ sym (ap (starts (map plain_item piece)) (rest-of g.C.Character.code text place)) ∙ sym w.starts_with.ensures ∙ w.if-starts_with.false
      | else-fits-via-else-fits w ↦ first-fails plain_item g.C.Character.code piece text place _ c.index-text-place.result (omega (arith, c.if-piece-eq0.false)) (omega (arith, c.if-piece-eq0.false, c.if-text-piece.false, c.loop-place-test.true)) c.index-text-place.is
          (c.wanted_by-first.ensures _ (sym c.fits.ensures ∙ w.if-fits.false))
    ] in
    one-more fits place c.loop-place.invariant there

pub returns-clause-there : goal.returns-clause-there
returns-clause-there g c =
    let piece = c.args.piece.now in
    let text = c.args.text.now in
    everywhere (λ k. starts (map plain_item piece) (drop k (map g.C.Character.code text))) c.loop-place.place c.loop-place.invariant
    (λ k l. too-far plain_item g.C.Character.code piece text k (omega (arith, c.if-piece-eq0.false)) (omega (arith, l, c.if-text-piece.false, c.loop-place-test.false)))
