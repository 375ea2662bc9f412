use Rattle.std.proofs.Common.{◌≡◌, ◌≤◌, ◌++◌, arith, false, get_or, length, subst}
use Rattle.std.specs.Prelude.{nat_le}
use Rattle.std.proofs.lemmas.Bool.{and_parts, leb-true}
use Rattle.vx_base.specs.Masks.{rows_between}
use Rattle.vx_base.specs.PlainValue.{null}
use Rattle.vx_model.specs.Rows.{masked_rows}
use Rattle.vx_pieces.specs.Pieces.{Gives}
use Rattle.vx_pieces.proofs.WithinLemmas.{gives-run}
use Rattle.vx_pieces.proofs.within.add_part.Goals as goal

pub loop-row-preserved : goal.loop-row-preserved
loop-row-preserved c =
    let mask = c.args.mask.now in
    let start = c.args.start in
    let row = c.loop-row.row in
    let next = c.run_end-next.result in
    let before = c.loop-row.invariant in
    let bound : c.args.end ≤ length mask = leb-true _ _ (and_parts (nat_le start c.args.end) (nat_le c.args.end (length mask)) c.requires).1 in
    let rising : row ≤ next = omega (arith, c.run_end-next.ensures.rising) in
    let within : next ≤ length mask = omega (arith, c.run_end-next.ensures.within, bound) in (
      omega (arith, before.0, rising),
      omega (arith, c.run_end-next.ensures.within),
      λ values rows e g.
          let masked = masked_rows mask values in
          let inside : next ≤ length values = omega (arith, within, e) in
          gives-run c.add_run.new.out.items mask values rows start row next (get_or mask row false) e before.0 rising within c.run_end-next.ensures.run
          (c.in_ok-add_run.ensures values (rows ++ rows_between masked start row) inside (before.2 values rows e g)),
    )

pub returns : goal.returns
returns c = λ values rows e g.
    let last : c.loop-row.row ≡ c.args.end = omega (arith, c.loop-row.invariant.1, c.loop-row-test.false) in
    subst (λ row. Gives null c.loop-row.out.items values (rows ++ rows_between (masked_rows c.args.mask.now values) c.args.start row)) last (c.loop-row.invariant.2 values rows e g)
