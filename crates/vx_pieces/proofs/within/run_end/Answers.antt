use Rattle.std.proofs.Common.{rules, ◌≡◌, ◌<◌, ◌≤◌, arith, false, get_or, length}
use Rattle.vx_pieces.proofs.WithinLemmas.{run-first, run-next}
use Rattle.vx_pieces.proofs.within.run_end.Goals as goal

pub loop-row-init : goal.loop-row-init
loop-row-init c = (omega arith, omega (arith, c.requires.some), run-first c.args.mask.now c.args.start (omega (arith, c.requires.some, c.requires.within)))

pub loop-row-preserved : goal.loop-row-preserved
loop-row-preserved c =
    let mask = c.args.mask.now in
    let start = c.args.start in
    let row = c.loop-row.row in
    let before = c.loop-row.invariant in
    let same : get_or mask row false ≡ get_or mask start false = search rules in
    let rising : start ≤ row = omega (arith, before.0) in
    let within : row < length mask = omega (arith, c.loop-row-test.true, c.requires.within) in
    (omega (arith, before.0), omega (arith, c.loop-row-test.true), run-next mask start row (get_or mask start false) rising within same before.2)
