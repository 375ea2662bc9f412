use Rattle.std.proofs.Common.{◌+◌, arith, length, map}
use Rattle.vx_rows.specs.Items.{plain_item}
use Rattle.vx_rows.proofs.SearchLemmas.{found, length-plain, missed}
use Rattle.vx_rows.proofs.searching.behind_leftmost.Goals as goal

pub returns-in-None-clause-same : goal.returns-in-None-clause-same
returns-in-None-clause-same g c = λ rest. missed (map plain_item c.args.piece.now) rest c.requires (map g.C.Character.code c.args.text.now) c.in-None.ensures.there

pub returns-in-Some-clause-same : goal.returns-in-Some-clause-same
returns-in-Some-clause-same g c = λ rest.
    let piece = c.args.piece.now in
    found (map plain_item piece) rest c.requires c.in-Some.place (c.in-Some.place + length piece) (map g.C.Character.code c.args.text.now) (omega (arith, length-plain plain_item piece)) c.in-Some.ensures.there c.in-Some.ensures.before
