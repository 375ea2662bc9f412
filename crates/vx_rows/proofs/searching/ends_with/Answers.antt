use Rattle.std.proofs.Common.{◌∙◌, ◌-◌, ap, arith, length, map, sym}
use Rattle.std.proofs.lemmas.List.{length-map}
use Rattle.vx_rows.specs.Items.{plain_item, starts}
use Rattle.vx_rows.proofs.SearchLemmas.{at-end, length-plain, rest-of, too-short}
use Rattle.vx_rows.proofs.searching.ends_with.Goals as goal

pub returns-then-text-piece : goal.returns-then-text-piece
returns-then-text-piece g c =
    let piece = c.args.piece.now in
    let text = c.args.text.now in
    let code = g.C.Character.code in
    sym (too-short (map plain_item piece) (map code text) c.requires (omega (arith, length-plain plain_item piece, length-map text code, c.if-text-piece.true)))

pub returns : goal.returns
returns g c =
    let piece = c.args.piece.now in
    let text = c.args.text.now in
    let code = g.C.Character.code in
    let first = length text - length piece in
    c.starts_with.ensures ∙ ap (starts (map plain_item piece)) (rest-of code text first)
    ∙ sym (at-end (map plain_item piece) (map code text) first c.requires (omega (arith, length-plain plain_item piece, length-map text code, c.if-text-piece.false)))
