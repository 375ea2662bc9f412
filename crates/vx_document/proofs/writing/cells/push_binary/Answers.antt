use Rattle.std.proofs.Common.{◌∙◌, ◌≤◌, length, sym, arith}
use Rattle.hex.specs.Hex.{encode_lower, lower_digits}
use Rattle.hex.proofs.HexLemmas.{length-encode_with}
use Rattle.json.specs.Print.{quoted}
use Rattle.vx_document.proofs.CappedTexts.{put_over}
use Rattle.vx_document.proofs.QuotedLengths.{quoted-least}
use Rattle.vx_document.proofs.writing.cells.push_binary.Goals as goal

pub returns-then-not-has_room : goal.returns-then-not-has_room
returns-then-not-has_room c =
    let bytes = c.args.bytes.now in
    let digits = length-encode_with lower_digits bytes in
    let least = quoted-least (encode_lower bytes) in
    let count = c.saturating_mul.result in
    let short : count ≤ length (quoted (encode_lower bytes)) = omega (arith, c.saturating_mul.ensures, digits, least) in
    let full = sym c.has_room.ensures ∙ c.if-not-has_room.true in
    c.end.ensures ∙ sym (put_over c.args.text.now count (quoted (encode_lower bytes)) short full)
