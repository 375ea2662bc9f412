use Rattle.std.proofs.Common.{sym, option_map}
use Rattle.std.specs.Prelude.{is_none}
use Rattle.vx_model.specs.Refusals.{bit_packed_refusal, kept_packed}
use Rattle.vx_model.specs.Tree.{plain_packed, packed_of}
use Rattle.vx_spelling.specs.PackedParts.{packed_from, packed_ok}
use Rattle.vx_file.specs.Made.{flat_parts_of}
use Rattle.vx_file.proofs.MakeSteps.{is_made, is_refused}
use Rattle.vx_file.proofs.reading.packed.make_bit_packed.Goals as goal

pub returns-in-Ok : goal.returns-in-Ok
returns-in-Ok c =
    let h = c.args.head in
    let rows = c.args.rows in
    let width = c.from-width.result in
    let same = sym c.from-width.ensures in
    let k = plain_packed h.0.0 width rows.0 h.1.1 rows.1 h.0.1 in
    let p = c.args.patches in
    let flat = c.requires.flat in
    let kept = c.requires.kept in
    is_made (bit_packed_refusal k p) packed_ok packed_from ((h, rows), option_map flat_parts_of p) c.args.rest.now (packed_of (kept_packed k) p) (rows.0, rows.1, p) c.in-Ok.tree
    (λ i. is_none (bit_packed_refusal (plain_packed h.0.0 (same i) rows.0 h.1.1 rows.1 h.0.1) (flat i))) (λ i. packed_of (plain_packed h.0.0 (c.from-width.ensures i) rows.0 h.1.1 (kept i) h.0.1) (sym flat i)) c.in-Ok.ensures

pub returns-in-Err : goal.returns-in-Err
returns-in-Err c =
    let h = c.args.head in
    let rows = c.args.rows in
    let width = c.from-width.result in
    let same = sym c.from-width.ensures in
    let k = plain_packed h.0.0 width rows.0 h.1.1 rows.1 h.0.1 in
    let p = c.args.patches in
    let flat = c.requires.flat in
    is_refused (bit_packed_refusal k p) packed_ok packed_from ((h, rows), option_map flat_parts_of p) c.args.rest.now (packed_of (kept_packed k) p) (rows.0, rows.1, p) c.in-Err.refused c.refusal.result
    (λ i. is_none (bit_packed_refusal (plain_packed h.0.0 (same i) rows.0 h.1.1 rows.1 h.0.1) (flat i))) c.refusal.ensures c.in-Err.ensures
