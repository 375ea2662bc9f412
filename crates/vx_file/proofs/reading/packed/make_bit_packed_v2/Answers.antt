use Rattle.std.proofs.Common.{sym, ap, option_map}
use Rattle.std.specs.Prelude.{is_none}
use Rattle.vx_model.specs.Refusals.{bit_packed_v2_refusal, kept_blocks}
use Rattle.vx_model.specs.Tree.{plain_blocks, blocks_of}
use Rattle.vx_spelling.specs.PackedParts.{BlocksFields, blocks_from, blocks_ok, plain_blocks_of}
use Rattle.vx_file.specs.Made.{flat_parts_of}
use Rattle.vx_file.proofs.MakeSteps.{is_made, is_refused}
use Rattle.vx_file.proofs.reading.packed.make_bit_packed_v2.Goals as goal

pub returns-in-Ok : goal.returns-in-Ok
returns-in-Ok c =
    let h = c.args.head in
    let rows = c.args.rows in
    let fields : BlocksFields = (h, rows) in
    let k = plain_blocks_of fields in
    let p = c.args.patches in
    let flat = c.requires.flat in
    let kept = c.requires.kept in
    is_made (bit_packed_v2_refusal k rows.0 p) blocks_ok blocks_from (fields, option_map flat_parts_of p) c.args.rest.now (blocks_of (kept_blocks k) rows.0 p) (rows.1.0, rows.0, rows.1.1, p) c.in-Ok.tree
    (ap (λ q. is_none (bit_packed_v2_refusal k rows.0 q)) flat) (λ i. blocks_of (plain_blocks h.0.0 rows.1.0 h.1 (kept i) h.0.1) rows.0 (sym flat i)) c.in-Ok.ensures

pub returns-in-Err : goal.returns-in-Err
returns-in-Err c =
    let rows = c.args.rows in
    let fields : BlocksFields = (c.args.head, rows) in
    let k = plain_blocks_of fields in
    let p = c.args.patches in
    is_refused (bit_packed_v2_refusal k rows.0 p) blocks_ok blocks_from (fields, option_map flat_parts_of p) c.args.rest.now (blocks_of (kept_blocks k) rows.0 p) (rows.1.0, rows.0, rows.1.1, p) c.in-Err.refused c.refusal.result
    (ap (λ q. is_none (bit_packed_v2_refusal k rows.0 q)) c.requires.flat) c.refusal.ensures c.in-Err.ensures
