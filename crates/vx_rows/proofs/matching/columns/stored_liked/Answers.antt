use Rattle.std.proofs.Common.{◌<◌, ◌∙◌, ap, arith, length, map, sym}
use Rattle.std.proofs.lemmas.List.{length-set}
use Rattle.vx_base.specs.PlainValue.{bytes, truth}
use Rattle.vx_model.proofs.FrameOfReferenceLemmas.{row_passes}
use Rattle.vx_model.specs.Rows.{valid_rows}
use Rattle.vx_rows.specs.Items.{plain_item}
use Rattle.vx_rows.specs.Texts.{has_text}
use Rattle.vx_rows.proofs.LentLemmas.{length-bytes, row_at-bytes}
use Rattle.vx_rows.proofs.PairLemmas.{maps-done, maps-set}
use Rattle.vx_rows.proofs.TextLemmas.{bit-found, found_in, stored-liked}
use Rattle.vx_rows.proofs.matching.columns.stored_liked.Goals as goal

pub cell_liked-requires : goal.cell_liked-requires
cell_liked-requires c =
    let rows = c.args.rows.now in
    let valid = c.args.valid.now in
    let here : c.loop-row.row < length (valid_rows valid (map bytes rows)) = omega (arith, length-bytes rows valid c.requires.whole, c.len-row-end.ensures, c.loop-row-test.true) in
    ap has_text (c.view_at.ensures ∙ sym (row_at-bytes rows valid c.loop-row.row c.requires.whole here)) ∙ row_passes has_text (valid_rows valid (map bytes rows)) c.loop-row.row here c.requires.utf8

pub loop-row-preserved : goal.loop-row-preserved
loop-row-preserved c =
    let rows = c.args.rows.now in
    let valid = c.args.valid.now in
    let its = map plain_item c.args.items.now in
    let inv = c.loop-row.invariant in
    let here : c.loop-row.row < length (valid_rows valid (map bytes rows)) = omega (arith, length-bytes rows valid c.requires.whole, c.len-row-end.ensures, c.loop-row-test.true) in
    let cell = c.view_at.ensures ∙ sym (row_at-bytes rows valid c.loop-row.row c.requires.whole here) in
    let bit = c.unwrap_or.ensures ∙ bit-found c.args.options its c.in_ok-found.found _ c.in_ok-found.ensures in
    record {
      long = length-set c.loop-row.bits.items c.loop-row.row _ ∙ inv.long;
      done = maps-set (found_in c.args.options its) (valid_rows valid (map bytes rows)) c.loop-row.bits.items c.loop-row.row _ _ here (inv.long ∙ sym (length-bytes rows valid c.requires.whole)) cell bit inv.done;
    }

pub returns : goal.returns
returns c =
    let rows = c.args.rows.now in
    let valid = c.args.valid.now in
    let its = map plain_item c.args.items.now in
    let inv = c.loop-row.invariant in
    let long = length-bytes rows valid c.requires.whole in
    let whole = maps-done (found_in c.args.options its) (valid_rows valid (map bytes rows)) c.loop-row.bits.items c.loop-row.row (omega (arith, long, c.len-row-end.ensures, c.loop-row-test.false)) (inv.long ∙ sym long) inv.done in
    c.new.ensures ∙ (λ i. valid_rows (c.in_ok-valid.ensures i) (map truth (c.from_bits.ensures i))) ∙ stored-liked c.args.options its valid rows c.loop-row.bits.items whole
