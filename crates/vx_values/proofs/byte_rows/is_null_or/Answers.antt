use Rattle.std.proofs.Common.{◌∙◌, sym, ap, refl, []}
use Rattle.std.specs.Prelude.{slice_index_or}
use Rattle.vx_base.specs.PlainValue.{bytes, bytes_or_empty}
use Rattle.vx_values.proofs.Cells.{row_at-valid, row_at-null, null_or-null, null_or-some}
use Rattle.vx_values.proofs.byte_rows.is_null_or.Goals as goal

pub returns-then-is_valid : goal.returns-then-is_valid
returns-then-is_valid c =
    let own = slice_index_or c.args.rows.now c.args.row [] in
    let value = c.args.value.now in
    let row = row_at-valid bytes c.args.rows.now c.args.valid.now c.args.row [] c.requires.in_mask c.requires.in_rows (sym c.is_valid.ensures ∙ c.if-is_valid.true) in
    null_or-some _ (bytes value) (bytes own) c.is_same.result row refl (λ h. ap bytes (sym c.bytes_at.ensures ∙ c.is_same.ensures.0 h)) (λ h. c.is_same.ensures.1 (c.bytes_at.ensures ∙ ap bytes_or_empty h))

pub returns-else-is_valid : goal.returns-else-is_valid
returns-else-is_valid c = null_or-null _ (bytes c.args.value.now) (row_at-null bytes c.args.rows.now c.args.valid.now c.args.row [] c.requires.in_mask c.requires.in_rows (sym c.is_valid.ensures ∙ c.if-is_valid.false))
