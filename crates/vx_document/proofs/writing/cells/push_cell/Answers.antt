use Rattle.std.proofs.Common.{◌∙◌, ap}
use Rattle.vx_base.proofs.FieldLemmas.{type_of-Utf8}
use Rattle.vx_base.proofs.Utf8Lemmas.{utf8-fitted}
use Rattle.vx_base.specs.CellValue.{cell_value}
use Rattle.vx_base.specs.TypeOf.{type_of}
use Rattle.vx_document.proofs.writing.cells.push_cell.Goals as goal

pub push_text-requires : goal.push_text-requires
push_text-requires c =
    let at = c.in-Bytes-Utf8 in
    utf8-fitted (type_of c.args.dtype.now) (cell_value c.args.cell) at.field-0-1 at.bytes.now c.requires.fitting (ap type_of at.is-1 ∙ type_of-Utf8 at.field-0-1) (ap cell_value at.is-0)
