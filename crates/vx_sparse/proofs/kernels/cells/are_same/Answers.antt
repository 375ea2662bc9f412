use Rattle.std.proofs.Common.{◌≡◌, ◌∙◌, ap, sym}
use Rattle.vx_base.specs.CellValue.{cell_value}
use Rattle.vx_base.specs.PlainValue.{bytes, stored_value}
use Rattle.vx_base.specs.Storable.{same_from}
use Rattle.vx_sparse.proofs.kernels.cells.are_same.Goals as goal

pub returns-in-Bytes-Bytes : goal.returns-in-Bytes-Bytes
returns-in-Bytes-Bytes c =
    let a : cell_value c.args.left ≡ bytes c.in-Bytes-Bytes.bytes.now = ap cell_value c.in-Bytes-Bytes.is-0 in
    let b : cell_value c.args.right ≡ bytes c.in-Bytes-Bytes.other.now = ap cell_value c.in-Bytes-Bytes.is-1 in
    same_from stored_value _ _ c.are_same_bytes.result (λ h. a ∙ ap bytes (c.are_same_bytes.ensures.0 h) ∙ sym b)
    (λ e. let k : bytes c.in-Bytes-Bytes.bytes.now ≡ bytes c.in-Bytes-Bytes.other.now = sym a ∙ e ∙ b in c.are_same_bytes.ensures.1 cc)
