use Rattle.std.proofs.Common.{◌≡◌, ◌<◌, ◌≤◌, ◌+◌, ◌∙◌, ℕ, List, length, drop, refl, arith, sym, ap, Some}
use Rattle.std.proofs.lemmas.Bool.{le-leb, lt-ltb}
use Rattle.vx_base.specs.PlainValue.{PlainValue}
use Rattle.vx_model.specs.Rows.{rows, row_at, index_of}
use Rattle.vx_model.specs.WellFormed.{ascend}
use Rattle.vx_model.proofs.PatchLemmas.{ascend-next}
use Rattle.vx_array.proofs.array.ArrayRef.is_ascending.Goals as goal

-- a row that lies between the ends is passed
passed : (low high : ℕ) (is : List PlainValue) (i n : ℕ) → i < length is → index_of (row_at is i) ≡ Some n → low ≤ n → n < high → ascend low high (drop i is) ≡ ascend (n + 1) high (drop (i + 1) is)
passed low high is i n h e a b = ascend-next low high is i n h e ∙ rw (le-leb low n a, lt-ltb n high b) refl

pub loop-row-preserved : goal.loop-row-preserved
loop-row-preserved c =
    let is = rows c.args.self.now in
    let within : c.loop-row.row < length is = omega (arith, c.len-row-end.ensures) in
    let index : index_of (row_at is c.loop-row.row) ≡ Some c.in-Some.index = ap index_of (sym c.integer_at.ensures) ∙ sym c.in-Some.ensures in
    let below : c.in-Some.index < c.args.offset + c.args.len = omega arith in
    (c.loop-row.invariant.0 ∙ passed c.loop-row.low (c.args.offset + c.args.len) is c.loop-row.row c.in-Some.index within index (omega arith) below, omega arith)
