use Rattle.std.proofs.Common.{◌<◌, ◌-◌, ◌∙◌, List, [], ap, sym, arith, length}
use Rattle.std.specs.Prelude.{◌==◌}
use Rattle.vx_array.specs.Beneath.{empty_beneath}
use Rattle.vx_base.specs.PlainValue.{PlainValue}
use Rattle.vx_model.specs.Rows.{rows, cut_at}
use Rattle.vx_model.proofs.VarBinLemmas.{length-cut_at, cut_at-at}
use Rattle.vx_array.proofs.DefaultLemmas.{bits-length, set-next, passed-next, failed-stop}
use Rattle.vx_array.proofs.beneath.are_empty_beneath.Goals.{else-not-is_set-via-then-not-is_set+else-not-is_empty_at, else-not-is_set-via-else-not-is_set}
use Rattle.vx_array.proofs.beneath.are_empty_beneath.Goals as goal

pub returns-then-not-is_empty_at : goal.returns-then-not-is_empty_at
returns-then-not-is_empty_at c =
    let places = rows c.args.offsets.now in
    let own = rows c.args.elements.now in
    let parts = cut_at places own in
    let test = λ (part : List PlainValue). length part == 0 in
    let count = bits-length c.args.valid.now c.in-Some.bits (length places - 1) c.in-Some.is c.requires.lengths in
    let within : c.loop-row.row < length c.in-Some.bits = omega (arith, c.loop-row-test.true, c.len-row-end.ensures) in
    let inside : c.loop-row.row < length parts = omega (arith, length-cut_at places own) in
    let read = ap test (cut_at-at places own c.loop-row.row (omega arith)) in
    let stop = failed-stop test [] c.in-Some.bits parts c.loop-row.row within inside (sym c.is_set.ensures ∙ c.if-not-is_set.true) (read ∙ sym c.is_empty_at.ensures ∙ c.if-not-is_empty_at.true) in
    sym (ap (λ valid. empty_beneath valid parts) c.in-Some.is ∙ stop)

pub loop-row-preserved : goal.loop-row-preserved
loop-row-preserved c =
    let places = rows c.args.offsets.now in
    let own = rows c.args.elements.now in
    let parts = cut_at places own in
    let test = λ (part : List PlainValue). length part == 0 in
    let count = bits-length c.args.valid.now c.in-Some.bits (length places - 1) c.in-Some.is c.requires.lengths in
    let within : c.loop-row.row < length c.in-Some.bits = omega (arith, c.loop-row-test.true, c.len-row-end.ensures) in
    let inside : c.loop-row.row < length parts = omega (arith, length-cut_at places own) in
    let read = ap test (cut_at-at places own c.loop-row.row (omega arith)) in
    elim c.else-not-is_set.branch [
      | else-not-is_set-via-then-not-is_set+else-not-is_empty_at w ↦
          passed-next test [] c.in-Some.bits parts c.loop-row.row within inside c.loop-row.invariant (read ∙ sym w.is_empty_at.ensures ∙ w.if-not-is_empty_at.false)
      | else-not-is_set-via-else-not-is_set w ↦
          set-next test [] c.in-Some.bits parts c.loop-row.row within inside c.loop-row.invariant (sym c.is_set.ensures ∙ w.if-not-is_set.false)
    ]
