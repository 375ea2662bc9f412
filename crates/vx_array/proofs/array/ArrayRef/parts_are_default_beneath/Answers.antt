use Rattle.std.proofs.Common.{◌<◌, ◌∙◌, List, [], ap, sym, arith, length}
use Rattle.std.specs.List.{list_all}
use Rattle.vx_array.specs.Beneath.{is_default, defaults_within}
use Rattle.vx_base.specs.PlainValue.{PlainValue}
use Rattle.vx_model.specs.Rows.{rows, parts_of}
use Rattle.vx_model.specs.TreeType.{tree_type}
use Rattle.vx_model.proofs.PartLemmas.{length-parts_of}
use Rattle.vx_array.proofs.DefaultLemmas.{bits-length, set-next, passed-next, failed-stop, part-at}
use Rattle.vx_array.proofs.array.ArrayRef.parts_are_default_beneath.Goals.{else-not-is_set-via-then-not-is_set+else-not-part_is_default, else-not-is_set-via-else-not-is_set}
use Rattle.vx_array.proofs.array.ArrayRef.parts_are_default_beneath.Goals as goal

pub returns-then-not-part_is_default : goal.returns-then-not-part_is_default
returns-then-not-part_is_default c =
    let own = rows c.args.self.now in
    let t = tree_type c.args.self.now in
    let parts = parts_of c.args.size c.args.len own in
    let count = bits-length c.args.valid.now c.in-Some.bits c.args.len c.in-Some.is c.requires.lengths in
    let within : c.loop-part.part < length c.in-Some.bits = omega (arith, c.loop-part-test.true, c.len-part-end.ensures) in
    let inside : c.loop-part.part < length parts = omega (arith, length-parts_of c.args.size c.args.len own) in
    let read = ap (list_all (is_default t)) (part-at c.args.size c.args.len own c.loop-part.part (omega arith)) in
    let stop = failed-stop (λ part. list_all (is_default t) part) [] c.in-Some.bits parts c.loop-part.part within inside (sym c.is_set.ensures ∙ c.if-not-is_set.true) (read ∙ sym c.part_is_default.ensures ∙ c.if-not-part_is_default.true) in
    sym (ap (λ valid. defaults_within t valid parts) c.in-Some.is ∙ stop)

pub loop-part-preserved : goal.loop-part-preserved
loop-part-preserved c =
    let own = rows c.args.self.now in
    let test = λ (part : List PlainValue). list_all (is_default (tree_type c.args.self.now)) part in
    let parts = parts_of c.args.size c.args.len own in
    let count = bits-length c.args.valid.now c.in-Some.bits c.args.len c.in-Some.is c.requires.lengths in
    let within : c.loop-part.part < length c.in-Some.bits = omega (arith, c.loop-part-test.true, c.len-part-end.ensures) in
    let inside : c.loop-part.part < length parts = omega (arith, length-parts_of c.args.size c.args.len own) in
    let read = ap test (part-at c.args.size c.args.len own c.loop-part.part (omega arith)) in
    elim c.else-not-is_set.branch [
      | else-not-is_set-via-then-not-is_set+else-not-part_is_default w ↦
          passed-next test [] c.in-Some.bits parts c.loop-part.part within inside c.loop-part.invariant (read ∙ sym w.part_is_default.ensures ∙ w.if-not-part_is_default.false)
      | else-not-is_set-via-else-not-is_set w ↦
          set-next test [] c.in-Some.bits parts c.loop-part.part within inside c.loop-part.invariant (sym c.is_set.ensures ∙ w.if-not-is_set.false)
    ]
