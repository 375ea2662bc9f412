use Rattle.std.proofs.Common.{◌<◌, ◌∙◌, ap, sym, arith, length}
use Rattle.vx_array.specs.Beneath.{is_default, defaults_beneath}
use Rattle.vx_base.specs.PlainValue.{null}
use Rattle.vx_model.specs.Rows.{rows}
use Rattle.vx_model.specs.TreeType.{tree_type}
use Rattle.vx_array.proofs.DefaultLemmas.{bits-length, set-next, passed-next, failed-stop}
use Rattle.vx_array.proofs.array.ArrayRef.is_default_beneath.Goals.{else-not-is_set-via-then-not-is_set+else-not-is_default_at, else-not-is_set-via-else-not-is_set}
use Rattle.vx_array.proofs.array.ArrayRef.is_default_beneath.Goals as goal

pub returns-then-not-is_default_at : goal.returns-then-not-is_default_at
returns-then-not-is_default_at c =
    let own = rows c.args.self.now in
    let count = bits-length c.args.valid.now c.in-Some.bits (length own) c.in-Some.is c.requires.lengths in
    let within : c.loop-row.row < length c.in-Some.bits = omega (arith, c.loop-row-test.true, c.len-row-end.ensures) in
    let stop = failed-stop (is_default (tree_type c.args.self.now)) null c.in-Some.bits own c.loop-row.row within (omega arith) (sym c.is_set.ensures ∙ c.if-not-is_set.true) (sym c.is_default_at.ensures ∙ c.if-not-is_default_at.true) in
    sym (ap (λ valid. defaults_beneath valid c.args.self.now) c.in-Some.is ∙ stop)

pub loop-row-preserved : goal.loop-row-preserved
loop-row-preserved c =
    let own = rows c.args.self.now in
    let test = is_default (tree_type c.args.self.now) in
    let count = bits-length c.args.valid.now c.in-Some.bits (length own) c.in-Some.is c.requires.lengths in
    let within : c.loop-row.row < length c.in-Some.bits = omega (arith, c.loop-row-test.true, c.len-row-end.ensures) in
    let inside : c.loop-row.row < length own = omega arith in
    elim c.else-not-is_set.branch [
      | else-not-is_set-via-then-not-is_set+else-not-is_default_at w ↦
          passed-next test null c.in-Some.bits own c.loop-row.row within inside c.loop-row.invariant (sym w.is_default_at.ensures ∙ w.if-not-is_default_at.false)
      | else-not-is_set-via-else-not-is_set w ↦
          set-next test null c.in-Some.bits own c.loop-row.row within inside c.loop-row.invariant (sym c.is_set.ensures ∙ w.if-not-is_set.false)
    ]
