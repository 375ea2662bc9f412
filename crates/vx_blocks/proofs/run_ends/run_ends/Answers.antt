use Rattle.std.proofs.Common.{◌≡◌, ◌∙◌, ◌+◌, ◌-◌, ◌<◌, ◌++◌, ◌∷◌, [], length, map, sym, ap, arith}
use Rattle.std.proofs.lemmas.Bool.Decides.{nat_tests}
use Rattle.vx_blocks.specs.Optional.{optional_rows}
use Rattle.vx_blocks.proofs.OptionalRows.{rows-length, differs-at}
use Rattle.vx_blocks.proofs.RunEnds.{ends_to, ends-push, ends-skip, ends-all}
use Rattle.vx_blocks.proofs.run_ends.run_ends.Goals as goal
use Rattle.vx_blocks.proofs.run_ends.run_ends.Goals.{then-is_other+in_ok-push, else-is_other}

pub loop-i-preserved : goal.loop-i-preserved
loop-i-preserved g c =
    let whole = g.T.Integer.whole in
    let xs = c.args.values.now in
    let valid = c.args.valid.now in
    let rows = optional_rows (map whole xs) valid in
    let i = c.loop-i.i in
    let within : i < length rows = omega (arith, rows-length whole xs valid c.requires) in
    let is = c.is_other.ensures ∙ differs-at whole xs valid c.requires i _ _ (omega arith) c.loop-i-test.true c.index-values-i.is c.index-values-i-in-loop-i.is in
    let next : i + 1 - 1 ≡ i = omega arith in
    rw next
    (elim c.if-is_other.branch [
      | then-is_other+in_ok-push w ↦
          ap (λ v. v.items) w.ends-is ∙ w.in_ok-push.ensures.items ∙ ap (λ l. l ++ i ∷ []) c.loop-i.invariant ∙ sym (ends-push rows i (omega arith) within (sym is ∙ w.if-is_other.true))
      | else-is_other w ↦ ap (λ v. v.items) w.ends-is ∙ c.loop-i.invariant ∙ sym (ends-skip rows i (omega arith) within (sym is ∙ w.if-is_other.false))
    ])

pub returns : goal.returns
returns g c =
    let whole = g.T.Integer.whole in
    let xs = c.args.values.now in
    let valid = c.args.valid.now in
    let rows = optional_rows (map whole xs) valid in
    let len : length xs ≡ length rows = sym (rows-length whole xs valid c.requires) in
    let some : 0 < length xs = grind (arith, nat_tests) in
    let end : c.loop-i.i ≡ length rows = omega arith in
    c.in_ok-push-2.ensures.items ∙ ap (λ l. l ++ length xs ∷ []) c.loop-i.invariant ∙ (λ k. ends_to rows (end k - 1) ++ len k ∷ []) ∙ sym (ends-all rows (omega arith))
