use Rattle.std.proofs.Common.{◌≡◌, ◌≢◌, ◌∙◌, ◌+◌, ◌%◌, ◌<◌, ◌++◌, ◌∷◌, [], length, map, sym, ap, arith}
use Rattle.std.proofs.lemmas.List.{length-set}
use Rattle.vx_blocks.specs.Optional.{optional_rows}
use Rattle.vx_blocks.specs.Runs.{heads_before, runs_before, run_number}
use Rattle.vx_blocks.proofs.OptionalRows.{rows-length, differs-at}
use Rattle.vx_blocks.proofs.HeadsOfRuns.{begins-first, begins-later, heads-push, heads-skip, runs-push, runs-skip, number-row, number-first}
use Rattle.vx_blocks.proofs.Written.{set-more}
use Rattle.vx_blocks.proofs.runs_in_blocks.number_block.Goals as goal
use Rattle.vx_blocks.proofs.runs_in_blocks.number_block.Goals.{then-is_other+in_ok-push-2, else-is_other}

pub loop-k-init : goal.loop-k-init
loop-k-init g c =
    let whole = g.T.Integer.whole in
    let rows = optional_rows (map whole c.args.values.now) c.args.valid.now in
    let start = c.args.start in
    let within : start < length rows = omega (arith, rows-length whole c.args.values.now c.args.valid.now c.requires.same, c.requires.some, c.requires.room) in
    record {
      heads = c.in_ok-push.ensures.items ∙ ap (λ l. l ++ start ∷ []) c.requires.heads ∙ sym (heads-push rows start (begins-first rows start c.requires.start));
      run = omega arith;
      few = omega arith;
      numbers = set-more 0 (λ j. run_number rows (start + j)) c.args.numbers.now 0 0 1 c.requires.some (number-first rows start c.requires.start within) (λ k h. absurd (omega arith)) (omega arith);
    }

pub loop-k-preserved : goal.loop-k-preserved
loop-k-preserved g c =
    let whole = g.T.Integer.whole in
    let xs = c.args.values.now in
    let valid = c.args.valid.now in
    let rows = optional_rows (map whole xs) valid in
    let start = c.args.start in
    let k = c.loop-k.k in
    let row = start + k in
    let size : length c.loop-k.numbers ≡ length c.args.numbers.now = omega (arith, c.loop-k.auto.numbers, length-set c.args.numbers.now 0 0) in
    let below : k < length c.loop-k.numbers = omega (arith, c.loop-k-test.true, c.loop-k.auto.numbers, length-set c.args.numbers.now 0 0) in
    let inside : row < length xs = omega (arith, c.requires.room, below, size) in
    let within : row < length rows = omega (arith, rows-length whole xs valid c.requires.same) in
    let few : k < 1024 = omega (arith, c.requires.few, below, size) in
    let other : row % 1024 ≢ 0 = omega (arith, c.requires.start, few, c.loop-k.auto.k) in
    let is = c.is_other.ensures ∙ differs-at whole xs valid c.requires.same row _ _ (omega (arith, c.loop-k.auto.k)) inside c.index-values-row.is c.index-values-row-in-loop-k.is ∙ sym (begins-later rows row other) in
    let next : row + 1 ≡ start + (k + 1) = omega arith in
    let heads : c.if-is_other.heads.items ≡ heads_before rows (row + 1) =
    elim c.if-is_other.branch [
      | then-is_other+in_ok-push-2 w ↦ ap (λ v. v.items) w.heads-is ∙ w.in_ok-push-2.ensures.items ∙ ap (λ l. l ++ row ∷ []) c.loop-k.invariant.heads ∙ sym (heads-push rows row (sym is ∙ w.if-is_other.true))
      | else-is_other w ↦ ap (λ v. v.items) w.heads-is ∙ c.loop-k.invariant.heads ∙ sym (heads-skip rows row (sym is ∙ w.if-is_other.false))
    ]
    in
    let run : c.if-is_other.run + runs_before rows (start + 1) ≡ runs_before rows (row + 1) =
    elim c.if-is_other.branch [
      | then-is_other+in_ok-push-2 w ↦ omega (arith, w.run-is, c.loop-k.invariant.run, runs-push rows row (sym is ∙ w.if-is_other.true))
      | else-is_other w ↦ omega (arith, w.run-is, c.loop-k.invariant.run, runs-skip rows row (sym is ∙ w.if-is_other.false))
    ]
    in
    let least : c.if-is_other.run < k + 1 =
    elim c.if-is_other.branch [
      | then-is_other+in_ok-push-2 w ↦ omega (arith, w.run-is, c.loop-k.invariant.few)
      | else-is_other w ↦ omega (arith, w.run-is, c.loop-k.invariant.few)
    ]
    in
    record {
      heads = heads ∙ ap (heads_before rows) next;
      run = run ∙ ap (runs_before rows) next;
      few = least;
      numbers = set-more 0 (λ j. run_number rows (start + j)) c.loop-k.numbers k c.if-is_other.run (k + 1) below (number-row rows start k c.if-is_other.run c.requires.start few within run) c.loop-k.invariant.numbers (omega arith);
    }
