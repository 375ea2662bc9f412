use Rattle.std.proofs.Common.{◌-◌, ◌++◌, sym, subst, cond}
use Rattle.std.specs.Prelude.{replicate}
use Rattle.std.proofs.lemmas.Result.{MatchResult-weaker}
use Rattle.vx_base.specs.Masks.{rows_between}
use Rattle.vx_base.specs.PlainValue.{null}
use Rattle.vx_pieces.specs.Pieces.{Gives}
use Rattle.vx_pieces.proofs.within.add_run.Goals as goal

pub returns-then-bit : goal.returns-then-bit
returns-then-bit c =
    let start = c.args.start in
    let end = c.args.end in
    MatchResult-weaker c.add_rows.result c.add_rows.ensures
    (λ u h values rows l g. subst (λ b. Gives null c.add_rows.new.pieces.items values (rows ++ cond b (rows_between values start end) (replicate (end - start) null))) (sym c.if-bit.true) (h null values rows l g)) (λ e n. n)

pub returns-else-bit : goal.returns-else-bit
returns-else-bit c =
    let start = c.args.start in
    let end = c.args.end in
    MatchResult-weaker c.add_filled.result c.add_filled.ensures
    (λ u h values rows l g. subst (λ b. Gives null c.add_filled.new.pieces.items values (rows ++ cond b (rows_between values start end) (replicate (end - start) null))) (sym c.if-bit.false) (h null values rows g)) (λ e n. n)
