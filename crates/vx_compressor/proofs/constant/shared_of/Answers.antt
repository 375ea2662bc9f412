use Rattle.std.proofs.Common.{◌∙◌, sym}
use Rattle.vx_model.specs.Rows.{rows, row_at}
use Rattle.vx_compressor.proofs.OneValueTrees.{first-none, first-some}
use Rattle.vx_compressor.proofs.constant.shared_of.Goals as goal

pub returns-in_default : goal.returns-in_default
returns-in_default c = first-none (rows c.args.plain.now) (sym c.in_default.is ∙ c.first_valid.ensures)

pub repeats-requires-clause-value : goal.repeats-requires-clause-value
repeats-requires-clause-value c = (first-some (rows c.args.plain.now) c.in-Some.row (sym c.in-Some.is ∙ c.first_valid.ensures)).some

pub returns-then-repeats : goal.returns-then-repeats
returns-then-repeats c =
    let own = first-some (rows c.args.plain.now) c.in-Some.row (sym c.in-Some.is ∙ c.first_valid.ensures) in
    (own.in_range, own.first, sym c.repeats.ensures ∙ c.if-repeats.true)

pub returns-else-repeats : goal.returns-else-repeats
returns-else-repeats c =
    let own = first-some (rows c.args.plain.now) c.in-Some.row (sym c.in-Some.is ∙ c.first_valid.ensures) in
    (row_at (rows c.args.plain.now) c.in-Some.row, own.first, sym c.repeats.ensures ∙ c.if-repeats.false)
