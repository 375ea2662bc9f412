use Rattle.std.proofs.Common.{◌<◌, ◌∙◌, ◌-◌, [], length, ap, sym, arith}
use Rattle.vx_base.specs.PlainValue.{is_short}
use Rattle.vx_model.specs.Rows.{rows, cut_at}
use Rattle.vx_model.proofs.VarBinLemmas.{length-cut_at, cut_at-at}
use Rattle.vx_flat.proofs.Views.{all-next, all-stop, all-end}
use Rattle.vx_array.proofs.node.var_bin.are_short.Goals as goal

pub loop-row-preserved : goal.loop-row-preserved
loop-row-preserved c =
    let os = rows c.args.offsets.now in
    let bs = c.args.bytes.now in
    let row = c.loop-row.row in
    let within : row < length os - 1 = omega arith in
    let read = cut_at-at os bs row within ∙ sym c.piece.ensures in
    all-next is_short [] (cut_at os bs) row (omega (arith, length-cut_at os bs)) c.loop-row.invariant (ap is_short read ∙ sym c.is_short.ensures ∙ c.if-not-is_short.false)

pub returns-then-not-is_short : goal.returns-then-not-is_short
returns-then-not-is_short c =
    let os = rows c.args.offsets.now in
    let bs = c.args.bytes.now in
    let row = c.loop-row.row in
    let within : row < length os - 1 = omega arith in
    let read = cut_at-at os bs row within ∙ sym c.piece.ensures in
    sym (all-stop is_short [] (cut_at os bs) row (omega (arith, length-cut_at os bs)) (ap is_short read ∙ sym c.is_short.ensures ∙ c.if-not-is_short.true))

pub returns : goal.returns
returns c =
    let os = rows c.args.offsets.now in
    let bs = c.args.bytes.now in
    sym (all-end is_short (cut_at os bs) c.loop-row.row (omega (arith, length-cut_at os bs)) c.loop-row.invariant)
