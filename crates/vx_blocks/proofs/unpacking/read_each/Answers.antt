use Rattle.std.proofs.Common.{ℕ, pos, map, ap, sym, subst, ◌+◌, ◌∷◌, [], ◌∙◌, arith}
use Rattle.std.proofs.lemmas.List.{map-append}
use Rattle.vx_base.specs.Wrapping.{wrap}
use Rattle.vx_blocks.specs.Appended.{AppendsRows}
use Rattle.vx_blocks.proofs.RowsRead.{appends-none, appends-push}
use Rattle.vx_blocks.proofs.unpacking.read_each.Goals as goal

pub loop-row-init : goal.loop-row-init
loop-row-init g c = appends-none (λ n. wrap g.T.Integer.kind (pos n)) c.args.packed.now c.args.width c.args.start (map g.T.Integer.whole c.args.rows.now.items)

pub loop-row-preserved : goal.loop-row-preserved
loop-row-preserved g c =
    let value = λ (n : ℕ). wrap g.T.Integer.kind (pos n) in
    let whole = g.T.Integer.whole in
    let old = map whole c.args.rows.now.items in
    let item = c.from_low_bits.result in
    let grown = ap (map whole) c.in_ok-push.ensures.items ∙ map-append whole c.loop-row.rows.items (item ∷ []) in
    subst (AppendsRows value c.args.packed.now c.args.width c.args.start (c.loop-row.row + 1) old) (sym grown)
    (appends-push value c.args.packed.now c.args.width c.args.start c.loop-row.row old (map whole c.loop-row.rows.items) (whole item) (omega arith) c.loop-row.invariant (c.from_low_bits.ensures ∙ ap value c.get.ensures))
