use Rattle.std.proofs.Common.{arith, ◌≡◌, ◌+◌, ◌∙◌, sym, ap, map, false, get_or}
use Rattle.vx_base.specs.Packed.{kept_row}
use Rattle.vx_base.specs.Integers.{bits_in}
use Rattle.vx_blocks.specs.AreKept.{AreKept}
use Rattle.vx_blocks.proofs.Kept.{OnTrue_holds}
use Rattle.vx_blocks.proofs.Rows.{bits-at, kept_rows-at, kept_rows-fit}
use Rattle.vx_blocks.proofs.groups.row_bits.Goals as goal

pub returns-then-kept-clause-value : goal.returns-then-kept-clause-value
returns-then-kept-clause-value g c =
    let f = bits_in g.T.Integer.kind in
    let h = g.T.Integer.whole in
    let kept : AreKept g.row.W (map f (map h c.args.values.now)) c.args.valid.now c.args.row (c.args.row + 1) = OnTrue_holds c.args.kept c.if-kept.true c.requires.kept in
    bits-at f h c.args.values.now c.args.row c.index-values-row.result c.to_bits-bits.result c.requires.room c.index-values-row.is c.to_bits-bits.ensures.value
    ∙ sym (kept.each c.args.row (omega arith) (omega arith))

pub returns-then-kept-clause-small : goal.returns-then-kept-clause-small
returns-then-kept-clause-small g c =
    let bits = map (bits_in g.T.Integer.kind) (map g.T.Integer.whole c.args.values.now) in
    rw (returns-then-kept-clause-value g c) (kept_rows-fit g.row.W bits c.args.valid.now c.args.row)

pub returns-else-kept-clause-value : goal.returns-else-kept-clause-value
returns-else-kept-clause-value g c =
    let f = bits_in g.T.Integer.kind in
    let h = g.T.Integer.whole in
    let valid = get_or c.args.valid.now c.args.row false in
    let is : c.fit.result ≡ kept_row g.row.W (f (h c.index-values-row.result)) valid = c.fit.ensures ∙ ap (λ b. kept_row g.row.W b valid) c.to_bits-bits.ensures.value in
    kept_rows-at f h g.row.W c.args.values.now c.args.valid.now c.args.row c.index-values-row.result c.fit.result c.requires.same c.requires.room c.index-values-row.is is
