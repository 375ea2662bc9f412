use Rattle.std.proofs.Common.{length, ◌≡◌, ◌-◌, ◌/◌, map, ap, ◌∙◌}
use Rattle.vx_base.specs.Packed.{kept_rows}
use Rattle.vx_base.specs.Integers.{bits_in, bits_of}
use Rattle.vx_blocks.proofs.Counts.{by_zeros-none, halves-histogram}
use Rattle.vx_blocks.proofs.Rows.{kept_rows-length}
use Rattle.vx_blocks.proofs.widths.count_widths.Goals as goal

pub count_halves-requires-clause-first : goal.count_halves-requires-clause-first
count_halves-requires-clause-first g c = by_zeros-none (bits_of g.T.Integer.kind)

pub count_halves-requires-clause-second : goal.count_halves-requires-clause-second
count_halves-requires-clause-second g c = by_zeros-none (bits_of g.T.Integer.kind)

pub returns-clause-widths : goal.returns-clause-widths
returns-clause-widths g c =
    let n = length c.args.values.now in
    let rows = kept_rows 64 (map (bits_in g.T.Integer.kind) (map g.T.Integer.whole c.args.values.now)) c.args.valid.now in
    let len = kept_rows-length (bits_in g.T.Integer.kind) g.T.Integer.whole 64 c.args.values.now c.args.valid.now c.requires in
    let width : c.bit_width-width.result ≡ bits_of g.T.Integer.kind = c.bit_width-width.ensures.width ∙ ap bits_of c.ptype.ensures in
    halves-histogram (bits_of g.T.Integer.kind) n (n - n / 2) rows c.count_halves.new.first c.count_halves.new.second c.in_ok-counts.counts.items (rw width at c.in_ok-counts.ensures) c.count_halves.ensures.first c.count_halves.ensures.second len

pub returns-clause-total : goal.returns-clause-total
returns-clause-total g c = (returns-clause-widths g c).total ∙ kept_rows-length (bits_in g.T.Integer.kind) g.T.Integer.whole 64 c.args.values.now c.args.valid.now c.requires
