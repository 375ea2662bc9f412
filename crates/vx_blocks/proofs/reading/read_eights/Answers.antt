use Rattle.std.proofs.Common.{arith, length, ℕ, pos, ap, ◌∙◌, ◌≡◌, ◌+◌, ◌*◌, ◌/◌}
use Rattle.vx_base.specs.Wrapping.{wrap}
use Rattle.vx_base.specs.Packed.{packed_row}
use Rattle.vx_blocks.proofs.Windows.{eight-place, eight-room, eight-end}
use Rattle.vx_blocks.proofs.Written.{written-more}
use Rattle.vx_blocks.proofs.reading.read_eights.Goals as goal

pub whole_word-word-requires : goal.whole_word-word-requires
whole_word-word-requires g c = eight-room g.row.W c.args.eight c.loop-g.g (length c.args.out.now / 8) c.loop-j.j (length c.args.packed.now) (omega arith) (omega arith) c.requires.some c.requires.room

pub row_of-row-requires-clause-room : goal.row_of-row-requires-clause-room
row_of-row-requires-clause-room g c = eight-end g.row.W c.args.eight c.loop-g.g (length c.args.out.now / 8) c.loop-j.j (length c.args.packed.now) (omega arith) (omega arith) c.requires.room

pub loop-j-preserved : goal.loop-j-preserved
loop-j-preserved g c =
    let place = 8 * c.loop-g.g + c.loop-j.j in
    let row_at = λ (k : ℕ). packed_row c.args.packed.now g.row.W (8 * c.args.eight + k) in
    let row : c.row_of-row.result ≡ row_at place = c.row_of-row.ensures (8 * c.args.eight + place) (eight-place g.row.W c.args.eight c.loop-g.g c.loop-j.j) in
    let item = c.from_low_bits.ensures ∙ ap (λ n. wrap g.T.Integer.kind (pos n)) row in
    written-more g.T.Integer.whole (pos 0) (λ k. wrap g.T.Integer.kind (pos (row_at k))) c.loop-j.out place c.from_low_bits.result (8 * c.loop-g.g + (c.loop-j.j + 1)) (omega arith) item c.loop-j.invariant (omega arith)
