use Rattle.std.proofs.Common.{◌≡◌, ◌∙◌, ap, length, drop}
use Rattle.std.proofs.lemmas.List.{take_rest, length-take-le}
use Rattle.vx_base.specs.Packed.{packed_number}
use Rattle.vx_blocks.proofs.Windows.{word-whole, word-short, packed_number-word}
use Rattle.vx_blocks.proofs.reading.word_at.Goals as goal

pub returns-in-Some : goal.returns-in-Some
returns-in-Some c =
    let same = rw (take_rest c.args.packed.now c.args.byte) at c.in-Some.ensures.cases.same in
    let enough = rw (take_rest c.args.packed.now c.args.byte) at c.in-Some.ensures.cases.enough in
    let len : length c.in-Some.bytes.now ≡ 8 = ap length same ∙ length-take-le 8 (drop c.args.byte c.args.packed.now) enough in
    c.from_le_bytes.ensures ∙ packed_number-word c.in-Some.bytes.now len ∙ ap (packed_number 8) same ∙ word-whole c.args.packed.now c.args.byte (λ k. (c.type_inv.packed k).fits) c.requires enough

pub returns-in-None : goal.returns-in-None
returns-in-None c =
    let is = rw (take_rest c.args.packed.now c.args.byte) at c.short_word.ensures in
    let few = rw (take_rest c.args.packed.now c.args.byte) at c.in-None.ensures.cases in
    is ∙ word-short c.args.packed.now c.args.byte (λ k. (c.type_inv.packed k).fits) c.requires few
