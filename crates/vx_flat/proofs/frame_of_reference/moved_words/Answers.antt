use Rattle.std.proofs.Common.{◌≡◌, ◌∙◌, pos, ap, length, subst, rules}
use Rattle.std.specs.Int.{w128}
use Rattle.std.specs.Prelude.{FitsSigned, nat_le, ◌+ℤ◌}
use Rattle.std.proofs.lemmas.Int.{to_z-of_z}
use Rattle.vx_base.specs.Answers.{OrMemory}
use Rattle.vx_base.specs.Integers.{lies_in, natural_bits, unsigned_of}
use Rattle.vx_base.specs.Packed.{packed_row}
use Rattle.vx_base.specs.PlainType.{integer_of}
use Rattle.vx_base.specs.Wrapping.{wrap}
use Rattle.vx_model.specs.Rows.{below}
use Rattle.vx_values.specs.IntsOf.{ptype_of, wholes_of}
use Rattle.vx_flat.proofs.frame_of_reference.moved_words.Goals as goal

pub moved_words-requires : goal.moved_words-requires
moved_words-requires c =
    let kind = c.ptype-ptype.ensures ∙ ap integer_of c.dtype.ensures in
    let fits : FitsSigned w128 c.whole_of-whole.result = search rules in
    let same = to_z-of_z w128 c.whole_of-whole.result fits in
    record {
      held = ap (lies_in c.ptype-ptype.result) same ∙ ap (λ p. lies_in p c.whole_of-whole.result) kind ∙ c.whole_of-whole.ensures.held;
      narrow = ap (λ p. nat_le c.args.width (natural_bits (unsigned_of p))) kind ∙ c.requires.narrow;
      sized = ap length c.as_slice.ensures ∙ c.requires.sized;
    }

pub returns : goal.returns
returns c =
    let kind = c.ptype-ptype.ensures ∙ ap integer_of c.dtype.ensures in
    let whole = c.whole_of-whole.ensures.value in
    let bytes = c.as_slice.ensures in
    let fits : FitsSigned w128 c.whole_of-whole.result = search rules in
    let answers = rw (to_z-of_z w128 c.whole_of-whole.result fits) at c.moved_words.ensures in
    subst (λ t. t) (λ j. OrMemory c.moved_words.result (λ ints. (ptype_of ints ≡ kind j) × (wholes_of ints ≡ below (λ i. wrap (kind j) (whole j +ℤ pos (packed_row (bytes j) c.args.width i))) c.args.len))) answers
