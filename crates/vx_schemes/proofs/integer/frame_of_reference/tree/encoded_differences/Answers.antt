use Rattle.std.proofs.Common.{◌≡◌, ◌≤◌, ◌^◌, ◌∙◌, length, false, sym, ap, subst}
use Rattle.std.specs.Prelude.{IfSome}
use Rattle.vx_base.specs.Answers.{Answers}
use Rattle.std.specs.Int.{w128}
use Rattle.std.proofs.lemmas.Int.{to_z-of_z}
use Rattle.vx_model.specs.Column.{column_of}
use Rattle.vx_model.specs.Plain.{IsPlain}
use Rattle.vx_model.specs.Rows.{rows}
use Rattle.vx_model.proofs.PlainLemmas.{column_of-plain, plain_is_plain}
use Rattle.vx_schemes.specs.BitPacking.Tree.{has_negative}
use Rattle.vx_schemes.specs.FrameOfReference.Tree.{differences, packed_or_plain}
use Rattle.vx_schemes.proofs.FrameOfReference.Framed.{less-column, plain-few, plain-natural}
use Rattle.vx_schemes.proofs.integer.frame_of_reference.tree.encoded_differences.Goals as goal

pub packed_or_plain-requires-clause-plain : goal.packed_or_plain-requires-clause-plain
packed_or_plain-requires-clause-plain c =
    let made = rw (to_z-of_z w128 c.args.reference c.ranges.reference) at c.in_ok-differences.ensures in
    subst IsPlain (sym made) (plain_is_plain (differences (column_of c.args.array.now) c.args.reference) (less-column c.args.array.now c.args.reference c.requires.integer c.known.ensures))

pub packed_or_plain-requires-clause-natural : goal.packed_or_plain-requires-clause-natural
packed_or_plain-requires-clause-natural c =
    let made = rw (to_z-of_z w128 c.args.reference c.ranges.reference) at c.in_ok-differences.ensures in
    subst (λ d. has_negative (column_of d) ≡ false) (sym made) (plain-natural c.args.array.now c.args.reference c.requires.integer c.known.ensures)

pub packed_or_plain-requires-clause-few : goal.packed_or_plain-requires-clause-few
packed_or_plain-requires-clause-few c =
    let made = rw (to_z-of_z w128 c.args.reference c.ranges.reference) at c.in_ok-differences.ensures in
    subst (λ d. length (rows d) ≤ 2 ^ 32) (sym made) (plain-few c.args.array.now c.args.reference c.requires.integer c.known.ensures c.requires.few)

pub returns-in-Some-clause-answer : goal.returns-in-Some-clause-answer
returns-in-Some-clause-answer c =
    let made = rw (to_z-of_z w128 c.args.reference c.ranges.reference) at c.in_ok-packed.ensures in
    subst (λ o. IfSome o (λ tree. tree ≡ packed_or_plain (differences (column_of c.args.array.now) c.args.reference))) c.in-Some.is made

pub returns-clause-answer : goal.returns-clause-answer
returns-clause-answer c =
    let made = rw (to_z-of_z w128 c.args.reference c.ranges.reference) at c.in_ok-differences.ensures in
    let less = differences (column_of c.args.array.now) c.args.reference in
    let column : column_of c.in_ok-differences.differences ≡ less = ap column_of made ∙ column_of-plain less (less-column c.args.array.now c.args.reference c.requires.integer c.known.ensures) in
    subst (λ d. Answers c.packed_or_plain.result (packed_or_plain d)) column c.packed_or_plain.ensures.answer
