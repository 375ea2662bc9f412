use Rattle.std.specs.Prelude.{◌==◌}
use Rattle.vx_model.specs.WellFormed.{WellFormed}
use Rattle.std.proofs.Common.{◌≡◌, ◌+◌, ◌∙◌, None, false, drop, length, sum, sym, ap, subst, arith}
use Rattle.std.specs.Int.{w128}
use Rattle.std.proofs.lemmas.Int.{to_z-of_z}
use Rattle.vx_base.proofs.MakesLemmas.{Makes_ok}
use Rattle.vx_base.specs.Integers.{bits_of, bytes_of, unsigned_of}
use Rattle.vx_blocks.specs.Cost.{IsBest, cost}
use Rattle.vx_model.specs.Column.{column_of}
use Rattle.vx_model.specs.Plain.{IsPlain}
use Rattle.vx_model.specs.Refusals.{bit_packed_refusal, kept}
use Rattle.vx_model.specs.Rows.{rows}
use Rattle.vx_model.specs.Tree.{packed_of, plain_packed}
use Rattle.vx_values.specs.IntsOf.{ptype_of, wholes_of}
use Rattle.vx_schemes.specs.FrameOfReference.Tree.{differences, packed_or_plain}
use Rattle.vx_schemes_common.proofs.ColumnLemmas.{length_is}
use Rattle.vx_schemes.proofs.FrameOfReference.Blocks.{counted, packed-admitted, packed-whole}
use Rattle.vx_schemes.proofs.MadeLemmas.{Makes_err}
use Rattle.vx_schemes.proofs.integer.frame_of_reference.blocks.packed_at_once.Goals as goal

pub whole_width-requires-clause-room : goal.whole_width-requires-clause-room
whole_width-requires-clause-room c =
    let a = c.as_primitive-nullability in
    let p = ptype_of a.result.0.now in
    let xs = wholes_of a.result.0.now in
    let at = sym a.ensures.tree in
    let plain = subst IsPlain at c.requires.plain in
    let counts = rw (to_z-of_z w128 c.args.reference c.ranges.reference) at c.in_ok-counts.ensures in
    let sums = counted p xs a.result.1.now a.result.2 a.ensures.well_formed plain c.args.reference c.in_ok-counts.counts.items counts in
    let long : length (rows c.args.array.now) ≡ length xs = length_is c.args.array.now p xs a.result.1.now a.result.2 (subst WellFormed a.ensures.tree a.ensures.well_formed) at c.requires.plain in
    omega (arith, ap sum c.as_slice.ensures.value, sums, long, c.requires.few)

pub returns-in-Ok : goal.returns-in-Ok
returns-in-Ok c =
    let a = c.as_primitive-nullability in
    let p = ptype_of a.result.0.now in
    let xs = wholes_of a.result.0.now in
    let width = c.in-Some.width in
    let plain = subst IsPlain (sym a.ensures.tree) c.requires.plain in
    let counts = rw (to_z-of_z w128 c.args.reference c.ranges.reference) at c.in_ok-counts.ensures in
    let bytes = rw (to_z-of_z w128 c.args.reference c.ranges.reference) at c.in_ok-packed.ensures in
    let typed : c.to_unsigned-ptype.result ≡ unsigned_of p = c.to_unsigned-ptype.ensures ∙ ap unsigned_of c.ptype.ensures in
    let best = subst (λ q. IsBest (cost c.in_ok-counts.counts.items (bytes_of q)) (bits_of q) width) typed
    (subst (λ l. IsBest (cost l (bytes_of c.to_unsigned-ptype.result)) (bits_of c.to_unsigned-ptype.result) width) c.as_slice.ensures.value c.in-Some.ensures.best)
    in
    let narrow = subst (λ q. (width == bits_of q) ≡ false) typed c.in-Some.ensures.narrow in
    let none = subst (λ l. sum (drop (width + 1) l) ≡ 0) c.as_slice.ensures.value c.in-Some.ensures.none_above in
    Makes_ok _ _ _ _ c.in-Ok.ensures
    ∙ (λ i. packed_of (plain_packed (typed i) width (bytes i) (c.len-len.ensures i) (kept (c.in_ok-valid.ensures i)) a.result.2) None)
    ∙ packed-whole p xs a.result.1.now a.result.2 a.ensures.well_formed plain c.args.reference c.in_ok-counts.counts.items width counts best narrow none
    ∙ ap (λ t. packed_or_plain (differences (column_of t) c.args.reference)) a.ensures.tree

pub returns : goal.returns
returns c =
    let a = c.as_primitive-nullability in
    let p = ptype_of a.result.0.now in
    let xs = wholes_of a.result.0.now in
    let width = c.in-Some.width in
    let plain = subst IsPlain (sym a.ensures.tree) c.requires.plain in
    let counts = rw (to_z-of_z w128 c.args.reference c.ranges.reference) at c.in_ok-counts.ensures in
    let bytes = rw (to_z-of_z w128 c.args.reference c.ranges.reference) at c.in_ok-packed.ensures in
    let typed : c.to_unsigned-ptype.result ≡ unsigned_of p = c.to_unsigned-ptype.ensures ∙ ap unsigned_of c.ptype.ensures in
    let best = subst (λ q. IsBest (cost c.in_ok-counts.counts.items (bytes_of q)) (bits_of q) width) typed
    (subst (λ l. IsBest (cost l (bytes_of c.to_unsigned-ptype.result)) (bits_of c.to_unsigned-ptype.result) width) c.as_slice.ensures.value c.in-Some.ensures.best)
    in
    let narrow = subst (λ q. (width == bits_of q) ≡ false) typed c.in-Some.ensures.narrow in
    let none = subst (λ l. sum (drop (width + 1) l) ≡ 0) c.as_slice.ensures.value c.in-Some.ensures.none_above in
    Makes_err _ _ _ _
    ((λ i. bit_packed_refusal (plain_packed (typed i) width (bytes i) (c.len-len.ensures i) (c.in_ok-valid.ensures i) a.result.2) None)
    ∙ packed-admitted p xs a.result.1.now a.result.2 a.ensures.well_formed plain c.args.reference c.in_ok-counts.counts.items width counts best narrow none) c.in-Err.ensures
