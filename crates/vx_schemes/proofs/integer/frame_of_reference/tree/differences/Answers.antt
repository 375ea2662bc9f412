use Rattle.std.proofs.Common.{◌≡◌, ◌∙◌, pos, map, ap, subst}
use Rattle.std.specs.Int.{w128}
use Rattle.std.proofs.lemmas.Int.{to_z-of_z}
use Rattle.vx_base.specs.Answers.{Answers}
use Rattle.vx_base.specs.Integers.{unsigned_of}
use Rattle.vx_model.specs.Decoded.{zeroed_by}
use Rattle.vx_values.specs.IntsOf.{ptype_of, wholes_of}
use Rattle.vx_schemes.specs.FrameOfReference.Tree.{less}
use Rattle.vx_schemes.proofs.FrameOfReference.Tree.{moved_long, moved_tree}
use Rattle.vx_schemes.proofs.integer.frame_of_reference.tree.differences.Goals as goal

pub with_integers-requires-clause-rows : goal.with_integers-requires-clause-rows
with_integers-requires-clause-rows c =
    let parts = c.as_primitive in
    let p = ptype_of parts.result.0.now in
    let xs = wholes_of parts.result.0.now in
    let wrapped = rw (to_z-of_z w128 c.args.reference c.ranges.reference) at c.in_ok-wrapped.ensures in
    let wholes : wholes_of c.zeroed_by-zeroed.result ≡ zeroed_by (pos 0) parts.result.1.now (map (less p c.args.reference) xs) = c.zeroed_by-zeroed.ensures.wholes ∙ ap (zeroed_by (pos 0) parts.result.1.now) wrapped.1 in
    moved_long c.args.array.now p xs parts.result.1.now parts.result.2 parts.ensures.tree parts.ensures.well_formed c.requires.plain c.args.reference _ wholes

pub returns : goal.returns
returns c =
    let parts = c.as_primitive in
    let p = ptype_of parts.result.0.now in
    let xs = wholes_of parts.result.0.now in
    let wrapped = rw (to_z-of_z w128 c.args.reference c.ranges.reference) at c.in_ok-wrapped.ensures in
    let typed : ptype_of c.zeroed_by-zeroed.result ≡ unsigned_of p = c.zeroed_by-zeroed.ensures.ptype ∙ wrapped.0 in
    let wholes : wholes_of c.zeroed_by-zeroed.result ≡ zeroed_by (pos 0) parts.result.1.now (map (less p c.args.reference) xs) = c.zeroed_by-zeroed.ensures.wholes ∙ ap (zeroed_by (pos 0) parts.result.1.now) wrapped.1 in
    subst (Answers c.with_integers.result) (moved_tree c.args.array.now p xs parts.result.1.now parts.result.2 parts.ensures.tree parts.ensures.well_formed c.requires.plain c.args.reference _ wholes _ typed) c.with_integers.ensures
