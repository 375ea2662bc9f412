use Rattle.std.proofs.Common.{◌∙◌, ap, length, sym}
use Rattle.vx_array.specs.TreeOf.{tree_of}
use Rattle.vx_base.specs.Masks.{is_part}
use Rattle.vx_model.specs.Rows.{rows}
use Rattle.vx_model.proofs.SequenceLemmas.{length-sequence}
use Rattle.vx_selections.proofs.slices.part_encoded.Goals as goal

pub part_sequence-requires-clause-part : goal.part_sequence-requires-clause-part
part_sequence-requires-clause-part c =
    let at = c.in-Sequence in
    let long = ap (λ t. length (rows t)) (sym c.node.ensures.tree ∙ ap tree_of at.is) ∙ length-sequence at.ptype at.nullability at.first at.step at.len in
    ap (λ n. is_part n c.args.start c.args.end) (sym long) ∙ c.requires
