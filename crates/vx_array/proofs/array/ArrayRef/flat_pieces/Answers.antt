use Rattle.std.proofs.Common.{◌∙◌, ap, subst, sym}
use Rattle.vx_base.specs.Answers.{Answers}
use Rattle.vx_base.specs.Defaults.{null_or_default}
use Rattle.vx_model.specs.Plain.{plain_of}
use Rattle.vx_model.specs.Rows.{rows}
use Rattle.vx_model.specs.TreeType.{tree_type}
use Rattle.vx_pieces.specs.Bits.{are_whole}
use Rattle.vx_pieces.proofs.BitLemmas.{pieced-whole}
use Rattle.vx_array.proofs.array.ArrayRef.flat_pieces.Goals as goal

pub returns-then-are_whole : goal.returns-then-are_whole
returns-then-are_whole c =
    let tree = c.args.self.now in
    let pieces = c.args.pieces.now in
    let whole = ap (λ len. are_whole len pieces) (sym c.len.ensures) ∙ sym c.are_whole.ensures ∙ c.if-are_whole.true in
    subst (λ t. Answers c.canonical_flat.result t) (ap (plain_of (tree_type tree)) (sym (pieced-whole (null_or_default (tree_type tree)) pieces (rows tree) whole))) c.canonical_flat.ensures
