use Rattle.std.proofs.Common.{◌∙◌, Some, ap, sym}
use Rattle.vx_values.specs.IntsOf.{ptype_of, wholes_of}
use Rattle.vx_schemes.specs.Patches.Compressed.{compressed_patches}
use Rattle.vx_schemes.proofs.BitPacking.Tree.{patches_of-some}
use Rattle.vx_schemes.proofs.integer.bit_packing.tree.patches_of.Goals as goal

pub returns-clause-answer : goal.returns-clause-answer
returns-clause-answer c =
    ap Some (c.in_ok-compress_patches.ensures.answer ∙ ap compressed_patches c.in_ok-patches.ensures)
    ∙ sym (patches_of-some (ptype_of c.args.values.now) (wholes_of c.args.values.now) c.args.rows (λ none. c.if-len-eq0.false (c.len.ensures ∙ none)))
