use Rattle.std.proofs.Common.{◌≡◌, ◌∙◌, ℤ, true, List, replicate, ap, sym, subst}
use Rattle.std.specs.Prelude.{unwrap_or}
use Rattle.vx_base.specs.Answers.{OrMemory}
use Rattle.vx_base.specs.declared.ptype.PType.{PType}
use Rattle.vx_blocks.specs.Deltas.{bases, deltas, filled}
use Rattle.vx_blocks.specs.Optional.{optional_rows}
use Rattle.vx_model.specs.WellFormed.{WellFormed}
use Rattle.vx_values.specs.IntsOf.{ptype_of, wholes_of}
use Rattle.vx_schemes_common.proofs.BitsLemmas.{length-all_bits}
use Rattle.vx_schemes_runs.proofs.Delta.Blocks.{filled_is, kind_is}
use Rattle.vx_schemes_runs.proofs.integer.delta.blocks.delta_blocks.Goals as goal

pub delta_blocks-requires : goal.delta_blocks-requires
delta_blocks-requires c =
    let a = c.as_primitive in
    let t = c.args.array.now in
    let valid = a.result.1.now in
    let bits = c.in_ok-valid.ensures ∙ ap (λ k. unwrap_or valid (replicate k true)) c.len.ensures in
    rw bits (length-all_bits t (ptype_of a.result.0.now) (wholes_of a.result.0.now) valid a.result.2 (subst WellFormed a.ensures.tree a.ensures.well_formed) (sym a.ensures.tree) c.requires.plain)

pub returns-clause-bases : goal.returns-clause-bases
returns-clause-bases c =
    let a = c.as_primitive in
    let t = c.args.array.now in
    let p = ptype_of a.result.0.now in
    let xs = wholes_of a.result.0.now in
    let valid = a.result.1.now in
    let well = subst WellFormed a.ensures.tree a.ensures.well_formed in
    let bits = c.in_ok-valid.ensures ∙ ap (λ k. unwrap_or valid (replicate k true)) c.len.ensures in
    let rows = ap (λ b. filled (optional_rows xs b)) bits ∙ filled_is t p xs valid a.result.2 well (sym a.ensures.tree) c.requires.plain in
    let kind = kind_is t p xs valid a.result.2 well (sym a.ensures.tree) c.requires.plain in
    subst (λ (q : PType × List ℤ). OrMemory c.delta_blocks.result (λ made. (ptype_of made.0 ≡ q.0) × (wholes_of made.0 ≡ bases q.1))) (λ i. (kind i, rows i)) c.delta_blocks.ensures.bases

pub returns-clause-differences : goal.returns-clause-differences
returns-clause-differences c =
    let a = c.as_primitive in
    let t = c.args.array.now in
    let p = ptype_of a.result.0.now in
    let xs = wholes_of a.result.0.now in
    let valid = a.result.1.now in
    let well = subst WellFormed a.ensures.tree a.ensures.well_formed in
    let bits = c.in_ok-valid.ensures ∙ ap (λ k. unwrap_or valid (replicate k true)) c.len.ensures in
    let rows = ap (λ b. filled (optional_rows xs b)) bits ∙ filled_is t p xs valid a.result.2 well (sym a.ensures.tree) c.requires.plain in
    let kind = kind_is t p xs valid a.result.2 well (sym a.ensures.tree) c.requires.plain in
    subst (λ (q : PType × List ℤ). OrMemory c.delta_blocks.result (λ made. (ptype_of made.1 ≡ q.0) × (wholes_of made.1 ≡ deltas q.0 q.1))) (λ i. (kind i, rows i)) c.delta_blocks.ensures.deltas
