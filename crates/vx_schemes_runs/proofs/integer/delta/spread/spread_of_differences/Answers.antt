use Rattle.std.proofs.Common.{◌∙◌, true, replicate, ap, sym, subst}
use Rattle.std.specs.Prelude.{unwrap_or}
use Rattle.vx_blocks.specs.Deltas.{deltas, filled}
use Rattle.vx_blocks.specs.Optional.{optional_rows}
use Rattle.vx_model.specs.WellFormed.{WellFormed}
use Rattle.vx_values.specs.IntsOf.{ptype_of, wholes_of}
use Rattle.vx_schemes_common.proofs.BitsLemmas.{length-all_bits}
use Rattle.vx_schemes_runs.specs.Delta.Meaning.{spread_within}
use Rattle.vx_schemes_runs.proofs.Delta.Blocks.{filled_is, kind_is}
use Rattle.vx_schemes_runs.proofs.integer.delta.spread.spread_of_differences.Goals as goal

pub spread_of_ints-requires : goal.spread_of_ints-requires
spread_of_ints-requires c =
    let a = c.as_primitive in
    let t = c.args.array.now in
    let valid = a.result.1.now in
    let bits = c.in_ok-valid.ensures ∙ ap (λ k. unwrap_or valid (replicate k true)) c.len.ensures in
    rw bits (length-all_bits t (ptype_of a.result.0.now) (wholes_of a.result.0.now) valid a.result.2 (subst WellFormed a.ensures.tree a.ensures.well_formed) (sym a.ensures.tree) c.requires.plain)

pub returns : goal.returns
returns c =
    let a = c.as_primitive in
    let t = c.args.array.now in
    let p = ptype_of a.result.0.now in
    let xs = wholes_of a.result.0.now in
    let valid = a.result.1.now in
    let well = subst WellFormed a.ensures.tree a.ensures.well_formed in
    let bits = c.in_ok-valid.ensures ∙ ap (λ k. unwrap_or valid (replicate k true)) c.len.ensures in
    let rows = ap (λ b. filled (optional_rows xs b)) bits ∙ filled_is t p xs valid a.result.2 well (sym a.ensures.tree) c.requires.plain in
    let kind = kind_is t p xs valid a.result.2 well (sym a.ensures.tree) c.requires.plain in
    c.spread_of_ints.ensures ∙ (λ i. spread_within c.args.most (deltas (kind i) (rows i)))
