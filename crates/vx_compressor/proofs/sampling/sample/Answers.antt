use Rattle.std.proofs.Common.{◌≡◌, ◌∙◌, sym, ap, false, length}
use Rattle.vx_model.specs.Rows.{rows}
use Rattle.vx_compressor.specs.Sampling.{slices, is_short}
use Rattle.vx_compressor.proofs.OneValueTrees.{answers_along}
use Rattle.vx_compressor.proofs.SampleLemmas.{rows_are_parts, sample_of_long}
use Rattle.vx_compressor.proofs.sampling.sample.Goals as goal

pub gather-requires-clause-parts : goal.gather-requires-clause-parts
gather-requires-clause-parts c = rows_are_parts c.args.tree.now c.len-2.result c.args.words.now c.as_slice.result.now c.len-2.ensures (c.as_slice.ensures ∙ c.in_ok-ranges.ensures)

pub returns : goal.returns
returns c =
    let long : is_short (length (rows c.args.tree.now)) ≡ false = ap is_short (sym c.len.ensures) ∙ sym c.is_short.ensures ∙ c.if-is_short.false in
    let ranges = c.as_slice.ensures ∙ c.in_ok-ranges.ensures ∙ ap (λ n. slices n c.args.words.now) c.len-2.ensures in
    answers_along c.gather.result _ _ (sample_of_long c.args.tree.now c.args.words.now c.args.sampled c.as_slice.result.now c.if-sampled.false long ranges) c.gather.ensures
