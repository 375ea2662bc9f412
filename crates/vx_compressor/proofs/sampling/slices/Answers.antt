use Rattle.std.proofs.Common.{◌∙◌, sym, ◌++◌, [], ◌∷◌, arith}
use Rattle.vx_compressor.proofs.SamplingLemmas.{start_of-next, slices-next, slice_fits}
use Rattle.vx_compressor.proofs.sampling.slices.Goals as goal

pub slice_in-requires : goal.slice_in-requires
slice_in-requires c =
    let now = c.loop-place in
    let count = c.from-count.ensures ∙ c.sample_count_approx_one_percent.ensures in
    let fits = slice_fits c.args.len c.from-count.result now.place now.start c.partition_rows-rows.result (sym c.is_short.ensures ∙ c.if-is_short.false) count c.loop-place-test.true now.invariant.start c.partition_rows-rows.ensures in
    record { room = fits.0; fits = omega (arith, fits.1) }

pub loop-place-preserved : goal.loop-place-preserved
loop-place-preserved c =
    let now = c.loop-place in
    let count = c.from-count.ensures ∙ c.sample_count_approx_one_percent.ensures in
    record {
      start = start_of-next c.args.len c.from-count.result now.place now.start c.partition_rows-rows.result now.invariant.start c.partition_rows-rows.ensures;
      so_far = c.in_ok-push-2.ensures.items ∙ (λ j. now.invariant.so_far j ++ c.slice_in.ensures j ∷ [])
          ∙ slices-next c.args.len c.args.words.now c.from-count.result now.place now.start c.partition_rows-rows.result c.word_at.result count now.invariant.start c.partition_rows-rows.ensures c.word_at.ensures;
    }
