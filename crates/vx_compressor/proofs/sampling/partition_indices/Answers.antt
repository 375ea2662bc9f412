use Rattle.std.proofs.Common.{◌∙◌, ap, ◌+◌, ◌++◌, [], ◌∷◌}
use Rattle.vx_compressor.specs.Sampling.{partition_rows}
use Rattle.vx_compressor.proofs.SamplingLemmas.{start_of-next, partitions-next}
use Rattle.vx_compressor.proofs.sampling.partition_indices.Goals as goal

pub loop-place-preserved : goal.loop-place-preserved
loop-place-preserved c =
    let now = c.loop-place in
    let long = c.partition_rows.ensures ∙ ap (λ n. partition_rows c.args.length n now.place) c.from.ensures in
    record {
      start = start_of-next c.args.length c.args.num_partitions now.place now.start c.partition_rows.result now.invariant.start long;
      so_far = c.in_ok-push.ensures.items ∙ ap (λ xs. xs ++ (now.start, now.start + c.partition_rows.result) ∷ []) now.invariant.so_far
          ∙ partitions-next c.args.length c.args.num_partitions now.place now.start c.partition_rows.result now.invariant.start long;
    }
