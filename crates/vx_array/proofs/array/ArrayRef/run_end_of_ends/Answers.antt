use Rattle.std.proofs.Common.{◌∙◌}
use Rattle.vx_array.proofs.Runs.{run_end_array}
use Rattle.vx_array.proofs.array.ArrayRef.run_end_of_ends.Goals as goal

pub invariant_of-result : goal.invariant_of-result
invariant_of-result c =
    let own = c.in-Ok-boxed.ensures in
    (rw (own.0, own.1) (run_end_array c.args.ends c.args.values _ _ c.requires c.known.ensures c.known-2.ensures (c.in-Ok.ensures ∙ c.dtype.ensures) c.last_end-len.ensures), tt)
