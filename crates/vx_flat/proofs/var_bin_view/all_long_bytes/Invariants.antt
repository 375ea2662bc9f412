use Rattle.std.proofs.Common.{◌≡◌, ◌-◌, ◌^◌, take}
use Rattle.std.specs.Prelude.{min, sum_by}
use Rattle.vx_model.specs.Size.{long_bytes}
use Rattle.vx_flat.proofs.var_bin_view.all_long_bytes.Given as goal

abbrev pub invariant-loop-bytes : goal.invariant-loop-bytes
invariant-loop-bytes l = l.all ≡ min (sum_by long_bytes (take l.bytes-index l.values)) (2 ^ 128 - 1)
