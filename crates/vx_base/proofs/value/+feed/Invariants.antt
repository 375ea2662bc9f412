use Rattle.std.proofs.Common.{◌≡◌, fold, map, drop}
use Rattle.vx_base.specs.TypeOf.{value_of}
use Rattle.vx_base.specs.Writes.{value_list_writes}
use Rattle.vx_base.proofs.value.+feed.Given as goal

-- what the rest feeds yet leads to what all feed
abbrev pub invariant-Values::feed-loop-value : goal.invariant-Values::feed-loop-value
invariant-Values::feed-loop-value g l = fold g.H.Hasher.write l.state (value_list_writes (map value_of (drop l.value-index l.value-items))) ≡ fold g.H.Hasher.write l.fn.state (value_list_writes l.self)
