use Rattle.std.proofs.Common.{◌≡◌, fold, map, drop}
use Rattle.vx_base.specs.TypeOf.{field_of, fields_of}
use Rattle.vx_base.specs.Writes.{field_list_writes}
use Rattle.vx_base.proofs.dtype.+feed.Given as goal

-- what the rest feeds yet leads to what all feed
abbrev pub invariant-Fields::feed-loop-field : goal.invariant-Fields::feed-loop-field
invariant-Fields::feed-loop-field g l = fold g.H.Hasher.write l.state (field_list_writes (map field_of (drop l.field-index l.field-items))) ≡ fold g.H.Hasher.write l.fn.state (field_list_writes (fields_of l.self))
