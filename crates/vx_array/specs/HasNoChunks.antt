-- Packed integers keep no chunk offsets of their patches.
use Rattle.std.specs.Prelude.{◌≡◌, IfSome, None}
use Rattle.vx_array.specs.declared.array.Node.{Node}
use Rattle.vx_array.specs.declared.array.Node.TheVariants.{BitPacked, BitPackedV2}
use Rattle.vx_array.specs.TreeOf.{unboxed}

-- a node has no chunk offsets but those of its tree: patches beneath packed integers are without
abbrev pub HasNoChunks : Node → Type 0
HasNoChunks (BitPacked p width bytes len valid patches n) = IfSome (unboxed patches) (λ own. own.chunks ≡ None)
HasNoChunks (BitPackedV2 p bytes offsets len valid patches n) = IfSome (unboxed patches) (λ own. own.chunks ≡ None)
HasNoChunks _ = Unit {0}
