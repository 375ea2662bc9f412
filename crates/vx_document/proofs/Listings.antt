-- The listings of several trees.
use Rattle.std.proofs.Common.{◌≡◌, ◌++◌, ℕ, List, [], ◌∷◌, Option, Some, None, refl, ap}
use Rattle.std.specs.List.{flat_map}
use Rattle.vx_model.specs.Tree.{Tree, node_count, of_list}
use Rattle.vx_document.specs.Listing.{listing, listings}

pub listings-of_list : (indent : List ℕ) (ts : List Tree) → listings indent (of_list ts) ≡ flat_map (listing indent) ts
listings-of_list indent [] = refl
listings-of_list indent (t ∷ ts) = ap (λ text. listing indent t ++ text) (listings-of_list indent ts)

-- the nodes of chunk offsets, 0 where there are none
abbrev pub chunk_nodes : Option Tree → ℕ
chunk_nodes None = 0
chunk_nodes (Some chunks) = node_count chunks
