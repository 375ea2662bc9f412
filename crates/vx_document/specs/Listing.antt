-- The listing of a tree: a line for each node, and the line of sizes.
use Rattle.std.specs.Prelude.{ℕ, List, [], ◌∷◌, ◌++◌, length, decimal, codes}
use Rattle.std.specs.Fmt.{signed_decimal}
use Rattle.std.specs.List.{concat}
use Rattle.vx_base.specs.IdName.{id_name}
use Rattle.vx_base.specs.Packed.{block_count}
use Rattle.vx_base.specs.PlainScalar.{PlainScalar}
use Rattle.vx_base.specs.TypeText.{type_text, value_text}
use Rattle.vx_model.specs.Tree.{Tree, Trees, bool, primitive, var_bin_view, var_bin, timestamp, constant, masked, bit_packed, bit_packed_with, frame_of_reference, zig_zag, dict, nulls, structure, list, fixed_size_list, none, more, sparse, run_end, rle, sequence, delta, datetime_parts, bit_packed_v2, bit_packed_v2_with, frame_of_reference_v2, sparse_chunked}
use Rattle.vx_model.specs.Nodes.{encoding}
use Rattle.vx_model.specs.TreeType.{tree_type}
use Rattle.vx_model.specs.Rows.{rows}
use Rattle.vx_model.specs.Size.{nbytes}

-- the numbers of packed integers: bits of a row, number of patches
abbrev pub packed_numbers : ℕ → ℕ → List ℕ
packed_numbers width patches = codes " width=" ++ decimal width ++ codes " patches=" ++ decimal patches

-- the numbers of integers packed in blocks: blocks of 1,024 rows, number of patches
abbrev pub block_numbers : ℕ → ℕ → List ℕ
block_numbers blocks patches = codes " blocks=" ++ decimal blocks ++ codes " patches=" ++ decimal patches

-- the numbers of patches beside a fill: offset, fill, number of patches
abbrev pub sparse_numbers : ℕ → PlainScalar → ℕ → List ℕ
sparse_numbers offset fill patches = codes " offset=" ++ decimal offset ++ codes " fill=" ++ value_text fill.dtype fill.value ++ codes " patches=" ++ decimal patches

-- the numbers that the root's encoding has beside those of every node
abbrev pub own_numbers : Tree → List ℕ
own_numbers (bool bs valid n) = []
own_numbers (primitive p xs valid n) = []
own_numbers (var_bin_view vs valid t) = []
own_numbers (var_bin offsets bytes valid t) = []
own_numbers (timestamp storage k) = []
own_numbers (constant s len) = codes " value=" ++ value_text s.dtype s.value
own_numbers (masked child valid) = []
own_numbers (bit_packed k) = packed_numbers k.width 0
own_numbers (bit_packed_with k len offset indices values) = packed_numbers k.width (length (rows indices))
own_numbers (frame_of_reference encoded reference) = codes " reference=" ++ value_text reference.dtype reference.value
own_numbers (zig_zag encoded) = []
own_numbers (dict places values) = []
own_numbers (nulls len) = []
own_numbers (structure names fields len valid n) = []
own_numbers (list elements offsets valid n) = []
own_numbers (fixed_size_list elements size len valid n) = codes " list_size=" ++ decimal size
own_numbers (sparse len offset indices values fill) = sparse_numbers offset fill (length (rows indices))
own_numbers (run_end ends values) = []
own_numbers (rle values indices offsets len) = []
own_numbers (sequence p n first step len) = codes " first=" ++ signed_decimal first ++ codes " step=" ++ signed_decimal step
own_numbers (delta bases deltas len valid n) = []
own_numbers (datetime_parts k n days seconds subseconds) = []
own_numbers (bit_packed_v2 k offsets) = block_numbers (block_count k.len) 0
own_numbers (bit_packed_v2_with k offsets len offset indices values) = block_numbers (block_count k.len) (length (rows indices))
own_numbers (frame_of_reference_v2 encoded references) = []
own_numbers (sparse_chunked len offset indices values chunks fill) = sparse_numbers offset fill (length (rows indices))

-- the root's encoding, type, rows and bytes; the bytes saturate at 2^128 - 1
unfoldable pub heading : Tree → List ℕ
heading tree =
    concat (id_name (encoding tree) ∷ codes " " ∷ type_text (tree_type tree) ∷ codes " len=" ∷ decimal (length (rows tree)) ∷ codes " size=" ∷ decimal (nbytes tree) ∷ [])

-- the root's line
unfoldable pub line : List ℕ → Tree → List ℕ
line indent tree = concat (indent ∷ heading tree ∷ own_numbers tree ∷ codes "\n" ∷ [])

-- an indent of two spaces more
abbrev pub deeper : List ℕ → List ℕ
deeper indent = concat (indent ∷ codes "  " ∷ [])

-- in preorder: the root's line, then the listings of its children, indented by two spaces more
abbrev mutual
  pub listing : List ℕ → Tree → List ℕ
  listing indent (bool bs valid n) = line indent (bool bs valid n)
  listing indent (primitive p xs valid n) = line indent (primitive p xs valid n)
  listing indent (var_bin_view vs valid t) = line indent (var_bin_view vs valid t)
  listing indent (var_bin offsets bytes valid t) = line indent (var_bin offsets bytes valid t) ++ listing (deeper indent) offsets
  listing indent (timestamp storage k) = line indent (timestamp storage k) ++ listing (deeper indent) storage
  listing indent (constant s len) = line indent (constant s len)
  listing indent (masked child valid) = line indent (masked child valid) ++ listing (deeper indent) child
  listing indent (bit_packed k) = line indent (bit_packed k)
  listing indent (bit_packed_with k len offset indices values) =
      line indent (bit_packed_with k len offset indices values) ++ listing (deeper indent) indices ++ listing (deeper indent) values
  listing indent (frame_of_reference encoded reference) = line indent (frame_of_reference encoded reference) ++ listing (deeper indent) encoded
  listing indent (zig_zag encoded) = line indent (zig_zag encoded) ++ listing (deeper indent) encoded
  listing indent (dict places values) = line indent (dict places values) ++ listing (deeper indent) places ++ listing (deeper indent) values
  listing indent (nulls len) = line indent (nulls len)
  listing indent (structure names fields len valid n) = line indent (structure names fields len valid n) ++ listings (deeper indent) fields
  listing indent (list elements offsets valid n) = line indent (list elements offsets valid n) ++ listing (deeper indent) elements ++ listing (deeper indent) offsets
  listing indent (fixed_size_list elements size len valid n) = line indent (fixed_size_list elements size len valid n) ++ listing (deeper indent) elements
  listing indent (sparse len offset indices values fill) =
      line indent (sparse len offset indices values fill) ++ listing (deeper indent) indices ++ listing (deeper indent) values
  listing indent (run_end ends values) = line indent (run_end ends values) ++ listing (deeper indent) ends ++ listing (deeper indent) values
  listing indent (rle values indices offsets len) =
      line indent (rle values indices offsets len) ++ listing (deeper indent) values ++ listing (deeper indent) indices ++ listing (deeper indent) offsets
  listing indent (sequence p n first step len) = line indent (sequence p n first step len)
  listing indent (delta bases deltas len valid n) = line indent (delta bases deltas len valid n) ++ listing (deeper indent) bases ++ listing (deeper indent) deltas
  listing indent (datetime_parts k n days seconds subseconds) =
      line indent (datetime_parts k n days seconds subseconds) ++ listing (deeper indent) days ++ listing (deeper indent) seconds ++ listing (deeper indent) subseconds
  listing indent (bit_packed_v2 k offsets) = line indent (bit_packed_v2 k offsets) ++ listing (deeper indent) offsets
  listing indent (bit_packed_v2_with k offsets len offset indices values) =
      line indent (bit_packed_v2_with k offsets len offset indices values) ++ listing (deeper indent) offsets ++ listing (deeper indent) indices ++ listing (deeper indent) values
  listing indent (frame_of_reference_v2 encoded references) =
      line indent (frame_of_reference_v2 encoded references) ++ listing (deeper indent) encoded ++ listing (deeper indent) references
  listing indent (sparse_chunked len offset indices values chunks fill) =
      line indent (sparse_chunked len offset indices values chunks fill) ++ listing (deeper indent) indices ++ listing (deeper indent) values ++ listing (deeper indent) chunks

  -- the listings of several trees, one after the other
  pub listings : List ℕ → Trees → List ℕ
  listings indent none = []
  listings indent (more t ts) = listing indent t ++ listings indent ts

-- the bytes of the plain tree and of the compressed one
unfoldable pub sizes_line : ℕ → ℕ → List ℕ
sizes_line plain tree = concat (codes "plain=" ∷ decimal plain ∷ codes " tree=" ∷ decimal tree ∷ codes "\n" ∷ [])
