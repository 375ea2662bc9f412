-- Which trees a file can hold: the storable ones, whose numbers fit their fields.
use Rattle.std.specs.Prelude.{ℕ, suc, ◌≤◌, max, Bool, true, ◌&&◌, IsTrue, List, [], ◌∷◌, length, nat_le}
use Rattle.vx_codec.specs.Lists.{delimited}
use Rattle.vx_codec.specs.Varint.{varint}
use Rattle.vx_model.specs.Rows.{rows}
use Rattle.vx_model.specs.Tree.{Tree, Trees, bool, primitive, var_bin_view, var_bin, timestamp, constant, masked, bit_packed, bit_packed_with, frame_of_reference, zig_zag, dict, nulls, structure, list, fixed_size_list, none, more, sparse, run_end, rle, sequence, delta, datetime_parts, bit_packed_v2, bit_packed_v2_with, frame_of_reference_v2, sparse_chunked}
use Rattle.vx_model.specs.TreeType.{tree_type}
use Rattle.vx_model.specs.WellFormed.{WellFormed}
use Rattle.vx_spelling.specs.Fields.{are_few, name, timestamp_kind, list_size, wide_integer}
use Rattle.vx_spelling.specs.TypeSpelling.{type_depth}
use Rattle.vx_spelling.specs.ValueSpelling.{ScalarFits}

-- the number of nodes on the longest path
abbrev mutual
  pub depth : Tree → ℕ
  depth (bool bs valid n) = 1
  depth (primitive p xs valid n) = 1
  depth (var_bin_view vs valid t) = 1
  depth (var_bin offsets bs valid t) = suc (depth offsets)
  depth (timestamp storage k) = suc (depth storage)
  depth (constant s len) = 1
  depth (masked child valid) = suc (depth child)
  depth (bit_packed k) = 1
  depth (bit_packed_with k len offset indices values) = suc (max (depth indices) (depth values))
  depth (frame_of_reference encoded reference) = suc (depth encoded)
  depth (zig_zag encoded) = suc (depth encoded)
  depth (dict codes values) = suc (max (depth codes) (depth values))
  depth (nulls len) = 1
  depth (structure names fields len valid n) = suc (depths fields)
  depth (list elements offsets valid n) = suc (max (depth elements) (depth offsets))
  depth (fixed_size_list elements size len valid n) = suc (depth elements)
  depth (sparse len offset indices values fill) = suc (max (depth indices) (depth values))
  depth (run_end ends values) = suc (max (depth ends) (depth values))
  depth (rle values indices offsets len) = suc (max (depth values) (max (depth indices) (depth offsets)))
  depth (sequence p n first step len) = 1
  depth (delta bases deltas len valid n) = suc (max (depth bases) (depth deltas))
  depth (datetime_parts k n days seconds subseconds) = suc (max (depth days) (max (depth seconds) (depth subseconds)))
  depth (bit_packed_v2 k offsets) = suc (depth offsets)
  depth (bit_packed_v2_with k offsets len offset indices values) = suc (max (depth offsets) (max (depth indices) (depth values)))
  depth (frame_of_reference_v2 encoded references) = suc (max (depth encoded) (depth references))
  depth (sparse_chunked len offset indices values chunks fill) = suc (max (max (depth indices) (depth values)) (depth chunks))

  -- the number of nodes on the longest path of several trees
  pub depths : Trees → ℕ
  depths none = 0
  depths (more t ts) = max (depth t) (depths ts)

-- whether a node has at most 2^31 + 5,121 rows, and a type in which at most 64 types nest
abbrev pub is_within : Tree → Bool
is_within t = are_few (length (rows t)) && nat_le (type_depth (tree_type t)) 64

-- whether that holds of each node below the root
abbrev mutual
  pub is_within_below : Tree → Bool
  is_within_below (bool bs valid n) = true
  is_within_below (primitive p xs valid n) = true
  is_within_below (var_bin_view vs valid t) = true
  is_within_below (var_bin offsets bs valid t) = is_within offsets && is_within_below offsets
  is_within_below (timestamp storage k) = is_within storage && is_within_below storage
  is_within_below (constant s len) = true
  is_within_below (masked child valid) = is_within child && is_within_below child
  is_within_below (bit_packed k) = true
  is_within_below (bit_packed_with k len offset indices values) = (is_within indices && is_within_below indices) && (is_within values && is_within_below values)
  is_within_below (frame_of_reference encoded reference) = is_within encoded && is_within_below encoded
  is_within_below (zig_zag encoded) = is_within encoded && is_within_below encoded
  is_within_below (dict codes values) = (is_within codes && is_within_below codes) && (is_within values && is_within_below values)
  is_within_below (nulls len) = true
  is_within_below (structure names fields len valid n) = are_within fields
  is_within_below (list elements offsets valid n) = (is_within elements && is_within_below elements) && (is_within offsets && is_within_below offsets)
  is_within_below (fixed_size_list elements size len valid n) = is_within elements && is_within_below elements
  is_within_below (sparse len offset indices values fill) = (is_within indices && is_within_below indices) && (is_within values && is_within_below values)
  is_within_below (run_end ends values) = (is_within ends && is_within_below ends) && (is_within values && is_within_below values)
  is_within_below (rle values indices offsets len) =
      (is_within values && is_within_below values) && ((is_within indices && is_within_below indices) && (is_within offsets && is_within_below offsets))
  is_within_below (sequence p n first step len) = true
  is_within_below (delta bases deltas len valid n) = (is_within bases && is_within_below bases) && (is_within deltas && is_within_below deltas)
  is_within_below (datetime_parts k n days seconds subseconds) =
      (is_within days && is_within_below days) && ((is_within seconds && is_within_below seconds) && (is_within subseconds && is_within_below subseconds))
  is_within_below (bit_packed_v2 k offsets) = is_within offsets && is_within_below offsets
  is_within_below (bit_packed_v2_with k offsets len offset indices values) =
      (is_within offsets && is_within_below offsets) && ((is_within indices && is_within_below indices) && (is_within values && is_within_below values))
  is_within_below (frame_of_reference_v2 encoded references) = (is_within encoded && is_within_below encoded) && (is_within references && is_within_below references)
  is_within_below (sparse_chunked len offset indices values chunks fill) =
      ((is_within indices && is_within_below indices) && (is_within values && is_within_below values)) && (is_within chunks && is_within_below chunks)

  -- whether it holds of each node of several trees
  pub are_within : Trees → Bool
  are_within none = true
  are_within (more t ts) = (is_within t && is_within_below t) && are_within ts

-- whether it holds of each node
abbrev pub all_within : Tree → Bool
all_within t = is_within t && is_within_below t

-- well formed, at most 64 nodes on a path, and in each node at most 2^31 + 5,121 rows and 64 types nested
pub record IsStorable (t : Tree) : Type 0 where
  pub well_formed : WellFormed t
  pub shallow : depth t ≤ 64
  pub within : IsTrue (all_within t)

-- What a tree names fits its fields: offsets, numbers of fields and of bytes below 2^64, sizes below 2^32, the numbers of scalars
-- and of kinds of timestamps, and names in UTF-8. The row limit and the constructors' conditions bound all other numbers.
abbrev mutual
  pub NumbersFit : Tree → Type 0
  NumbersFit (bool bs valid n) = Unit {0}
  NumbersFit (primitive p xs valid n) = Unit {0}
  NumbersFit (var_bin_view vs valid t) = Unit {0}
  NumbersFit (var_bin offsets bs valid t) = NumbersFit offsets × delimited.Fits bs
  NumbersFit (timestamp storage k) = NumbersFit storage × timestamp_kind.Fits k
  NumbersFit (constant s len) = ScalarFits s
  NumbersFit (masked child valid) = NumbersFit child
  NumbersFit (bit_packed k) = Unit {0}
  NumbersFit (bit_packed_with k len offset indices values) = varint.Fits offset × (NumbersFit indices × NumbersFit values)
  NumbersFit (frame_of_reference encoded reference) = NumbersFit encoded × ScalarFits reference
  NumbersFit (zig_zag encoded) = NumbersFit encoded
  NumbersFit (dict codes values) = NumbersFit codes × NumbersFit values
  NumbersFit (nulls len) = Unit {0}
  NumbersFit (structure names fields len valid n) = varint.Fits (length names) × FieldsFit names fields
  NumbersFit (list elements offsets valid n) = NumbersFit elements × NumbersFit offsets
  NumbersFit (fixed_size_list elements size len valid n) = NumbersFit elements × list_size.Fits size
  NumbersFit (sparse len offset indices values fill) = (varint.Fits offset × (NumbersFit indices × NumbersFit values)) × ScalarFits fill
  NumbersFit (run_end ends values) = NumbersFit ends × NumbersFit values
  NumbersFit (rle values indices offsets len) = NumbersFit values × (NumbersFit indices × NumbersFit offsets)
  NumbersFit (sequence p n first step len) = wide_integer.Fits first × wide_integer.Fits step
  NumbersFit (delta bases deltas len valid n) = NumbersFit bases × NumbersFit deltas
  NumbersFit (datetime_parts k n days seconds subseconds) = timestamp_kind.Fits k × (NumbersFit days × (NumbersFit seconds × NumbersFit subseconds))
  NumbersFit (bit_packed_v2 k offsets) = NumbersFit offsets × delimited.Fits k.bytes
  NumbersFit (bit_packed_v2_with k offsets len offset indices values) =
      (NumbersFit offsets × delimited.Fits k.bytes) × (varint.Fits offset × (NumbersFit indices × NumbersFit values))
  NumbersFit (frame_of_reference_v2 encoded references) = NumbersFit encoded × NumbersFit references
  NumbersFit (sparse_chunked len offset indices values chunks fill) =
      ((varint.Fits offset × (NumbersFit indices × NumbersFit values)) × NumbersFit chunks) × ScalarFits fill

  -- a name that fits for each tree, and the trees' numbers fit
  pub FieldsFit : List (List ℕ) → Trees → Type 0
  FieldsFit [] none = Unit {0}
  FieldsFit (field ∷ names) (more t ts) = (name.Fits field × NumbersFit t) × FieldsFit names ts
  FieldsFit _ _ = ⊥
