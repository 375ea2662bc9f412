-- The rows of a column and of each nested column: their counts, and the extents of a tree, which bound them.
use Rattle.std.specs.Prelude.{ℕ, ◌+◌, ◌*◌, ◌^◌, ◌-◌, Bool, List, [], ◌∷◌, ◌++◌, map, length, nat_le}
use Rattle.std.specs.List.{list_all}
use Rattle.vx_base.specs.PlainScalar.{PlainScalar}
use Rattle.vx_base.specs.PlainType.{PlainType, PlainFields, boolean, primitive, utf8, binary}
use Rattle.vx_base.specs.PlainType as types
use Rattle.vx_base.specs.PlainValue.{PlainValue, PlainValues}
use Rattle.vx_model.specs.Tree.{Tree, Trees, bool, var_bin_view, var_bin, timestamp, constant, masked, bit_packed, bit_packed_with, frame_of_reference, zig_zag, dict, nulls, structure, list, fixed_size_list, none, more, sparse, run_end, rle, sequence, delta, datetime_parts, bit_packed_v2, bit_packed_v2_with, frame_of_reference_v2, sparse_chunked}
use Rattle.vx_model.specs.Nested.{first_within, rest_within, struct_rows, elements, fixed_elements}
use Rattle.vx_model.specs.Tree as trees
use Rattle.vx_model.specs.Rows.{rows, offset_at}

-- the number of rows of the column, and then of each nested column, in the order of the type
abbrev mutual
  pub counts : PlainType → List PlainValue → List ℕ
  counts types.null_type values = length values ∷ []
  counts (boolean n) values = length values ∷ []
  counts (primitive p n) values = length values ∷ []
  counts (utf8 n) values = length values ∷ []
  counts (binary n) values = length values ∷ []
  counts (types.timestamp k n) values = length values ∷ []
  counts (types.structure fs n) values = length values ∷ field_counts fs (struct_rows fs values)
  counts (types.list t n) values = length values ∷ counts t (elements values)
  counts (types.fixed_size_list t size n) values = length values ∷ counts t (fixed_elements t size values)

  -- the counts of each field's column
  pub field_counts : PlainFields → List PlainValues → List ℕ
  field_counts types.none rows = []
  field_counts (types.more name t fs) rows = counts t (map first_within rows) ++ field_counts fs (map rest_within rows)

-- the sums of two lists of counts, which are the counts of the concatenated columns
abbrev pub both : List ℕ → List ℕ → List ℕ
both [] others = []
both (count ∷ counts) [] = []
both (count ∷ counts) (other ∷ others) = (count + other) ∷ both counts others

-- the counts of `len` rows of one value
abbrev pub repeated : ℕ → PlainScalar → List ℕ
repeated len s = map (λ count. len * count) (counts s.dtype (s.value ∷ []))

-- the extents of a tree, without decoding it: as the counts of its rows, with the values of a constant and of a fill counted in
-- each of their rows, and rows beneath a null counted as they are stored
abbrev mutual
  pub extents : Tree → List ℕ
  extents (trees.primitive p xs valid n) = length xs ∷ []
  extents (bool bs valid n) = length bs ∷ []
  extents (var_bin_view vs valid t) = length vs ∷ []
  extents (var_bin offsets bs valid t) = (length (rows offsets) - 1) ∷ []
  extents (timestamp storage k) = extents storage
  extents (constant s len) = repeated len s
  extents (masked child valid) = extents child
  extents (bit_packed k) = k.len ∷ []
  extents (bit_packed_with k len offset indices values) = k.len ∷ []
  extents (frame_of_reference encoded reference) = extents encoded
  extents (zig_zag encoded) = extents encoded
  extents (dict codes values) = extents codes
  extents (nulls len) = len ∷ []
  extents (structure names fields len valid n) = len ∷ all_extents fields
  extents (list elements offsets valid n) = (length (rows offsets) - 1) ∷ extents elements
  extents (fixed_size_list elements size len valid n) = len ∷ extents elements
  extents (sparse len offset indices values fill) = both (extents values) (repeated (len - length (rows values)) fill)
  extents (run_end ends values) = offset_at (rows ends) (length (rows ends) - 1) ∷ []
  extents (rle values indices offsets len) = len ∷ []
  extents (sequence p n first step len) = len ∷ []
  extents (delta bases deltas len valid n) = len ∷ []
  extents (datetime_parts k n days seconds subseconds) = extents days
  extents (bit_packed_v2 k offsets) = k.len ∷ []
  extents (bit_packed_v2_with k offsets len offset indices values) = k.len ∷ []
  extents (frame_of_reference_v2 encoded references) = extents encoded
  extents (sparse_chunked len offset indices values chunks fill) = both (extents values) (repeated (len - length (rows values)) fill)

  -- of several trees, one after another
  pub all_extents : Trees → List ℕ
  all_extents none = []
  all_extents (more t ts) = extents t ++ all_extents ts

-- the row limit of compression
abbrev pub row_limit : ℕ
row_limit = 2 ^ 31

-- whether each extent is within the row limit
abbrev pub extents_fit : Tree → Bool
extents_fit t = list_all (λ extent. nat_le extent row_limit) (extents t)
