-- How the logic stores a tree: a number for the node, its own data, and the trees inside.
use Rattle.std.specs.Prelude.{◌≡◌, ℕ, ℤ, Bool, List, Option, cond, ◌==◌, refl}
use Rattle.std.proofs.Common.{ap}
use Rattle.std.specs.Coded.{Coded, coded_list}
use Rattle.vx_base.specs.declared.ptype.PType.{PType}
use Rattle.vx_base.specs.declared.dtype.Nullability.{Nullability}
use Rattle.vx_base.specs.PlainType.{PlainType, stored_ptype, stored_nullability, stored_type}
use Rattle.vx_base.specs.Timestamps.{PlainTimestamp, stored_kind}
use Rattle.vx_base.specs.PlainScalar.{PlainScalar, stored_scalar}
use Rattle.vx_base.specs.Storable.{Storable, code_of, first, rest, stored_ℕ, stored_ℤ, stored_bool, stored_bytes, stored_list, stored_option, stored×}
use Rattle.vx_model.specs.Tree.{Tree, Trees, Validity, PlainPacked, PlainBlocks, PlainPatches, bool, primitive, var_bin_view, var_bin, timestamp, constant, masked, bit_packed, bit_packed_with, frame_of_reference, zig_zag, dict, nulls, structure, list, fixed_size_list, none, more, sparse, run_end, rle, sequence, delta, datetime_parts, bit_packed_v2, bit_packed_v2_with, frame_of_reference_v2, sparse_chunked}
use base.Stored.{Gv, gnil, gnum, gcons, num}

-- truth values are stored as a list
abbrev pub stored_bits : Storable (List Bool)
stored_bits = stored_list stored_bool

-- validity is stored as an option of a list
abbrev pub stored_validity : Storable Validity
stored_validity = stored_option stored_bits

abbrev pub stored_primitive : Storable (PType × (List ℤ × (Validity × Nullability)))
stored_primitive = stored× stored_ptype (stored× (stored_list stored_ℤ) (stored× stored_validity stored_nullability))

abbrev pub stored_truths : Storable (List Bool × (Validity × Nullability))
stored_truths = stored× stored_bits (stored× stored_validity stored_nullability)

abbrev pub stored_view : Storable (List (List ℕ) × (Validity × PlainType))
stored_view = stored× (stored_list stored_bytes) (stored× stored_validity stored_type)

abbrev pub stored_var_bin : Storable (List ℕ × (Validity × PlainType))
stored_var_bin = stored× stored_bytes (stored× stored_validity stored_type)

abbrev pub stored_constant : Storable (PlainScalar × ℕ)
stored_constant = stored× stored_scalar stored_ℕ

-- what a struct has of its own, as pairs
abbrev pub stored_structure : Storable (List (List ℕ) × (ℕ × (Validity × Nullability)))
stored_structure = stored× (stored_list stored_bytes) (stored× stored_ℕ (stored× stored_validity stored_nullability))

-- what lists have of their own, as a pair
abbrev pub stored_lists : Storable (Validity × Nullability)
stored_lists = stored× stored_validity stored_nullability

-- what lists of fixed size have of their own, as pairs
abbrev pub stored_fixed : Storable (ℕ × (ℕ × (Validity × Nullability)))
stored_fixed = stored× stored_ℕ (stored× stored_ℕ (stored× stored_validity stored_nullability))

-- what the sparse, sequence and delta nodes have of their own, as pairs
abbrev pub stored_sparse : Storable (ℕ × (ℕ × PlainScalar))
stored_sparse = stored× stored_ℕ (stored× stored_ℕ stored_scalar)

abbrev pub stored_sequence : Storable ((PType × Nullability) × (ℤ × (ℤ × ℕ)))
stored_sequence = stored× (stored× stored_ptype stored_nullability) (stored× stored_ℤ (stored× stored_ℤ stored_ℕ))

abbrev pub stored_delta : Storable (ℕ × (Validity × Nullability))
stored_delta = stored× stored_ℕ (stored× stored_validity stored_nullability)

-- the fields of packed integers, as pairs
abbrev pub Packed : Type 0
Packed = (PType × (ℕ × List ℕ)) × (ℕ × (Validity × Nullability))

abbrev pub stored_packed_parts : Storable Packed
stored_packed_parts = stored× (stored× stored_ptype (stored× stored_ℕ (stored_list stored_ℕ))) (stored× stored_ℕ (stored× stored_validity stored_nullability))

abbrev pub packed_parts : PlainPacked → Packed
packed_parts k = ((k.ptype, (k.width, k.bytes)), (k.len, (k.valid, k.nullability)))

abbrev pub packed_by : Packed → PlainPacked
packed_by l = record { ptype = l.0.0; width = l.0.1.0; bytes = l.0.1.1; len = l.1.0; valid = l.1.1.0; nullability = l.1.1.1 }

abbrev pub stored_packed : Storable PlainPacked
stored_packed =
    record {
      to = λ k. stored_packed_parts.to (packed_parts k);
      from = λ g. packed_by (stored_packed_parts.from g);
      back = λ k i. packed_by (stored_packed_parts.back (packed_parts k) i);
    }

abbrev pub stored_packed_with : Storable (PlainPacked × (ℕ × ℕ))
stored_packed_with = stored× stored_packed (stored× stored_ℕ stored_ℕ)

-- the fields of integers packed in blocks, as pairs
abbrev pub Blocks : Type 0
Blocks = (PType × List ℕ) × (ℕ × (Validity × Nullability))

abbrev pub stored_blocks_parts : Storable Blocks
stored_blocks_parts = stored× (stored× stored_ptype (stored_list stored_ℕ)) (stored× stored_ℕ (stored× stored_validity stored_nullability))

abbrev pub blocks_parts : PlainBlocks → Blocks
blocks_parts k = ((k.ptype, k.bytes), (k.len, (k.valid, k.nullability)))

abbrev pub blocks_by : Blocks → PlainBlocks
blocks_by l = record { ptype = l.0.0; bytes = l.0.1; len = l.1.0; valid = l.1.1.0; nullability = l.1.1.1 }

abbrev pub stored_blocks : Storable PlainBlocks
stored_blocks =
    record {
      to = λ k. stored_blocks_parts.to (blocks_parts k);
      from = λ g. blocks_by (stored_blocks_parts.from g);
      back = λ k i. blocks_by (stored_blocks_parts.back (blocks_parts k) i);
    }

abbrev pub stored_blocks_with : Storable (PlainBlocks × (ℕ × ℕ))
stored_blocks_with = stored× stored_blocks (stored× stored_ℕ stored_ℕ)

-- what parts of timestamps have of their own, as a pair
abbrev pub stored_datetime : Storable (PlainTimestamp × Nullability)
stored_datetime = stored× stored_kind stored_nullability

-- a number, a label and the trees inside, as one tree of numbers
abbrev pub node : ℕ → Gv → Gv → Gv
node number label inside = gcons (gcons (gnum number) label) inside

-- the trees inside, as a list
abbrev pub one : Gv → Gv
one a = gcons a gnil

abbrev pub two : Gv → Gv → Gv
two a b = gcons a (gcons b gnil)

abbrev pub three : Gv → Gv → Gv → Gv
three a b c = gcons a (gcons b (gcons c gnil))

abbrev mutual
  pub to : Tree → Gv
  to (primitive p xs valid n) = node 0 (stored_primitive.to (p, (xs, (valid, n)))) gnil
  to (constant s len) = node 1 (stored_constant.to (s, len)) gnil
  to (masked child valid) = node 2 (stored_bits.to valid) (one (to child))
  to (bit_packed k) = node 3 (stored_packed.to k) gnil
  to (bit_packed_with k len offset indices values) = node 4 (stored_packed_with.to (k, (len, offset))) (two (to indices) (to values))
  to (frame_of_reference encoded reference) = node 5 (stored_scalar.to reference) (one (to encoded))
  to (zig_zag encoded) = node 6 gnil (one (to encoded))
  to (dict codes values) = node 7 gnil (two (to codes) (to values))
  to (bool bs valid n) = node 8 (stored_truths.to (bs, (valid, n))) gnil
  to (var_bin_view vs valid t) = node 9 (stored_view.to (vs, (valid, t))) gnil
  to (var_bin offsets bytes valid t) = node 10 (stored_var_bin.to (bytes, (valid, t))) (one (to offsets))
  to (timestamp storage k) = node 11 (stored_kind.to k) (one (to storage))
  to (nulls len) = node 12 (stored_ℕ.to len) gnil
  to (structure names fields len valid n) = node 13 (stored_structure.to (names, (len, (valid, n)))) (to_all fields)
  to (list elements offsets valid n) = node 14 (stored_lists.to (valid, n)) (two (to elements) (to offsets))
  to (fixed_size_list elements size len valid n) = node 15 (stored_fixed.to (size, (len, (valid, n)))) (one (to elements))
  to (sparse len offset indices values fill) = node 16 (stored_sparse.to (len, (offset, fill))) (two (to indices) (to values))
  to (run_end ends values) = node 17 gnil (two (to ends) (to values))
  to (rle values indices offsets len) = node 18 (stored_ℕ.to len) (three (to values) (to indices) (to offsets))
  to (sequence p n first step len) = node 19 (stored_sequence.to ((p, n), (first, (step, len)))) gnil
  to (delta bases deltas len valid n) = node 20 (stored_delta.to (len, (valid, n))) (two (to bases) (to deltas))
  to (datetime_parts k n days seconds subseconds) = node 21 (stored_datetime.to (k, n)) (three (to days) (to seconds) (to subseconds))
  to (bit_packed_v2 k offsets) = node 22 (stored_blocks.to k) (one (to offsets))
  to (bit_packed_v2_with k offsets len offset indices values) =
      node 23 (stored_blocks_with.to (k, (len, offset))) (three (to offsets) (to indices) (to values))
  to (frame_of_reference_v2 encoded references) = node 24 gnil (two (to encoded) (to references))
  to (sparse_chunked len offset indices values chunks fill) = node 25 (stored_sparse.to (len, (offset, fill))) (three (to indices) (to values) (to chunks))

  pub to_all : Trees → Gv
  to_all none = gnil
  to_all (more t ts) = gcons (to t) (to_all ts)

-- a tree for what stores none; nothing relies on it
abbrev pub some_tree : Tree
some_tree = constant (stored_scalar.from gnil) 0

abbrev pub tree_1 : Trees → Tree
tree_1 none = some_tree
tree_1 (more t ts) = t

abbrev pub tree_2 : Trees → Tree
tree_2 none = some_tree
tree_2 (more t ts) = tree_1 ts

abbrev pub tree_3 : Trees → Tree
tree_3 none = some_tree
tree_3 (more t ts) = tree_2 ts

abbrev pub primitive_by : PType × (List ℤ × (Validity × Nullability)) → Tree
primitive_by l = primitive l.0 l.1.0 l.1.1.0 l.1.1.1

abbrev pub constant_by : PlainScalar × ℕ → Tree
constant_by l = constant l.0 l.1

abbrev pub packed_with_by : PlainPacked × (ℕ × ℕ) → Tree → Tree → Tree
packed_with_by l indices values = bit_packed_with l.0 l.1.0 l.1.1 indices values

abbrev pub bool_by : List Bool × (Validity × Nullability) → Tree
bool_by l = bool l.0 l.1.0 l.1.1

abbrev pub view_by : List (List ℕ) × (Validity × PlainType) → Tree
view_by l = var_bin_view l.0 l.1.0 l.1.1

abbrev pub var_bin_by : List ℕ × (Validity × PlainType) → Tree → Tree
var_bin_by l offsets = var_bin offsets l.0 l.1.0 l.1.1

abbrev pub structure_by : List (List ℕ) × (ℕ × (Validity × Nullability)) → Trees → Tree
structure_by l fields = structure l.0 fields l.1.0 l.1.1.0 l.1.1.1

abbrev pub lists_by : Validity × Nullability → Tree → Tree → Tree
lists_by l elements offsets = list elements offsets l.0 l.1

abbrev pub fixed_by : ℕ × (ℕ × (Validity × Nullability)) → Tree → Tree
fixed_by l elements = fixed_size_list elements l.0 l.1.0 l.1.1.0 l.1.1.1

abbrev pub sparse_by : ℕ × (ℕ × PlainScalar) → Tree → Tree → Tree
sparse_by l indices values = sparse l.0 l.1.0 indices values l.1.1

abbrev pub sequence_by : (PType × Nullability) × (ℤ × (ℤ × ℕ)) → Tree
sequence_by l = sequence l.0.0 l.0.1 l.1.0 l.1.1.0 l.1.1.1

abbrev pub delta_by : ℕ × (Validity × Nullability) → Tree → Tree → Tree
delta_by l bases deltas = delta bases deltas l.0 l.1.0 l.1.1

abbrev pub datetime_by : PlainTimestamp × Nullability → Tree → Tree → Tree → Tree
datetime_by l days seconds subseconds = datetime_parts l.0 l.1 days seconds subseconds

abbrev pub blocks_with_by : PlainBlocks × (ℕ × ℕ) → Tree → Tree → Tree → Tree
blocks_with_by l offsets indices values = bit_packed_v2_with l.0 offsets l.1.0 l.1.1 indices values

abbrev pub chunked_by : ℕ × (ℕ × PlainScalar) → Tree → Tree → Tree → Tree
chunked_by l indices values chunks = sparse_chunked l.0 l.1.0 indices values chunks l.1.1

abbrev pub tree_at : ℕ → Gv → Trees → Tree
tree_at number label inside =
    cond (number == 0) (primitive_by (stored_primitive.from label))
    (cond (number == 1) (constant_by (stored_constant.from label))
    (cond (number == 2) (masked (tree_1 inside) (stored_bits.from label))
    (cond (number == 3) (bit_packed (stored_packed.from label))
    (cond (number == 4) (packed_with_by (stored_packed_with.from label) (tree_1 inside) (tree_2 inside))
    (cond (number == 5) (frame_of_reference (tree_1 inside) (stored_scalar.from label))
    (cond (number == 6) (zig_zag (tree_1 inside))
    (cond (number == 7) (dict (tree_1 inside) (tree_2 inside))
    (cond (number == 8) (bool_by (stored_truths.from label))
    (cond (number == 9) (view_by (stored_view.from label))
    (cond (number == 10) (var_bin_by (stored_var_bin.from label) (tree_1 inside))
    (cond (number == 11) (timestamp (tree_1 inside) (stored_kind.from label))
    (cond (number == 12) (nulls (stored_ℕ.from label))
    (cond (number == 13) (structure_by (stored_structure.from label) inside)
    (cond (number == 14) (lists_by (stored_lists.from label) (tree_1 inside) (tree_2 inside))
    (cond (number == 15) (fixed_by (stored_fixed.from label) (tree_1 inside))
    (cond (number == 16) (sparse_by (stored_sparse.from label) (tree_1 inside) (tree_2 inside))
    (cond (number == 17) (run_end (tree_1 inside) (tree_2 inside))
    (cond (number == 18) (rle (tree_1 inside) (tree_2 inside) (tree_3 inside) (stored_ℕ.from label))
    (cond (number == 19) (sequence_by (stored_sequence.from label))
    (cond (number == 20) (delta_by (stored_delta.from label) (tree_1 inside) (tree_2 inside))
    (cond (number == 21) (datetime_by (stored_datetime.from label) (tree_1 inside) (tree_2 inside) (tree_3 inside))
    (cond (number == 22) (bit_packed_v2 (stored_blocks.from label) (tree_1 inside))
    (cond (number == 23) (blocks_with_by (stored_blocks_with.from label) (tree_1 inside) (tree_2 inside) (tree_3 inside))
    (cond (number == 24) (frame_of_reference_v2 (tree_1 inside) (tree_2 inside))
    (chunked_by (stored_sparse.from label) (tree_1 inside) (tree_2 inside) (tree_3 inside))))))))))))))))))))))))))

-- a stored tree of numbers read as a tree, and as trees
abbrev pub read : Gv → Tree × Trees
read gnil = (some_tree, none)
read (gnum n) = (some_tree, none)
read (gcons label inside) = (tree_at (num (first label)) (rest label) (read inside).1, more (read label).0 (read inside).1)

abbrev pub from : Gv → Tree
from g = (read g).0

mutual
  pub from-to : (t : Tree) → from (to t) ≡ t
  from-to (primitive p xs valid n) = λ i. primitive_by (stored_primitive.back (p, (xs, (valid, n))) i)
  from-to (constant s len) = λ i. constant_by (stored_constant.back (s, len) i)
  from-to (masked child valid) = λ i. masked (from-to child i) (stored_bits.back valid i)
  from-to (bit_packed k) = λ i. bit_packed (stored_packed.back k i)
  from-to (bit_packed_with k len offset indices values) = λ i. packed_with_by (stored_packed_with.back (k, (len, offset)) i) (from-to indices i) (from-to values i)
  from-to (frame_of_reference encoded reference) = λ i. frame_of_reference (from-to encoded i) (stored_scalar.back reference i)
  from-to (zig_zag encoded) = λ i. zig_zag (from-to encoded i)
  from-to (dict codes values) = λ i. dict (from-to codes i) (from-to values i)
  from-to (bool bs valid n) = λ i. bool_by (stored_truths.back (bs, (valid, n)) i)
  from-to (var_bin_view vs valid t) = λ i. view_by (stored_view.back (vs, (valid, t)) i)
  from-to (var_bin offsets bytes valid t) = λ i. var_bin_by (stored_var_bin.back (bytes, (valid, t)) i) (from-to offsets i)
  from-to (timestamp storage k) = λ i. timestamp (from-to storage i) (stored_kind.back k i)
  from-to (nulls len) = ap nulls (stored_ℕ.back len)
  from-to (structure names fields len valid n) = λ i. structure_by (stored_structure.back (names, (len, (valid, n))) i) (from-to_all fields i)
  from-to (list elements offsets valid n) = λ i. lists_by (stored_lists.back (valid, n) i) (from-to elements i) (from-to offsets i)
  from-to (fixed_size_list elements size len valid n) = λ i. fixed_by (stored_fixed.back (size, (len, (valid, n))) i) (from-to elements i)
  from-to (sparse len offset indices values fill) = λ i. sparse_by (stored_sparse.back (len, (offset, fill)) i) (from-to indices i) (from-to values i)
  from-to (run_end ends values) = λ i. run_end (from-to ends i) (from-to values i)
  from-to (rle values indices offsets len) = λ i. rle (from-to values i) (from-to indices i) (from-to offsets i) (stored_ℕ.back len i)
  from-to (sequence p n first step len) = λ i. sequence_by (stored_sequence.back ((p, n), (first, (step, len))) i)
  from-to (delta bases deltas len valid n) = λ i. delta_by (stored_delta.back (len, (valid, n)) i) (from-to bases i) (from-to deltas i)
  from-to (datetime_parts k n days seconds subseconds) = λ i. datetime_by (stored_datetime.back (k, n) i) (from-to days i) (from-to seconds i) (from-to subseconds i)
  from-to (bit_packed_v2 k offsets) = λ i. bit_packed_v2 (stored_blocks.back k i) (from-to offsets i)
  from-to (bit_packed_v2_with k offsets len offset indices values) =
      λ i. blocks_with_by (stored_blocks_with.back (k, (len, offset)) i) (from-to offsets i) (from-to indices i) (from-to values i)
  from-to (frame_of_reference_v2 encoded references) = λ i. frame_of_reference_v2 (from-to encoded i) (from-to references i)
  from-to (sparse_chunked len offset indices values chunks fill) =
      λ i. chunked_by (stored_sparse.back (len, (offset, fill)) i) (from-to indices i) (from-to values i) (from-to chunks i)

  pub from-to_all : (ts : Trees) → (read (to_all ts)).1 ≡ ts
  from-to_all none = refl
  from-to_all (more t ts) = λ i. more (from-to t i) (from-to_all ts i)

-- a tree is stored as the number of its root, the root's own data, and the trees inside
abbrev pub stored_tree : Storable Tree
stored_tree = record { to = to; from = from; back = from-to }

-- the code by which the logic decides equality of trees
abbrev pub tree_code : Coded Tree
tree_code = code_of stored_tree

-- the code by which the logic decides equality of lists of trees
abbrev pub trees_code : Coded (List Tree)
trees_code = coded_list tree_code

-- ---- and patches

abbrev pub Patches : Type 0
Patches = (ℕ × ℕ) × (Tree × (Tree × Option Tree))

abbrev pub stored_patches_parts : Storable Patches
stored_patches_parts = stored× (stored× stored_ℕ stored_ℕ) (stored× stored_tree (stored× stored_tree (stored_option stored_tree)))

abbrev pub patches_parts : PlainPatches → Patches
patches_parts p = ((p.array_len, p.offset), (p.indices, (p.values, p.chunks)))

abbrev pub patches_by : Patches → PlainPatches
patches_by l = record { array_len = l.0.0; offset = l.0.1; indices = l.1.0; values = l.1.1.0; chunks = l.1.1.1 }

-- patches are stored as their numbers and their trees
abbrev pub stored_patches : Storable PlainPatches
stored_patches =
    record {
      to = λ p. stored_patches_parts.to (patches_parts p);
      from = λ g. patches_by (stored_patches_parts.from g);
      back = λ p i. patches_by (stored_patches_parts.back (patches_parts p) i);
    }

-- the code by which the logic decides equality of patches
abbrev pub patches_code : Coded PlainPatches
patches_code = code_of stored_patches
