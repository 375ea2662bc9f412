-- The depth left falls at each child; within a node, a reader is above those that it calls.
use Rattle.std.proofs.Common.{◌≡◌, ◌-◌, ◌*◌, ◌+◌, length}
use Rattle.std.specs.List.{zip}
use Rattle.vx_codec.specs.Format.{both}
use Rattle.vx_codec.specs.Lists.{repeated_at}
use Rattle.vx_codec.proofs.Loops.{with_front}
use Rattle.vx_spelling.specs.Fields.{name}
use Rattle.vx_spelling.specs.TreeSpelling.{tree_at, trees_by}
use Rattle.vx_file.proofs.reading.+read_tree.Given as goal

abbrev pub decreases-tree::read_tree : goal.decreases-tree::read_tree
decreases-tree::read_tree l = 8 * l.depth

abbrev pub decreases-tree::read_node : goal.decreases-tree::read_node
decreases-tree::read_node l = 8 * l.depth + 7

abbrev pub decreases-tree::read_two : goal.decreases-tree::read_two
decreases-tree::read_two l = 8 * l.depth + 1

abbrev pub decreases-tree::read_three : goal.decreases-tree::read_three
decreases-tree::read_three l = 8 * l.depth + 2

abbrev pub decreases-nested::read_struct : goal.decreases-nested::read_struct
decreases-nested::read_struct l = 8 * l.depth + 6

abbrev pub decreases-nested::read_field : goal.decreases-nested::read_field
decreases-nested::read_field l = 8 * l.depth + 1

abbrev pub decreases-nested::read_fields : goal.decreases-nested::read_fields
decreases-nested::read_fields l = 8 * l.depth + 2

abbrev pub decreases-nested::read_list : goal.decreases-nested::read_list
decreases-nested::read_list l = 8 * l.depth + 6

abbrev pub decreases-nested::read_fixed_size_list : goal.decreases-nested::read_fixed_size_list
decreases-nested::read_fixed_size_list l = 8 * l.depth + 6

abbrev pub decreases-temporal::read_timestamp : goal.decreases-temporal::read_timestamp
decreases-temporal::read_timestamp l = 8 * l.depth + 6

abbrev pub decreases-temporal::read_datetime_parts : goal.decreases-temporal::read_datetime_parts
decreases-temporal::read_datetime_parts l = 8 * l.depth + 6

abbrev pub decreases-codes::read_var_bin : goal.decreases-codes::read_var_bin
decreases-codes::read_var_bin l = 8 * l.depth + 6

abbrev pub decreases-codes::read_masked : goal.decreases-codes::read_masked
decreases-codes::read_masked l = 8 * l.depth + 6

abbrev pub decreases-codes::read_dict : goal.decreases-codes::read_dict
decreases-codes::read_dict l = 8 * l.depth + 6

abbrev pub decreases-codes::read_run_end : goal.decreases-codes::read_run_end
decreases-codes::read_run_end l = 8 * l.depth + 6

abbrev pub decreases-codes::read_rle : goal.decreases-codes::read_rle
decreases-codes::read_rle l = 8 * l.depth + 6

abbrev pub decreases-patches::read_patch_fields : goal.decreases-patches::read_patch_fields
decreases-patches::read_patch_fields l = 8 * l.depth + 2

abbrev pub decreases-patches::read_flat : goal.decreases-patches::read_flat
decreases-patches::read_flat l = 8 * l.depth + 3

abbrev pub decreases-patches::read_maybe_flat : goal.decreases-patches::read_maybe_flat
decreases-patches::read_maybe_flat l = 8 * l.depth + 4

abbrev pub decreases-patches::read_maybe_tree : goal.decreases-patches::read_maybe_tree
decreases-patches::read_maybe_tree l = 8 * l.depth + 1

abbrev pub decreases-patches::read_patches : goal.decreases-patches::read_patches
decreases-patches::read_patches l = 8 * l.depth + 3

abbrev pub decreases-patches::read_sparse : goal.decreases-patches::read_sparse
decreases-patches::read_sparse l = 8 * l.depth + 6

abbrev pub decreases-packed::read_bit_packed : goal.decreases-packed::read_bit_packed
decreases-packed::read_bit_packed l = 8 * l.depth + 6

abbrev pub decreases-packed::read_bit_packed_v2 : goal.decreases-packed::read_bit_packed_v2
decreases-packed::read_bit_packed_v2 l = 8 * l.depth + 6

abbrev pub decreases-differences::read_for : goal.decreases-differences::read_for
decreases-differences::read_for l = 8 * l.depth + 6

abbrev pub decreases-differences::read_for_v2 : goal.decreases-differences::read_for_v2
decreases-differences::read_for_v2 l = 8 * l.depth + 6

abbrev pub decreases-differences::read_delta : goal.decreases-differences::read_delta
decreases-differences::read_delta l = 8 * l.depth + 6

abbrev pub decreases-differences::read_zig_zag : goal.decreases-differences::read_zig_zag
decreases-differences::read_zig_zag l = 8 * l.depth + 6

abbrev pub invariant-nested::read_fields-loop : goal.invariant-nested::read_fields-loop
invariant-nested::read_fields-loop l = record {
  lengths : length l.names ≡ length l.fields;
  read : with_front (zip l.names l.fields) (repeated_at (both name (trees_by (tree_at l.depth))).parse (l.count - l.counter) l.rest) ≡ repeated_at (both name (trees_by (tree_at l.depth))).parse l.count l.bytes;
}
