-- Eight times the nodes that are left to write; within a node, a writer is above those that it calls.
use Rattle.std.proofs.Common.{◌≡◌, ◌*◌, ◌+◌, ◌++◌, length, drop, true}
use Rattle.vx_array.specs.TreeOf.{unboxed}
use Rattle.vx_model.specs.Tree.{node_count, list_count, patches_count, of_list}
use Rattle.vx_spelling.specs.Storable.{are_within}
use Rattle.vx_spelling.specs.TreeSpelling.{fields_body}
use Rattle.vx_file.proofs.Counts.{maybe_count}
use Rattle.vx_file.proofs.writing.+put_tree.Given as goal

abbrev pub decreases-tree::put_tree : goal.decreases-tree::put_tree
decreases-tree::put_tree l = 8 * node_count l.tree.now + 4

abbrev pub decreases-tree::put_node : goal.decreases-tree::put_node
decreases-tree::put_node l = 8 * node_count l.tree.now + 3

abbrev pub decreases-tree::put_parent : goal.decreases-tree::put_parent
decreases-tree::put_parent l = 8 * node_count l.tree.now + 2

abbrev pub decreases-tree::put_packed : goal.decreases-tree::put_packed
decreases-tree::put_packed l = 8 * node_count l.tree.now + 1

abbrev pub decreases-tree::put_two : goal.decreases-tree::put_two
decreases-tree::put_two l = 8 * (node_count l.first.now.array.value + node_count l.second.now.array.value) + 5

abbrev pub decreases-nested::put_struct : goal.decreases-nested::put_struct
decreases-nested::put_struct l = 8 * list_count l.fields.now + 5

abbrev pub decreases-nested::put_fields : goal.decreases-nested::put_fields
decreases-nested::put_fields l = 8 * list_count l.fields.now + 4

abbrev pub decreases-nested::put_list : goal.decreases-nested::put_list
decreases-nested::put_list l = 8 * (node_count l.elements.now.array.value + node_count l.offsets.now.array.value) + 6

abbrev pub decreases-nested::put_fixed_size_list : goal.decreases-nested::put_fixed_size_list
decreases-nested::put_fixed_size_list l = 8 * node_count l.elements.now.array.value + 6

abbrev pub decreases-temporal::put_timestamp : goal.decreases-temporal::put_timestamp
decreases-temporal::put_timestamp l = 8 * node_count l.storage.now.array.value + 6

abbrev pub decreases-temporal::put_datetime_parts : goal.decreases-temporal::put_datetime_parts
decreases-temporal::put_datetime_parts l = 8 * (node_count l.days.now.array.value + node_count l.seconds.now.array.value + node_count l.subseconds.now.array.value) + 6

abbrev pub decreases-codes::put_var_bin : goal.decreases-codes::put_var_bin
decreases-codes::put_var_bin l = 8 * node_count l.offsets.now.array.value + 6

abbrev pub decreases-codes::put_masked : goal.decreases-codes::put_masked
decreases-codes::put_masked l = 8 * node_count l.child.now.array.value + 6

abbrev pub decreases-codes::put_rle : goal.decreases-codes::put_rle
decreases-codes::put_rle l = 8 * (node_count l.values.now.array.value + node_count l.indices.now.array.value + node_count l.offsets.now.array.value) + 6

abbrev pub decreases-packed::put_bit_packed : goal.decreases-packed::put_bit_packed
decreases-packed::put_bit_packed l = 8 * maybe_count (unboxed l.patches.now) + 6

abbrev pub decreases-packed::put_bit_packed_v2 : goal.decreases-packed::put_bit_packed_v2
decreases-packed::put_bit_packed_v2 l = 8 * (node_count l.offsets.now.array.value + maybe_count (unboxed l.patches.now)) + 6

abbrev pub decreases-packed::put_for : goal.decreases-packed::put_for
decreases-packed::put_for l = 8 * node_count l.encoded.now.array.value + 6

abbrev pub decreases-packed::put_delta : goal.decreases-packed::put_delta
decreases-packed::put_delta l = 8 * (node_count l.bases.now.array.value + node_count l.deltas.now.array.value) + 6

abbrev pub decreases-patches::put_patch_fields : goal.decreases-patches::put_patch_fields
decreases-patches::put_patch_fields l = 8 * (node_count l.patches.now.indices + node_count l.patches.now.values) + 5

abbrev pub decreases-patches::put_maybe_flat : goal.decreases-patches::put_maybe_flat
decreases-patches::put_maybe_flat l = 8 * maybe_count (unboxed l.patches.now) + 5

abbrev pub decreases-patches::put_patches : goal.decreases-patches::put_patches
decreases-patches::put_patches l = 8 * patches_count l.patches.now + 5

abbrev pub decreases-patches::put_sparse : goal.decreases-patches::put_sparse
decreases-patches::put_sparse l = 8 * patches_count l.patches.now + 6

-- what is written and what the rest writes yet are all fields
abbrev pub invariant-nested::put_fields-loop-place : goal.invariant-nested::put_fields-loop-place
invariant-nested::put_fields-loop-place l = record {
  lengths : length l.names ≡ length l.fields;
  within : are_within (of_list (drop l.place l.fields)) ≡ true;
  text : l.out.items ++ fields_body (drop l.place l.names) (of_list (drop l.place l.fields)) ≡ l.fn.out.items ++ fields_body l.names-2 (of_list l.fields-2);
}
