use Rattle.std.proofs.Common.{◌≡◌, ◌+◌, ◌*◌, ◌++◌, length, map, take, true}
use Rattle.std.specs.Vec.Iter.{into_iter_items}
use Rattle.vx_base.specs.PlainType.{of_fields}
use Rattle.vx_base.specs.TypeOf.{type_of, value_of, fields_of}
use Rattle.vx_base.proofs.FallLemmas.{type_count, field_list_count}
use Rattle.vx_model.specs.Nested.{within}
use Rattle.vx_model.specs.Plain.{plain_fields}
use Rattle.vx_model.specs.Tree.{list_of}
use Rattle.vx_model.specs.TreeType.{tree_type}
use Rattle.vx_array.specs.PlainPieced.{plain_pieced}
use Rattle.vx_array.proofs.FieldTrees.{fields_from, columns_fit, trees_of}
use Rattle.vx_array.proofs.PieceFalls.{types_count, weight}
use Rattle.vx_array.proofs.+plain_pieces.Given as goal

-- ---- measures: eight for each type, and one for each call at one type

abbrev pub decreases-array::ArrayRef::plain_pieces : goal.decreases-array::ArrayRef::plain_pieces
decreases-array::ArrayRef::plain_pieces l = 8 * type_count (tree_type l.self.now) + weight l.self.now

abbrev pub decreases-array::ArrayRef::other_pieces : goal.decreases-array::ArrayRef::other_pieces
decreases-array::ArrayRef::other_pieces l = 8 * type_count (tree_type l.self.now) + 5

abbrev pub decreases-array::ArrayRef::value_pieces : goal.decreases-array::ArrayRef::value_pieces
decreases-array::ArrayRef::value_pieces l = 8 * type_count (tree_type l.self.now) + 4

abbrev pub decreases-nested::by_values::constant_pieces : goal.decreases-nested::by_values::constant_pieces
decreases-nested::by_values::constant_pieces l = 8 * type_count l.scalar.now.dtype + 4

abbrev pub decreases-nested::struct_pieces : goal.decreases-nested::struct_pieces
decreases-nested::struct_pieces l = 8 * types_count l.fields.now + 7

abbrev pub decreases-arrays::Arrays::plain_pieces : goal.decreases-arrays::Arrays::plain_pieces
decreases-arrays::Arrays::plain_pieces l = 8 * types_count l.self.now

abbrev pub decreases-nested::list_pieces : goal.decreases-nested::list_pieces
decreases-nested::list_pieces l = 8 * type_count (tree_type l.elements.now) + 7

abbrev pub decreases-nested::fixed_pieces : goal.decreases-nested::fixed_pieces
decreases-nested::fixed_pieces l = 8 * type_count (tree_type l.elements.now) + 7

abbrev pub decreases-of_values::plain_tree : goal.decreases-of_values::plain_tree
decreases-of_values::plain_tree l = 8 * type_count (type_of l.dtype.now) + 3

abbrev pub decreases-of_values::spread_tree : goal.decreases-of_values::spread_tree
decreases-of_values::spread_tree l = 8 * type_count (type_of l.dtype.now) + 2

abbrev pub decreases-of_values::typed_tree : goal.decreases-of_values::typed_tree
decreases-of_values::typed_tree l = 8 * type_count (type_of l.dtype.now) + 1

abbrev pub decreases-of_values::of_structs : goal.decreases-of_values::of_structs
decreases-of_values::of_structs l = 8 * field_list_count (fields_of l.fields.now) + 8

abbrev pub decreases-of_values::field_trees : goal.decreases-of_values::field_trees
decreases-of_values::field_trees l = 8 * field_list_count (fields_of l.fields.now) + 7

abbrev pub decreases-of_values::of_lists : goal.decreases-of_values::of_lists
decreases-of_values::of_lists l = 8 * type_count (type_of l.dtype.now) + 8

abbrev pub decreases-of_values::list_elements : goal.decreases-of_values::list_elements
decreases-of_values::list_elements l = 8 * type_count (type_of l.dtype.now) + 7

abbrev pub decreases-of_values::of_fixed_lists : goal.decreases-of_values::of_fixed_lists
decreases-of_values::of_fixed_lists l = 8 * type_count (type_of l.dtype.now) + 8

-- ---- loops

abbrev pub invariant-arrays::Arrays::plain_pieces-loop-tree : goal.invariant-arrays::Arrays::plain_pieces-loop-tree
invariant-arrays::Arrays::plain_pieces-loop-tree l = l.trees.items ≡ map (plain_pieced l.pieces) (take l.tree-index l.tree-items)

-- the trees so far, and those of the fields that are left, whose values fit them
abbrev pub invariant-of_values::field_trees-loop-column : goal.invariant-of_values::field_trees-loop-column
invariant-of_values::field_trees-loop-column l =
    let all = of_fields (fields_of l.fields) in
    let fields = fields_from (length l.trees.items) l.parts in
    let left = map (λ column. map value_of column.items) (into_iter_items l.column-iterator) in
    record {
      lengths : length l.trees.items + length left ≡ length l.parts;
      fitting : columns_fit fields left ≡ true;
      made : l.trees.items ++ list_of (trees_of fields left) ≡ list_of (plain_fields all (map within (map value_of l.fn.values.items)));
    }
