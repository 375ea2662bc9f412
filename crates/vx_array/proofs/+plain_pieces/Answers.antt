use Rattle.std.proofs.Common.{◌-◌, ◌*◌, ◌∙◌, ap, arith, length, map, sym, subst, rules, ◌≡◌, ◌<◌, ◌+◌, ◌++◌, [], ◌∷◌, drop, get_or, pos, None, false}
use Rattle.std.specs.Prelude.{not, slice_index_or}
use Rattle.std.specs.List.{list_all, list_any}
use Rattle.vx_base.specs.Answers.{Answers}
use Rattle.vx_base.specs.PlainValue.{int, is_null, null}
use Rattle.vx_model.specs.Refusals.{validity_length, kept, structure_refusal, list_refusal, fixed_size_list_refusal}
use Rattle.vx_model.specs.Rows.{rows, masked_rows}
use Rattle.vx_model.specs.Tree.{Tree, fixed_size_list, list, primitive, structure, of_list, list_of}
use Rattle.vx_model.proofs.FixedSizeListLemmas.{length-fixed_size_list}
use Rattle.vx_model.proofs.ListLemmas.{length-list}
use Rattle.vx_model.proofs.MadeLemmas.{has_length}
use Rattle.vx_model.proofs.StructLemmas.{length-structure}
use Rattle.vx_pieces.specs.Bits.{pieced_validity}
use Rattle.vx_pieces.specs.Lengths.{lengths_between, sums_from}
use Rattle.vx_pieces.specs.Pieces.{are_pieces, inner_pieces, pieced, Gives}
use Rattle.vx_array.specs.PlainPieced.{has_rows_within, plain_pieced}
use Rattle.vx_array.proofs.AtNode.{at_node}
use Rattle.vx_array.proofs.PiecedFixed.{fixed_pieced, fixed_within}
use Rattle.vx_array.proofs.PiecedLists.{elements_within, list_pieced, lists_within, some_words}
use Rattle.vx_array.proofs.PiecedRows.{bits_bound, given_fit, nulls-pieced}
use Rattle.vx_array.proofs.PiecedStructs.{fields_within, struct_pieced}
use Rattle.vx_array.proofs.ValueAt.{passes_at}
use Rattle.std.specs.Vec.Iter.{into_iter_items}
use Rattle.std.proofs.lemmas.List.{length-map, length-append, length-replicate}
use Rattle.vx_base.specs.declared.dtype.Nullability.TheVariants.{NonNullable}
use Rattle.vx_base.specs.declared.ptype.PType.TheVariants.{U64}
use Rattle.vx_base.specs.PlainScalar.{fields_fit, fits}
use Rattle.vx_base.specs.PlainType.{of_fields, is_flat}
use Rattle.vx_base.specs.PlainType as types
use Rattle.vx_base.specs.TypeOf.{type_of, value_of, field_of, fields_of}
use Rattle.vx_base.proofs.FallLemmas.{field_falls, field_list_count, type_count}
use Rattle.vx_base.proofs.FieldLemmas.{type_of-FixedSizeList, type_of-Struct}
use Rattle.vx_base.proofs.MakesLemmas.{Makes_ok, Makes_err}
use Rattle.vx_model.specs.Nested.{elements, within}
use Rattle.vx_flat.specs.Columns.{columns_of}
use Rattle.vx_model.specs.Plain.{validity, plain_fields, plain_of}
use Rattle.vx_model.proofs.PlainAdmittedLemmas.{structure_admitted, list_admitted, fixed_size_list_admitted}
use Rattle.vx_model.proofs.DecodeLemmas.{kept-validity}
use Rattle.vx_model.proofs.NestedLemmas.{struct_rows-fit, elements-fit, fixed_elements-fit}
use Rattle.vx_array.proofs.FieldTrees.{fields_from, columns_fit, trees_of, columns-fit, trees-columns, length-columns, column-fits, others-fit, trees-more, trees-all}
use Rattle.vx_array.proofs.PieceFalls.{at_most_six, fixed-lighter, heavy, list-lighter, plain-lighter, struct-lighter, type_falls, types_count, weight}
use Rattle.vx_array.proofs.SpreadTrees.{constant-tree, constant-within, kept-valid, none-null, spread-fit, spread-tree, spread-within, one-fit, spread-long, valid-lists, valid-none, valid-structs, valid_of, within-nested}
use Rattle.vx_model.specs.TreeType.{tree_type}
use Rattle.vx_pieces.specs.Kept.{kept_items}
use Rattle.vx_array.proofs.+plain_pieces.Goals as goal

-- ---- by the root

pub array::ArrayRef::plain_pieces-returns-in-Null : goal.array::ArrayRef::plain_pieces-returns-in-Null
array::ArrayRef::plain_pieces-returns-in-Null t c =
    let a = at_node c.self.view_is c.self.invariant c.in-Null.is in
    let ps = c.args.pieces.now in
    let own = ap (λ tree. are_pieces (length (rows tree)) ps) (sym a.is) ∙ c.requires in
    subst (λ tree. Answers c.null_pieces.result tree) (nulls-pieced ps c.in-Null.field-0 own ∙ ap (plain_pieced ps) (sym a.is)) c.null_pieces.ensures

pub array::ArrayRef::plain_pieces-struct_pieces-requires : goal.array::ArrayRef::plain_pieces-struct_pieces-requires
array::ArrayRef::plain_pieces-struct_pieces-requires t c =
    let a = at_node c.self.view_is c.self.invariant c.in-Struct.is in
    let ps = c.args.pieces.now in
    let own = ap (λ tree. are_pieces (length (rows tree)) ps) (sym a.is) ∙ c.requires in
    (omega (arith, struct-lighter c.args.self.now _ c.in-Struct.fields _ _ _ a.is a.well_formed.1.named), (a.well_formed, ap (λ len. are_pieces len ps) (sym (length-structure _ _ _ _ _ a.well_formed)) ∙ own))

pub array::ArrayRef::plain_pieces-returns-in-Struct : goal.array::ArrayRef::plain_pieces-returns-in-Struct
array::ArrayRef::plain_pieces-returns-in-Struct t c =
    let a = at_node c.self.view_is c.self.invariant c.in-Struct.is in
    subst (λ tree. Answers c.struct_pieces.result (plain_pieced c.args.pieces.now tree)) (sym a.is) c.struct_pieces.ensures

pub array::ArrayRef::plain_pieces-list_pieces-requires : goal.array::ArrayRef::plain_pieces-list_pieces-requires
array::ArrayRef::plain_pieces-list_pieces-requires t c =
    let a = at_node c.self.view_is c.self.invariant c.in-List.is in
    let ps = c.args.pieces.now in
    let own = ap (λ tree. are_pieces (length (rows tree)) ps) (sym a.is) ∙ c.requires in (
      omega (arith, list-lighter c.args.self.now _ _ _ _ a.is, ap (λ tree. type_count (tree_type tree)) c.deref.ensures),
      rw (c.deref.ensures, c.deref-in-List.ensures) (a.well_formed, ap (λ len. are_pieces len ps) (sym (length-list _ _ _ _ a.well_formed)) ∙ own),
    )

pub array::ArrayRef::plain_pieces-returns-in-List : goal.array::ArrayRef::plain_pieces-returns-in-List
array::ArrayRef::plain_pieces-returns-in-List t c =
    let a = at_node c.self.view_is c.self.invariant c.in-List.is in
    let same = (λ i. list (c.deref.ensures i) (c.deref-in-List.ensures i) c.in-List.valid c.in-List.nullability) ∙ sym a.is in
    subst (λ tree. Answers c.list_pieces.result (plain_pieced c.args.pieces.now tree)) same c.list_pieces.ensures

pub array::ArrayRef::plain_pieces-fixed_pieces-requires : goal.array::ArrayRef::plain_pieces-fixed_pieces-requires
array::ArrayRef::plain_pieces-fixed_pieces-requires t c =
    let a = at_node c.self.view_is c.self.invariant c.in-FixedSizeList.is in
    let ps = c.args.pieces.now in
    let own = ap (λ tree. are_pieces (length (rows tree)) ps) (sym a.is) ∙ c.requires in (
      omega (arith, fixed-lighter c.args.self.now _ _ _ _ _ a.is, ap (λ tree. type_count (tree_type tree)) c.deref-in-FixedSizeList.ensures),
      rw c.deref-in-FixedSizeList.ensures (a.well_formed, ap (λ len. are_pieces len ps) (sym (length-fixed_size_list _ _ _ _ _ a.well_formed)) ∙ own),
    )

pub array::ArrayRef::plain_pieces-returns-in-FixedSizeList : goal.array::ArrayRef::plain_pieces-returns-in-FixedSizeList
array::ArrayRef::plain_pieces-returns-in-FixedSizeList t c =
    let a = at_node c.self.view_is c.self.invariant c.in-FixedSizeList.is in
    let here = c.in-FixedSizeList in
    let same = (λ i. fixed_size_list (c.deref-in-FixedSizeList.ensures i) here.size here.len here.valid here.nullability) ∙ sym a.is in
    subst (λ tree. Answers c.fixed_pieces.result (plain_pieced c.args.pieces.now tree)) same c.fixed_pieces.ensures

-- ---- the trees of a struct

pub arrays::Arrays::plain_pieces-plain_pieces-requires : goal.arrays::Arrays::plain_pieces-plain_pieces-requires
arrays::Arrays::plain_pieces-plain_pieces-requires t c =
    let fields = c.as_slice-tree-items.result.now in
    let place = c.loop-tree.tree-index in
    let falls = type_falls fields place c.tree-item.result (omega arith) c.tree-item.is in
    let test = λ (tree : Tree). are_pieces (length (rows tree)) c.args.pieces.now in
    let all = ap (list_all test) c.as_slice-tree-items.ensures ∙ c.requires in
    (omega (arith, falls, ap types_count c.as_slice-tree-items.ensures, at_most_six c.tree-item.result), passes_at test fields place c.tree-item.result (omega arith) c.tree-item.is all)

-- ---- structs

pub nested::struct_pieces-valid_pieces-requires : goal.nested::struct_pieces-valid_pieces-requires
nested::struct_pieces-valid_pieces-requires t c = bits_bound c.args.pieces.now c.args.valid.now c.args.len c.args.nullability c.requires.tree.1.validity c.requires.pieces

pub nested::struct_pieces-pieced_validity-requires : goal.nested::struct_pieces-pieced_validity-requires
nested::struct_pieces-pieced_validity-requires t c = record { pieces = c.requires.pieces; bits = has_length c.args.valid.now c.args.len c.args.nullability c.requires.tree.1.validity }

pub nested::struct_pieces-plain_pieces-requires : goal.nested::struct_pieces-plain_pieces-requires
nested::struct_pieces-plain_pieces-requires t c =
    let ts = c.args.fields.now in
    let within = fields_within c.args.names.now ts c.args.len c.args.valid.now c.args.nullability c.requires.tree c.args.pieces.now c.requires.pieces c.in_ok-inner.inner.items c.in_ok-inner.ensures in
    (omega arith, ap (λ ps. list_all (λ tree. are_pieces (length (rows tree)) ps) ts) c.as_slice.ensures.value ∙ within)

pub nested::struct_pieces-plain_struct-requires : goal.nested::struct_pieces-plain_struct-requires
nested::struct_pieces-plain_struct-requires t c =
    let ts = c.args.fields.now in
    let trees = c.in_ok-trees.ensures ∙ ap (λ ps. map (plain_pieced ps) ts) c.as_slice.ensures.value in
    let bits = c.in_ok-bits.ensures ∙ ap (λ b. pieced_validity (not b) c.args.pieces.now c.args.valid.now c.args.len) c.allows_null.ensures in
    (struct_pieced c.args.names.now ts c.args.len c.args.valid.now c.args.nullability c.requires.tree c.args.pieces.now c.requires.pieces c.in_ok-inner.inner.items c.in_ok-inner.ensures
    c.in_ok-trees.trees c.in_ok-count.count c.in_ok-bits.bits trees c.in_ok-count.ensures bits).admitted

pub nested::struct_pieces-returns : goal.nested::struct_pieces-returns
nested::struct_pieces-returns t c =
    let ts = c.args.fields.now in
    let trees = c.in_ok-trees.ensures ∙ ap (λ ps. map (plain_pieced ps) ts) c.as_slice.ensures.value in
    let bits = c.in_ok-bits.ensures ∙ ap (λ b. pieced_validity (not b) c.args.pieces.now c.args.valid.now c.args.len) c.allows_null.ensures in
    let is =
    struct_pieced c.args.names.now ts c.args.len c.args.valid.now c.args.nullability c.requires.tree c.args.pieces.now c.requires.pieces c.in_ok-inner.inner.items c.in_ok-inner.ensures
    c.in_ok-trees.trees c.in_ok-count.count c.in_ok-bits.bits trees c.in_ok-count.ensures bits in
    subst (λ tree. Answers c.plain_struct.result tree) is.made c.plain_struct.ensures

-- ---- lists

pub nested::list_pieces-valid_pieces-requires : goal.nested::list_pieces-valid_pieces-requires
nested::list_pieces-valid_pieces-requires t c = bits_bound c.args.pieces.now c.args.valid.now (length (rows c.args.offsets.now) - 1) c.args.nullability c.requires.tree.2.validity c.requires.pieces

pub nested::list_pieces-pieced_validity-requires : goal.nested::list_pieces-pieced_validity-requires
nested::list_pieces-pieced_validity-requires t c =
    let long = c.row_count-len.ensures in
    record {
      pieces = ap (λ len. are_pieces len c.args.pieces.now) long ∙ c.requires.pieces;
      bits = ap (validity_length c.args.valid.now) long ∙ has_length c.args.valid.now (length (rows c.args.offsets.now) - 1) c.args.nullability c.requires.tree.2.validity;
    }

pub nested::list_pieces-offset_words-requires : goal.nested::list_pieces-offset_words-requires
nested::list_pieces-offset_words-requires t c = record { integers = c.requires.tree.2.offsets_type; not_null = c.requires.tree.2.not_null; ends = c.requires.tree.2.ends }

pub nested::list_pieces-list_inner_pieces-requires : goal.nested::list_pieces-list_inner_pieces-requires
nested::list_pieces-list_inner_pieces-requires t c =
    let some = some_words c.args.elements.now c.args.offsets.now c.args.valid.now c.args.nullability c.requires.tree c.args.pieces.now c.requires.pieces c.in_ok-kept.kept.items c.in_ok-kept.ensures c.as_words-ends.result.now (ap (map int) c.as_words-ends.ensures ∙ c.in_ok-words.ensures.1) in
    let within = lists_within c.args.elements.now c.args.offsets.now c.args.valid.now c.args.nullability c.requires.tree c.args.pieces.now c.requires.pieces c.in_ok-kept.kept.items c.in_ok-kept.ensures c.as_words-ends.result.now (ap (map int) c.as_words-ends.ensures ∙ c.in_ok-words.ensures.1) in
    record { some = some; pieces = ap (are_pieces (length c.as_words-ends.result.now - 1)) c.as_slice-lists.ensures.value ∙ within }

pub nested::list_pieces-pieced_offsets-requires : goal.nested::list_pieces-pieced_offsets-requires
nested::list_pieces-pieced_offsets-requires t c =
    let some = some_words c.args.elements.now c.args.offsets.now c.args.valid.now c.args.nullability c.requires.tree c.args.pieces.now c.requires.pieces c.in_ok-kept.kept.items c.in_ok-kept.ensures c.as_words-ends.result.now (ap (map int) c.as_words-ends.ensures ∙ c.in_ok-words.ensures.1) in
    let within = lists_within c.args.elements.now c.args.offsets.now c.args.valid.now c.args.nullability c.requires.tree c.args.pieces.now c.requires.pieces c.in_ok-kept.kept.items c.in_ok-kept.ensures c.as_words-ends.result.now (ap (map int) c.as_words-ends.ensures ∙ c.in_ok-words.ensures.1) in
    record { some = some; pieces = ap (are_pieces (length c.as_words-ends.result.now - 1)) c.as_slice-lists.ensures.value ∙ within }

pub nested::list_pieces-plain_pieces-requires : goal.nested::list_pieces-plain_pieces-requires
nested::list_pieces-plain_pieces-requires t c =
    let inner = c.as_slice.ensures.value ∙ c.in_ok-inner.ensures ∙ ap (inner_pieces (λ row. slice_index_or c.as_words-ends.result.now row 0) 0) c.as_slice-lists.ensures.value in
    let within = elements_within c.args.elements.now c.args.offsets.now c.args.valid.now c.args.nullability c.requires.tree c.args.pieces.now c.requires.pieces c.in_ok-kept.kept.items c.in_ok-kept.ensures c.as_words-ends.result.now (ap (map int) c.as_words-ends.ensures ∙ c.in_ok-words.ensures.1) in
    (omega (arith, at_most_six c.args.elements.now), ap (are_pieces (length (rows c.args.elements.now))) inner ∙ within)

pub nested::list_pieces-plain_list-requires : goal.nested::list_pieces-plain_list-requires
nested::list_pieces-plain_list-requires t c =
    let inner = c.as_slice.ensures.value ∙ c.in_ok-inner.ensures ∙ ap (inner_pieces (λ row. slice_index_or c.as_words-ends.result.now row 0) 0) c.as_slice-lists.ensures.value in
    let inside = c.in_ok-inside.ensures ∙ ap (λ ps. plain_pieced ps c.args.elements.now) inner in
    let ends = c.in_ok-sums.ensures ∙ ap (λ ps. sums_from 0 (pieced 0 ps (lengths_between c.as_words-ends.result.now))) c.as_slice-lists.ensures.value in
    let bits = c.in_ok-bits.ensures ∙ (λ i. pieced_validity (not (c.allows_null.ensures i)) c.args.pieces.now c.args.valid.now (c.row_count-len.ensures i)) in
    (list_pieced c.args.elements.now c.args.offsets.now c.args.valid.now c.args.nullability c.requires.tree c.args.pieces.now c.requires.pieces c.in_ok-kept.kept.items c.in_ok-kept.ensures c.as_words-ends.result.now (ap (map int) c.as_words-ends.ensures ∙ c.in_ok-words.ensures.1)
    c.in_ok-inside.inside c.in_ok-sums.sums.items c.in_ok-bits.bits inside ends bits).admitted

pub nested::list_pieces-returns : goal.nested::list_pieces-returns
nested::list_pieces-returns t c =
    let inner = c.as_slice.ensures.value ∙ c.in_ok-inner.ensures ∙ ap (inner_pieces (λ row. slice_index_or c.as_words-ends.result.now row 0) 0) c.as_slice-lists.ensures.value in
    let inside = c.in_ok-inside.ensures ∙ ap (λ ps. plain_pieced ps c.args.elements.now) inner in
    let ends = c.in_ok-sums.ensures ∙ ap (λ ps. sums_from 0 (pieced 0 ps (lengths_between c.as_words-ends.result.now))) c.as_slice-lists.ensures.value in
    let bits = c.in_ok-bits.ensures ∙ (λ i. pieced_validity (not (c.allows_null.ensures i)) c.args.pieces.now c.args.valid.now (c.row_count-len.ensures i)) in
    let is =
    list_pieced c.args.elements.now c.args.offsets.now c.args.valid.now c.args.nullability c.requires.tree c.args.pieces.now c.requires.pieces c.in_ok-kept.kept.items c.in_ok-kept.ensures c.as_words-ends.result.now (ap (map int) c.as_words-ends.ensures ∙ c.in_ok-words.ensures.1)
    c.in_ok-inside.inside c.in_ok-sums.sums.items c.in_ok-bits.bits inside ends bits in
    subst (λ tree. Answers c.plain_list.result tree) is.made c.plain_list.ensures

-- ---- fixed-size lists

pub nested::fixed_pieces-valid_pieces-requires : goal.nested::fixed_pieces-valid_pieces-requires
nested::fixed_pieces-valid_pieces-requires t c = bits_bound c.args.pieces.now c.args.valid.now c.args.len c.args.nullability c.requires.tree.1.validity c.requires.pieces

pub nested::fixed_pieces-pieced_validity-requires : goal.nested::fixed_pieces-pieced_validity-requires
nested::fixed_pieces-pieced_validity-requires t c = record { pieces = c.requires.pieces; bits = has_length c.args.valid.now c.args.len c.args.nullability c.requires.tree.1.validity }

pub nested::fixed_pieces-plain_pieces-requires : goal.nested::fixed_pieces-plain_pieces-requires
nested::fixed_pieces-plain_pieces-requires t c =
    let inner = c.as_slice.ensures.value ∙ c.in_ok-inner.ensures ∙ (λ i. inner_pieces (λ row. row * c.from.ensures i) (c.from.ensures i) (c.as_slice-lists.ensures.value i)) in
    let within = fixed_within c.args.elements.now c.args.size c.args.len c.args.valid.now c.args.nullability c.requires.tree c.args.pieces.now c.requires.pieces c.in_ok-kept.kept.items c.in_ok-kept.ensures in
    (omega (arith, at_most_six c.args.elements.now), ap (are_pieces (length (rows c.args.elements.now))) inner ∙ within)

pub nested::fixed_pieces-plain_fixed-requires : goal.nested::fixed_pieces-plain_fixed-requires
nested::fixed_pieces-plain_fixed-requires t c =
    let inner = c.as_slice.ensures.value ∙ c.in_ok-inner.ensures ∙ (λ i. inner_pieces (λ row. row * c.from.ensures i) (c.from.ensures i) (c.as_slice-lists.ensures.value i)) in
    let inside = c.in_ok-inside.ensures ∙ ap (λ ps. plain_pieced ps c.args.elements.now) inner in
    let bits = c.in_ok-bits.ensures ∙ ap (λ b. pieced_validity (not b) c.args.pieces.now c.args.valid.now c.args.len) c.allows_null.ensures in
    (fixed_pieced c.args.elements.now c.args.size c.args.len c.args.valid.now c.args.nullability c.requires.tree c.args.pieces.now c.requires.pieces c.in_ok-kept.kept.items c.in_ok-kept.ensures
    c.in_ok-inside.inside c.in_ok-count.count c.in_ok-bits.bits inside c.in_ok-count.ensures bits).admitted

pub nested::fixed_pieces-returns : goal.nested::fixed_pieces-returns
nested::fixed_pieces-returns t c =
    let inner = c.as_slice.ensures.value ∙ c.in_ok-inner.ensures ∙ (λ i. inner_pieces (λ row. row * c.from.ensures i) (c.from.ensures i) (c.as_slice-lists.ensures.value i)) in
    let inside = c.in_ok-inside.ensures ∙ ap (λ ps. plain_pieced ps c.args.elements.now) inner in
    let bits = c.in_ok-bits.ensures ∙ ap (λ b. pieced_validity (not b) c.args.pieces.now c.args.valid.now c.args.len) c.allows_null.ensures in
    let is =
    fixed_pieced c.args.elements.now c.args.size c.args.len c.args.valid.now c.args.nullability c.requires.tree c.args.pieces.now c.requires.pieces c.in_ok-kept.kept.items c.in_ok-kept.ensures
    c.in_ok-inside.inside c.in_ok-count.count c.in_ok-bits.bits inside c.in_ok-count.ensures bits in
    subst (λ tree. Answers c.plain_fixed.result tree) is.made c.plain_fixed.ensures

-- ---- by the root, of other nodes

pub array::ArrayRef::plain_pieces-other_pieces-requires : goal.array::ArrayRef::plain_pieces-other_pieces-requires
array::ArrayRef::plain_pieces-other_pieces-requires t c =
    let six = ap weight (sym c.self.view_is) ∙ heavy c.self.inside.node c.in_default.not-Null c.in_default.not-Struct c.in_default.not-List c.in_default.not-FixedSizeList in
    (omega (arith, six), c.requires)

pub array::ArrayRef::other_pieces-constant_pieces-requires : goal.array::ArrayRef::other_pieces-constant_pieces-requires
array::ArrayRef::other_pieces-constant_pieces-requires t c =
    let a = at_node c.self.view_is c.self.invariant c.in-Constant.is in
    let ps = c.args.pieces.now in
    let s = c.in-Constant.scalar in
    let len = c.in-Constant.len in
    let flat : is_flat (tree_type c.args.self.now) ≡ false = sym (c.is_flat.ensures ∙ ap is_flat c.dtype.ensures) ∙ c.if-is_flat.false in
    let own = ap (λ tree. are_pieces (length (rows tree)) ps) (sym a.is) ∙ c.requires in
    (omega (arith, ap (λ tree. type_count (tree_type tree)) a.is), (ap (λ tree. is_flat (tree_type tree)) (sym a.is) ∙ flat, (a.well_formed.0, ap (λ n. are_pieces n ps) (sym (length-replicate len s.value)) ∙ own)))

pub array::ArrayRef::other_pieces-returns-in-Constant : goal.array::ArrayRef::other_pieces-returns-in-Constant
array::ArrayRef::other_pieces-returns-in-Constant t c =
    let a = at_node c.self.view_is c.self.invariant c.in-Constant.is in
    subst (λ tree. Answers c.constant_pieces.result (plain_pieced c.args.pieces.now tree)) (sym a.is) c.constant_pieces.ensures

-- ---- structs of values

pub of_values::of_structs-field_trees-requires : goal.of_values::of_structs-field_trees-requires
of_values::of_structs-field_trees-requires t c =
    let fs = of_fields (fields_of c.args.fields.now) in
    let vs = map value_of c.args.values.items in
    (omega arith, ap (list_all (fields_fit fs)) (sym (valid-structs vs c.requires.valid fs)) ∙ struct_rows-fit fs c.args.nullability vs c.requires.fit)

pub of_values::of_structs-returns-in-Ok : goal.of_values::of_structs-returns-in-Ok
of_values::of_structs-returns-in-Ok t c =
    let fs = of_fields (fields_of c.args.fields.now) in
    let vs = map value_of c.args.values.items in
    let size : c.len-len.result ≡ length c.args.values.items = search rules in
    let len = size ∙ sym (length-map c.args.values.items value_of) in
    let trees = c.in_ok-trees.ensures ∙ ap (plain_fields fs) (sym (valid-structs vs c.requires.valid fs)) in
    let valid = sym (valid-none vs c.requires.valid) in
    Makes_ok _ _ _ _ c.in-Ok.ensures ∙ (λ i. structure (c.in_ok-names.ensures i) (trees i) (len i) (valid i) c.args.nullability)

pub of_values::of_structs-returns-in-Err : goal.of_values::of_structs-returns-in-Err
of_values::of_structs-returns-in-Err t c =
    let fs = of_fields (fields_of c.args.fields.now) in
    let vs = map value_of c.args.values.items in
    let size : c.len-len.result ≡ length c.args.values.items = search rules in
    let len = size ∙ sym (length-map c.args.values.items value_of) in
    let trees = c.in_ok-trees.ensures ∙ ap (plain_fields fs) (sym (valid-structs vs c.requires.valid fs)) in
    let valid = sym (valid-none vs c.requires.valid) in
    Makes_err _ _ _ _
    ((λ i. structure_refusal (c.in_ok-names.ensures i) (trees i) (len i) (valid i) c.args.nullability) ∙ structure_admitted (of_fields (fields_of c.args.fields.now)) c.args.nullability vs c.requires.fit)
    c.in-Err.ensures

pub of_values::field_trees-loop-column-init : goal.of_values::field_trees-loop-column-init
of_values::field_trees-loop-column-init t c =
    let all = fields_of c.args.fields.now in
    let rows = map within (map value_of c.args.values.items) in
    let seen : map (λ column. map value_of column.items) (into_iter_items c.into_iter-column-iterator.result) ≡ columns_of (length all) rows =
    ap (λ columns. map (λ column. map value_of column.items) columns) (search rules) ∙ c.in_ok-columns.ensures ∙ ap (λ n. columns_of n rows) c.len.ensures in
    let fs = c.as_slice-parts.result.now in
    let parts = c.as_slice-parts.ensures in
    let none = c.in_ok-trees.ensures.items in
    let first : fields_from (length c.in_ok-trees.trees.items) fs ≡ of_fields all = (λ j. of_fields (map field_of (drop (length (none j)) fs))) ∙ ap of_fields parts in
    record {
      lengths = omega (arith, ap length none, ap length seen, length-columns (length all) rows, ap length parts, length-map fs field_of);
      fitting = (λ j. columns_fit (first j) (seen j)) ∙ columns-fit all rows c.requires;
      made = (λ j. none j ++ list_of (trees_of (first j) (seen j))) ∙ ap list_of (trees-columns all rows);
    }

pub of_values::field_trees-plain_tree-requires : goal.of_values::field_trees-plain_tree-requires
of_values::field_trees-plain_tree-requires t c =
    let l = c.loop-column in
    let fs = c.as_slice-parts.result.now in
    let f = c.index-parts-len.result in
    let i = length l.trees.items in
    let left = ap (λ columns. map (λ column. map value_of column.items) columns) c.in-Some.ensures.steps.0 in
    let here : i < length fs = omega (arith, ap length left, l.invariant.lengths) in
    let at : c.len-in-loop-column.result ≡ i = search rules in
    let is : f ≡ get_or fs i f = c.index-parts-len.is ∙ ap (λ k. get_or fs k f) at in
    let falls = field_falls fs i f here is in
    let count = ap field_list_count c.as_slice-parts.ensures in
    (omega (arith, falls, count), column-fits fs i f here is _ _ (ap (columns_fit (fields_from i fs)) (sym left) ∙ l.invariant.fitting))

pub of_values::field_trees-loop-column-preserved : goal.of_values::field_trees-loop-column-preserved
of_values::field_trees-loop-column-preserved t c =
    let l = c.loop-column in
    let fs = c.as_slice-parts.result.now in
    let f = c.index-parts-len.result in
    let i = length l.trees.items in
    let left = ap (λ columns. map (λ column. map value_of column.items) columns) c.in-Some.ensures.steps.0 in
    let here : i < length fs = omega (arith, ap length left, l.invariant.lengths) in
    let at : c.len-in-loop-column.result ≡ i = search rules in
    let is : f ≡ get_or fs i f = c.index-parts-len.is ∙ ap (λ k. get_or fs k f) at in
    let column = map value_of c.in-Some.column.items in
    let rest = map (λ column. map value_of column.items) (into_iter_items c.next.new.self) in
    let new = c.in_ok-push.ensures.items in
    let tree = c.in_ok-plain_tree.field-0 in
    let long : length c.push.new.self.items ≡ i + 1 = ap length new ∙ length-append l.trees.items (tree ∷ []) in
    let fit = ap (columns_fit (fields_from i fs)) (sym left) ∙ l.invariant.fitting in
    let made = ap (λ columns. l.trees.items ++ list_of (trees_of (fields_from i fs) columns)) (sym left) ∙ l.invariant.made in
    record {
      lengths = omega (arith, ap length left, l.invariant.lengths, long);
      fitting = ap (λ n. columns_fit (fields_from n fs) rest) long ∙ others-fit fs i f here is column rest fit;
      made = (λ j. new j ++ list_of (trees_of (fields_from (long j) fs) rest)) ∙ trees-more fs i f here is column rest l.trees.items tree _ c.in_ok-plain_tree.ensures made;
    }

pub of_values::field_trees-returns : goal.of_values::field_trees-returns
of_values::field_trees-returns t c =
    let l = c.loop-column in
    let fs = c.as_slice-parts.result.now in
    let left = map (λ column. map value_of column.items) (into_iter_items l.column-iterator) in
    let none : length (into_iter_items l.column-iterator) ≡ 0 = search rules in
    ap of_list c.from_vec.ensures ∙ trees-all fs (length l.trees.items) left l.trees.items _ (omega (arith, none, length-map (into_iter_items l.column-iterator) (λ column. map value_of column.items), l.invariant.lengths)) l.invariant.made

-- ---- lists of values

pub of_values::list_elements-plain_tree-requires : goal.of_values::list_elements-plain_tree-requires
of_values::list_elements-plain_tree-requires t c = (omega arith, ap (list_all (fits (type_of c.args.dtype.now))) c.in_ok-items.ensures.0 ∙ c.requires)

pub of_values::list_elements-returns : goal.of_values::list_elements-returns
of_values::list_elements-returns t c = (c.in_ok-tree.ensures ∙ ap (plain_of (type_of c.args.dtype.now)) c.in_ok-items.ensures.0, c.in_ok-items.ensures.1)

pub of_values::of_lists-list_elements-requires : goal.of_values::of_lists-list_elements-requires
of_values::of_lists-list_elements-requires t c = (omega arith, elements-fit (type_of c.args.dtype.now) c.args.nullability (map value_of c.args.values.items) c.requires)

pub of_values::of_lists-returns-in-Ok : goal.of_values::of_lists-returns-in-Ok
of_values::of_lists-returns-in-Ok t c =
    let vs = map value_of c.args.values.items in
    let valid = ap kept (c.in_ok-valid.ensures ∙ ap (λ ws. validity (map value_of ws)) c.as_slice.ensures.value) ∙ kept-validity vs in
    let inside = c.in_ok-elements.ensures.0 in
    let offsets = c.primitive_of-offsets.ensures ∙ ap (λ os. primitive U64 (map pos os) None NonNullable) (c.from_vec.ensures ∙ c.in_ok-elements.ensures.1) in
    Makes_ok _ _ _ _ c.in-Ok.ensures ∙ (λ i. list (inside i) (offsets i) (valid i) c.args.nullability)

pub of_values::of_lists-returns-in-Err : goal.of_values::of_lists-returns-in-Err
of_values::of_lists-returns-in-Err t c =
    let vs = map value_of c.args.values.items in
    let s = type_of c.args.dtype.now in
    let valid = c.in_ok-valid.ensures ∙ ap (λ ws. validity (map value_of ws)) c.as_slice.ensures.value in
    let inside = c.in_ok-elements.ensures.0 in
    let offsets = c.primitive_of-offsets.ensures ∙ ap (λ os. primitive U64 (map pos os) None NonNullable) (c.from_vec.ensures ∙ c.in_ok-elements.ensures.1) in
    Makes_err _ _ _ _ ((λ i. list_refusal (inside i) (offsets i) (valid i) c.args.nullability) ∙ list_admitted s c.args.nullability vs c.requires) c.in-Err.ensures

-- ---- lists of one size, of values

pub of_values::of_fixed_lists-list_elements-requires : goal.of_values::of_fixed_lists-list_elements-requires
of_values::of_fixed_lists-list_elements-requires t c =
    let s = type_of c.args.dtype.now in
    let vs = map value_of c.args.values.items in
    (omega arith, ap (λ ws. list_all (fits s) (elements ws)) (sym (valid-lists vs c.requires.valid s c.args.size)) ∙ fixed_elements-fit s c.args.size c.args.nullability vs c.requires.fit)

pub of_values::of_fixed_lists-returns-in-Ok : goal.of_values::of_fixed_lists-returns-in-Ok
of_values::of_fixed_lists-returns-in-Ok t c =
    let s = type_of c.args.dtype.now in
    let vs = map value_of c.args.values.items in
    let size : c.len-len.result ≡ length c.args.values.items = search rules in
    let len = size ∙ sym (length-map c.args.values.items value_of) in
    let valid = sym (valid-none vs c.requires.valid) in
    let inside = c.in_ok-elements.ensures.0 ∙ ap (λ ws. plain_of s (elements ws)) (sym (valid-lists vs c.requires.valid s c.args.size)) in
    Makes_ok _ _ _ _ c.in-Ok.ensures ∙ (λ i. fixed_size_list (inside i) c.args.size (len i) (valid i) c.args.nullability)

pub of_values::of_fixed_lists-returns-in-Err : goal.of_values::of_fixed_lists-returns-in-Err
of_values::of_fixed_lists-returns-in-Err t c =
    let s = type_of c.args.dtype.now in
    let vs = map value_of c.args.values.items in
    let size : c.len-len.result ≡ length c.args.values.items = search rules in
    let len = size ∙ sym (length-map c.args.values.items value_of) in
    let valid = sym (valid-none vs c.requires.valid) in
    let inside = c.in_ok-elements.ensures.0 ∙ ap (λ ws. plain_of s (elements ws)) (sym (valid-lists vs c.requires.valid s c.args.size)) in
    Makes_err _ _ _ _ ((λ i. fixed_size_list_refusal (inside i) c.args.size (len i) (valid i) c.args.nullability) ∙ fixed_size_list_admitted s c.args.size c.args.nullability vs c.requires.fit) c.in-Err.ensures

-- ---- value by value, and by one value

pub array::ArrayRef::value_pieces-plain_tree-requires : goal.array::ArrayRef::value_pieces-plain_tree-requires
array::ArrayRef::value_pieces-plain_tree-requires t c =
    (omega (arith, ap type_count c.dtype.ensures), rw (c.dtype.ensures, c.in_ok-values.ensures) (given_fit c.args.self.now c.known.ensures c.args.pieces.now c.requires))

pub nested::by_values::constant_pieces-plain_tree-requires : goal.nested::by_values::constant_pieces-plain_tree-requires
nested::by_values::constant_pieces-plain_tree-requires t c =
    let items = ap (map value_of) c.in_ok-push.ensures.items ∙ ap (λ xs. map value_of (xs ++ c.in_ok-copy.field-0 ∷ [])) c.in_ok-row.ensures.items ∙ ap (λ v. v ∷ []) (c.in_ok-copy.ensures ∙ c.value.ensures) in
    (omega (arith, ap type_count c.dtype.ensures), (λ i. list_all (fits (c.dtype.ensures i)) (items i)) ∙ one-fit c.args.scalar.now c.requires.scalar)

pub nested::by_values::constant_pieces-plain_pieces-requires : goal.nested::by_values::constant_pieces-plain_pieces-requires
nested::by_values::constant_pieces-plain_pieces-requires t c =
    let s = c.args.scalar.now in
    let items = ap (map value_of) c.in_ok-push.ensures.items ∙ ap (λ xs. map value_of (xs ++ c.in_ok-copy.field-0 ∷ [])) c.in_ok-row.ensures.items ∙ ap (λ v. v ∷ []) (c.in_ok-copy.ensures ∙ c.value.ensures) in
    let is = c.in_ok-tree.ensures ∙ (λ i. plain_of (c.dtype.ensures i) (items i)) in
    let made = c.as_slice.ensures.value ∙ c.in_ok-made.ensures in (
      omega (arith, plain-lighter c.in_ok-tree.tree s.dtype (s.value ∷ []) is c.requires.nested),
      (λ i. are_pieces (length (rows (is i))) (made i)) ∙ constant-within s c.args.len c.args.pieces.now c.requires.scalar c.requires.pieces,
    )

pub nested::by_values::constant_pieces-returns : goal.nested::by_values::constant_pieces-returns
nested::by_values::constant_pieces-returns t c =
    let items = ap (map value_of) c.in_ok-push.ensures.items ∙ ap (λ xs. map value_of (xs ++ c.in_ok-copy.field-0 ∷ [])) c.in_ok-row.ensures.items ∙ ap (λ v. v ∷ []) (c.in_ok-copy.ensures ∙ c.value.ensures) in
    let is = c.in_ok-tree.ensures ∙ (λ i. plain_of (c.dtype.ensures i) (items i)) in
    let made = c.as_slice.ensures.value ∙ c.in_ok-made.ensures in
    subst (λ tree. Answers c.plain_pieces.result tree) ((λ i. plain_pieced (made i) (is i)) ∙ constant-tree c.args.scalar.now c.args.len c.args.pieces.now c.requires.scalar c.requires.pieces) c.plain_pieces.ensures

-- ---- values with nulls

pub of_values::plain_tree-typed_tree-requires : goal.of_values::plain_tree-typed_tree-requires
of_values::plain_tree-typed_tree-requires t c =
    let none : has_rows_within (type_of c.args.dtype.now) ≡ false = sym c.has_rows_within.ensures ∙ c.if-not-has_rows_within.true in
    (omega arith, (c.requires, λ some. absurd cc))

pub of_values::plain_tree-spread_tree-requires : goal.of_values::plain_tree-spread_tree-requires
of_values::plain_tree-spread_tree-requires t c =
    let bits = ap (λ vs. validity (map value_of vs)) (sym c.as_slice.ensures.value) ∙ sym c.in_ok-valid.ensures ∙ c.in-Some.is in
    (omega arith, (sym c.has_rows_within.ensures ∙ c.if-not-has_rows_within.false, (c.requires, bits)))

pub of_values::plain_tree-typed_tree-requires-in-None : goal.of_values::plain_tree-typed_tree-requires-in-None
of_values::plain_tree-typed_tree-requires-in-None t c =
    let vs = map value_of c.args.values.items in
    let bits = ap (λ ws. validity (map value_of ws)) (sym c.as_slice.ensures.value) ∙ sym c.in_ok-valid.ensures ∙ c.in-None.is in
    (omega arith, (c.requires, λ some. none-null vs bits))

pub of_values::spread_tree-typed_tree-requires : goal.of_values::spread_tree-typed_tree-requires
of_values::spread_tree-typed_tree-requires t c =
    let s = type_of c.args.dtype.now in
    let vs = map value_of c.args.values.items in
    let made = c.in_ok-valid_values.ensures in
    (omega arith, (ap (list_all (fits s)) made ∙ spread-fit s vs c.args.valid.now c.requires.fit c.requires.bits, λ some. ap (list_any is_null) made ∙ kept-valid vs))

-- ---- by the kind of the type

pub of_values::typed_tree-of_structs-requires : goal.of_values::typed_tree-of_structs-requires
of_values::typed_tree-of_structs-requires t c =
    let s = ap type_of c.in-Struct.is ∙ type_of-Struct _ _ in
    let vs = map value_of c.args.values.items in
    (omega (arith, ap type_count s), (ap (λ q. list_all (fits q) vs) (sym s) ∙ c.requires.fit, c.requires.valid (ap has_rows_within s)))

pub of_values::typed_tree-of_fixed_lists-requires : goal.of_values::typed_tree-of_fixed_lists-requires
of_values::typed_tree-of_fixed_lists-requires t c =
    let here = c.in-FixedSizeList in
    let s = ap type_of here.is ∙ type_of-FixedSizeList _ _ _ ∙ ap (λ d. types.fixed_size_list (type_of d) here.size here.nullability) (sym c.deref-in-FixedSizeList.ensures) in
    let vs = map value_of c.args.values.items in
    (omega (arith, ap type_count s), (ap (λ q. list_all (fits q) vs) (sym s) ∙ c.requires.fit, c.requires.valid (ap has_rows_within s)))

pub of_values::spread_tree-plain_pieces-requires : goal.of_values::spread_tree-plain_pieces-requires
of_values::spread_tree-plain_pieces-requires t c =
    let s = type_of c.args.dtype.now in
    let vs = map value_of c.args.values.items in
    let bits = c.args.valid.now in
    let ps = c.in_ok-pieces.pieces.items in
    let long = spread-long s vs bits c.requires.fit c.requires.bits ∙ ap length (sym c.as_slice.ensures) in
    let gives = subst (λ keep. Gives null ps (kept_items keep vs) (masked_rows keep vs)) c.as_slice.ensures (c.in_ok-pieces.ensures vs long) in
    let is = c.in_ok-tree.ensures ∙ ap (plain_of s) c.in_ok-valid_values.ensures in (
      omega (arith, plain-lighter c.in_ok-tree.tree s (valid_of vs) is (within-nested s c.requires.within)),
      (λ i. are_pieces (length (rows (is i))) (c.as_slice-2.ensures.value i)) ∙ spread-within s vs bits c.requires.fit c.requires.bits ps gives,
    )

pub of_values::spread_tree-returns : goal.of_values::spread_tree-returns
of_values::spread_tree-returns t c =
    let s = type_of c.args.dtype.now in
    let vs = map value_of c.args.values.items in
    let bits = c.args.valid.now in
    let ps = c.in_ok-pieces.pieces.items in
    let long = spread-long s vs bits c.requires.fit c.requires.bits ∙ ap length (sym c.as_slice.ensures) in
    let gives = subst (λ keep. Gives null ps (kept_items keep vs) (masked_rows keep vs)) c.as_slice.ensures (c.in_ok-pieces.ensures vs long) in
    let is = c.in_ok-tree.ensures ∙ ap (plain_of s) c.in_ok-valid_values.ensures in
    subst (λ tree. Answers c.plain_pieces.result tree) ((λ i. plain_pieced (c.as_slice-2.ensures.value i) (is i)) ∙ spread-tree s vs bits c.requires.fit c.requires.bits ps gives) c.plain_pieces.ensures
