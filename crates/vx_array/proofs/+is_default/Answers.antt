use Rattle.std.proofs.Common.{◌≡◌, ◌<◌, ◌+◌, ◌*◌, ◌∙◌, ap, sym, subst, arith, length, None, false}
use Rattle.std.specs.List.{list_all}
use Rattle.std.specs.Prelude.{◌==◌, nat_le}
use Rattle.std.proofs.lemmas.Bool.{leb-true}
use Rattle.vx_array.specs.Beneath.{ArePlain, is_default}
use Rattle.vx_base.specs.Masks.{rows_between}
use Rattle.vx_base.specs.PlainType.{is_flat, is_nullable}
use Rattle.vx_model.specs.Plain.{IsPlain}
use Rattle.vx_model.specs.Rows.{rows, row_at, offset_at}
use Rattle.vx_model.specs.Tree.{of_list, node_count, list_count}
use Rattle.vx_model.specs.TreeType.{tree_type}
use Rattle.vx_model.proofs.FixedSizeListLemmas.{length-fixed_size_list}
use Rattle.vx_model.proofs.FrameOfReferenceLemmas.{row_fits}
use Rattle.vx_model.proofs.ListLemmas.{length-list}
use Rattle.vx_model.proofs.NullsLemmas.{length-nulls}
use Rattle.vx_model.proofs.StructLemmas.{length-structure}
use Rattle.vx_model.proofs.TreesLemmas.{item_falls_at}
use Rattle.vx_array.proofs.AtNode.{at_node}
use Rattle.vx_array.proofs.PlainNested.{plain_at}
use Rattle.vx_array.proofs.DefaultLemmas.{flat_other, flat-default, default-list, default-fixed, plain-fields, plain-elements, between-next, between-stop}
use Rattle.vx_array.proofs.DefaultRanges.{default-nulls, default-struct_rows, default-struct_row, ends_in_rows, parts-within, default-fixed_rows}
use Rattle.vx_array.proofs.ValueAt.{sized-within, passes_at}
use Rattle.vx_array.proofs.+is_default.Goals as goal

-- ---- the row of a tree, node by node

pub array::ArrayRef::is_default_at-all_default-requires :
    goal.array::ArrayRef::is_default_at-all_default-requires
array::ArrayRef::is_default_at-all_default-requires t c =
    let a = at_node c.self.view_is c.self.invariant c.in-Struct.is in
    let l = length-structure _ _ _ _ _ a.well_formed in (
      omega (arith, ap node_count a.is),
      (
        plain-fields _ _ _ _ _ a.well_formed (subst IsPlain a.is c.requires.plain),
        (omega arith, ends_in_rows _ (c.args.row + 1) c.in-Struct.fields (omega (arith, l, rw a.is at c.requires.in_range)) a.well_formed.1.lengths),
      ),
    )

pub array::ArrayRef::is_default_at-returns-in-Struct :
    goal.array::ArrayRef::is_default_at-returns-in-Struct
array::ArrayRef::is_default_at-returns-in-Struct t c =
    let a = at_node c.self.view_is c.self.invariant c.in-Struct.is in
    let l = length-structure _ _ _ _ _ a.well_formed in
    let never : is_nullable (tree_type c.args.self.now) ≡ false = sym (c.is_nullable.ensures ∙ ap is_nullable c.dtype.ensures) ∙ c.if-is_nullable.false in
    let row = c.args.row in
    c.all_default.ensures
    ∙ default-struct_row _ c.in-Struct.fields _ _ _ a.well_formed (rw a.is at never) row (omega (arith, l, rw a.is at c.requires.in_range))
    ∙ ap (λ tree. is_default (tree_type tree) (row_at (rows tree) row)) (sym a.is)

pub array::ArrayRef::is_default_at-is_empty_at-requires-clause-in_range :
    goal.array::ArrayRef::is_default_at-is_empty_at-requires-clause-in_range
array::ArrayRef::is_default_at-is_empty_at-requires-clause-in_range t c =
    let a = at_node c.self.view_is c.self.invariant c.in-List.is in
    let l = length-list _ _ _ _ a.well_formed in
    omega (arith, l, rw a.is at c.requires.in_range, ap (λ tree. length (rows tree)) c.deref-in-List.ensures)

pub array::ArrayRef::is_default_at-returns-in-List :
    goal.array::ArrayRef::is_default_at-returns-in-List
array::ArrayRef::is_default_at-returns-in-List t c =
    let a = at_node c.self.view_is c.self.invariant c.in-List.is in
    let l = length-list _ _ _ _ a.well_formed in
    let never : is_nullable (tree_type c.args.self.now) ≡ false = sym (c.is_nullable.ensures ∙ ap is_nullable c.dtype.ensures) ∙ c.if-is_nullable.false in
    let row = c.args.row in
    let here = offset_at (rows c.deref-in-List.result.now) row in
    let next = offset_at (rows c.deref-in-List.result.now) (row + 1) in
    let read =
    ap (λ es. length (rows_between (rows es) here next) == 0) c.deref.ensures
    ∙ ap (λ os. length (rows_between (rows c.in-List.elements.array.value) (offset_at (rows os) row) (offset_at (rows os) (row + 1))) == 0) c.deref-in-List.ensures in
    c.is_empty_at.ensures ∙ read ∙ default-list _ _ _ _ a.well_formed row (omega (arith, l, rw a.is at c.requires.in_range)) (rw a.is at never)
    ∙ ap (λ tree. is_default (tree_type tree) (row_at (rows tree) row)) (sym a.is)

pub array::ArrayRef::is_default_at-part_is_default-requires :
    goal.array::ArrayRef::is_default_at-part_is_default-requires
array::ArrayRef::is_default_at-part_is_default-requires t c =
    let a = at_node c.self.view_is c.self.invariant c.in-FixedSizeList.is in
    let l = length-fixed_size_list _ _ _ _ _ a.well_formed in
    let within = sized-within c.in-FixedSizeList.size c.in-FixedSizeList.field-2 c.args.row (omega (arith, l, rw a.is at c.requires.in_range)) in (
      omega (arith, ap node_count a.is, ap node_count c.deref-in-FixedSizeList.ensures),
      (
        subst IsPlain (sym c.deref-in-FixedSizeList.ensures) (plain-elements _ _ _ _ _ a.well_formed (subst IsPlain a.is c.requires.plain)),
        omega (arith, within, a.well_formed.1.lengths, ap (λ tree. length (rows tree)) c.deref-in-FixedSizeList.ensures),
      ),
    )

pub array::ArrayRef::is_default_at-returns-in-FixedSizeList :
    goal.array::ArrayRef::is_default_at-returns-in-FixedSizeList
array::ArrayRef::is_default_at-returns-in-FixedSizeList t c =
    let a = at_node c.self.view_is c.self.invariant c.in-FixedSizeList.is in
    let l = length-fixed_size_list _ _ _ _ _ a.well_formed in
    let never : is_nullable (tree_type c.args.self.now) ≡ false = sym (c.is_nullable.ensures ∙ ap is_nullable c.dtype.ensures) ∙ c.if-is_nullable.false in
    let row = c.args.row in
    let size = c.in-FixedSizeList.size in
    let below : row < c.in-FixedSizeList.field-2 = omega (arith, l, rw a.is at c.requires.in_range) in
    let within = sized-within size c.in-FixedSizeList.field-2 row below in
    let read = ap (λ tree. list_all (is_default (tree_type tree)) (rows_between (rows tree) (row * size) (row * size + size))) c.deref-in-FixedSizeList.ensures in
    c.part_is_default.ensures ∙ read ∙ default-fixed _ _ _ _ _ a.well_formed row below (omega (arith, within, a.well_formed.1.lengths)) (rw a.is at never)
    ∙ ap (λ tree. is_default (tree_type tree) (row_at (rows tree) row)) (sym a.is)

pub array::ArrayRef::is_default_at-returns-in_default :
    goal.array::ArrayRef::is_default_at-returns-in_default
array::ArrayRef::is_default_at-returns-in_default t c =
    let never : is_nullable (tree_type c.args.self.now) ≡ false = sym (c.is_nullable.ensures ∙ ap is_nullable c.dtype.ensures) ∙ c.if-is_nullable.false in
    let flat = flat_other c.self.inside.node c.self.invariant.0.well_formed c.in_default.not-Constant c.in_default.not-Null c.in_default.not-Struct c.in_default.not-List c.in_default.not-FixedSizeList c.in_default.not-Sparse in
    let own = ap (λ tree. is_flat (tree_type tree)) (sym c.self.view_is) ∙ flat in
    let fit = row_fits c.args.self.now c.args.row c.known.ensures c.requires.in_range in
    rw (c.is_zero.ensures, c.cell_at.ensures) (flat-default (tree_type c.args.self.now) (row_at (rows c.args.self.now) c.args.row) own never fit)

-- ---- ranges of rows, node by node

pub array::ArrayRef::are_default-returns-in-Null : goal.array::ArrayRef::are_default-returns-in-Null
array::ArrayRef::are_default-returns-in-Null t c =
    let a = at_node c.self.view_is c.self.invariant c.in-Null.is in
    let l = length-nulls c.in-Null.field-0 in
    let within = rw a.is at c.requires.in_range in
    rw a.is (sym (default-nulls c.in-Null.field-0 c.args.from c.args.to c.requires.rising (omega (arith, l, within))))

pub array::ArrayRef::are_default-all_default-requires :
    goal.array::ArrayRef::are_default-all_default-requires
array::ArrayRef::are_default-all_default-requires t c =
    let a = at_node c.self.view_is c.self.invariant c.in-Struct.is in
    let l = length-structure _ _ _ _ _ a.well_formed in (
      omega (arith, ap node_count a.is),
      (
        plain-fields _ _ _ _ _ a.well_formed (subst IsPlain a.is c.requires.plain),
        (c.requires.rising, ends_in_rows _ c.args.to c.in-Struct.fields (omega (arith, l, rw a.is at c.requires.in_range)) a.well_formed.1.lengths),
      ),
    )

pub array::ArrayRef::are_default-returns-in-Struct : goal.array::ArrayRef::are_default-returns-in-Struct
array::ArrayRef::are_default-returns-in-Struct t c =
    let a = at_node c.self.view_is c.self.invariant c.in-Struct.is in
    let l = length-structure _ _ _ _ _ a.well_formed in
    let never : is_nullable (tree_type c.args.self.now) ≡ false = sym (c.is_nullable-nullable.ensures ∙ ap is_nullable c.dtype.ensures) ∙ c.if-not-nullable.true in
    c.all_default.ensures
    ∙ default-struct_rows _ c.in-Struct.fields _ _ _ a.well_formed (rw a.is at never) c.args.from c.args.to c.requires.rising (omega (arith, l, rw a.is at c.requires.in_range))
    ∙ ap (λ tree. list_all (is_default (tree_type tree)) (rows_between (rows tree) c.args.from c.args.to)) (sym a.is)

pub array::ArrayRef::are_default-parts_are_default-requires :
    goal.array::ArrayRef::are_default-parts_are_default-requires
array::ArrayRef::are_default-parts_are_default-requires t c =
    let a = at_node c.self.view_is c.self.invariant c.in-FixedSizeList.is in
    let l = length-fixed_size_list _ _ _ _ _ a.well_formed in
    let within = parts-within c.in-FixedSizeList.size c.args.to c.in-FixedSizeList.field-2 (omega (arith, l, rw a.is at c.requires.in_range)) in (
      omega (arith, ap node_count a.is, ap node_count c.deref.ensures),
      (
        subst IsPlain (sym c.deref.ensures) (plain-elements _ _ _ _ _ a.well_formed (subst IsPlain a.is c.requires.plain)),
        (c.requires.rising, omega (arith, within, a.well_formed.1.lengths, ap (λ tree. length (rows tree)) c.deref.ensures)),
      ),
    )

pub array::ArrayRef::are_default-returns-in-FixedSizeList :
    goal.array::ArrayRef::are_default-returns-in-FixedSizeList
array::ArrayRef::are_default-returns-in-FixedSizeList t c =
    let a = at_node c.self.view_is c.self.invariant c.in-FixedSizeList.is in
    let l = length-fixed_size_list _ _ _ _ _ a.well_formed in
    let never : is_nullable (tree_type c.args.self.now) ≡ false = sym (c.is_nullable-nullable.ensures ∙ ap is_nullable c.dtype.ensures) ∙ c.if-not-nullable-2.true in
    let size = c.in-FixedSizeList.size in
    let read = ap (λ tree. list_all (is_default (tree_type tree)) (rows_between (rows tree) (c.args.from * size) (c.args.to * size))) c.deref.ensures in
    c.parts_are_default.ensures ∙ read
    ∙ default-fixed_rows _ size _ _ _ a.well_formed (omega (arith, a.well_formed.1.lengths)) (rw a.is at never) c.args.from c.args.to c.requires.rising (omega (arith, l, rw a.is at c.requires.in_range))
    ∙ ap (λ tree. list_all (is_default (tree_type tree)) (rows_between (rows tree) c.args.from c.args.to)) (sym a.is)

-- ---- ranges row by row, by parts, and of several trees

pub array::ArrayRef::each_is_default-returns-then-not-is_default_at : goal.array::ArrayRef::each_is_default-returns-then-not-is_default_at
array::ArrayRef::each_is_default-returns-then-not-is_default_at t c =
    let own = sym c.is_default_at.ensures ∙ c.if-not-is_default_at.true in
    sym (between-stop (is_default (tree_type c.args.self.now)) (rows c.args.self.now) _ c.loop-row.row _ c.loop-row.auto.row c.loop-row-test.true c.requires.in_range own)

pub array::ArrayRef::each_is_default-loop-row-preserved : goal.array::ArrayRef::each_is_default-loop-row-preserved
array::ArrayRef::each_is_default-loop-row-preserved t c =
    let own = sym c.is_default_at.ensures ∙ c.if-not-is_default_at.false in
    between-next (is_default (tree_type c.args.self.now)) (rows c.args.self.now) _ c.loop-row.row c.loop-row.auto.row (omega arith) c.loop-row.invariant own

pub arrays::Arrays::all_default-are_default-requires : goal.arrays::Arrays::all_default-are_default-requires
arrays::Arrays::all_default-are_default-requires t c =
    let trees = c.as_slice-tree-items.result.now in
    let place = c.loop-tree.tree-index in
    let falls = item_falls_at trees place c.tree-item.result (omega arith) c.tree-item.is in
    let all = ap (list_all (λ tree. nat_le c.args.to (length (rows tree)))) c.as_slice-tree-items.ensures ∙ c.requires.in_range in (
      omega (arith, falls, ap list_count c.as_slice-tree-items.ensures),
      (
        (plain_at None trees place c.tree-item.result (omega arith) c.tree-item.is (subst (λ ts. ArePlain None (of_list ts)) (sym c.as_slice-tree-items.ensures) c.requires.plain)).0,
        (c.requires.rising, leb-true c.args.to _ (passes_at (λ tree. nat_le c.args.to (length (rows tree))) trees place c.tree-item.result (omega arith) c.tree-item.is all)),
      ),
    )

-- a node that has none of these roots is of a flat type
pub array::ArrayRef::is_default_at-cell_at-requires : goal.array::ArrayRef::is_default_at-cell_at-requires
array::ArrayRef::is_default_at-cell_at-requires t c =
    let flat = flat_other c.self.inside.node c.self.invariant.0.well_formed c.in_default.not-Constant c.in_default.not-Null c.in_default.not-Struct c.in_default.not-List c.in_default.not-FixedSizeList c.in_default.not-Sparse in
    record { flat = ap (λ tree. is_flat (tree_type tree)) (sym c.self.view_is) ∙ flat; in_range = c.requires.in_range }
