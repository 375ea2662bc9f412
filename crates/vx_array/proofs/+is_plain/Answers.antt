use Rattle.std.proofs.Common.{◌≡◌, ◌∙◌, true, ap, sym, subst, refl, arith}
use Rattle.std.specs.Prelude.{IsTrue, ◌↔◌}
use Rattle.std.proofs.lemmas.Bool.{true≢false}
use Rattle.vx_model.specs.Plain.{IsPlain}
use Rattle.vx_model.specs.Rows.{rows, cut_at, parts_of}
use Rattle.vx_model.specs.Tree.{of_list, node_count, list_count}
use Rattle.vx_model.specs.TreeType.{tree_type}
use Rattle.vx_model.proofs.BoolLemmas.{plain-bool}
use Rattle.vx_model.proofs.NullLemmas.{plain-primitive}
use Rattle.vx_model.proofs.MadeLemmas.{has_length, validity_length-made}
use Rattle.vx_model.proofs.TimestampLemmas.{plain-timestamp}
use Rattle.vx_model.proofs.TreesLemmas.{item_falls_at}
use Rattle.vx_model.proofs.ViewLemmas.{plain-var_bin_view}
use Rattle.vx_array.specs.Beneath.{ArePlain, defaults_within, empty_beneath, has_words}
use Rattle.vx_array.proofs.AtNode.{at_node}
use Rattle.vx_array.proofs.PlainFixed.{fixed-plain, plain-fixed}
use Rattle.vx_array.proofs.PlainLists.{list-plain, plain-list}
use Rattle.vx_array.proofs.PlainNested.{plain-structure, each_length, plain_at, plain_next, plain_all}
use Rattle.vx_array.proofs.+is_plain.Goals as goal
use Rattle.vx_array.proofs.+is_plain.Goals.{array::ArrayRef::is_plain-then-has_words, array::ArrayRef::is_plain-else-has_words}
use Rattle.vx_array.proofs.+is_plain.Goals.{arrays::Arrays::are_plain-then-not-is_plain-via-then-not-is_plain, arrays::Arrays::are_plain-then-not-is_plain-via-else-not-is_plain+then-not-is_default_beneath}

pub array::ArrayRef::is_plain-is_false_beneath-requires : goal.array::ArrayRef::is_plain-is_false_beneath-requires
array::ArrayRef::is_plain-is_false_beneath-requires t c =
    let a = at_node c.self.view_is c.self.invariant c.in-Bool.is in
    has_length _ _ _ a.well_formed.0

pub array::ArrayRef::is_plain-returns-in-Bool : goal.array::ArrayRef::is_plain-returns-in-Bool
array::ArrayRef::is_plain-returns-in-Bool t c =
    let a = at_node c.self.view_is c.self.invariant c.in-Bool.is in
    rw (a.is, c.is_false_beneath.ensures) (plain-bool _ _ _ a.well_formed)

pub array::ArrayRef::is_plain-is_zero_beneath-requires : goal.array::ArrayRef::is_plain-is_zero_beneath-requires
array::ArrayRef::is_plain-is_zero_beneath-requires t c =
    let a = at_node c.self.view_is c.self.invariant c.in-Primitive.is in
    validity_length-made _ _ _ _ a.well_formed

pub array::ArrayRef::is_plain-returns-in-Primitive : goal.array::ArrayRef::is_plain-returns-in-Primitive
array::ArrayRef::is_plain-returns-in-Primitive t c =
    let a = at_node c.self.view_is c.self.invariant c.in-Primitive.is in
    rw (a.is, c.is_zero_beneath.ensures) (plain-primitive _ _ _ _ a.well_formed)

pub array::ArrayRef::is_plain-is_empty_beneath-requires : goal.array::ArrayRef::is_plain-is_empty_beneath-requires
array::ArrayRef::is_plain-is_empty_beneath-requires t c =
    let a = at_node c.self.view_is c.self.invariant c.in-VarBinView.is in
    has_length _ _ _ a.well_formed.0.validity

pub array::ArrayRef::is_plain-returns-in-VarBinView : goal.array::ArrayRef::is_plain-returns-in-VarBinView
array::ArrayRef::is_plain-returns-in-VarBinView t c =
    let a = at_node c.self.view_is c.self.invariant c.in-VarBinView.is in
    rw (a.is, c.is_empty_beneath.ensures) (plain-var_bin_view _ _ _ a.well_formed)

pub array::ArrayRef::is_plain-returns-in-Timestamp : goal.array::ArrayRef::is_plain-returns-in-Timestamp
array::ArrayRef::is_plain-returns-in-Timestamp t c =
    let a = at_node c.self.view_is c.self.invariant c.in-Timestamp.is in
    let storage = c.in-Timestamp.storage.array.value in
    let own = subst (λ s. IsTrue c.is_plain.result ↔ IsPlain s) c.deref.ensures c.is_plain.ensures in
    let over = plain-timestamp storage _ a.well_formed in
    rw a.is (λ h. over.0 (own.0 h), λ h. own.1 (over.1 h))

pub array::ArrayRef::is_plain-are_plain-requires : goal.array::ArrayRef::is_plain-are_plain-requires
array::ArrayRef::is_plain-are_plain-requires t c =
    let a = at_node c.self.view_is c.self.invariant c.in-Struct.is in
    (omega (arith, ap node_count a.is), each_length _ _ c.in-Struct.fields (has_length _ _ _ a.well_formed.1.validity) a.well_formed.1.lengths)

pub array::ArrayRef::is_plain-returns-in-Struct : goal.array::ArrayRef::is_plain-returns-in-Struct
array::ArrayRef::is_plain-returns-in-Struct t c =
    let a = at_node c.self.view_is c.self.invariant c.in-Struct.is in
    let over = plain-structure _ _ _ _ _ a.well_formed in
    rw a.is (λ h. over.0 (c.are_plain.ensures.0 h), λ h. c.are_plain.ensures.1 (over.1 h))

pub array::ArrayRef::is_plain-returns-then-are_empty_beneath : goal.array::ArrayRef::is_plain-returns-then-are_empty_beneath
array::ArrayRef::is_plain-returns-then-are_empty_beneath t c =
    let a = at_node c.self.view_is c.self.invariant c.in-List.is in
    let elements = c.in-List.elements.array.value in
    let offsets = c.in-List.offsets.array.value in
    let words : has_words offsets ≡ true =
    elim c.if-has_words.branch [
      | array::ArrayRef::is_plain-then-has_words w ↦ sym (c.has_words.ensures ∙ ap has_words c.deref-in-List.ensures) ∙ w.if-has_words.true
      | array::ArrayRef::is_plain-else-has_words w ↦ absurd cc
    ] in
    let empty : empty_beneath c.in-List.valid (cut_at (rows offsets) (rows elements)) ≡ true =
    elim c.if-has_words.branch [
      | array::ArrayRef::is_plain-then-has_words w ↦
          sym (λ i. empty_beneath c.in-List.valid (cut_at (rows (w.deref-then-has_words-2.ensures i)) (rows (w.deref-then-has_words.ensures i)))) ∙ sym w.are_empty_beneath.ensures ∙ sym w.value-is ∙ c.if-are_empty_beneath.true
      | array::ArrayRef::is_plain-else-has_words w ↦ absurd cc
    ] in
    let own = subst (λ s. IsTrue c.is_plain-then-are_empty_beneath.result ↔ IsPlain s) c.deref-then-are_empty_beneath.ensures c.is_plain-then-are_empty_beneath.ensures in
    rw a.is (
      λ h. list-plain elements offsets c.in-List.valid _ a.well_formed (own.0 h) words empty,
      λ h. own.1 (plain-list elements offsets c.in-List.valid _ a.well_formed h).0,
    )

pub array::ArrayRef::is_plain-returns-else-are_empty_beneath : goal.array::ArrayRef::is_plain-returns-else-are_empty_beneath
array::ArrayRef::is_plain-returns-else-are_empty_beneath t c =
    let a = at_node c.self.view_is c.self.invariant c.in-List.is in
    let elements = c.in-List.elements.array.value in
    let offsets = c.in-List.offsets.array.value in
    rw a.is (
      λ h. absurd cc,
      λ h.
          let parts = plain-list elements offsets c.in-List.valid _ a.well_formed h in
          elim c.if-has_words.branch [
            | array::ArrayRef::is_plain-then-has_words w ↦
                w.value-is ∙ w.are_empty_beneath.ensures
                ∙ (λ i. empty_beneath c.in-List.valid (cut_at (rows (w.deref-then-has_words-2.ensures i)) (rows (w.deref-then-has_words.ensures i)))) ∙ parts.2
            | array::ArrayRef::is_plain-else-has_words w ↦ w.value-is ∙ c.has_words.ensures ∙ ap has_words c.deref-in-List.ensures ∙ parts.1
          ],
    )

pub array::ArrayRef::is_plain-returns-then-is_plain : goal.array::ArrayRef::is_plain-returns-then-is_plain
array::ArrayRef::is_plain-returns-then-is_plain t c =
    let a = at_node c.self.view_is c.self.invariant c.in-FixedSizeList.is in
    let elements = c.in-FixedSizeList.elements.array.value in
    let size = c.in-FixedSizeList.size in
    let len = c.in-FixedSizeList.len in
    let valid = c.in-FixedSizeList.valid in
    let own = subst IsPlain c.deref-in-FixedSizeList.ensures (c.is_plain-in-FixedSizeList.ensures.0 c.if-is_plain.true) in
    let beneath : c.parts_are_default_beneath.result ≡ defaults_within (tree_type elements) valid (parts_of size len (rows elements)) =
    c.parts_are_default_beneath.ensures ∙ ap (λ tree. defaults_within (tree_type tree) valid (parts_of size len (rows tree))) c.deref-then-is_plain.ensures in
    rw a.is (
      λ h. fixed-plain elements size len valid _ a.well_formed own (sym beneath ∙ h),
      λ h. beneath ∙ (plain-fixed elements size len valid _ a.well_formed h).1,
    )

pub array::ArrayRef::is_plain-returns-else-is_plain : goal.array::ArrayRef::is_plain-returns-else-is_plain
array::ArrayRef::is_plain-returns-else-is_plain t c =
    let a = at_node c.self.view_is c.self.invariant c.in-FixedSizeList.is in
    let elements = c.in-FixedSizeList.elements.array.value in
    let own = subst (λ s. IsTrue c.is_plain-in-FixedSizeList.result ↔ IsPlain s) c.deref-in-FixedSizeList.ensures c.is_plain-in-FixedSizeList.ensures in
    rw a.is (
      λ h. absurd (true≢false (sym h ∙ c.if-is_plain.false)),
      λ h. own.1 (plain-fixed elements c.in-FixedSizeList.size c.in-FixedSizeList.len c.in-FixedSizeList.valid _ a.well_formed h).0,
    )

-- ---- the trees of a struct

pub arrays::Arrays::are_plain-is_plain-requires : goal.arrays::Arrays::are_plain-is_plain-requires
arrays::Arrays::are_plain-is_plain-requires t c =
    let falls = item_falls_at c.as_slice-tree-items.result.now c.loop-tree.tree-index c.tree-item.result (omega arith) c.tree-item.is in
    (omega (arith, falls, ap list_count c.as_slice-tree-items.ensures), tt)

pub arrays::Arrays::are_plain-loop-tree-preserved : goal.arrays::Arrays::are_plain-loop-tree-preserved
arrays::Arrays::are_plain-loop-tree-preserved t c =
    let trees = c.as_slice-tree-items.result.now in
    let plain = c.is_plain.ensures.0 c.if-not-is_plain.false in
    let beneath = sym c.is_default_beneath.ensures ∙ c.if-not-is_default_beneath.false in
    plain_next c.args.valid.now trees c.loop-tree.tree-index c.tree-item.result (omega arith) c.tree-item.is c.loop-tree.invariant (plain, beneath)

pub arrays::Arrays::are_plain-returns-then-not-is_plain : goal.arrays::Arrays::are_plain-returns-then-not-is_plain
arrays::Arrays::are_plain-returns-then-not-is_plain t c =
    let trees = c.as_slice-tree-items.result.now in (
      λ h. absurd (true≢false (sym h)),
      λ h.
          let at = plain_at c.args.valid.now trees c.loop-tree.tree-index c.tree-item.result (omega arith) c.tree-item.is (subst (λ ts. ArePlain c.args.valid.now (of_list ts)) (sym c.as_slice-tree-items.ensures) h) in
          elim c.then-not-is_plain.branch [
            | arrays::Arrays::are_plain-then-not-is_plain-via-then-not-is_plain w ↦ absurd (true≢false (sym (c.is_plain.ensures.1 at.0) ∙ w.if-not-is_plain.true))
            | arrays::Arrays::are_plain-then-not-is_plain-via-else-not-is_plain+then-not-is_default_beneath w ↦ absurd (true≢false (sym (w.is_default_beneath.ensures ∙ at.1) ∙ w.if-not-is_default_beneath.true))
          ],
    )

pub arrays::Arrays::are_plain-returns : goal.arrays::Arrays::are_plain-returns
arrays::Arrays::are_plain-returns t c =
    let all = plain_all c.args.valid.now c.as_slice-tree-items.result.now c.loop-tree.tree-index (omega arith) c.loop-tree.invariant in
    (λ h. subst (λ ts. ArePlain c.args.valid.now (of_list ts)) c.as_slice-tree-items.ensures all, λ h. refl)
