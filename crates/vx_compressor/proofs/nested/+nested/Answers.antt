use Rattle.std.proofs.Common.{◌≡◌, ◌<◌, ◌+◌, ◌∙◌, ◌++◌, ℕ, List, [], ◌∷◌, rules, arith, sym, ap, subst, map, drop, get_or, length, append_assoc, All}
use Rattle.std.proofs.lemmas.Iterator.Adapters.{YieldsList-from_vec}
use Rattle.std.proofs.lemmas.Iterator.Consumers.{YieldsList-turn}
use Rattle.std.proofs.lemmas.List.{length_push, drop_more}
use Rattle.vx_base.specs.PlainType.{is_flat}
use Rattle.vx_model.specs.Cascade.{cascade, offsets_site}
use Rattle.vx_model.specs.Column.{column_of}
use Rattle.vx_model.specs.Rows.{rows}
use Rattle.vx_model.specs.Tree.{Tree, node_count, list_count, list, fixed_size_list}
use Rattle.vx_model.specs.TreeType.{tree_type}
use Rattle.vx_model.specs.Whole.{IsWhole, narrowed}
use Rattle.vx_model.proofs.TakenApartLemmas.{fields-whole, structure-taken, structure-well, elements-whole, offsets-plain, list-taken, list-well, fixed_elements-whole, fixed_size_list-taken, fixed_size_list-well}
use Rattle.vx_model.proofs.TreesLemmas.{item_falls_at}
use Rattle.vx_compressor.specs.Cascade.{setting, leaf_tree}
use Rattle.vx_compressor.proofs.CascadeLemmas.{lawful-map, leaves-stand}
use Rattle.vx_compressor.proofs.OneValueTrees.{answers_along}
use Rattle.vx_compressor.proofs.PlainNodeLemmas.{is_nest, plain_of-nest, no_nest}
use Rattle.vx_compressor.proofs.nested.+nested.Goals as goal

-- one tree more of those that a list becomes
mapped-step : (f : Tree → Tree) (xs : List Tree) (i : ℕ) (x t : Tree) (trees more : List Tree) → i < length xs → x ≡ get_or xs i x → t ≡ f x → more ≡ trees ++ t ∷ [] → more ++ map f (drop (i + 1) xs) ≡ trees ++ map f (drop i xs)
mapped-step f xs i x t trees more within read is longer =
    let rest = map f (drop (i + 1) xs) in
    ap (λ l. l ++ rest) longer
    ∙ append_assoc trees (t ∷ []) rest
    ∙ ap (λ u. trees ++ u ∷ rest) is
    ∙ ap (λ l. trees ++ map f l) (ap (λ y. y ∷ drop (i + 1) xs) read ∙ sym (drop_more xs i x within))

-- ---- structs

pub plain_tree-field_trees-requires : goal.plain_tree-field_trees-requires
plain_tree-field_trees-requires g t c =
    let set = setting g.S.Scheme.meaning c.args.compressor.now c.args.ctx.now in
    let stand = leaves-stand set (lawful-map g.S.Scheme.meaning g.met.S.Scheme.lawful c.args.compressor.now) in
    let p = c.in-Struct in
    let nodes = ap node_count p.ensures.tree in
    let less : list_count p.fields < node_count c.args.plain = omega (arith, nodes) in
    let whole : All IsWhole p.fields = fields-whole (leaf_tree set) stand c.args.plain c.requires p.names p.fields p.len p.valid p.nullability p.ensures.tree in
    search rules

pub plain_tree-struct_over-requires : goal.plain_tree-struct_over-requires
plain_tree-struct_over-requires g t c =
    let set = setting g.S.Scheme.meaning c.args.compressor.now c.args.ctx.now in
    let stand = leaves-stand set (lawful-map g.S.Scheme.meaning g.met.S.Scheme.lawful c.args.compressor.now) in
    let p = c.in-Struct in
    let made = c.in_ok-fields-in-Struct in
    structure-well (leaf_tree set) stand c.args.plain c.requires p.names p.fields p.len p.valid p.nullability p.ensures.tree made.fields made.ensures.answer

pub plain_tree-returns-in_ok-fields-in-Struct-clause-answer : goal.plain_tree-returns-in_ok-fields-in-Struct-clause-answer
plain_tree-returns-in_ok-fields-in-Struct-clause-answer g t c =
    let set = setting g.S.Scheme.meaning c.args.compressor.now c.args.ctx.now in
    let stand = leaves-stand set (lawful-map g.S.Scheme.meaning g.met.S.Scheme.lawful c.args.compressor.now) in
    let p = c.in-Struct in
    let made = c.in_ok-fields-in-Struct in
    answers_along c.struct_over.result _ _ (structure-taken (leaf_tree set) stand c.args.plain c.requires p.names p.fields p.len p.valid p.nullability p.ensures.tree made.fields made.ensures.answer) c.struct_over.ensures

-- ---- lists

pub plain_tree-plain_tree-requires : goal.plain_tree-plain_tree-requires
plain_tree-plain_tree-requires g t c =
    let set = setting g.S.Scheme.meaning c.args.compressor.now c.args.ctx.now in
    let stand = leaves-stand set (lawful-map g.S.Scheme.meaning g.met.S.Scheme.lawful c.args.compressor.now) in
    let p = c.in-List in
    let is : list c.into_inner.result p.offsets.array.value p.valid p.nullability ≡ c.args.plain = ap (λ e. list e p.offsets.array.value p.valid p.nullability) c.into_inner.ensures ∙ p.ensures.tree in
    let nodes = ap node_count is in
    let less : node_count c.into_inner.result < node_count c.args.plain = omega (arith, nodes) in
    let whole : IsWhole c.into_inner.result = elements-whole (leaf_tree set) stand c.args.plain c.requires c.into_inner.result p.offsets.array.value p.valid p.nullability is in
    search rules

pub plain_tree-offsets_tree-requires : goal.plain_tree-offsets_tree-requires
plain_tree-offsets_tree-requires g t c =
    let set = setting g.S.Scheme.meaning c.args.compressor.now c.args.ctx.now in
    let stand = leaves-stand set (lawful-map g.S.Scheme.meaning g.met.S.Scheme.lawful c.args.compressor.now) in
    let p = c.in-List in
    let inside = c.into_inner.result in
    let offsets = c.into_inner-in-List.result in
    let is : list inside offsets p.valid p.nullability ≡ c.args.plain = (λ i. list (c.into_inner.ensures i) (c.into_inner-in-List.ensures i) p.valid p.nullability) ∙ p.ensures.tree in
    let ends : c.len-end.result ≡ length (rows inside) = c.len-end.ensures ∙ ap (λ t. length (rows t)) (c.deref.ensures ∙ sym c.into_inner.ensures) in
    offsets-plain (leaf_tree set) stand c.args.plain c.requires inside offsets p.valid p.nullability is c.len-end.result ends

pub plain_tree-list_over-requires : goal.plain_tree-list_over-requires
plain_tree-list_over-requires g t c =
    let set = setting g.S.Scheme.meaning c.args.compressor.now c.args.ctx.now in
    let stand = leaves-stand set (lawful-map g.S.Scheme.meaning g.met.S.Scheme.lawful c.args.compressor.now) in
    let p = c.in-List in
    let inside = c.into_inner.result in
    let offsets = c.into_inner-in-List.result in
    let is : list inside offsets p.valid p.nullability ≡ c.args.plain = (λ i. list (c.into_inner.ensures i) (c.into_inner-in-List.ensures i) p.valid p.nullability) ∙ p.ensures.tree in
    let ends : c.len-end.result ≡ length (rows inside) = c.len-end.ensures ∙ ap (λ t. length (rows t)) (c.deref.ensures ∙ sym c.into_inner.ensures) in
    let made = c.in_ok-elements-in-List in
    let between = c.in_ok-offsets-in-List in
    let at : between.offsets ≡ leaf_tree set (narrowed c.len-end.result (rows offsets)) offsets_site =
    between.ensures.answer ∙ ap (λ words. leaf_tree (setting g.S.Scheme.meaning c.args.compressor.now words) (narrowed c.len-end.result (rows offsets)) offsets_site) made.ensures.ctx in
    list-well (leaf_tree set) stand c.args.plain c.requires inside offsets p.valid p.nullability is c.len-end.result ends made.elements between.offsets made.ensures.answer at

pub plain_tree-returns-in_ok-offsets-in-List-clause-answer : goal.plain_tree-returns-in_ok-offsets-in-List-clause-answer
plain_tree-returns-in_ok-offsets-in-List-clause-answer g t c =
    let set = setting g.S.Scheme.meaning c.args.compressor.now c.args.ctx.now in
    let stand = leaves-stand set (lawful-map g.S.Scheme.meaning g.met.S.Scheme.lawful c.args.compressor.now) in
    let p = c.in-List in
    let inside = c.into_inner.result in
    let offsets = c.into_inner-in-List.result in
    let is : list inside offsets p.valid p.nullability ≡ c.args.plain = (λ i. list (c.into_inner.ensures i) (c.into_inner-in-List.ensures i) p.valid p.nullability) ∙ p.ensures.tree in
    let ends : c.len-end.result ≡ length (rows inside) = c.len-end.ensures ∙ ap (λ t. length (rows t)) (c.deref.ensures ∙ sym c.into_inner.ensures) in
    let made = c.in_ok-elements-in-List in
    let between = c.in_ok-offsets-in-List in
    let at : between.offsets ≡ leaf_tree set (narrowed c.len-end.result (rows offsets)) offsets_site =
    between.ensures.answer ∙ ap (λ words. leaf_tree (setting g.S.Scheme.meaning c.args.compressor.now words) (narrowed c.len-end.result (rows offsets)) offsets_site) made.ensures.ctx in
    answers_along c.list_over.result _ _ (list-taken (leaf_tree set) stand c.args.plain c.requires inside offsets p.valid p.nullability is c.len-end.result ends made.elements between.offsets made.ensures.answer at) c.list_over.ensures

-- ---- lists of one size

pub plain_tree-plain_tree-requires-in-FixedSizeList : goal.plain_tree-plain_tree-requires-in-FixedSizeList
plain_tree-plain_tree-requires-in-FixedSizeList g t c =
    let set = setting g.S.Scheme.meaning c.args.compressor.now c.args.ctx.now in
    let stand = leaves-stand set (lawful-map g.S.Scheme.meaning g.met.S.Scheme.lawful c.args.compressor.now) in
    let p = c.in-FixedSizeList in
    let inside = c.into_inner-in-FixedSizeList.result in
    let is : fixed_size_list inside p.size p.len p.valid p.nullability ≡ c.args.plain = ap (λ e. fixed_size_list e p.size p.len p.valid p.nullability) c.into_inner-in-FixedSizeList.ensures ∙ p.ensures.tree in
    let nodes = ap node_count is in
    let less : node_count inside < node_count c.args.plain = omega (arith, nodes) in
    let whole : IsWhole inside = fixed_elements-whole (leaf_tree set) stand c.args.plain c.requires inside p.size p.len p.valid p.nullability is in
    search rules

pub plain_tree-fixed_size_list_over-requires : goal.plain_tree-fixed_size_list_over-requires
plain_tree-fixed_size_list_over-requires g t c =
    let set = setting g.S.Scheme.meaning c.args.compressor.now c.args.ctx.now in
    let stand = leaves-stand set (lawful-map g.S.Scheme.meaning g.met.S.Scheme.lawful c.args.compressor.now) in
    let p = c.in-FixedSizeList in
    let inside = c.into_inner-in-FixedSizeList.result in
    let made = c.in_ok-elements-in-FixedSizeList in
    let is : fixed_size_list inside p.size p.len p.valid p.nullability ≡ c.args.plain = ap (λ e. fixed_size_list e p.size p.len p.valid p.nullability) c.into_inner-in-FixedSizeList.ensures ∙ p.ensures.tree in
    fixed_size_list-well (leaf_tree set) stand c.args.plain c.requires inside p.size p.len p.valid p.nullability is made.elements made.ensures.answer

pub plain_tree-returns-in_ok-elements-in-FixedSizeList-clause-answer : goal.plain_tree-returns-in_ok-elements-in-FixedSizeList-clause-answer
plain_tree-returns-in_ok-elements-in-FixedSizeList-clause-answer g t c =
    let set = setting g.S.Scheme.meaning c.args.compressor.now c.args.ctx.now in
    let stand = leaves-stand set (lawful-map g.S.Scheme.meaning g.met.S.Scheme.lawful c.args.compressor.now) in
    let p = c.in-FixedSizeList in
    let inside = c.into_inner-in-FixedSizeList.result in
    let made = c.in_ok-elements-in-FixedSizeList in
    let is : fixed_size_list inside p.size p.len p.valid p.nullability ≡ c.args.plain = ap (λ e. fixed_size_list e p.size p.len p.valid p.nullability) c.into_inner-in-FixedSizeList.ensures ∙ p.ensures.tree in
    answers_along c.fixed_size_list_over.result _ _ (fixed_size_list-taken (leaf_tree set) stand c.args.plain c.requires inside p.size p.len p.valid p.nullability is made.elements made.ensures.answer) c.fixed_size_list_over.ensures

-- ---- no other node

pub plain_tree-unreachable-requires : goal.plain_tree-unreachable-requires
plain_tree-unreachable-requires g t c =
    let other = c.in_default in
    let nest = plain_of-nest (tree_type c.args.plain) (rows c.args.plain) (ap is_flat (sym c.dtype.ensures) ∙ sym c.is_flat.ensures ∙ c.if-is_flat.false) in
    no_nest c.into_node.result other.not-Null other.not-Struct other.not-List other.not-FixedSizeList (ap is_nest (c.into_node.ensures.tree ∙ c.requires.plain) ∙ nest)

-- ---- fields

pub field_trees-plain_tree-requires : goal.field_trees-plain_tree-requires
field_trees-plain_tree-requires g t c =
    let l = c.loop-field in
    let field = c.in-Some.field in
    let items = c.into_vec-field-items in
    let gives = c.into_iter-field-iterator.ensures.into_iter_gives in
    let turn = YieldsList-turn (YieldsList-from_vec {s = c.into_iter-field-iterator.result} c.args.fields (gives.0 ∙ items.ensures) (gives.1 ∙ items.result.ok.0 ∙ ap length items.ensures)) l.yielded l.field-iterator l.yielded_by c.next.result c.next.new.self field c.in-Some.is c.next.ensures.steps in
    let whole : IsWhole field = subst IsWhole (sym turn.1) (c.requires (length l.yielded) field turn.0) in
    let less : node_count field < list_count c.args.fields = item_falls_at c.args.fields (length l.yielded) field turn.0 turn.1 in
    search rules

pub field_trees-loop-field-preserved : goal.field_trees-loop-field-preserved
field_trees-loop-field-preserved g t c =
    let leaves = leaf_tree (setting g.S.Scheme.meaning c.args.compressor.now c.args.ctx.now) in
    let l = c.loop-field in
    let field = c.in-Some.field in
    let items = c.into_vec-field-items in
    let gives = c.into_iter-field-iterator.ensures.into_iter_gives in
    let turn = YieldsList-turn (YieldsList-from_vec {s = c.into_iter-field-iterator.result} c.args.fields (gives.0 ∙ items.ensures) (gives.1 ∙ items.result.ok.0 ∙ ap length items.ensures)) l.yielded l.field-iterator l.yielded_by c.next.result c.next.new.self field c.in-Some.is c.next.ensures.steps in
    let more = length_push l.yielded field in
    let is : c.in_ok-tree.tree ≡ cascade leaves (column_of field) = c.in_ok-tree.ensures.answer ∙ ap (λ words. cascade (leaf_tree (setting g.S.Scheme.meaning c.args.compressor.now words)) (column_of field)) l.invariant.same_ctx in
    record {
      same_ctx = c.in_ok-tree.ensures.ctx ∙ l.invariant.same_ctx;
      trees =
          ap (λ n. c.in_ok-trees.trees ++ map (λ field. cascade leaves (column_of field)) (drop n c.args.fields)) more
          ∙ mapped-step (λ field. cascade leaves (column_of field)) c.args.fields (length l.yielded) field c.in_ok-tree.tree l.trees c.in_ok-trees.trees turn.0 turn.1 is c.in_ok-trees.ensures
          ∙ l.invariant.trees;
    }
