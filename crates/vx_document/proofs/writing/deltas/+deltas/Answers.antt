use Rattle.std.proofs.Common.{◌≡◌, ◌<◌, ◌+◌, ◌∙◌, ◌++◌, sym, ap, subst, arith, map, drop, length, false}
use Rattle.std.proofs.lemmas.Iterator.Adapters.{YieldsList-from_vec}
use Rattle.std.proofs.lemmas.Iterator.Consumers.{YieldsList-turn}
use Rattle.std.proofs.lemmas.List.{length_push}
use Rattle.vx_base.specs.TypeOf.{type_of}
use Rattle.vx_model.specs.Column.{column_of}
use Rattle.vx_model.specs.Nodes.{children}
use Rattle.vx_model.specs.Refusals.{kept, dict_refusal, fixed_size_list_refusal, list_refusal, patches_refusal, sparse_refusal, structure_refusal, var_bin_refusal}
use Rattle.vx_model.specs.Tree.{node_count, list_count, of_list, dict, fixed_size_list, list, patches, sparse_of, structure, var_bin}
use Rattle.vx_model.specs.TreeType.{tree_type}
use Rattle.vx_model.specs.WellFormed.{WellFormed}
use Rattle.vx_model.proofs.TreesLemmas.{item_falls_at}
use Rattle.vx_document.specs.Accepted.{is_decoded}
use Rattle.vx_document.proofs.DeltaNodes.{no_other}
use Rattle.vx_document.proofs.SameColumns.{accepted, made_surely, refused_never, columns_more, list_admitted, list_same, fixed_admitted, fixed_same, dict_admitted, dict_same, var_bin_admitted, var_bin_same, structure_admitted, structure_same, patches_admitted, sparse_admitted, sparse_same}
use Rattle.vx_document.proofs.writing.deltas.+deltas.Goals as goal

pub without_deltas-unreachable-requires : goal.without_deltas-unreachable-requires
without_deltas-unreachable-requires t c =
    let decoded : is_decoded (tree_type c.args.tree) ≡ false = sym (c.is_decoded.ensures ∙ ap is_decoded c.dtype.ensures) ∙ c.if-is_decoded.false in
    no_other c.into_node.result (subst WellFormed (sym c.into_node.ensures.tree) c.into_node.ensures.well_formed) (ap (λ tree. is_decoded (tree_type tree)) c.into_node.ensures.tree ∙ decoded)
    (λ e. omega (arith, c.num_children.ensures, c.if-num_children-eq0.false, e, ap (λ tree. length (children tree)) c.into_node.ensures.tree))
    c.in_default.not-VarBin c.in_default.not-Masked c.in_default.not-Dict c.in_default.not-Sparse c.in_default.not-Struct c.in_default.not-List c.in_default.not-FixedSizeList

pub var_bin-returns : goal.var_bin-returns
var_bin-returns t c =
    let o = c.args.offsets in
    let p = c.in_ok-offsets.offsets in
    let bs = c.args.bytes in
    let valid = c.args.valid in
    let own = type_of c.args.dtype in
    let same = c.in_ok-offsets.ensures in
    accepted (var_bin_refusal p bs valid own) (var_bin p bs (kept valid) own) (p, bs, valid, c.args.dtype) c.var_bin.result c.accepted.result (column_of (var_bin o bs valid own))
    (var_bin_admitted o p same bs valid own c.requires) (var_bin_same o p same bs valid own c.requires) c.var_bin.ensures c.accepted.ensures

pub dict-returns : goal.dict-returns
dict-returns t c =
    let d = c.in_ok-codes.codes in
    let u = c.in_ok-values.values in
    let codes = c.in_ok-codes.ensures in
    let values = c.in_ok-values.ensures in
    accepted (dict_refusal d u) (dict d u) (d, u) c.dict.result c.accepted.result (column_of (dict c.args.codes c.args.values))
    (dict_admitted c.args.codes c.args.values d u codes values c.requires) (dict_same c.args.codes c.args.values d u codes values c.requires) c.dict.ensures c.accepted.ensures

pub sparse-returns-in-Ok : goal.sparse-returns-in-Ok
sparse-returns-in-Ok t c =
    let p = c.args.patches in
    let fill = c.args.fill in
    let is = c.in_ok-indices.indices in
    let vs = c.in_ok-values.values in
    let indices = c.in_ok-indices.ensures ∙ ap (λ q. column_of q.0) c.into_parts-indices.ensures in
    let values = c.in_ok-values.ensures ∙ ap (λ q. column_of q.1) c.into_parts-indices.ensures in
    let own = patches p.array_len p.offset is vs in
    let given : patches c.array_len-len.result c.offset-offset.result is vs ≡ own = λ i. patches (c.array_len-len.ensures i) (c.offset-offset.ensures i) is vs in
    let here = patches c.array_len-len.result c.offset-offset.result is vs in
    let made = made_surely (patches_refusal here) here c.in-Ok.patches (is, vs) c.new.result (ap patches_refusal given ∙ patches_admitted p fill is vs indices values c.requires) c.new.ensures c.in-Ok.is ∙ given in
    accepted (sparse_refusal c.in-Ok.patches fill) (sparse_of c.in-Ok.patches fill) (c.in-Ok.patches, fill) c.sparse.result c.accepted.result (column_of (sparse_of p fill))
    (ap (λ q. sparse_refusal q fill) made ∙ sparse_admitted p fill is vs indices values c.requires) (ap (λ q. column_of (sparse_of q fill)) made ∙ sparse_same p fill is vs indices values c.requires)
    c.sparse.ensures c.accepted.ensures

pub sparse-returns-in-Err : goal.sparse-returns-in-Err
sparse-returns-in-Err t c =
    let p = c.args.patches in
    let is = c.in_ok-indices.indices in
    let vs = c.in_ok-values.values in
    let indices = c.in_ok-indices.ensures ∙ ap (λ q. column_of q.0) c.into_parts-indices.ensures in
    let values = c.in_ok-values.ensures ∙ ap (λ q. column_of q.1) c.into_parts-indices.ensures in
    let given : patches c.array_len-len.result c.offset-offset.result is vs ≡ patches p.array_len p.offset is vs = λ i. patches (c.array_len-len.ensures i) (c.offset-offset.ensures i) is vs in
    let here = patches c.array_len-len.result c.offset-offset.result is vs in
    absurd (refused_never (patches_refusal here) here (is, vs) c.new.result _ (ap patches_refusal given ∙ patches_admitted p c.args.fill is vs indices values c.requires) c.new.ensures c.in-Err.is)

pub nested::structs-returns : goal.nested::structs-returns
nested::structs-returns t c =
    let names = c.args.names in
    let ts = c.args.fields in
    let us = c.in_ok-fields.fields in
    let len = c.args.len in
    let valid = c.args.valid in
    let n = c.args.nullability in
    let same = c.in_ok-fields.ensures in
    accepted (structure_refusal names (of_list us) len valid n) (structure names (of_list us) len (kept valid) n) (names, us, valid) c.structure.result c.accepted.result (column_of (structure names (of_list ts) len valid n))
    (structure_admitted names ts us same len valid n c.requires) (structure_same names ts us same len valid n c.requires) c.structure.ensures c.accepted.ensures

pub nested::lists-returns : goal.nested::lists-returns
nested::lists-returns t c =
    let f = c.in_ok-elements.elements in
    let p = c.in_ok-offsets.offsets in
    let valid = c.args.valid in
    let n = c.args.nullability in
    let elements = c.in_ok-elements.ensures in
    let offsets = c.in_ok-offsets.ensures in
    accepted (list_refusal f p valid n) (list f p (kept valid) n) (f, p, valid) c.list.result c.accepted.result (column_of (list c.args.elements c.args.offsets valid n))
    (list_admitted c.args.elements c.args.offsets f p elements offsets valid n c.requires) (list_same c.args.elements c.args.offsets f p elements offsets valid n c.requires) c.list.ensures c.accepted.ensures

pub nested::fixed-returns : goal.nested::fixed-returns
nested::fixed-returns t c =
    let f = c.in_ok-elements.elements in
    let size = c.args.size in
    let len = c.args.len in
    let valid = c.args.valid in
    let n = c.args.nullability in
    let same = c.in_ok-elements.ensures in
    accepted (fixed_size_list_refusal f size len valid n) (fixed_size_list f size len (kept valid) n) (f, valid) c.fixed_size_list.result c.accepted.result (column_of (fixed_size_list c.args.elements size len valid n))
    (fixed_admitted c.args.elements f same size len valid n c.requires) (fixed_same c.args.elements f same size len valid n c.requires) c.fixed_size_list.ensures c.accepted.ensures

-- ---- each tree of a list

pub nested::each_without-without_deltas-requires : goal.nested::each_without-without_deltas-requires
nested::each_without-without_deltas-requires t c =
    let l = c.loop-tree in
    let tree = c.in-Some.tree in
    let items = c.into_vec-tree-items in
    let gives = c.into_iter-tree-iterator.ensures.into_iter_gives in
    let turn = YieldsList-turn (YieldsList-from_vec {s = c.into_iter-tree-iterator.result} c.args.trees (gives.0 ∙ items.ensures) (gives.1 ∙ items.result.ok.0 ∙ ap length items.ensures)) l.yielded l.tree-iterator l.yielded_by c.next.result c.next.new.self tree c.in-Some.is c.next.ensures.steps in
    let less : node_count tree < list_count c.args.trees = item_falls_at c.args.trees (length l.yielded) tree turn.0 turn.1 in
    omega (arith, less)

pub nested::each_without-loop-tree-preserved : goal.nested::each_without-loop-tree-preserved
nested::each_without-loop-tree-preserved t c =
    let l = c.loop-tree in
    let tree = c.in-Some.tree in
    let items = c.into_vec-tree-items in
    let gives = c.into_iter-tree-iterator.ensures.into_iter_gives in
    let turn = YieldsList-turn (YieldsList-from_vec {s = c.into_iter-tree-iterator.result} c.args.trees (gives.0 ∙ items.ensures) (gives.1 ∙ items.result.ok.0 ∙ ap length items.ensures)) l.yielded l.tree-iterator l.yielded_by c.next.result c.next.new.self tree c.in-Some.is c.next.ensures.steps in
    let more = length_push l.yielded tree in
    let made = c.push.new.self.items in
    ap (λ n. map column_of made ++ map column_of (drop n c.args.trees)) more
    ∙ columns_more c.args.trees (length l.yielded) tree c.in_ok-without_deltas.field-0 l.made.items made turn.0 turn.1 c.in_ok-without_deltas.ensures c.in_ok-push.ensures.items
    ∙ l.invariant
