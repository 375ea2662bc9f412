use Rattle.std.proofs.Common.{◌≡◌, ◌+◌, ◌∙◌, length, map, ap, sym}
use Rattle.std.specs.Prelude.{not}
use Rattle.std.proofs.lemmas.List.{length-map}
use Rattle.std.proofs.lemmas.Result.{MatchResult-weaker}
use Rattle.vx_base.specs.Defaults.{default_of, or_default}
use Rattle.vx_base.specs.PlainValue.{int, is_null}
use Rattle.vx_model.specs.Refusals.{validity_length}
use Rattle.vx_model.specs.Rows.{rows}
use Rattle.vx_model.specs.TreeType.{tree_type}
use Rattle.vx_model.specs.WellFormed.{ascend}
use Rattle.vx_model.proofs.DecodeLemmas.{length-validity}
use Rattle.vx_values.specs.IntsOf.{wholes_of}
use Rattle.vx_values.specs.Placed.{by_patches, validity_by_patches}
use Rattle.vx_values.specs.ValuesOf.{kind_of, values_of}
use Rattle.vx_array.proofs.PlacedRows.{sparse_rows}
use Rattle.vx_array.proofs.node.sparse_rows.decoded_sparse.Goals as goal

pub decoded_by_patches-requires : goal.decoded_by_patches-requires
decoded_by_patches-requires c =
    let p = c.args.patches.now in
    let v = c.args.values in
    let h = c.requires.values in
    let is = c.requires.indices in
    let offset = ap (λ q. q.offset) c.patches.view_is in
    let len = ap (λ q. q.array_len) c.patches.view_is in
    let own = or_default (default_of (tree_type p.values)) in
    let size : length (wholes_of c.args.indices.now) ≡ length (rows p.values) = sym (length-map (wholes_of c.args.indices.now) int) ∙ ap length is ∙ c.known.ensures.2.lengths in
    let same : length (wholes_of c.args.indices.now) ≡ length (map own (rows p.values)) = size ∙ sym (length-map (rows p.values) own) in
    record {
      flat = c.requires.flat;
      kind = h.0 ∙ ap kind_of c.requires.typed;
      rising = (λ i. ascend (offset i) (offset i + len i) (is i)) ∙ c.known.ensures.2.ascending;
      lengths = ap length h.1 ∙ sym same;
      bits = (λ i. validity_length (h.2 i) (same i)) ∙ length-validity own (rows p.values);
    }

pub returns : goal.returns
returns c =
    let p = c.args.patches.now in
    let fill = c.args.fill.now in
    let v = c.args.values in
    let is = c.requires.indices in
    let offset = ap (λ q. q.offset) c.patches.view_is in
    let len = ap (λ q. q.array_len) c.patches.view_is in
    MatchResult-weaker c.decoded_by_patches.result c.decoded_by_patches.ensures
    (λ d r. sparse_rows p fill c.known.ensures c.requires.typed v d c.requires.values (
      r.0,
      r.1 ∙ (λ i. by_patches (is i) (offset i) (len i) (values_of v.values) (or_default (default_of fill.dtype) fill.value)),
      r.2 ∙ (λ i. validity_by_patches (is i) (offset i) (len i) v.valid (not (is_null fill.value))),
    ))
    (λ e n. n)
