use Rattle.std.proofs.Common.{ap, sym, ◌∙◌, map}
use Rattle.vx_base.specs.TypeOf.{type_of, value_of}
use Rattle.vx_model.specs.Nested.{elements}
use Rattle.vx_model.specs.Plain.{validity}
use Rattle.vx_model.specs.Refusals.{kept, var_bin_view_refusal}
use Rattle.vx_model.specs.Tree.{var_bin_view}
use Rattle.vx_model.proofs.DecodeLemmas.{kept-validity}
use Rattle.vx_model.proofs.ViewLemmas.{plain_of-bytes}
use Rattle.vx_array.proofs.Canonicals.{views_admitted}
use Rattle.vx_array.proofs.of_values.byte_lists.of_byte_lists.Goals as goal

pub var_bin_view_of-tree-requires : goal.var_bin_view_of-tree-requires
var_bin_view_of-tree-requires c =
    let vs = elements (map value_of c.args.values.items) in
    let rows = c.from_vec.ensures ∙ c.in_ok-rows.ensures.0 in
    let valid = c.in_ok-valid.ensures ∙ ap (λ ws. validity (elements (map value_of ws))) c.as_slice.ensures.value in
    (λ i. var_bin_view_refusal (rows i) (valid i) (c.in_ok-copy.ensures i)) ∙ views_admitted (type_of c.args.dtype.now) c.requires.bytes vs c.requires.fitting

pub returns : goal.returns
returns c =
    let vs = elements (map value_of c.args.values.items) in
    let rows = c.from_vec.ensures ∙ c.in_ok-rows.ensures.0 in
    let valid = ap kept (c.in_ok-valid.ensures ∙ ap (λ ws. validity (elements (map value_of ws))) c.as_slice.ensures.value) ∙ kept-validity vs in
    (c.var_bin_view_of-tree.ensures ∙ (λ i. var_bin_view (rows i) (valid i) (c.in_ok-copy.ensures i)) ∙ sym (plain_of-bytes (type_of c.args.dtype.now) vs c.requires.bytes), c.in_ok-rows.ensures.1)
