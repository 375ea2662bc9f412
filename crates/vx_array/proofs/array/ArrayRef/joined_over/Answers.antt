use Rattle.std.proofs.Common.{◌∙◌, ap, subst}
use Rattle.vx_base.specs.Answers.{Answers}
use Rattle.vx_model.specs.Column.{column_of}
use Rattle.vx_model.specs.Nested.{concatenated}
use Rattle.vx_model.specs.Refusals.{kept, var_bin_refusal}
use Rattle.vx_model.specs.Rows.{rows}
use Rattle.vx_model.specs.Tree.{var_bin}
use Rattle.vx_model.proofs.DecodeLemmas.{kept-validity}
use Rattle.vx_model.proofs.JoinedTreeLemmas.{joined_admitted}
use Rattle.vx_model.proofs.MadeLemmas.{rows_fit}
use Rattle.vx_array.proofs.array.ArrayRef.joined_over.Goals as goal

pub var_bin_of-requires : goal.var_bin_of-requires
var_bin_of-requires c =
    let own = c.args.self.now in
    let bytes = c.bytes.view_is ∙ c.in_ok-bytes.ensures ∙ ap concatenated c.as_views.ensures.rows in
    let valid = c.in_ok-valid.ensures ∙ c.as_views.ensures.valid in
    let dtype = c.in_ok-copy.ensures ∙ c.as_views.ensures.dtype in
    (λ i. var_bin_refusal c.args.offsets (bytes i) (valid i) (dtype i)) ∙ joined_admitted (column_of own) c.requires.bytes (rows_fit own c.known.ensures) c.args.offsets c.requires.offsets

pub returns : goal.returns
returns c =
    let own = c.args.self.now in
    let bytes = c.bytes.view_is ∙ c.in_ok-bytes.ensures ∙ ap concatenated c.as_views.ensures.rows in
    let valid = ap kept (c.in_ok-valid.ensures ∙ c.as_views.ensures.valid) ∙ kept-validity (rows own) in
    let dtype = c.in_ok-copy.ensures ∙ c.as_views.ensures.dtype in
    subst (Answers c.var_bin_of.result) (λ i. var_bin c.args.offsets (bytes i) (valid i) (dtype i)) c.var_bin_of.ensures
