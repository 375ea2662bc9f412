use Rattle.std.proofs.Common.{◌∙◌, ap, subst}
use Rattle.vx_base.specs.Answers.{Answers}
use Rattle.vx_model.specs.Column.{column_of}
use Rattle.vx_model.specs.Nested.{concatenated}
use Rattle.vx_model.specs.Refusals.{kept, var_bin_refusal}
use Rattle.vx_model.specs.Rows.{rows}
use Rattle.vx_model.specs.Tree.{var_bin}
use Rattle.vx_model.proofs.DecodeLemmas.{kept-validity}
use Rattle.vx_model.proofs.MadeLemmas.{rows_fit}
use Rattle.vx_schemes_text.specs.VarBin.Laws.{binaries-admitted}
use Rattle.vx_schemes_text.proofs.binary.var_bin.var_bin_tree.Goals as goal

pub var_bin_of-requires : goal.var_bin_of-requires
var_bin_of-requires c =
    let t = c.args.array.now in
    let bytes = c.in_ok-bytes.ensures ∙ ap concatenated c.views_of.ensures.rows in
    let valid = c.in_ok-valid.ensures ∙ c.views_of.ensures.valid in
    let dtype = c.in_ok-dtype.ensures ∙ c.dtype.ensures in
    (λ i. var_bin_refusal c.args.offsets (bytes i) (valid i) (dtype i)) ∙ binaries-admitted (column_of t) c.requires.bytes (rows_fit t c.known.ensures) c.args.offsets c.requires.offsets

pub returns : goal.returns
returns c =
    let bytes = c.in_ok-bytes.ensures ∙ ap concatenated c.views_of.ensures.rows in
    let valid = ap kept (c.in_ok-valid.ensures ∙ c.views_of.ensures.valid) ∙ kept-validity (rows c.args.array.now) in
    let dtype = c.in_ok-dtype.ensures ∙ c.dtype.ensures in
    subst (Answers c.var_bin_of.result) (λ i. var_bin c.args.offsets (bytes i) (valid i) (dtype i)) c.var_bin_of.ensures
