use Rattle.std.proofs.Common.{◌∙◌, true, refl, ap, subst}
use Rattle.vx_base.specs.Answers.{Answers}
use Rattle.vx_model.specs.Column.{column_of}
use Rattle.vx_model.specs.Offsets.{offsets_of}
use Rattle.vx_model.specs.Plain.{plain}
use Rattle.vx_schemes_common.specs.Narrowed.{narrowed_numbers}
use Rattle.vx_schemes_text.specs.VarBin.Tree.{binary_offsets}
use Rattle.vx_schemes_text.proofs.SparseParts.{parts-split}
use Rattle.vx_schemes_text.proofs.binary.var_bin.split_by.Goals as goal

pub returns : goal.returns
returns c =
    let part = c.in_ok-narrowed_numbers.ensures ∙ ap (λ ns. plain (narrowed_numbers ns)) (c.in_ok-offsets.ensures ∙ ap offsets_of c.views_of.ensures.rows) in
    subst (Answers c.one_part.result) (parts-split true (binary_offsets (column_of c.args.array.now)) _ refl part) c.one_part.ensures
