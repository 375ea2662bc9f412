use Rattle.std.proofs.Common.{◌∙◌, subst}
use Rattle.std.specs.Prelude.{filter}
use Rattle.std.specs.List.{range_with_len}
use Rattle.vx_base.specs.Answers.{Answers}
use Rattle.vx_model.specs.Rows.{rows, is_valid_at}
use Rattle.vx_schemes_text.proofs.ViewParts.{valid_rows-patched}
use Rattle.vx_schemes_text.proofs.string.sparse.tree.text_rows.Goals as goal

pub returns : goal.returns
returns c = subst (Answers c.valid_numbers.result) ((λ i. filter (is_valid_at (c.views_of.ensures.valid i)) (range_with_len 0 (c.len.ensures i))) ∙ valid_rows-patched (rows c.args.array.now)) c.valid_numbers.ensures
