use Rattle.std.proofs.Common.{◌∙◌, pos, ap}
use Rattle.std.specs.Prelude.{int_lt}
use Rattle.vx_base.specs.PlainType.{integer_of}
use Rattle.vx_model.specs.Rows.{rows}
use Rattle.vx_model.specs.TreeType.{tree_type}
use Rattle.vx_schemes_common.proofs.KeptLemmas.{no_refusal, surely_decided}
use Rattle.vx_schemes.proofs.BitPacking.Negative.{negative-least}
use Rattle.vx_schemes.proofs.integer.bit_packing.has_negative.Goals as goal

pub returns-clause-answer : goal.returns-clause-answer
returns-clause-answer c =
    let t = c.args.column.now.array in
    let stats = surely_decided _ _ _ (no_refusal (rows t) c.requires.few) c.in_ok-integer_summary.ensures.answer in
    c.min_is_negative.ensures ∙ ap (λ e. int_lt e.least (pos 0)) (c.erased.ensures.extremes ∙ ap (λ s. s.extremes) stats) ∙ negative-least (integer_of (tree_type t)) (rows t)
