use Rattle.std.proofs.Common.{◌≡◌, ◌<◌, sym, ap, subst, true, rules}
use Rattle.vx_base.specs.PlainType.{is_integer}
use Rattle.vx_model.specs.Column.{column_of}
use Rattle.vx_model.specs.Rows.{rows}
use Rattle.vx_model.specs.TreeType.{tree_type}
use Rattle.vx_model.specs.WellFormed.{WellFormed}
use Rattle.vx_model.proofs.MadeLemmas.{rows_fit}
use Rattle.vx_schemes_common.proofs.KeptLemmas.{surely_decided, no_refusal}
use Rattle.vx_schemes.proofs.FrameOfReference.Least.{some_values}
use Rattle.vx_schemes.proofs.integer.frame_of_reference.FoRSchemeScheme.expected_compression_ratio.Goals as goal

pub verdict-requires : goal.verdict-requires
verdict-requires c =
    let t = c.args.column.now.array in
    let well : WellFormed t = subst WellFormed c.array-array.ensures.array c.known.ensures in
    let integer : is_integer (tree_type t) ≡ true = search rules in
    let stats = surely_decided _ _ _ (no_refusal (rows t) c.requires.column.few) c.in_ok-stats.ensures.answer in
    subst (λ n. 0 < n) (sym (ap (λ s. s.value_count) stats)) (some_values (column_of t) integer (rows_fit t well) c.requires.value)
