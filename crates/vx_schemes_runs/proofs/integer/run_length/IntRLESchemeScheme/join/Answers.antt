use Rattle.std.proofs.Common.{◌≡◌, ◌∙◌, ap, sym, subst, true, length, rules}
use Rattle.vx_base.specs.PlainType.{is_integer}
use Rattle.vx_model.specs.Column.{column_of}
use Rattle.vx_model.specs.Refusals.{rle_refusal}
use Rattle.vx_model.specs.Rows.{rows}
use Rattle.vx_model.specs.TreeType.{tree_type}
use Rattle.vx_model.specs.WellFormed.{WellFormed}
use Rattle.vx_model.proofs.MadeLemmas.{rows_fit}
use Rattle.vx_schemes_runs.specs.RunLength.Tree.{head_values, narrowed_run_numbers, narrowed_offsets}
use Rattle.vx_schemes_runs.specs.RunLength.Laws.{blocks-admitted}
use Rattle.vx_schemes_common.proofs.TripleLemmas.{triple-fits}
use Rattle.vx_schemes_runs.proofs.integer.run_length.IntRLESchemeScheme.join.Goals as goal

pub rle_tree-requires : goal.rle_tree-requires
rle_tree-requires c =
    let t = c.args.column.now.array in
    let well : WellFormed t = subst WellFormed c.array-array.ensures.array c.known.ensures in
    let integer : is_integer (tree_type t) ≡ true = search rules in
    let of = column_of t in
    let long : c.len.result ≡ length (rows t) = c.len.ensures ∙ ap (λ u. length (rows u)) c.array-array.ensures.array in
    let all = triple-fits c.args.trees c.in-Some.values c.in-Some.numbers c.in-Some.offsets (head_values of) (narrowed_run_numbers of) (narrowed_offsets of) (sym c.in-Some.is ∙ c.triple_of.ensures) c.requires.trees in
    ap (rle_refusal c.in-Some.values c.in-Some.numbers c.in-Some.offsets) long ∙ blocks-admitted of c.in-Some.values c.in-Some.numbers c.in-Some.offsets integer (rows_fit t well) all.0 all.1.0 all.1.1
