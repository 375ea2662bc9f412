use Rattle.std.proofs.Common.{◌≡◌, ◌∙◌, sym, subst, true, rules}
use Rattle.vx_base.specs.PlainType.{is_integer}
use Rattle.vx_model.specs.Column.{column_of}
use Rattle.vx_model.specs.TreeType.{tree_type}
use Rattle.vx_model.specs.WellFormed.{WellFormed}
use Rattle.vx_model.proofs.MadeLemmas.{rows_fit}
use Rattle.vx_schemes_common.proofs.PairLemmas.{pair-fits}
use Rattle.vx_schemes_runs.specs.RunEnd.Tree.{run_values, narrowed_ends}
use Rattle.vx_schemes_runs.specs.RunEnd.Laws.{runs-admitted}
use Rattle.vx_schemes_runs.proofs.integer.run_end.RunEndSchemeScheme.join.Goals as goal

pub runs_tree-requires : goal.runs_tree-requires
runs_tree-requires c =
    let t = c.args.column.now.array in
    let well : WellFormed t = subst WellFormed c.array-array.ensures.array c.known.ensures in
    let integer : is_integer (tree_type t) ≡ true = search rules in
    let of = column_of t in
    let both = pair-fits c.args.trees c.in-Some.values c.in-Some.ends (run_values of) (narrowed_ends of) (sym c.in-Some.is ∙ c.pair_of.ensures) c.requires.trees in
    runs-admitted of c.in-Some.ends c.in-Some.values integer (rows_fit t well) c.requires.column.few both.0 both.1
