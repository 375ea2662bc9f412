-- What the scheme of sparse values makes has an encoding that it produces.
use Rattle.std.proofs.Common.{◌≡◌, true, Option, Some, None, refl, subst, inl, inr}
use Rattle.vx_base.specs.PlainValue.{PlainValue, null, int}
use Rattle.vx_model.specs.Column.{Column}
use Rattle.vx_model.specs.Nodes.{encoding}
use Rattle.vx_model.specs.Tree.{Tree}
use Rattle.vx_scheme.specs.Meaning.{finished}
use Rattle.vx_stats.specs.Stats.{most_frequent}
use Rattle.vx_schemes_common.specs.Pairs.{pair_of}
use Rattle.vx_schemes_common.specs.Produced.{IsProduced, MakesProduced}
use Rattle.vx_schemes_runs.specs.Sparse.Meaning.{sparse_meaning, sparse_split, shared_tree, by_split}
use Rattle.vx_schemes_runs.specs.Sparse.Tree.{sparse_or_plain}
use Rattle.vx_schemes_runs.specs.declared.integer.sparse.SparseScheme.{SparseScheme}

pub sparse-produced : (s : SparseScheme) → MakesProduced (sparse_meaning s)
sparse-produced s = record {
  by_finishing = λ c site tree e. of_split c tree e;
  by_joining = λ c site trees. by_pair c (pair_of trees);
}
  where
    shared : (c : Column) (v : PlainValue) (tree : Tree) → finished (shared_tree c v) ≡ finished tree → (sparse_meaning s).produces (encoding tree) ≡ true
    shared c v tree e = let same : shared_tree c v ≡ tree = cc in subst (λ t. (sparse_meaning s).produces (encoding t) ≡ true) same refl

    of_split : (c : Column) (tree : Tree) → sparse_split c ≡ finished tree → (sparse_meaning s).produces (encoding tree) ≡ true
    of_split c tree =
        by_split c (λ split. split ≡ finished tree → (sparse_meaning s).produces (encoding tree) ≡ true) (λ none e. shared c null tree e) (λ all e. shared c (int (most_frequent c.values).0) tree e) (λ e. absurd cc)

    by_pair : (c : Column) (pair : Option (Tree × Tree)) → IsProduced (sparse_meaning s) c (sparse_or_plain c pair)
    by_pair c None = inl refl
    by_pair c (Some pair) = inr refl
