-- The ways in which a column is split, and the trees that are joined over its fill.
use Rattle.std.proofs.Common.{◌≡◌, ◌<◌, ◌*◌, ◌∙◌, ℕ, ℤ, Bool, true, false, cond, List, [], ◌∷◌, length, Option, Some, None, refl, sym, ap, subst}
use Rattle.std.specs.Prelude.{◌==◌, nat_lt}
use Rattle.std.proofs.lemmas.Bool.{eqb-true}
use Rattle.vx_base.specs.Integers.{lies_in}
use Rattle.vx_base.specs.PlainScalar.{fits}
use Rattle.vx_base.specs.PlainType.{PlainType, is_integer, integer_of}
use Rattle.vx_base.specs.PlainValue.{null, int, cell}
use Rattle.vx_base.proofs.IntegerLemmas.{by_integer}
use Rattle.vx_model.specs.Column.{Column, IsColumn}
use Rattle.vx_model.specs.Tree.{Tree}
use Rattle.vx_scheme.specs.Asked.{FitParts}
use Rattle.vx_scheme.specs.Meaning.{finished, parts}
use Rattle.vx_stats.specs.Stats.{most_frequent, null_count, value_count}
use Rattle.vx_sparse_array.specs.Filling.{filling_of}
use Rattle.vx_sparse_array.proofs.FillingLemmas.{ArePatches}
use Rattle.vx_sparse_array.proofs.SharedLemmas.{frequent-fits, null-fits}
use Rattle.vx_schemes_common.specs.Pairs.{pair_of}
use Rattle.vx_schemes_common.proofs.PairLemmas.{no_pair, pair-fits}
use Rattle.vx_schemes_runs.specs.Sparse.Laws.{fill-fits, parts-patch}
use Rattle.vx_schemes_runs.specs.Sparse.Meaning.{by_split, shared_tree, sparse_split}
use Rattle.vx_schemes_runs.specs.Sparse.Tree.{sparse_fill, sparse_indices, sparse_values}
use Rattle.vx_schemes_runs.proofs.Sparse.Tree.{fill-cell}

-- the one value that all rows share, if they do
abbrev pub shared_of : Column → Option (Option ℤ)
shared_of c = cond (value_count c.values == 0) (Some None) (cond ((most_frequent c.values).1 == length c.values) (Some (Some (most_frequent c.values).0)) None)

pub shared-split : (c : Column) → is_integer c.dtype ≡ true → IsColumn c → 0 < length c.values → (v : Option ℤ) → shared_of c ≡ Some v → (fits c.dtype (cell v) ≡ true) × (sparse_split c ≡ finished (shared_tree c (cell v)))
shared-split c j h some v = by_tests (value_count c.values == 0) ((most_frequent c.values).1 == length c.values) (λ e. eqb-true _ _ e)
  where
    by_tests : (a b : Bool) → (a ≡ true → value_count c.values ≡ 0) → cond a (Some None) (cond b (Some (Some (most_frequent c.values).0)) None) ≡ Some v
        → (fits c.dtype (cell v) ≡ true) × (cond a (finished (shared_tree c null)) (cond b (finished (shared_tree c (int (most_frequent c.values).0))) (parts (sparse_values c ∷ sparse_indices c ∷ []))) ≡ finished (shared_tree c (cell v)))
    by_tests true b none s = let same : None ≡ v = cc in (ap (λ o. fits c.dtype (cell o)) (sym same) ∙ null-fits c j h some (none refl), ap (λ o. finished (shared_tree c (cell o))) same)
    by_tests false true none s = let same : Some (most_frequent c.values).0 ≡ v = cc in (ap (λ o. fits c.dtype (cell o)) (sym same) ∙ frequent-fits c j h, ap (λ o. finished (shared_tree c (cell o))) same)
    by_tests false false none s = absurd cc

pub unshared-split : (c : Column) → shared_of c ≡ None → sparse_split c ≡ parts (sparse_values c ∷ sparse_indices c ∷ [])
unshared-split c = by_tests (value_count c.values == 0) ((most_frequent c.values).1 == length c.values)
  where
    by_tests : (a b : Bool) → cond a (Some None) (cond b (Some (Some (most_frequent c.values).0)) None) ≡ None
        → cond a (finished (shared_tree c null)) (cond b (finished (shared_tree c (int (most_frequent c.values).0))) (parts (sparse_values c ∷ sparse_indices c ∷ []))) ≡ parts (sparse_values c ∷ sparse_indices c ∷ [])
    by_tests true b s = absurd cc
    by_tests false true s = absurd cc
    by_tests false false s = refl

-- the fill as the counts tell it
pub fill-told : (c : Column) (len nulls : ℕ) (value : ℤ) → len ≡ length c.values → nulls ≡ null_count c.values → value ≡ (most_frequent c.values).0 → cond (nat_lt (9 * len) (10 * nulls)) None (Some value) ≡ sparse_fill c.values
fill-told c len nulls value l n v = λ i. cond (nat_lt (9 * l i) (10 * n i)) None (Some (v i))

held-by : (t : PlainType) (z : ℤ) → is_integer t ≡ true → fits t (int z) ≡ true → lies_in (integer_of t) z ≡ true
held-by t z j h = by_integer (λ u. fits u (int z) ≡ true → lies_in (integer_of u) z ≡ true) (λ p n f. f) t j h

-- it is of the type
pub fill-held : (c : Column) (fill : Option ℤ) → is_integer c.dtype ≡ true → IsColumn c → fill ≡ sparse_fill c.values → (z : ℤ) → fill ≡ Some z → lies_in (integer_of c.dtype) z ≡ true
fill-held c fill j h e z s = held-by c.dtype z j (subst (λ o. fits c.dtype (filling_of o).fill ≡ true) (sym e ∙ s) (fill-fits c j h))

pub cell-fits : (c : Column) (fill : Option ℤ) → is_integer c.dtype ≡ true → IsColumn c → fill ≡ sparse_fill c.values → fits c.dtype (cell fill) ≡ true
cell-fits c fill j h e = ap (λ o. fits c.dtype (cell o)) e ∙ ap (fits c.dtype) (fill-cell (sparse_fill c.values)) ∙ fill-fits c j h

-- two trees are those of the parts
pub trees-patch : (c : Column) (fill : Option ℤ) (trees : List Tree) (values indices : Tree) → fill ≡ sparse_fill c.values → Some (values, indices) ≡ pair_of trees → FitParts (sparse_split c) trees → ArePatches (filling_of fill) c indices values
trees-patch c fill trees values indices e pair =
    by_split c (λ split. FitParts split trees → ArePatches (filling_of fill) c indices values) (λ none fit. absurd (no_pair trees values indices pair fit)) (λ all fit. absurd (no_pair trees values indices pair fit))
    (λ fit. (let both = pair-fits trees values indices (sparse_values c) (sparse_indices c) pair fit in subst (λ o. ArePatches (filling_of o) c indices values) (sym e) (parts-patch c indices values both.0 both.1)))
