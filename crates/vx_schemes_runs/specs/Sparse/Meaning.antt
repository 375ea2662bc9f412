-- What the sparse scheme means.
use Rattle.std.specs.Prelude.{◌≡◌, ◌<◌, ◌≤◌, ◌*◌, ◌-◌, ◌==◌, ◌||◌, nat_lt, ℕ, Bool, true, false, cond, if◌then◌else◌, List, [], ◌∷◌, length, All, codes}
use Rattle.std.proofs.Common.{arith, subst, sym, ◌∙◌, refl}
use Rattle.std.proofs.lemmas.Bool.{eqb-true}
use Rattle.vx_base.specs.IdNumber.{same_id}
use Rattle.vx_base.specs.PlainScalar.{scalar}
use Rattle.vx_base.specs.PlainType.{is_integer}
use Rattle.vx_base.specs.PlainValue.{PlainValue, null, int}
use Rattle.vx_base.specs.declared.array_id.ArrayId.TheVariants.{Sparse, Constant}
use Rattle.vx_model.specs.Column.{Column, IsColumn}
use Rattle.vx_model.specs.Tree.{Tree, constant}
use Rattle.vx_scheme.specs.Lawful.{Lawful, IsPart}
use Rattle.vx_scheme.specs.Meaning.{Meaning, PlainSplit, finished, parts}
use Rattle.vx_scheme.specs.Rules.{Rule}
use Rattle.vx_scheme.specs.Scores.{ratio_of}
use Rattle.vx_scheme.specs.declared.estimate.CompressionEstimate.TheVariants.{Verdict}
use Rattle.vx_scheme.specs.declared.estimate.EstimateVerdict.{EstimateVerdict}
use Rattle.vx_scheme.specs.declared.estimate.EstimateVerdict.TheVariants.{Skip}
use Rattle.vx_scheme.specs.declared.selection.ChildSelection.TheVariants.{One}
use Rattle.vx_stats.specs.Stats.{null_count, value_count, most_frequent}
use Rattle.vx_schemes_common.specs.Pairs.{pair_of}
use Rattle.vx_schemes_common.specs.StandsFor.{StandsFor}
use Rattle.vx_sparse_array.proofs.SharedLemmas.{frequent-fits, frequent-shared, null-fits, nulls-shared}
use Rattle.vx_schemes_runs.specs.Sparse.Laws.{sparse-small, shared-stands, joined}
use Rattle.vx_schemes_runs.specs.Sparse.Tree.{sparse_values, sparse_indices, sparse_or_plain}
use Rattle.vx_schemes_runs.specs.declared.integer.sparse.SparseScheme.{SparseScheme}

-- rows / values where more than 9 of 10 rows are null; else values / (values - often), where a value stands in 9 of 10 valid rows but not in all
abbrev pub sparse_verdict : ℕ → ℕ → ℕ → ℕ → EstimateVerdict
sparse_verdict rows nulls values often =
    if values == 0 then Skip
    else (if nat_lt (9 * rows) (10 * nulls) then ratio_of rows values
    else (if (often == values) || nat_lt (10 * often) (9 * values) then Skip
    else ratio_of values (values - often)))

-- the verdict on a column, by the count of its most frequent value
abbrev pub sparse_estimate : Column → EstimateVerdict
sparse_estimate c = sparse_verdict (length c.values) (null_count c.values) (value_count c.values) (most_frequent c.values).1

-- one value in every row
abbrev pub shared_tree : Column → PlainValue → Tree
shared_tree c v = constant (scalar c.dtype v) (length c.values)

-- a constant where all rows are null or all are the most frequent value; else the patched values and their rows
abbrev pub sparse_split : Column → PlainSplit
sparse_split c =
    if value_count c.values == 0 then finished (shared_tree c null)
    else (if (most_frequent c.values).1 == length c.values then finished (shared_tree c (int (most_frequent c.values).0))
    else parts (sparse_values c ∷ sparse_indices c ∷ []))

-- below the rows of the patches, its child 1, no dictionary, runs or sparse values: the rows ascend strictly, so no two are equal
abbrev pub not_below_rows : List Rule
not_below_rows =
    record { scheme = codes "vortex.int.dict"; children = One 1 } ∷ record { scheme = codes "vortex.int.runend"; children = One 1 }
    ∷ record { scheme = codes "vortex.int.rle"; children = One 1 } ∷ record { scheme = codes "vortex.int.sparse"; children = One 1 } ∷ []

-- the patched values are part 0, and their rows part 1
abbrev pub sparse_meaning : SparseScheme → Meaning
sparse_meaning s = record {
  name = codes "vortex.int.sparse";
  takes = is_integer;
  children = 2;
  options = record { count_distinct_values = true };
  produces = λ id. same_id id Sparse || same_id id Constant;
  descendants = not_below_rows;
  ancestors = [];
  estimate = λ c site. Verdict (sparse_estimate c);
  resolve = λ c site. Skip;
  splits = λ c site. sparse_split c;
  joined = λ c site trees. sparse_or_plain c (pair_of trees);
}

-- what holds of each way to split a column holds of its split
pub by_split : (c : Column) (P : PlainSplit → Type 0) → (value_count c.values ≡ 0 → P (finished (shared_tree c null)))
    → ((most_frequent c.values).1 ≡ length c.values → P (finished (shared_tree c (int (most_frequent c.values).0)))) → P (parts (sparse_values c ∷ sparse_indices c ∷ [])) → P (sparse_split c)
by_split c P nulls shared others = by_tests (value_count c.values == 0) ((most_frequent c.values).1 == length c.values) (λ e. nulls (eqb-true _ _ e)) (λ e. shared (eqb-true _ _ e))
  where
    by_tests : (a b : Bool) → (a ≡ true → P (finished (shared_tree c null))) → (b ≡ true → P (finished (shared_tree c (int (most_frequent c.values).0))))
        → P (cond a (finished (shared_tree c null)) (cond b (finished (shared_tree c (int (most_frequent c.values).0))) (parts (sparse_values c ∷ sparse_indices c ∷ []))))
    by_tests true b n s = n refl
    by_tests false true n s = s refl
    by_tests false false n s = others

finished-stands : (c : Column) (tree : Tree) → is_integer c.dtype ≡ true → IsColumn c → 0 < length c.values → sparse_split c ≡ finished tree → StandsFor tree c
finished-stands c tree j h some =
    by_split c (λ split. split ≡ finished tree → StandsFor tree c)
    (λ none e. (let same : shared_tree c null ≡ tree = cc in subst (λ t. StandsFor t c) same (shared-stands c null (null-fits c j h some none) (nulls-shared c j h none))))
    (λ all e. (let same : shared_tree c (int (most_frequent c.values).0) ≡ tree = cc in subst (λ t. StandsFor t c) same (shared-stands c (int (most_frequent c.values).0) (frequent-fits c j h) (frequent-shared c j h all))))
    (λ e. absurd cc)

pub parts-are : (c : Column) (columns : List Column) → sparse_split c ≡ parts columns → sparse_values c ∷ sparse_indices c ∷ [] ≡ columns
parts-are c columns = by_split c (λ split. split ≡ parts columns → sparse_values c ∷ sparse_indices c ∷ [] ≡ columns) (λ none e. absurd cc) (λ all e. absurd cc) (λ e. cc)

pub sparse_lawful : (s : SparseScheme) → Lawful (sparse_meaning s)
sparse_lawful s = record {
  finished_well = λ c site tree asked e. finished-stands c tree asked.taken asked.column asked.some e;
  joined_well = λ c site columns trees asked e well fit. joined c trees asked.taken asked.column well (fit ∙ sym (parts-are c columns e));
  few_parts = λ c site columns asked e. subst (λ cs. length cs ≤ 2) (parts-are c columns e) (omega arith);
  small_parts = λ c site columns asked e. subst (All (IsPart c)) (parts-are c columns e) (sparse-small c asked.taken asked.column asked.few);
}
