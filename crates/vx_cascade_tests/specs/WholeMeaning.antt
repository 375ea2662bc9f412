-- What the scheme of the tests means: its one part is the column itself, whose tree is its tree.
use Rattle.std.specs.Prelude.{◌≡◌, ◌≤◌, ℕ, Bool, true, false, if◌then◌else◌, List, [], ◌∷◌, length, map, All, Option, Some, None, slice_get, codes}
use Rattle.std.proofs.Common.{arith, subst, ◌∙◌}
use Rattle.std.proofs.lemmas.List.Elements.{All-from_recursion, recursion_from_All}
use Rattle.vx_base.specs.PlainType.{is_leaf}
use Rattle.vx_model.specs.Column.{Column, IsColumn, column_of}
use Rattle.vx_model.specs.Plain.{plain}
use Rattle.vx_model.specs.Tree.{Tree}
use Rattle.vx_model.specs.WellFormed.{WellFormed}
use Rattle.vx_scheme.specs.Lawful.{Lawful, IsPart}
use Rattle.vx_scheme.specs.Meaning.{Meaning, parts}
use Rattle.vx_scheme.specs.declared.estimate.CompressionEstimate.{CompressionEstimate}
use Rattle.vx_scheme.specs.declared.estimate.EstimateVerdict.TheVariants.{AlwaysUse}

-- the tree, if there is one
abbrev pub tree_or_plain : Column → Option Tree → Tree
tree_or_plain c None = plain c
tree_or_plain c (Some t) = t

-- the root's name, or its own
abbrev pub whole_name : Bool → List ℕ
whole_name is_root = if is_root then codes "vortex.compressor.root" else codes "test.whole"

-- what a scheme means whose one part is the column itself
abbrev pub whole_meaning : Bool → CompressionEstimate → Meaning
whole_meaning is_root estimate = record {
  name = whole_name is_root;
  takes = is_leaf;
  children = 1;
  options = record { count_distinct_values = false };
  produces = λ id. false;
  descendants = [];
  ancestors = [];
  estimate = λ c site. estimate;
  resolve = λ c site. AlwaysUse;
  splits = λ c site. parts (c ∷ []);
  joined = λ c site trees. tree_or_plain c (slice_get trees 0);
}

first_well : (c : Column) (trees : List Tree) → All WellFormed trees → map column_of trees ≡ c ∷ [] → WellFormed (tree_or_plain c (slice_get trees 0)) × (column_of (tree_or_plain c (slice_get trees 0)) ≡ c)
first_well c [] well e = absurd cc
first_well c (t ∷ ts) well e = ((recursion_from_All WellFormed (t ∷ ts) well).0, cc)

one_part : (c : Column) (columns : List Column) → IsColumn c → is_leaf c.dtype ≡ true → c ∷ [] ≡ columns → (length columns ≤ 1) × All (IsPart c) columns
one_part c columns fits leaf e =
    subst (λ cs. (length cs ≤ 1) × All (IsPart c) cs) e
    (omega arith, All-from_recursion (IsPart c) (c ∷ []) (record { column = fits; leaf = leaf; rows = omega arith }, tt))

pub whole_lawful : (is_root : Bool) (estimate : CompressionEstimate) → Lawful (whole_meaning is_root estimate)
whole_lawful is_root estimate = record {
  finished_well = λ c site tree asked e. absurd cc;
  joined_well = λ c site columns trees asked e well fit. first_well c trees well (fit ∙ cc);
  few_parts = λ c site columns asked e. (one_part c columns asked.column asked.taken cc).0;
  small_parts = λ c site columns asked e. (one_part c columns asked.column asked.taken cc).1;
}
