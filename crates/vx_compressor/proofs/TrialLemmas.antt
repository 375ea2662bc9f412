-- What a scheme makes of a column, by what it splits it into.
use Rattle.std.proofs.Common.{◌≡◌, ◌<◌, ◌≤◌, ◌+◌, ◌-◌, ℕ, zero, suc, true, false, List, [], ◌∷◌, ◌++◌, length, get_or, drop, map, All, Result, refl, sym, ◌∙◌, ap, subst, arith, append_assoc}
use Rattle.std.specs.Prelude.{◌==◌}
use Rattle.std.specs.List.{AllByRecursion}
use Rattle.std.proofs.lemmas.Bool.{eqb-true, eqb-false}
use Rattle.std.proofs.lemmas.List.{drop_more}
use Rattle.std.proofs.lemmas.List.Elements.{All-from_recursion, recursion_from_All}
use Rattle.vx_base.specs.Answers.{Answers}
use Rattle.vx_base.specs.declared.error.VortexError.{VortexError}
use Rattle.vx_base.specs.PlainType.{is_flat}
use Rattle.vx_model.specs.Cascade.{Leaves}
use Rattle.vx_model.specs.Column.{Column, column_of}
use Rattle.vx_model.specs.Plain.{plain, IsPlain}
use Rattle.vx_model.specs.Site.{Site, down, max_cascade}
use Rattle.vx_model.specs.Tree.{Tree}
use Rattle.vx_model.specs.TreeType.{tree_type}
use Rattle.vx_model.specs.WellFormed.{WellFormed}
use Rattle.vx_model.proofs.FlatTypeLemmas.{leaf-flat}
use Rattle.vx_model.proofs.MadeLemmas.{rows_fit}
use Rattle.vx_model.proofs.PlainLemmas.{plain_is_plain}
use Rattle.vx_scheme.specs.Asked.{HasParts, FitParts, IsAsked, IsSiteTree}
use Rattle.vx_scheme.specs.Lawful.{Lawful, IsPart}
use Rattle.vx_scheme.specs.Meaning.{Meaning, PlainSplit, kept, finished, parts, parts_of, split_of}
use Rattle.vx_scheme.specs.declared.split.Split.TheVariants as splits
use Rattle.vx_scheme.proofs.PartLemmas.{parts-plain}
use Rattle.vx_compressor.specs.Cascade.{Setting, setting, part_trees, made_tree, trial, site_tree, child_tree, children_of, leaf_tree}
use Rattle.vx_compressor.specs.Reach.{IsInReach, IsPartInReach}
use Rattle.vx_compressor.proofs.CascadeLemmas.{Keeps, IsChild, are_children, part_trees-columns, child_tree-keeps, lawful-map}

all_plain : (c : Column) (cs : List Column) → AllByRecursion (IsPart c) cs → AllByRecursion IsPlain (map plain cs)
all_plain c [] h = tt
all_plain c (part ∷ cs) h = (plain_is_plain part h.0.column, all_plain c cs h.1)

module _ (child : Leaves) (m : Meaning) (c : Column) (site : Site) where
  pub trial-kept : splits.Kept ≡ split_of (m.splits c site) → plain c ≡ trial child m c site
  trial-kept = of_made (m.splits c site)
    where
      of_made : (made : PlainSplit) → splits.Kept ≡ split_of made → plain c ≡ made_tree child m c site made
      of_made kept e = refl
      of_made (finished tree) e = absurd cc
      of_made (parts columns) e = absurd cc

  pub trial-finished : (tree : Tree) → splits.Finished tree ≡ split_of (m.splits c site) → tree ≡ trial child m c site
  trial-finished tree = of_made (m.splits c site)
    where
      of_made : (made : PlainSplit) → splits.Finished tree ≡ split_of made → tree ≡ made_tree child m c site made
      of_made kept e = absurd cc
      of_made (finished tree') e = cc
      of_made (parts columns) e = absurd cc

-- ---- parts

-- they are the plain trees of the meaning's columns
record ArePartsOf (ps : List Tree) (made : PlainSplit) : Type 0 where
  columns : made ≡ parts (map column_of ps)
  plain : All IsPlain ps

are_parts_of : (c : Column) (ps : List Tree) (made : PlainSplit) → ((columns : List Column) → made ≡ parts columns → All (IsPart c) columns) → splits.Parts ps ≡ split_of made → ArePartsOf ps made
are_parts_of c ps kept small e = absurd cc
are_parts_of c ps (finished tree) small e = absurd cc
are_parts_of c ps (parts columns) small e =
    let same : ps ≡ map plain columns = cc in
    let own = small columns refl in
    record {
      columns = ap parts (sym (parts-plain c columns own) ∙ ap (map column_of) (sym same));
      plain = subst (All IsPlain) (sym same) (All-from_recursion IsPlain (map plain columns) (all_plain c columns (recursion_from_All (IsPart c) columns own)));
    }

parts_in_reach : (budget : ℕ) (ps : List Tree) → AllByRecursion (IsChild budget) (map column_of ps) → budget ≤ max_cascade → AllByRecursion (λ part. IsPartInReach (column_of part) budget) ps
parts_in_reach budget [] h within = tt
parts_in_reach budget (p ∷ ps) h within = (record { few = h.0.few; within = within }, parts_in_reach budget ps h.1 within)

parts_flat : (budget : ℕ) (ps : List Tree) → AllByRecursion (IsChild budget) (map column_of ps) → AllByRecursion (λ part. is_flat (tree_type part) ≡ true) ps
parts_flat budget [] h = tt
parts_flat budget (p ∷ ps) h = (leaf-flat (tree_type p) h.0.leaf, parts_flat budget ps h.1)

-- what holds of the parts that a scheme made of a column
pub record PartsMade (child : Leaves) (budget : ℕ) (m : Meaning) (c : Column) (site : Site) (ps : List Tree) : Type 0 where
  pub plain : All IsPlain ps
  pub flat : All (λ part. is_flat (tree_type part) ≡ true) ps
  pub reach : All (λ part. IsPartInReach (column_of part) budget) ps
  pub split : HasParts (m.splits c site)
  pub fit : (trees : List Tree) → trees ≡ part_trees child m.name site 0 (map column_of ps) → FitParts (m.splits c site) trees
  pub joined : (trees : List Tree) → trees ≡ part_trees child m.name site 0 (map column_of ps) → m.joined c site trees ≡ trial child m c site

parts_made_by : (child : Leaves) (budget : ℕ) → Keeps child budget → (m : Meaning) → Lawful m → (c : Column) (site : Site) → IsAsked m c → IsInReach c budget → (ps : List Tree) → splits.Parts ps ≡ split_of (m.splits c site) → PartsMade child budget m c site ps
parts_made_by child budget keeps m lawful c site asked reach ps made =
    let are = are_parts_of c ps (m.splits c site) (λ columns e. lawful.small_parts c site columns asked e) made in
    let small = are_children c budget reach (map column_of ps) (lawful.small_parts c site (map column_of ps) asked are.columns) in
    record {
      plain = are.plain;
      flat = All-from_recursion _ ps (parts_flat budget ps small);
      reach = All-from_recursion _ ps (parts_in_reach budget ps small reach.within);
      split = subst HasParts (sym are.columns) tt;
      fit = λ trees is. ap (map column_of) is ∙ part_trees-columns child budget keeps m.name site 0 (map column_of ps) small ∙ ap parts_of (sym are.columns);
      joined = λ trees is. ap (m.joined c site) is ∙ ap (made_tree child m c site) (sym are.columns);
    }

-- of what the code has: a scheme of the compressor's type, and the array that is split
pub parts_made : {S : Type 0} (meaning : S → Meaning) → ((s : S) → Lawful (meaning s)) → (schemes : List S) (words : List ℕ) (s : S) (array held : Tree) (site : Site) → WellFormed held → held ≡ array → IsSiteTree array
    → (meaning s).takes (tree_type array) ≡ true → IsInReach (column_of array) site.budget → (ps : List Tree) → splits.Parts ps ≡ split_of ((meaning s).splits (column_of array) site)
    → PartsMade (children_of (setting meaning schemes words) site) site.budget (meaning s) (column_of array) site ps
parts_made meaning law schemes words s array held site well same asked taken reach ps made =
    let set = setting meaning schemes words in
    let fits = rows_fit array (subst WellFormed same well) in
    parts_made_by (children_of set site) site.budget (child_tree-keeps set (lawful-map meaning law schemes) site.budget reach.within) (meaning s) (law s) (column_of array) site
    (record { column = fits; taken = taken; some = asked.some; few = asked.few }) reach ps made

-- what is joined of the same array is the trial's tree
pub joined_answer : (m : Meaning) (result : Result Tree VortexError) (old new t : Tree) (site : Site) (trees : List Tree) → new ≡ old → m.joined (column_of old) site trees ≡ t → m.takes (tree_type old) ≡ true
    → HasParts (m.splits (column_of old) site) → (m.takes (tree_type new) ≡ true → HasParts (m.splits (column_of new) site) → Answers result (m.joined (column_of new) site trees)) → Answers result t
joined_answer m result old new t site trees same joined taken split answer =
    subst (λ t. Answers result t) (ap (λ a. m.joined (column_of a) site trees) same ∙ joined)
    (answer (ap (λ a. m.takes (tree_type a)) same ∙ taken) (subst (λ a. HasParts (m.splits (column_of a) site)) (sym same) split))

-- ---- one more part

pub part_trees-step : (child : Leaves) (name : List ℕ) (site : Site) (xs : List Tree) (i : ℕ) (x t : Tree) (trees trees' : List Tree) → i < length xs → x ≡ get_or xs i x → t ≡ child (column_of x) (down site name i) → trees' ≡ trees ++ t ∷ []
    → trees' ++ part_trees child name site (i + 1) (map column_of (drop (i + 1) xs)) ≡ trees ++ part_trees child name site i (map column_of (drop i xs))
part_trees-step child name site xs i x t trees trees' within read is more =
    let rest = part_trees child name site (i + 1) (map column_of (drop (i + 1) xs)) in
    ap (λ l. l ++ rest) more
    ∙ append_assoc trees (t ∷ []) rest
    ∙ ap (λ u. trees ++ u ∷ rest) is
    ∙ ap (λ l. trees ++ part_trees child name site i (map column_of l)) (ap (λ y. y ∷ drop (i + 1) xs) read ∙ sym (drop_more xs i x within))

-- ---- a part, by its parent's budget

pub child_tree-none : (set : Setting) (budget : ℕ) (c : Column) (site : Site) → (budget == 0) ≡ true → plain c ≡ child_tree set budget c site
child_tree-none set zero c site e = refl
child_tree-none set (suc budget) c site e = let zero_is : suc budget ≡ 0 = eqb-true _ _ e in absurd (omega (arith, zero_is))

pub child_tree-some : (set : Setting) (parent : Site) (c : Column) (name : List ℕ) (number : ℕ) → (parent.budget == 0) ≡ false → leaf_tree set c (down parent name number) ≡ child_tree set parent.budget c (down parent name number)
child_tree-some set parent c name number = of_budget parent.budget
  where
    of_budget : (budget : ℕ) → (budget == 0) ≡ false → site_tree (child_tree set (budget - 1)) set c (down parent name number) ≡ child_tree set budget c (down parent name number)
    of_budget zero e = absurd cc
    of_budget (suc budget) e = let same : suc budget - 1 ≡ budget = omega arith in ap (λ b. site_tree (child_tree set b) set c (down parent name number)) same

pub reach-below : (c : Column) (parent : Site) (name : List ℕ) (number : ℕ) → IsPartInReach c parent.budget → (parent.budget == 0) ≡ false → IsInReach c (down parent name number).budget
reach-below c parent name number reach e =
    let some = eqb-false _ _ e in
    let few = reach.few in
    let within = reach.within in
    record { few = omega (arith, few, within, some); within = omega (arith, within) }
