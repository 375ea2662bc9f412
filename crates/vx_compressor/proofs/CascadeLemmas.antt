-- The laws of compression, for every setting of lawful schemes, by induction on the budget.
use Rattle.std.proofs.Common.{◌≡◌, ◌<◌, ◌≤◌, ℕ, zero, suc, ◌+◌, Bool, true, false, List, [], ◌∷◌, map, length, Option, Some, None, option_map, All, IfSome, refl, sym, ap, subst, arith}
use Rattle.std.specs.Prelude.{◌==◌}
use Rattle.std.specs.List.{AllByRecursion}
use Rattle.std.proofs.lemmas.Bool.{cond-true, eqb-false}
use Rattle.std.proofs.lemmas.List.Elements.{All-from_recursion, recursion_from_All}
use Rattle.vx_base.specs.PlainType.{PlainType, is_leaf, is_flat}
use Rattle.vx_model.specs.Cascade.{Leaves, cascade, offsets_site}
use Rattle.vx_model.specs.Column.{Column, column_of, IsColumn}
use Rattle.vx_model.specs.Laws.{NeverLarger, ByTheColumnAlone}
use Rattle.vx_model.specs.Leaf.{Chooses, leaf}
use Rattle.vx_model.specs.Site.{Site, fresh, down, max_cascade}
use Rattle.vx_model.specs.Tree.{Tree}
use Rattle.vx_model.specs.WellFormed.{WellFormed}
use Rattle.vx_model.proofs.CascadeLemmas.{LeavesStand, cascade-stands}
use Rattle.vx_model.proofs.FlatTypeLemmas.{leaf-flat, integer-flat}
use Rattle.vx_model.proofs.LeafLemmas.{leaf-cases, never_larger}
use Rattle.vx_scheme.specs.Asked.{IsAsked}
use Rattle.vx_scheme.specs.Lawful.{Lawful, IsPart}
use Rattle.vx_scheme.specs.Meaning.{Meaning, PlainSplit, kept, finished, parts}
use Rattle.vx_compressor.specs.Cascade.{Setting, part_trees, made_tree, trial, choice, chosen, site_tree, child_tree, children_of, leaf_tree}
use Rattle.vx_compressor.specs.CascadeLaws.{IsLawful, IsWithin, KeepsRowsAndType, AgainTheSame}
use Rattle.vx_compressor.specs.Reach.{IsInReach, most_part_rows}
use Rattle.vx_compressor.proofs.EligibleLemmas.{eligible_take, all_both, all_filter, choice_holds}
use Rattle.vx_compressor.proofs.LeafFormLemmas.{StandsFor, plain-stands, nulls-stand, one-stands}

-- ---- how parts become trees

-- a part of a column at a site with this budget
pub record IsChild (budget : ℕ) (c : Column) : Type 0 where
  pub column : IsColumn c
  pub leaf : is_leaf c.dtype ≡ true
  pub few : length c.values ≤ most_part_rows budget

-- the trees of parts stand for the parts
abbrev pub Keeps : Leaves → ℕ → Type 0
Keeps child budget = (c : Column) (site : Site) → IsChild budget c → StandsFor (child c site) c

pub are_children : (c : Column) (budget : ℕ) → IsInReach c budget → (columns : List Column) → All (IsPart c) columns → AllByRecursion (IsChild budget) columns
are_children c budget reach columns small = of_list columns (recursion_from_All (IsPart c) columns small)
  where
    of_list : (cs : List Column) → AllByRecursion (IsPart c) cs → AllByRecursion (IsChild budget) cs
    of_list [] h = tt
    of_list (p ∷ ps) h =
        let rows = h.0.rows in
        let few = reach.few in
        let within = reach.within in
        (record { column = h.0.column; leaf = h.0.leaf; few = omega (arith, rows, few, within) }, of_list ps h.1)

module _ (child : Leaves) (budget : ℕ) (keeps : Keeps child budget) where
  part_trees-well : (name : List ℕ) (site : Site) (number : ℕ) (cs : List Column) → AllByRecursion (IsChild budget) cs → AllByRecursion WellFormed (part_trees child name site number cs)
  part_trees-well name site number [] h = tt
  part_trees-well name site number (c ∷ cs) h = ((keeps c (down site name number) h.0).0, part_trees-well name site (number + 1) cs h.1)

  pub part_trees-columns : (name : List ℕ) (site : Site) (number : ℕ) (cs : List Column) → AllByRecursion (IsChild budget) cs → map column_of (part_trees child name site number cs) ≡ cs
  part_trees-columns name site number [] h = refl
  part_trees-columns name site number (c ∷ cs) h = λ i. (keeps c (down site name number) h.0).1 i ∷ part_trees-columns name site (number + 1) cs h.1 i

  -- ---- what a lawful scheme makes of a column stands for the column

  trial-stands : (m : Meaning) → Lawful m → (c : Column) (site : Site) → IsAsked m c → is_flat c.dtype ≡ true → IsInReach c budget → StandsFor (trial child m c site) c
  trial-stands m lawful c site asked flat reach = of_made (m.splits c site) refl
    where
      of_made : (made : PlainSplit) → m.splits c site ≡ made → StandsFor (made_tree child m c site made) c
      of_made kept e = plain-stands c asked.column flat
      of_made (finished tree) e = lawful.finished_well c site tree asked e
      of_made (parts columns) e =
          let small = are_children c budget reach columns (lawful.small_parts c site columns asked e) in
          let trees = part_trees child m.name site 0 columns in
          lawful.joined_well c site columns trees asked e (All-from_recursion WellFormed trees (part_trees-well m.name site 0 columns small)) (part_trees-columns m.name site 0 columns small)

-- ---- the choice is lawful, and takes the column

record MayWin (t : PlainType) (m : Meaning) : Type 0 where
  lawful : Lawful m
  taken : m.takes t ≡ true

choice_may_win : (child : Leaves) (set : Setting) (c : Column) (site : Site) → IsLawful set → IfSome (choice child set c site) (MayWin c.dtype)
choice_may_win child set c site lawful =
    choice_holds (MayWin c.dtype) child set c site
    (all_both Lawful (λ m. m.takes c.dtype ≡ true) (MayWin c.dtype) (λ m l t. record { lawful = l; taken = t }) _
    (all_filter Lawful _ set.schemes lawful) (eligible_take set.schemes c.dtype site.history set.schemes))

-- ---- the tree of a site, by the trees of the parts

-- a column that stands at a site with this budget
record IsHere (budget : ℕ) (c : Column) : Type 0 where
  column : IsColumn c
  flat : is_flat c.dtype ≡ true
  reach : IsInReach c budget

asked_here : (m : Meaning) (c : Column) (budget : ℕ) → IsHere budget c → 0 < length c.values → m.takes c.dtype ≡ true → IsAsked m c
asked_here m c budget here some taken = let few = here.reach.few in record { column = here.column; taken = taken; some = some; few = omega (arith, few) }

module _ (child : Leaves) (budget : ℕ) (keeps : Keeps child budget) (set : Setting) (lawful : IsLawful set) (c : Column) (site : Site) (here : IsHere budget c) where
  chosen-stands : 0 < length c.values → (t : Tree) → chosen child set c site ≡ Some t → StandsFor t c
  chosen-stands some t = of_choice (choice child set c site) (choice_may_win child set c site lawful)
    where
      of_choice : (o : Option Meaning) → IfSome o (MayWin c.dtype) → option_map (λ m. trial child m c site) o ≡ Some t → StandsFor t c
      of_choice None h e = absurd cc
      of_choice (Some m) h e =
          let same : trial child m c site ≡ t = cc in
          subst (λ t. StandsFor t c) same (trial-stands child budget keeps m h.lawful c site (asked_here m c budget here some h.taken) here.flat here.reach)

  site-stands : StandsFor (site_tree child set c site) c
  site-stands = of_length (length c.values == 0) refl
    where
      of_length : (b : Bool) → (length c.values == 0) ≡ b → StandsFor (leaf (chosen child set) c site) c
      of_length true e = subst (λ t. StandsFor t c) (sym (cond-true _ _ _ e)) (plain-stands c here.column here.flat)
      of_length false e =
          let full = eqb-false _ _ e in
          leaf-cases (λ t. StandsFor t c) (chosen child set) c site (plain-stands c here.column here.flat)
          (nulls-stand c here.column)
          (λ v is less. one-stands c v here.column here.flat is)
          (λ t is less. chosen-stands (omega arith) t is)

-- ---- by induction on the budget

here_below : (budget : ℕ) (c : Column) → suc budget ≤ max_cascade → IsChild (suc budget) c → IsHere budget c
here_below budget c within own = let few = own.few in record { column = own.column; flat = leaf-flat c.dtype own.leaf; reach = record { few = omega (arith, few, within); within = omega (arith, within) } }

pub child_tree-keeps : (set : Setting) → IsLawful set → (budget : ℕ) → budget ≤ max_cascade → Keeps (child_tree set budget) budget
child_tree-keeps set lawful zero within c site own = plain-stands c own.column (leaf-flat c.dtype own.leaf)
child_tree-keeps set lawful (suc budget) within c site own =
    site-stands (child_tree set budget) budget (child_tree-keeps set lawful budget (omega (arith, within))) set lawful c site (here_below budget c within own)

-- a leaf column, or one of timestamps, at a site
pub leaf_tree-stands : (set : Setting) → IsLawful set → (c : Column) (site : Site) → IsColumn c → is_flat c.dtype ≡ true → IsInReach c site.budget → StandsFor (leaf_tree set c site) c
leaf_tree-stands set lawful c site fits flat reach =
    site-stands (child_tree set site.budget) site.budget (child_tree-keeps set lawful site.budget reach.within) set lawful c site (record { column = fits; flat = flat; reach = reach })

-- ---- the tree of a column

-- where leaf columns and timestamps begin, and where the offsets of lists do
pub leaves-stand : (set : Setting) → IsLawful set → LeavesStand (leaf_tree set)
leaves-stand set lawful =
    record {
      at_fresh = λ c flat fit few. leaf_tree-stands set lawful c fresh fit flat (record { few = omega (arith, few); within = omega arith });
      at_offsets = λ c integers fit few. leaf_tree-stands set lawful c offsets_site fit (integer-flat c.dtype integers) (record { few = omega (arith, few); within = omega arith });
    }

pub column-stands : (set : Setting) → IsLawful set → (c : Column) → IsWithin c → StandsFor (cascade (leaf_tree set) c) c
column-stands set lawful c within = cascade-stands (leaf_tree set) (leaves-stand set lawful) c within.column within.counts_fit

pub cascade-column : (set : Setting) → IsLawful set → (c : Column) → IsWithin c → column_of (cascade (leaf_tree set) c) ≡ c
cascade-column set lawful c within = (column-stands set lawful c within).1

pub keeps_rows_and_type : (set : Setting) → IsLawful set → KeepsRowsAndType set
keeps_rows_and_type set lawful c within = let same = cascade-column set lawful c within in (ap (λ c. c.values) same, ap (λ c. c.dtype) same)

pub again_the_same : (set : Setting) → IsLawful set → AgainTheSame set
again_the_same set lawful c within = ap (cascade (leaf_tree set)) (cascade-column set lawful c within)

-- the tree that a site's choice makes
abbrev chosen_here : Setting → Chooses
chosen_here set c site = chosen (children_of set site) set c site

pub never_larger_by : (set : Setting) → NeverLarger (leaf_tree set)
never_larger_by set = never_larger (chosen_here set)

pub by_the_column_alone_by : (set : Setting) → ByTheColumnAlone (leaf_tree set)
by_the_column_alone_by set s t e = ap (cascade (leaf_tree set)) e

-- every scheme of a list keeps its laws
pub lawful-map : {S : Type 0} (meaning : S → Meaning) → ((s : S) → Lawful (meaning s)) → (xs : List S) → AllByRecursion Lawful (map meaning xs)
lawful-map meaning law [] = tt
lawful-map meaning law (x ∷ xs) = (law x, lawful-map meaning law xs)
