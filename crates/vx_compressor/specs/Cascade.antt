-- The tree of a leaf column at a site: each eligible scheme gets a score, and the tree of the chosen one stands where it is smaller
-- than the plain tree.
use Rattle.std.specs.Prelude.{ℕ, zero, suc, true, false, ◌+◌, ◌==◌, nat_le, Bool, not, ◌&&◌, List, [], ◌∷◌, ◌++◌, map, filter, Option, Some, None, option_map, if◌then◌else◌}
use Rattle.std.proofs.Common.{zero-lt-suc}
use Rattle.vx_base.specs.PlainType.{PlainType}
use Rattle.vx_model.specs.Column.{Column, column_of}
use Rattle.vx_model.specs.Plain.{plain}
use Rattle.vx_model.specs.Site.{Site, down}
use Rattle.vx_model.specs.Size.{size}
use Rattle.vx_model.specs.Tree.{Tree}
use Rattle.vx_model.specs.Leaf.{Chooses, leaf}
use Rattle.vx_model.specs.Cascade.{Leaves}
use Rattle.vx_scheme.specs.Contexts.{sample_site}
use Rattle.vx_scheme.specs.Excluded.{History, excluded}
use Rattle.vx_scheme.specs.Meaning.{Meaning, PlainSplit, kept, finished, parts}
use Rattle.vx_scheme.specs.declared.estimate.CompressionEstimate.{CompressionEstimate}
use Rattle.vx_scheme.specs.declared.estimate.CompressionEstimate.TheVariants.{Verdict, Deferred}
use Rattle.vx_scheme.specs.declared.estimate.DeferredEstimate.{DeferredEstimate}
use Rattle.vx_scheme.specs.declared.estimate.DeferredEstimate.TheVariants.{Sample, Callback}
use Rattle.vx_scheme.specs.declared.estimate.EstimateVerdict.{EstimateVerdict}
use Rattle.vx_scheme.specs.declared.estimate.EstimateVerdict.TheVariants.{Skip, AlwaysUse, Ratio}
use Rattle.vx_compressor.specs.declared.choice.Score.{Score}
use Rattle.vx_compressor.specs.declared.choice.Score.TheVariants.{Always, Finite}
use Rattle.vx_compressor.specs.Choice.{choice_of}
use Rattle.vx_compressor.specs.Sampling.{sample}

-- what is fixed throughout a compression: the schemes, and the words that place the slices of samples
pub record Setting : Type 0 where
  pub schemes : List Meaning
  pub words : List ℕ

-- the setting of a list of schemes
abbrev pub setting : {S : Type 0} → (S → Meaning) → List S → List ℕ → Setting
setting meaning schemes words = record { schemes = map meaning schemes; words = words }

-- ---- the tree that a scheme makes of a column, where its parts become trees by `child`

-- the trees of the parts, from a child number on
abbrev pub part_trees : Leaves → List ℕ → Site → ℕ → List Column → List Tree
part_trees child name site number [] = []
part_trees child name site number (c ∷ cs) = child c (down site name number) ∷ part_trees child name site (number + 1) cs

-- the tree that a scheme makes of what it split a column into
abbrev pub made_tree : Leaves → Meaning → Column → Site → PlainSplit → Tree
made_tree child m c site kept = plain c
made_tree child m c site (finished tree) = tree
made_tree child m c site (parts columns) = m.joined c site (part_trees child m.name site 0 columns)

-- the tree that a scheme makes of a column at a site
abbrev pub trial : Leaves → Meaning → Column → Site → Tree
trial child m c site = made_tree child m c site (m.splits c site)

-- ---- how good a scheme is for a column

-- the score of a verdict; none where the scheme is skipped
abbrev pub verdict_score : EstimateVerdict → Option Score
verdict_score Skip = None
verdict_score AlwaysUse = Some Always
verdict_score (Ratio f) = Some (Finite f)

-- the ratio before / after of two sizes; none where the tree takes no byte, or isn't smaller
abbrev pub size_score : ℕ → ℕ → Option Score
size_score before zero = None
size_score before (suc after) = if nat_le before (suc after) then None else Some (Finite (record { num = before; den = suc after; positive = zero-lt-suc after }))

-- the score of a trial: the plain sample's size to that of the tree which the scheme makes of it
abbrev pub sample_score : Leaves → Meaning → Column → Site → Option Score
sample_score child m s site = size_score (size (plain s)) (size (trial child m s (sample_site site)))

-- the score of a deferred verdict: by a trial on the sample, or by asking the scheme again
abbrev pub deferred_score : Leaves → List ℕ → Meaning → Column → Site → DeferredEstimate → Option Score
deferred_score child words m c site Sample = sample_score child m (sample site.sampled words c) site
deferred_score child words m c site Callback = verdict_score (m.resolve c site)

-- the score of an estimate
abbrev pub estimate_score : Leaves → List ℕ → Meaning → Column → Site → CompressionEstimate → Option Score
estimate_score child words m c site (Verdict v) = verdict_score v
estimate_score child words m c site (Deferred d) = deferred_score child words m c site d

-- the score of a scheme for a column at a site; none where it is skipped
abbrev pub score : Leaves → List ℕ → Meaning → Column → Site → Option Score
score child words m c site = estimate_score child words m c site (m.estimate c site)

-- ---- the choice

-- the scheme takes the type, and isn't excluded below this history
abbrev pub is_eligible : List Meaning → PlainType → History → Meaning → Bool
is_eligible schemes dtype history m = m.takes dtype && not (excluded schemes m.name history)

-- the eligible schemes, in the order of the list
abbrev pub eligible : List Meaning → PlainType → History → List Meaning
eligible schemes dtype history = filter (is_eligible schemes dtype history) schemes

-- the estimate is an immediate verdict
abbrev pub is_verdict : CompressionEstimate → Bool
is_verdict (Verdict v) = true
is_verdict (Deferred d) = false

-- the schemes with an immediate verdict
abbrev pub with_verdict : Column → Site → List Meaning → List Meaning
with_verdict c site ms = filter (λ m. is_verdict (m.estimate c site)) ms

-- the schemes that defer
abbrev pub deferring : Column → Site → List Meaning → List Meaning
deferring c site ms = filter (λ m. not (is_verdict (m.estimate c site))) ms

-- each in the order of the list, those with an immediate verdict before the others
abbrev pub judged : List Meaning → Column → Site → List Meaning
judged schemes c site =
    with_verdict c site (eligible schemes c.dtype site.history) ++ deferring c site (eligible schemes c.dtype site.history)

-- the chosen scheme: the first always-use, else the first of the greatest ratios above one
abbrev pub choice : Leaves → Setting → Column → Site → Option Meaning
choice child set c site = choice_of (map (λ m. (m, score child set.words m c site)) (judged set.schemes c site))

-- ---- the tree of a site

-- the tree of the scheme that is chosen
abbrev pub chosen : Leaves → Setting → Chooses
chosen child set c site = option_map (λ m. trial child m c site) (choice child set c site)

-- the tree of a leaf column at a site, over any way in which parts become trees
abbrev pub site_tree : Leaves → Setting → Leaves
site_tree child set = leaf (chosen child set)

-- a part becomes its plain tree
abbrev pub plain_parts : Leaves
plain_parts c site = plain c

-- ---- the recursion, on the budget

-- how the parts of a column become trees, by the budget of the column's site: their plain trees where no scheme may follow, else
-- the trees of their own sites
abbrev pub child_tree : Setting → ℕ → Leaves
child_tree set zero = plain_parts
child_tree set (suc budget) = site_tree (child_tree set budget) set

-- by the column's site
abbrev pub children_of : Setting → Site → Leaves
children_of set site = child_tree set site.budget

-- the tree of a leaf column at a site; its parts become the trees of their own sites
abbrev pub leaf_tree : Setting → Leaves
leaf_tree set c site = site_tree (children_of set site) set c site

-- what a child of a site becomes: itself where the parent's budget is 0, else the tree of its own site
abbrev pub compressed_child : Setting → Tree → Site → List ℕ → ℕ → Tree
compressed_child set child parent name number = if parent.budget == 0 then child else leaf_tree set (column_of child) (down parent name number)
