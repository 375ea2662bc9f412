-- What is compressed stands for the column of the tree that was given, is accepted again, and is no larger than the plain tree.
use Rattle.std.proofs.Common.{◌≡◌, ◌≤◌, ℕ, Bool, true, false, List, [], ◌∷◌, length, None, Result, Ok, Err, refl, sym, ap, subst, ◌∙◌, arith}
use Rattle.std.specs.Prelude.{nat_le, IfOk}
use Rattle.std.specs.List.{list_all}
use Rattle.std.proofs.lemmas.Bool.{leb-true, le-leb, and_parts, and_from}
use Rattle.vx_base.specs.Answers.{Answers, unless}
use Rattle.vx_base.specs.PlainType.{is_flat}
use Rattle.vx_base.specs.declared.error.VortexError.{VortexError}
use Rattle.vx_base.specs.declared.error.VortexError.TheVariants.{TooManyRows}
use Rattle.vx_model.specs.Cascade.{cascade}
use Rattle.vx_model.specs.Column.{Column, column_of}
use Rattle.vx_model.specs.Extents.{counts, extents, extents_fit, row_limit}
use Rattle.vx_model.specs.Laws.{AreWithin}
use Rattle.vx_model.specs.Plain.{plain}
use Rattle.vx_model.specs.Refusals.{compress_refusal}
use Rattle.vx_model.specs.Rows.{rows}
use Rattle.vx_model.specs.Site.{Site}
use Rattle.vx_model.specs.Size.{size}
use Rattle.vx_model.specs.Tree.{Tree}
use Rattle.vx_model.specs.TreeType.{tree_type}
use Rattle.vx_model.specs.WellFormed.{WellFormed}
use Rattle.vx_model.proofs.LeafLemmas.{counts_within_extents}
use Rattle.vx_model.proofs.MadeLemmas.{rows_fit}
use Rattle.vx_compressor.specs.Cascade.{Setting, leaf_tree}
use Rattle.vx_compressor.specs.CascadeLaws.{IsLawful, IsWithin, ExtentsAreCounts, AnswersAreFixed}
use Rattle.vx_compressor.specs.Reach.{IsInReach}
use Rattle.vx_compressor.proofs.AnswerExtents.{extents-flat, extents-cascade}
use Rattle.vx_compressor.proofs.CascadeLemmas.{cascade-column, leaf_tree-stands, leaves-stand, never_larger_by}

-- what is within numbers that are small is small
all_small : (ms es : List ℕ) → AreWithin ms es → list_all (λ e. nat_le e row_limit) es ≡ true → list_all (λ m. nat_le m row_limit) ms ≡ true
all_small [] es h fit = refl
all_small (m ∷ ms) [] h fit = absurd h
all_small (m ∷ ms) (e ∷ es) h fit =
    let both = and_parts _ _ fit in
    let first : m ≤ e = h.0 in
    let limit : e ≤ row_limit = leb-true e row_limit both.0 in
    and_from _ _ (le-leb m row_limit (omega arith)) (all_small ms es h.1 both.1)

-- the column of a tree whose extents fit may be compressed
pub column_within : (t : Tree) → WellFormed t → extents_fit t ≡ true → IsWithin (column_of t)
column_within t well fit = record { column = rows_fit t well; counts_fit = all_small (counts (tree_type t) (rows t)) (extents t) (counts_within_extents t well) fit }

-- what holds of the one answer holds of any that comes
pub if_answered : {A : Type 0} (P : A → Type 0) (a : A) (result : Result A VortexError) → P a → Answers result a → IfOk result P
if_answered P a (Ok b) h is = subst P (sym is) h
if_answered P a (Err e) h is = tt

pub kept_by : (set : Setting) → IsLawful set → (t : Tree) (result : Result Tree VortexError) → WellFormed t → extents_fit t ≡ true → Answers result (cascade (leaf_tree set) (column_of t)) → IfOk result (λ tree. column_of tree ≡ column_of t)
kept_by set lawful t result well fit is = if_answered (λ tree. column_of tree ≡ column_of t) (cascade (leaf_tree set) (column_of t)) result (cascade-column set lawful (column_of t) (column_within t well fit)) is

-- ---- what is answered is accepted again

pub extents_are_counts : (set : Setting) → IsLawful set → ExtentsAreCounts set
extents_are_counts set lawful c within = extents-cascade (leaf_tree set) (leaves-stand set lawful) c within.column within.counts_fit

fits_again : (set : Setting) → IsLawful set → (c : Column) → IsWithin c → extents_fit (cascade (leaf_tree set) c) ≡ true
fits_again set lawful c within = ap (list_all (λ e. nat_le e row_limit)) (extents_are_counts set lawful c within) ∙ within.counts_fit

pub fits_by : (set : Setting) → IsLawful set → (t : Tree) (result : Result Tree VortexError) → WellFormed t → extents_fit t ≡ true → Answers result (cascade (leaf_tree set) (column_of t)) → IfOk result (λ tree. extents_fit tree ≡ true)
fits_by set lawful t result well fit is = if_answered (λ tree. extents_fit tree ≡ true) (cascade (leaf_tree set) (column_of t)) result (fits_again set lawful (column_of t) (column_within t well fit)) is

-- what is accepted is within the limit
fits_accepted : (t : Tree) → compress_refusal t ≡ None → extents_fit t ≡ true
fits_accepted t = of_test (extents_fit t)
  where
    of_test : (b : Bool) → unless b TooManyRows None ≡ None → b ≡ true
    of_test true e = refl
    of_test false e = absurd cc

accepts : (t : Tree) → extents_fit t ≡ true → compress_refusal t ≡ None
accepts t fit = ap (λ b. unless b TooManyRows None) fit

pub answers_are_fixed : (set : Setting) → IsLawful set → AnswersAreFixed set
answers_are_fixed set lawful before after well h =
    let c = column_of before in
    let within = column_within before well (fits_accepted before h.accepted) in
    record {
      accepted = ap compress_refusal h.answer ∙ accepts (cascade (leaf_tree set) c) (fits_again set lawful c within);
      answer = h.answer ∙ ap (cascade (leaf_tree set)) (sym (cascade-column set lawful c within) ∙ ap column_of (sym h.answer));
    }

-- ---- a child of a site

-- the tree of a leaf column at a site has the column's rows and type, and its rows as its one extent
pub record IsChildOf (child tree : Tree) : Type 0 where
  pub column : column_of tree ≡ column_of child
  pub extents : extents_fit tree ≡ extents_fit child

pub child_of : (set : Setting) → IsLawful set → (child : Tree) (site : Site) → WellFormed child → is_flat (tree_type child) ≡ true → IsInReach (column_of child) site.budget → IsChildOf child (leaf_tree set (column_of child) site)
child_of set lawful child site well flat reach =
    let c = column_of child in
    let tree = leaf_tree set c site in
    let stands = leaf_tree-stands set lawful c site (rows_fit child well) flat reach in
    let own = extents-flat child well flat in
    let made = extents-flat tree stands.0 (ap (λ c. is_flat c.dtype) stands.1 ∙ flat) in
    record {
      column = stands.1;
      extents = ap (list_all (λ e. nat_le e row_limit)) (made ∙ ap (λ c. length c.values ∷ []) stands.1 ∙ sym own);
    }

-- ---- what is answered is no larger than the plain tree

pub smaller_by : (set : Setting) (c : Column) (result : Result Tree VortexError) → Answers result (cascade (leaf_tree set) c) → IfOk result (λ tree. size tree ≤ size (plain c))
smaller_by set c result is = if_answered (λ tree. size tree ≤ size (plain c)) (cascade (leaf_tree set) c) result (never_larger_by set c) is
