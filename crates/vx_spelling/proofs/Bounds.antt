-- What follows from a tree being within bounds, and tests over lists.
use Rattle.std.proofs.Common.{◌≡◌, ℕ, ◌≤◌, Bool, true, IsTrue, List, [], ◌∷◌, length, refl, subst}
use Rattle.std.specs.Prelude.{is_none, Option, None, Some}
use Rattle.std.specs.List.{list_all}
use Rattle.std.proofs.lemmas.Bool.{and_parts, and_from, leb-true}
use Rattle.vx_codec.specs.Lists.{AllFit}
use Rattle.vx_codec.specs.Varint.{varint}
use Rattle.vx_model.specs.Rows.{rows}
use Rattle.vx_model.specs.Tree.{Tree}
use Rattle.vx_model.specs.TreeType.{tree_type}
use Rattle.vx_spelling.specs.Fields.{are_few, row_count}
use Rattle.vx_spelling.specs.Storable.{is_within, is_within_below, all_within}
use Rattle.vx_spelling.specs.TypeSpelling.{type_depth}
use Rattle.vx_spelling.proofs.FieldLaws.{few_fit}

-- the root is within bounds, and what is below it
pub root_of : (t : Tree) → all_within t ≡ true → is_within t ≡ true
root_of t h = (and_parts (is_within t) (is_within_below t) h).0

pub below_of : (t : Tree) → all_within t ≡ true → is_within_below t ≡ true
below_of t h = (and_parts (is_within t) (is_within_below t) h).1

-- the number of rows fits its field
pub few_rows : (t : Tree) (n : ℕ) → length (rows t) ≡ n → all_within t ≡ true → row_count.Fits n
few_rows t n e h = subst row_count.Fits e (few_fit (length (rows t)) (and_parts (are_few (length (rows t))) _ (root_of t h)).0)

pub few_items : (t : Tree) (n : ℕ) → length (rows t) ≡ n → all_within t ≡ true → varint.Fits n
few_items t n e h = (few_rows t n e h).0

-- at most 64 types nest in its type
pub shallow_type : (t : Tree) → all_within t ≡ true → type_depth (tree_type t) ≤ 64
shallow_type t h = leb-true (type_depth (tree_type t)) 64 (and_parts (are_few (length (rows t))) _ (root_of t h)).1

-- of each item what a test tells
pub all_fit : {A : Type 0} (test : A → Bool) (Fits : A → Type 0) → ((x : A) → test x ≡ true → Fits x) → (xs : List A) → list_all test xs ≡ true → AllFit Fits xs
all_fit test Fits tells [] h = tt
all_fit test Fits tells (x ∷ xs) h = let p = and_parts (test x) (list_all test xs) h in (tells x p.0, all_fit test Fits tells xs p.1)

pub all_pass : {A : Type 0} (test : A → Bool) (xs : List A) → AllFit (λ x. IsTrue (test x)) xs → list_all test xs ≡ true
all_pass test [] h = refl
all_pass test (x ∷ xs) h = and_from (test x) (list_all test xs) h.0 (all_pass test xs h.1)

pub none_is : {A : Type 0} (o : Option A) → is_none o ≡ true → o ≡ None
none_is None h = refl
none_is (Some a) h = absurd cc
