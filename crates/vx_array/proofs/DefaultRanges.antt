-- Whether ranges of rows are the default, node by node: by the same ranges of the columns within.
use Rattle.std.proofs.Common.{◌≡◌, ◌∙◌, ◌<◌, ◌≤◌, ◌+◌, ◌-◌, ◌*◌, ◌∷◌, ℕ, zero, suc, List, [], length, refl, sym, ap, arith, Bool, true, false}
use Rattle.std.specs.Prelude.{◌==◌, ◌&&◌, nat_le}
use Rattle.std.specs.List.{list_all}
use Rattle.std.proofs.Math.Bool.{and-true}
use Rattle.std.proofs.Math.Nat.{add-mul, suc-mul}
use Rattle.std.proofs.lemmas.Bool.{and_parts, and_from, eqb-true, le-leb}
use Rattle.std.proofs.lemmas.List.Folds.{list_all-append}
use Rattle.vx_base.specs.declared.dtype.Nullability.{Nullability}
use Rattle.vx_base.specs.Masks.{rows_between}
use Rattle.vx_base.specs.PlainType.{allows_null}
use Rattle.vx_base.specs.PlainValue.{PlainValue}
use Rattle.vx_model.specs.Rows.{rows, row_at}
use Rattle.vx_model.specs.Tree.{Tree, Validity, nulls, structure, fixed_size_list}
use Rattle.vx_model.specs.Tree as trees
use Rattle.vx_model.specs.TreeType.{tree_type}
use Rattle.vx_model.specs.WellFormed.{WellFormed, all_have_rows}
use Rattle.vx_model.proofs.FixedSizeListLemmas.{length-fixed_size_list}
use Rattle.vx_model.proofs.NullsLemmas.{length-nulls, row_at-nulls}
use Rattle.vx_model.proofs.StructLemmas.{length-structure}
use Rattle.vx_pieces.proofs.GrowLemmas.{between-behind, between-one}
use Rattle.vx_pieces.proofs.WithinLemmas.{between-none}
use Rattle.vx_array.specs.Beneath.{is_default}
use Rattle.vx_array.proofs.DefaultLemmas.{default-structure, default-fixed}
use Rattle.vx_array.proofs.ValueAt.{between_next, sized-within}

-- ---- a test of the rows of a range

module _ (test : PlainValue → Bool) (xs : List PlainValue) where
  abbrev passed : ℕ → ℕ → Bool
  passed from to = list_all test (rows_between xs from to)

  pub passed-none : (from : ℕ) → list_all test (rows_between xs from from) ≡ true
  passed-none from = ap (list_all test) (between-none xs from)

  pub passed-one : (i : ℕ) → i < length xs → list_all test (rows_between xs i (i + 1)) ≡ test (row_at xs i)
  passed-one i l = ap (list_all test) (between-one xs i l) ∙ and-true (test (row_at xs i))

  pub passed-next : (from i : ℕ) → from ≤ i → i < length xs → list_all test (rows_between xs from (i + 1)) ≡ (list_all test (rows_between xs from i) && test (row_at xs i))
  passed-next from i l m =
      ap (list_all test) (between_next xs from i (row_at xs i) l m refl) ∙ list_all-append test (rows_between xs from i) (row_at xs i ∷ [])
      ∙ ap (λ b. passed from i && b) (and-true (test (row_at xs i)))

  passed-count : (from count : ℕ) → from + count ≤ length xs → ((i : ℕ) → i < length xs → test (row_at xs i) ≡ true) → passed from (from + count) ≡ true
  passed-count from zero l h = let same : from + zero ≡ from = omega arith in rw same (passed-none from)
  passed-count from (suc count) l h =
      let more : from + suc count ≡ from + count + 1 = omega arith in
      rw more (passed-next from (from + count) (omega arith) (omega arith) ∙ and_from _ _ (passed-count from count (omega arith) h) (h (from + count) (omega arith)))

  -- where each row passes
  pub passed-all : (from to : ℕ) → from ≤ to → to ≤ length xs → ((i : ℕ) → i < length xs → test (row_at xs i) ≡ true) → list_all test (rows_between xs from to) ≡ true
  passed-all from to l m h = let same : to ≡ from + (to - from) = omega arith in rw same (passed-count from (to - from) (omega arith) h)

-- ---- nulls

pub default-nulls : (len from to : ℕ) → from ≤ to → to ≤ len → list_all (is_default (tree_type (nulls len))) (rows_between (rows (nulls len)) from to) ≡ true
default-nulls len from to l m =
    let count = length-nulls len in
    passed-all (is_default (tree_type (nulls len))) (rows (nulls len)) from to l (omega arith) (λ i k. ap (is_default (tree_type (nulls len))) (row_at-nulls len i (omega arith)))

-- ---- structs

abbrev all_passed : List Tree → ℕ → ℕ → Bool
all_passed ts from to = list_all (λ t. list_all (is_default (tree_type t)) (rows_between (rows t) from to)) ts

abbrev all_at : List Tree → ℕ → Bool
all_at ts i = list_all (λ t. is_default (tree_type t) (row_at (rows t) i)) ts

swapped : (a b c d : Bool) → ((a && b) && (c && d)) ≡ ((a && c) && (b && d))
swapped true true c d = refl
swapped true false true d = refl
swapped true false false d = refl
swapped false b c d = refl

all-none : (ts : List Tree) (from : ℕ) → all_passed ts from from ≡ true
all-none [] from = refl
all-none (t ∷ ts) from = and_from _ _ (passed-none (is_default (tree_type t)) (rows t) from) (all-none ts from)

all-next : (len : ℕ) (ts : List Tree) (from i : ℕ) → all_have_rows len (trees.of_list ts) ≡ true → from ≤ i → i < len → all_passed ts from (i + 1) ≡ (all_passed ts from i && all_at ts i)
all-next len [] from i h l m = refl
all-next len (t ∷ ts) from i h l m =
    let b = and_parts (length (rows t) == len) (all_have_rows len (trees.of_list ts)) h in
    let count = eqb-true (length (rows t)) len b.0 in
    let test = is_default (tree_type t) in
    rw (passed-next test (rows t) from i l (omega arith), all-next len ts from i b.1 l m)
    (swapped (list_all test (rows_between (rows t) from i)) (test (row_at (rows t) i)) (all_passed ts from i) (all_at ts i))

module _ (names : List (List ℕ)) (ts : List Tree) (len : ℕ) (valid : Validity) (n : Nullability) (w : WellFormed (structure names (trees.of_list ts) len valid n)) (k : allows_null n ≡ false) where
  abbrev struct_tree : Tree
  struct_tree = structure names (trees.of_list ts) len valid n

  struct-count : (from count : ℕ) → from + count ≤ len → all_passed ts from (from + count) ≡ list_all (is_default (tree_type struct_tree)) (rows_between (rows struct_tree) from (from + count))
  struct-count from zero l =
      let same : from + zero ≡ from = omega arith in
      rw same (all-none ts from ∙ sym (passed-none (is_default (tree_type struct_tree)) (rows struct_tree) from))
  struct-count from (suc count) l =
      let more : from + suc count ≡ from + count + 1 = omega arith in
      let all = length-structure names (trees.of_list ts) len valid n w in
      let test = is_default (tree_type struct_tree) in
      rw more (all-next len ts from (from + count) w.1.lengths (omega arith) (omega arith)
      ∙ ap (λ b. b && all_at ts (from + count)) (struct-count from count (omega arith))
      ∙ ap (λ b. list_all test (rows_between (rows struct_tree) from (from + count)) && b) (default-structure names ts len valid n w (from + count) (omega arith) k)
      ∙ sym (passed-next test (rows struct_tree) from (from + count) (omega arith) (omega arith)))

  pub default-struct_rows : (from to : ℕ) → from ≤ to → to ≤ len
      → list_all (λ t. list_all (is_default (tree_type t)) (rows_between (rows t) from to)) ts ≡ list_all (is_default (tree_type (structure names (trees.of_list ts) len valid n))) (rows_between (rows (structure names (trees.of_list ts) len valid n)) from to)
  default-struct_rows from to l m = let same : to ≡ from + (to - from) = omega arith in rw same (struct-count from (to - from) (omega arith))

  pub default-struct_row : (i : ℕ) → i < len
      → list_all (λ t. list_all (is_default (tree_type t)) (rows_between (rows t) i (i + 1))) ts ≡ is_default (tree_type (structure names (trees.of_list ts) len valid n)) (row_at (rows (structure names (trees.of_list ts) len valid n)) i)
  default-struct_row i l =
      let all = length-structure names (trees.of_list ts) len valid n w in
      default-struct_rows i (i + 1) (omega arith) (omega arith) ∙ passed-one (is_default (tree_type struct_tree)) (rows struct_tree) i (omega arith)

-- fields as long as the struct have the rows of a range
pub ends_in_rows : (len to : ℕ) (ts : List Tree) → to ≤ len → all_have_rows len (trees.of_list ts) ≡ true → list_all (λ t. nat_le to (length (rows t))) ts ≡ true
ends_in_rows len to [] l h = refl
ends_in_rows len to (t ∷ ts) l h =
    let b = and_parts (length (rows t) == len) (all_have_rows len (trees.of_list ts)) h in
    let own = eqb-true (length (rows t)) len b.0 in
    and_from _ _ (le-leb to (length (rows t)) (omega arith)) (ends_in_rows len to ts l b.1)

-- ---- lists of fixed size

pub parts-within : (size from to : ℕ) → from ≤ to → from * size ≤ to * size
parts-within size from to l =
    let same : to ≡ from + (to - from) = omega arith in
    let both = add-mul from (to - from) size in
    rw same (omega arith)

module _ (elements : Tree) (size len : ℕ) (valid : Validity) (n : Nullability) (w : WellFormed (fixed_size_list elements size len valid n)) (enough : len * size ≤ length (rows elements)) (k : allows_null n ≡ false) where
  abbrev fixed_tree : Tree
  fixed_tree = fixed_size_list elements size len valid n

  abbrev within : PlainValue → Bool
  within = is_default (tree_type elements)

  parts-next : (from i : ℕ) → from ≤ i → list_all within (rows_between (rows elements) (from * size) ((i + 1) * size)) ≡ (list_all within (rows_between (rows elements) (from * size) (i * size)) && list_all within (rows_between (rows elements) (i * size) (i * size + size)))
  parts-next from i l =
      let next : (i + 1) * size ≡ i * size + size = let one : i + 1 ≡ suc i = omega arith in rw one (suc-mul i size) in
      rw next (ap (list_all within) (between-behind (rows elements) (from * size) (i * size) (i * size + size) (parts-within size from i l) (omega arith))
      ∙ list_all-append within (rows_between (rows elements) (from * size) (i * size)) (rows_between (rows elements) (i * size) (i * size + size)))

  fixed-count : (from count : ℕ) → from + count ≤ len → list_all within (rows_between (rows elements) (from * size) ((from + count) * size)) ≡ list_all (is_default (tree_type fixed_tree)) (rows_between (rows fixed_tree) from (from + count))
  fixed-count from zero l =
      let same : from + zero ≡ from = omega arith in
      rw same (passed-none within (rows elements) (from * size) ∙ sym (passed-none (is_default (tree_type fixed_tree)) (rows fixed_tree) from))
  fixed-count from (suc count) l =
      let i = from + count in
      let more : from + suc count ≡ from + count + 1 = omega arith in
      let all = length-fixed_size_list elements size len valid n w in
      let test = is_default (tree_type fixed_tree) in
      let inside = sized-within size len (from + count) (omega arith) in
      rw more (parts-next from (from + count) (omega arith)
      ∙ ap (λ b. b && list_all within (rows_between (rows elements) ((from + count) * size) ((from + count) * size + size))) (fixed-count from count (omega arith))
      ∙ ap (λ b. list_all test (rows_between (rows fixed_tree) from (from + count)) && b) (default-fixed elements size len valid n w (from + count) (omega arith) (omega (arith, inside, enough)) k)
      ∙ sym (passed-next test (rows fixed_tree) from (from + count) (omega arith) (omega arith)))

  pub default-fixed_rows : (from to : ℕ) → from ≤ to → to ≤ len
      → list_all (is_default (tree_type elements)) (rows_between (rows elements) (from * size) (to * size)) ≡ list_all (is_default (tree_type (fixed_size_list elements size len valid n))) (rows_between (rows (fixed_size_list elements size len valid n)) from to)
  default-fixed_rows from to l m = let same : to ≡ from + (to - from) = omega arith in rw same (fixed-count from (to - from) (omega arith))
