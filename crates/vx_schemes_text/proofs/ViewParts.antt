-- The bytes and the validity of a plain tree of texts or binaries, and what they tell of its rows.
use Rattle.std.proofs.Common.{◌≡◌, ◌<◌, ◌≤◌, ◌+◌, ◌∙◌, ℕ, zero, suc, Bool, true, false, cond, List, [], ◌∷◌, length, map, Some, None, refl, sym, ap, arith}
use Rattle.std.specs.Prelude.{not, filter}
use Rattle.std.specs.List.{list_any, range_with_len}
use Rattle.std.proofs.Math.ListN.{get_or-map}
use Rattle.std.proofs.lemmas.Bool.{or_parts}
use Rattle.std.proofs.lemmas.List.Sums.{sum_by-cons}
use Rattle.vx_base.specs.Masks.{true_count}
use Rattle.vx_base.specs.PlainType.{PlainType, is_bytes}
use Rattle.vx_base.specs.PlainValue.{PlainValue, null, bytes, is_null, bytes_or_empty}
use Rattle.vx_model.specs.Plain.{IsPlain, validity, valid_bits}
use Rattle.vx_model.specs.Rows.{rows, row_at, is_valid_at, valid_rows}
use Rattle.vx_model.specs.Tree.{Tree, Validity, var_bin_view}
use Rattle.vx_model.specs.TreeType.{tree_type}
use Rattle.vx_model.proofs.ViewLemmas.{plain_of-bytes}
use Rattle.vx_stats.specs.Rows.{valid_count}
use Rattle.vx_stats.specs.Stats.{null_count}
use Rattle.vx_stats.proofs.RowCountLemmas.{counts-valid, null_count-next, valid_count-next}
use Rattle.vx_sparse_array.specs.Filling.{null_filling, patched_rows}

-- ---- the bytes and the validity

module _ (t : Tree) (vs : List (List ℕ)) (valid : Validity) (s : PlainType) (at : t ≡ var_bin_view vs valid s) (typed : is_bytes (tree_type t) ≡ true) (is_plain : IsPlain t) where
  same : var_bin_view vs valid s ≡ var_bin_view (map bytes_or_empty (rows t)) (validity (rows t)) (tree_type t)
  same = sym at ∙ is_plain ∙ plain_of-bytes (tree_type t) (rows t) typed

  pub bytes_are : vs ≡ map bytes_or_empty (rows t)
  bytes_are = cc same

  pub validity_is : valid ≡ validity (rows t)
  validity_is = cc same

-- they give the rows
pub rows-back : (t : Tree) → is_bytes (tree_type t) ≡ true → IsPlain t → valid_rows (validity (rows t)) (map bytes (map bytes_or_empty (rows t))) ≡ rows t
rows-back t typed is_plain = ap rows (sym (plain_of-bytes (tree_type t) (rows t) typed)) ∙ sym (ap rows is_plain)

-- ---- counts

one-counted : (v : PlainValue) → cond {A = ℕ} (is_null v) 1 0 + cond {A = ℕ} (not (is_null v)) 1 0 ≡ 1
one-counted v = pick (is_null v)
  where
    pick : (b : Bool) → cond {A = ℕ} b 1 0 + cond {A = ℕ} (not b) 1 0 ≡ 1
    pick true = refl
    pick false = refl

-- each row is null or has a value
pub counts-all : (vs : List PlainValue) → null_count vs + valid_count vs ≡ length vs
counts-all [] = refl
counts-all (v ∷ vs) = omega (arith, null_count-next v vs, valid_count-next v vs, one-counted v, counts-all vs)

true_bits : (vs : List PlainValue) → true_count (valid_bits vs) ≡ valid_count vs
true_bits [] = refl
true_bits (v ∷ vs) = omega (arith, sum_by-cons (λ b. cond {A = ℕ} b 1 0) (not (is_null v)) (valid_bits vs), valid_count-next v vs, true_bits vs)

-- the true bits of a mask are the rows with values
pub count-by_mask : (vs : List PlainValue) (bits : List Bool) → Some bits ≡ validity vs → true_count bits ≡ valid_count vs
count-by_mask vs bits e = by_any (list_any is_null vs) e
  where
    by_any : (b : Bool) → Some bits ≡ cond b (Some (valid_bits vs)) None → true_count bits ≡ valid_count vs
    by_any true q = let own : bits ≡ valid_bits vs = cc in ap true_count own ∙ true_bits vs
    by_any false q = absurd cc

-- without a mask all rows have one
pub count-of_all : (vs : List PlainValue) → None ≡ validity vs → length vs ≡ valid_count vs
count-of_all vs e = by_any (list_any is_null vs) refl e
  where
    by_any : (b : Bool) → list_any is_null vs ≡ b → None ≡ cond b (Some (valid_bits vs)) None → length vs ≡ valid_count vs
    by_any true any q = absurd cc
    by_any false any q = sym (counts-valid vs any).1

-- ---- the numbers of the rows with values

some-row : (vs : List PlainValue) (i : ℕ) → list_any is_null vs ≡ false → i < length vs → is_null (row_at vs i) ≡ false
some-row [] i none l = absurd (omega arith)
some-row (v ∷ vs) zero none l = (or_parts (is_null v) (list_any is_null vs) none).0
some-row (v ∷ vs) (suc i) none l = some-row vs i (or_parts (is_null v) (list_any is_null vs) none).1 (omega arith)

valid-row : (vs : List PlainValue) (i : ℕ) → i < length vs → is_valid_at (validity vs) i ≡ not (is_null (row_at vs i))
valid-row vs i l = by_any (list_any is_null vs) refl
  where
    by_any : (b : Bool) → list_any is_null vs ≡ b → is_valid_at (cond b (Some (valid_bits vs)) None) i ≡ not (is_null (row_at vs i))
    by_any true any = get_or-map (λ v. not (is_null v)) vs i null
    by_any false any = sym (ap not (some-row vs i any l))

filter-same : (p q : ℕ → Bool) (start n : ℕ) → ((i : ℕ) → start ≤ i → i < start + n → p i ≡ q i) → filter p (range_with_len start n) ≡ filter q (range_with_len start n)
filter-same p q start zero h = refl
filter-same p q start (suc n) h =
    let here = h start (omega arith) (omega arith) in
    let rest = filter-same p q (start + 1) n (λ i low high. h i (omega arith) (omega arith)) in
    λ i. cond (here i) (start ∷ rest i) (rest i)

pub valid_rows-patched : (vs : List PlainValue) → filter (is_valid_at (validity vs)) (range_with_len 0 (length vs)) ≡ patched_rows null_filling vs
valid_rows-patched vs = filter-same (is_valid_at (validity vs)) (λ i. not (is_null (row_at vs i))) 0 (length vs) (λ i low high. valid-row vs i (omega arith))
