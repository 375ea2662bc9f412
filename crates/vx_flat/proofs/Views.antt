-- Tests of each row of texts or binaries, row by row.
use Rattle.std.proofs.Common.{◌≡◌, ◌<◌, ◌≤◌, ◌+◌, ◌∙◌, ℕ, zero, suc, List, [], ◌∷◌, length, map, take, refl, sym, ap, add-one, arith, Bool, true, false, cond, Some, None}
use Rattle.std.specs.Prelude.{slice_index_or, ◌&&◌}
use Rattle.std.specs.List.{list_all}
use Rattle.std.proofs.lemmas.Bool.{and_parts, cond_both, eqb-true}
use Rattle.std.proofs.lemmas.List.{length-map, get_or-map}
use Rattle.vx_base.specs.PlainValue.{PlainValue, null, bytes}
use Rattle.vx_model.specs.Refusals.{kept, validity_length}
use Rattle.vx_model.specs.Rows.{row_at, is_valid_at, masked_rows, valid_rows}
use Rattle.vx_model.specs.Tree.{Validity}
use Rattle.vx_model.proofs.RowLemmas.{length-masked_rows, row_at-masked_rows}

-- ---- a test of each item, one item more

module _ {A : Type 0} (test : A → Bool) (other : A) where
  pub all-next : (xs : List A) (i : ℕ) → i < length xs → list_all test (take i xs) ≡ true → test (slice_index_or xs i other) ≡ true → list_all test (take (i + 1) xs) ≡ true
  all-next xs i l h e = rw (add-one i) (more xs i l h e)
    where
      more : (ys : List A) (j : ℕ) → j < length ys → list_all test (take j ys) ≡ true → test (slice_index_or ys j other) ≡ true → list_all test (take (suc j) ys) ≡ true
      more [] j l h e = absurd (omega arith)
      more (y ∷ ys) zero l h e = rw e refl
      more (y ∷ ys) (suc j) l h e = let b = and_parts (test y) (list_all test (take j ys)) h in rw (b.0, more ys j (omega arith) b.1 e) refl

  pub all-stop : (xs : List A) (i : ℕ) → i < length xs → test (slice_index_or xs i other) ≡ false → list_all test xs ≡ false
  all-stop [] i l e = absurd (omega arith)
  all-stop (x ∷ xs) zero l e = rw e refl
  all-stop (x ∷ xs) (suc i) l e = rw (all-stop xs i (omega arith) e) (never (test x))
    where
      never : (b : Bool) → (b && false) ≡ false
      never true = refl
      never false = refl

pub all-end : {A : Type 0} (test : A → Bool) (xs : List A) (i : ℕ) → length xs ≤ i → list_all test (take i xs) ≡ true → list_all test xs ≡ true
all-end test [] i l h = refl
all-end test (x ∷ xs) zero l h = absurd (omega arith)
all-end test (x ∷ xs) (suc i) l h = let b = and_parts (test x) (list_all test (take i xs)) h in rw (b.0, all-end test xs i (omega arith) b.1) refl

-- ---- rows and their validity, which a node keeps where some bit is false

all_true : (bits : List Bool) (rs : List PlainValue) → length bits ≡ length rs → list_all (λ b. b) bits ≡ true → masked_rows bits rs ≡ rs
all_true [] [] l e = refl
all_true [] (r ∷ rs) l e = absurd (omega arith)
all_true (b ∷ bits) [] l e = absurd (omega arith)
all_true (b ∷ bits) (r ∷ rs) l e =
    let h = and_parts b (list_all (λ b. b) bits) e in
    rw (h.0, all_true bits rs (omega arith) h.1) refl

pub rows-kept : (valid : Validity) (rs : List PlainValue) → validity_length valid (length rs) ≡ true → valid_rows (kept valid) rs ≡ valid_rows valid rs
rows-kept None rs h = refl
rows-kept (Some bits) rs h =
    cond_both (list_all (λ b. b) bits) None (Some bits) (λ v. valid_rows v rs ≡ masked_rows bits rs) (λ all. sym (all_true bits rs (eqb-true _ _ h) all)) (λ some. refl)

length-valid : (valid : Validity) (rs : List PlainValue) → validity_length valid (length rs) ≡ true → length (valid_rows valid rs) ≡ length rs
length-valid None rs h = refl
length-valid (Some bits) rs h = length-masked_rows bits rs (eqb-true _ _ h)

row_at-valid : (valid : Validity) (rs : List PlainValue) (i : ℕ) → validity_length valid (length rs) ≡ true → row_at (valid_rows valid rs) i ≡ cond (is_valid_at valid i) (row_at rs i) null
row_at-valid None rs i h = refl
row_at-valid (Some bits) rs i h = row_at-masked_rows bits rs i (eqb-true _ _ h)

module _ (vs : List (List ℕ)) (valid : Validity) (h : validity_length valid (length vs) ≡ true) where
  lengths : validity_length valid (length (map bytes vs)) ≡ true
  lengths = rw length-map h

  pub length-views : length (valid_rows (kept valid) (map bytes vs)) ≡ length vs
  length-views = ap length (rows-kept valid (map bytes vs) lengths) ∙ length-valid valid (map bytes vs) lengths ∙ length-map vs bytes

  pub row_at-views : (i : ℕ) → i < length vs → row_at (valid_rows (kept valid) (map bytes vs)) i ≡ cond (is_valid_at valid i) (bytes (slice_index_or vs i [])) null
  row_at-views i l =
      ap (λ rs. row_at rs i) (rows-kept valid (map bytes vs) lengths) ∙ row_at-valid valid (map bytes vs) i lengths
      ∙ ap (λ r. cond (is_valid_at valid i) r null) (get_or-map bytes vs i [] null l)
