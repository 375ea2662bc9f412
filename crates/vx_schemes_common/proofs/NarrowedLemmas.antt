-- Numbers in their narrowest type, from their greatest.
use Rattle.std.proofs.Common.{◌≡◌, ◌≤◌, ◌+◌, ◌-◌, ◌^◌, ◌∙◌, ℕ, zero, suc, pos, Bool, true, false, None, Some, cond, List, [], ◌∷◌, length, map, get_or, refl, sym, ap, subst, arith, inl, inr}
use Rattle.std.specs.Prelude.{◌&&◌, nat_lt, fold, max, find, unwrap_or}
use Rattle.std.specs.List.{list_all, list_any}
use Rattle.std.proofs.Math.Bool.{and_comm, and_assoc}
use Rattle.std.proofs.lemmas.Bool.{and_from, and_parts, cond-false, cases_lt, lt-ltb, le-ltb}
use Rattle.vx_base.specs.declared.ptype.PType.{PType}
use Rattle.vx_base.specs.declared.ptype.PType.TheVariants.{U8, U16, U32, U64}
use Rattle.vx_base.specs.declared.dtype.Nullability.TheVariants.{NonNullable}
use Rattle.vx_base.specs.Integers.{natural_bits, lies_in, unsigned_of}
use Rattle.vx_base.specs.Narrow.{narrow_of}
use Rattle.vx_base.proofs.FitLemmas.{lies_in-zero}
use Rattle.vx_base.specs.PlainValue.{is_null}
use Rattle.vx_model.specs.Plain.{plain, validity, valid_bits}
use Rattle.vx_model.specs.Tree.{primitive}
use Rattle.vx_model.specs.WellFormed.{ascend}
use Rattle.vx_model.proofs.DecodeLemmas.{wholes-map-int, no_null-map-int}
use Rattle.vx_model.proofs.NarrowLemmas.{narrow-unsigned}
use Rattle.vx_model.proofs.PatchLemmas.{ascend_parts}
use Rattle.vx_model.proofs.PlainLemmas.{wholes_lie_in}
use Rattle.vx_schemes_common.specs.Rising.{fit_all}
use Rattle.vx_schemes_common.specs.Narrowed.{index_type, number_rows, narrowed_numbers, greatest}
use Rattle.vx_schemes_common.specs.NarrowedLaws.{index_type-holds}

-- ---- tests

pub and_true : (b : Bool) → (b && true) ≡ b
and_true true = refl
and_true false = refl

pub and_false : (b : Bool) → (b && false) ≡ false
and_false true = refl
and_false false = refl

pub smaller : (n k m : ℕ) → n ≤ k → (nat_lt n m && nat_lt k m) ≡ nat_lt k m
smaller n k m h =
    elim (cases_lt k m) [
      | inl lt ↦ and_from _ _ (lt-ltb n m (omega arith)) (lt-ltb k m lt) ∙ sym (lt-ltb k m lt)
      | inr far ↦ ap (λ b. nat_lt n m && b) (le-ltb k m far) ∙ and_false (nat_lt n m) ∙ sym (le-ltb k m far)
    ]

-- the first type of four that holds it
pub picked : (a b c d : Bool) (q : PType) → cond a (Some U8) (cond b (Some U16) (cond c (Some U32) (cond d (Some U64) None))) ≡ Some q → unwrap_or (cond a (Some U8) (cond b (Some U16) (cond c (Some U32) None))) U64 ≡ q
picked true b c d q e = cc
picked false true c d q e = cc
picked false false true d q e = cc
picked false false false true q e = cc
picked false false false false q e = absurd cc

-- ---- the greatest decides

both : (k n m : ℕ) (r : Bool) → (nat_lt k m && (nat_lt n m && r)) ≡ (nat_lt (max k n) m && r)
both k n m r =
    elim (cases_lt k n) [
      | inl less ↦ let greater : max k n ≡ n = omega arith in (sym (and_assoc (nat_lt k m) (nat_lt n m) r) ∙ ap (λ b. b && r) (smaller k n m (omega arith))) ∙ ap (λ j. nat_lt j m && r) (sym greater)
      | inr more ↦ let greater : max k n ≡ k = omega arith in (sym (and_assoc (nat_lt k m) (nat_lt n m) r) ∙ ap (λ b. b && r) (and_comm (nat_lt k m) (nat_lt n m) ∙ smaller n k m more)) ∙ ap (λ j. nat_lt j m && r) (sym greater)
    ]

-- all numbers fit where the greatest does
all_by_fold : (q : PType) (k : ℕ) (numbers : List ℕ) → (lies_in q (pos k) && fit_all q (number_rows numbers)) ≡ lies_in q (pos (fold max k numbers))
all_by_fold q k [] = and_true (lies_in q (pos k))
all_by_fold q k (n ∷ numbers) = both k n (2 ^ natural_bits q) (fit_all q (number_rows numbers)) ∙ all_by_fold q (max k n) numbers

pub index_type-greatest : (numbers : List ℕ) (q : PType) → narrow_of (pos 0) (pos (greatest numbers)) ≡ Some q → q ≡ index_type (number_rows numbers)
index_type-greatest numbers q e =
    let same : (p : PType) → lies_in p (pos (greatest numbers)) ≡ fit_all p (number_rows numbers) = λ p. sym (all_by_fold p 0 numbers) ∙ ap (λ b. b && fit_all p (number_rows numbers)) (lies_in-zero p) in
    let g = pos (greatest numbers) in
    sym (picked (lies_in U8 g) (lies_in U16 g) (lies_in U32 g) (lies_in U64 g) q e) ∙ (λ j. unwrap_or (find (λ p. same p j) (U8 ∷ U16 ∷ U32 ∷ [])) U64)

-- the last of ascending numbers is the greatest
fold-rising : (low high k : ℕ) (numbers : List ℕ) (i : ℕ) → k ≤ low → ascend low high (number_rows numbers) ≡ true → length numbers ≡ i + 1 → fold max k numbers ≡ get_or numbers i 0
fold-rising low high k [] i l h e = absurd (omega arith)
fold-rising low high k (n ∷ []) zero l h e = let a = ascend_parts low high n [] h in let b = a.0 in omega arith
fold-rising low high k (n ∷ []) (suc i) l h e = absurd (omega arith)
fold-rising low high k (n ∷ m ∷ numbers) zero l h e = absurd (omega arith)
fold-rising low high k (n ∷ m ∷ numbers) (suc i) l h e =
    let a = ascend_parts low high n (number_rows (m ∷ numbers)) h in
    let b = a.0 in
    let first : max k n ≡ n = omega arith in
    ap (λ j. fold max j (m ∷ numbers)) first ∙ fold-rising (n + 1) high n (m ∷ numbers) i (omega arith) a.2 (omega arith)

greatest-rising : (low high : ℕ) (numbers : List ℕ) (i : ℕ) → ascend low high (number_rows numbers) ≡ true → length numbers ≡ i + 1 → greatest numbers ≡ get_or numbers i 0
greatest-rising low high numbers i h e = fold-rising low high 0 numbers i (omega arith) h e

pub last-greatest : (low high : ℕ) (numbers : List ℕ) → ascend low high (number_rows numbers) ≡ true → get_or numbers (length numbers - 1) 0 ≡ greatest numbers
last-greatest low high [] h = refl
last-greatest low high (n ∷ numbers) h =
    let place : length (n ∷ numbers) - 1 ≡ length numbers = omega arith in
    ap (λ i. get_or (n ∷ numbers) i 0) place ∙ sym (greatest-rising low high (n ∷ numbers) (length numbers) h (omega arith))

-- ---- the plain tree

-- a type that holds the greatest
module _ (numbers : List ℕ) (top : ℕ) (q : PType) (is_top : top ≡ greatest numbers) (narrow : narrow_of (pos 0) (pos top) ≡ Some q) where
  typed : q ≡ index_type (number_rows numbers)
  typed = index_type-greatest numbers q (ap (λ n. narrow_of (pos 0) (pos n)) (sym is_top) ∙ narrow)

  pub narrowed-unsigned : unsigned_of q ≡ q
  narrowed-unsigned = narrow-unsigned top q narrow

  pub narrowed-held : list_all (lies_in U64) (map pos numbers) ≡ true → list_all (lies_in q) (map pos numbers) ≡ true
  narrowed-held h =
      let p = index_type (number_rows numbers) in
      rw typed (subst (λ zs. list_all (lies_in p) zs ≡ true) (wholes-map-int (map pos numbers)) (wholes_lie_in p NonNullable (number_rows numbers) (index_type-holds (number_rows numbers) (words_fit numbers h))))
    where
      words_fit : (ns : List ℕ) → list_all (lies_in U64) (map pos ns) ≡ true → fit_all U64 (number_rows ns) ≡ true
      words_fit [] l = refl
      words_fit (n ∷ ns) l = let b = and_parts (lies_in U64 (pos n)) (list_all (lies_in U64) (map pos ns)) l in and_from _ _ b.0 (words_fit ns b.1)

  pub narrowed-plain : primitive q (map pos numbers) None NonNullable ≡ plain (narrowed_numbers numbers)
  narrowed-plain = λ i. primitive (typed i) (sym (wholes-map-int (map pos numbers)) i) (sym none i) NonNullable
    where
      none : validity (number_rows numbers) ≡ None
      none = cond-false (list_any is_null (number_rows numbers)) (Some (valid_bits (number_rows numbers))) None (no_null-map-int (map pos numbers))
