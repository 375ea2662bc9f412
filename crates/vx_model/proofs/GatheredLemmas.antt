-- The rows of ranges of a plain tree: its items, and its validity.
use Rattle.std.proofs.Common.{◌≡◌, ℕ, zero, suc, ◌-◌, Bool, true, false, cond, List, [], ◌∷◌, map, length, take, drop, Some, None, option_map, refl, sym, ◌∙◌, ap, subst}
use Rattle.std.specs.Prelude.{◌||◌, ◌&&◌, not, IsTrue, IfSome}
use Rattle.std.specs.List.{list_all, list_any}
use Rattle.std.proofs.lemmas.Bool.{cond_both, and_from, and_parts}
use Rattle.std.proofs.lemmas.List.Folds.{list_any-append, list_all-append}
use Rattle.vx_base.specs.declared.dtype.Nullability.{Nullability}
use Rattle.vx_base.specs.Gathered.{gathered, are_parts}
use Rattle.vx_base.specs.Masks.{rows_between}
use Rattle.vx_base.specs.PlainValue.{PlainValue, is_null}
use Rattle.vx_base.proofs.GatherLemmas.{map-gathered}
use Rattle.vx_base.proofs.NullLemmas.{all-not_null}
use Rattle.vx_model.specs.Plain.{validity, valid_bits}
use Rattle.vx_model.specs.Refusals.{kept}
use Rattle.vx_model.specs.Tree.{Validity}
use Rattle.vx_model.specs.WellFormed.{IsValidityOf}

-- ---- validity bits are dropped where no null is left

none-take : {A : Type 0} (p : A → Bool) (n : ℕ) (xs : List A) → list_any p xs ≡ false → list_any p (take n xs) ≡ false
none-take p zero xs e = refl
none-take p (suc n) [] e = refl
none-take p (suc n) (x ∷ xs) e = rest (p x) e (none-take p n xs)
  where
    rest : (b : Bool) → (b || list_any p xs) ≡ false → (list_any p xs ≡ false → list_any p (take n xs) ≡ false) → (b || list_any p (take n xs)) ≡ false
    rest true e ih = absurd cc
    rest false e ih = ih e

none-drop : {A : Type 0} (p : A → Bool) (n : ℕ) (xs : List A) → list_any p xs ≡ false → list_any p (drop n xs) ≡ false
none-drop p zero xs e = e
none-drop p (suc n) [] e = refl
none-drop p (suc n) (x ∷ xs) e = rest (p x) e (none-drop p n xs)
  where
    rest : (b : Bool) → (b || list_any p xs) ≡ false → (list_any p xs ≡ false → list_any p (drop n xs) ≡ false) → list_any p (drop n xs) ≡ false
    rest true e ih = absurd cc
    rest false e ih = ih e

none-gathered : {A : Type 0} (p : A → Bool) (ranges : List (ℕ × ℕ)) (xs : List A) → list_any p xs ≡ false → list_any p (gathered ranges xs) ≡ false
none-gathered p [] xs e = refl
none-gathered p (r ∷ rs) xs e =
    list_any-append p (rows_between xs r.0 r.1) (gathered rs xs)
    ∙ (λ i. none-take p (r.1 - r.0) (drop r.0 xs) (none-drop p r.0 xs e) i || none-gathered p rs xs e i)

kept-valid_bits : (vs : List PlainValue) → kept (Some (valid_bits vs)) ≡ validity vs
kept-valid_bits vs = ap (λ b. cond b None (Some (valid_bits vs))) (all-not_null vs) ∙ turned (list_any is_null vs)
  where
    turned : (b : Bool) → cond (not b) None (Some (valid_bits vs)) ≡ cond b (Some (valid_bits vs)) None
    turned true = refl
    turned false = refl

pub validity-gathered : (ranges : List (ℕ × ℕ)) (vs : List PlainValue) → kept (option_map (gathered ranges) (validity vs)) ≡ validity (gathered ranges vs)
validity-gathered ranges vs =
    cond_both (list_any is_null vs) (Some (valid_bits vs)) None (λ valid. kept (option_map (gathered ranges) valid) ≡ validity (gathered ranges vs))
    (λ e. ap (λ bits. kept (Some bits)) (sym (map-gathered (λ v. not (is_null v)) ranges vs)) ∙ kept-valid_bits (gathered ranges vs))
    (λ e. sym (ap (λ b. cond b (Some (valid_bits (gathered ranges vs))) None) (none-gathered is_null ranges vs e)))

-- ---- what holds of all items holds of those of ranges

all-take : {A : Type 0} (p : A → Bool) (n : ℕ) (xs : List A) → list_all p xs ≡ true → list_all p (take n xs) ≡ true
all-take p zero xs e = refl
all-take p (suc n) [] e = refl
all-take p (suc n) (x ∷ xs) e = let b = and_parts (p x) (list_all p xs) e in and_from _ _ b.0 (all-take p n xs b.1)

all-drop : {A : Type 0} (p : A → Bool) (n : ℕ) (xs : List A) → list_all p xs ≡ true → list_all p (drop n xs) ≡ true
all-drop p zero xs e = e
all-drop p (suc n) [] e = refl
all-drop p (suc n) (x ∷ xs) e = all-drop p n xs (and_parts (p x) (list_all p xs) e).1

pub all-gathered : {A : Type 0} (p : A → Bool) (ranges : List (ℕ × ℕ)) (xs : List A) → list_all p xs ≡ true → list_all p (gathered ranges xs) ≡ true
all-gathered p [] xs e = refl
all-gathered p (r ∷ rs) xs e =
    list_all-append p (rows_between xs r.0 r.1) (gathered rs xs)
    ∙ (λ i. all-take p (r.1 - r.0) (drop r.0 xs) (all-drop p r.0 xs e) i && all-gathered p rs xs e i)

-- ---- items and validity of a plain tree

pub items-gathered : {A : Type 0} (item : PlainValue → A) (ranges : List (ℕ × ℕ)) (vs : List PlainValue) (xs : List A) → xs ≡ map item vs → gathered ranges xs ≡ map item (gathered ranges vs)
items-gathered item ranges vs xs e = ap (gathered ranges) e ∙ sym (map-gathered item ranges vs)

pub bits-gathered : (ranges : List (ℕ × ℕ)) (vs : List PlainValue) (valid : Validity) → valid ≡ validity vs → kept (option_map (gathered ranges) valid) ≡ validity (gathered ranges vs)
bits-gathered ranges vs valid e = ap (λ v. kept (option_map (gathered ranges) v)) e ∙ validity-gathered ranges vs

pub bits_are_parts : (ranges : List (ℕ × ℕ)) (valid : Validity) (len : ℕ) (n : Nullability) → IsValidityOf valid len n → IsTrue (are_parts len ranges) → IfSome valid (λ bits. IsTrue (are_parts (length bits) ranges))
bits_are_parts ranges None len n h parts = tt
bits_are_parts ranges (Some bits) len n h parts = subst (λ l. IsTrue (are_parts l ranges)) (sym h.0) parts
