-- Nulls by validity bits.
use Rattle.std.proofs.Common.{◌≡◌, ◌≤◌, ◌∙◌, ℕ, ℤ, ◌+◌, ◌*◌, ◌-◌, Bool, true, false, cond, List, [], ◌∷◌, map, length, Some, None, refl, sym, ap, arith}
use Rattle.std.specs.Prelude.{count_by, replicate}
use Rattle.std.proofs.lemmas.Bool.{eqb-true}
use Rattle.std.proofs.lemmas.List.Folds.{sum_by-replicate}
use Rattle.std.proofs.lemmas.List.Sums.{count_by-le-length, sum_by-cons}
use Rattle.vx_base.specs.declared.dtype.Nullability.{Nullability}
use Rattle.vx_base.specs.declared.ptype.PType.{PType}
use Rattle.vx_base.specs.PlainScalar.{PlainScalar}
use Rattle.vx_base.specs.PlainType.{PlainType, nullability_of}
use Rattle.vx_base.specs.PlainValue.{PlainValue, null, is_null, truth, int, bytes, items}
use Rattle.vx_model.specs.Column.{column_of}
use Rattle.vx_model.specs.Refusals.{validity_length}
use Rattle.vx_model.specs.Rows.{cut_at, field_rows, list_value, masked_rows, parts_of, rows, valid_rows}
use Rattle.vx_model.specs.Tree.{Tree, Trees, Validity, bool, constant, fixed_size_list, list, nulls, primitive, structure, var_bin_view}
use Rattle.vx_model.specs.WellFormed.{IsValidityOf, WellFormed}
use Rattle.vx_model.proofs.MadeLemmas.{has_length}
use Rattle.vx_model.proofs.PartLemmas.{length-parts_of}
use Rattle.vx_model.proofs.StructLemmas.{length-field_rows}
use Rattle.vx_model.proofs.VarBinLemmas.{length-cut_at}
use Rattle.vx_rules.specs.Aggregates.{null_count}
use Rattle.vx_rows.specs.Nulls.{nulls_in}

count-cons : {X : Type 0} (p : X → Bool) (x : X) (xs : List X) → count_by p (x ∷ xs) ≡ cond (p x) 1 0 + count_by p xs
count-cons p x xs = sum_by-cons (λ y. cond (p y) 1 0) x xs

module _ {A : Type 0} (value : A → PlainValue) (some : (x : A) → is_null (value x) ≡ false) where
  nulls-none : (xs : List A) → count_by is_null (map value xs) ≡ 0
  nulls-none [] = refl
  nulls-none (x ∷ xs) = count-cons is_null (value x) (map value xs) ∙ (λ i. cond (some x i) 1 0 + nulls-none xs i)

  nulls-masked : (bits : List Bool) (xs : List A) → length bits ≡ length xs → count_by is_null (masked_rows bits (map value xs)) + count_by (λ b. b) bits ≡ length bits
  nulls-masked [] [] e = refl
  nulls-masked [] (x ∷ xs) e = absurd (omega arith)
  nulls-masked (b ∷ bits) [] e = absurd (omega arith)
  nulls-masked (true ∷ bits) (x ∷ xs) e =
      let here : ◌≡◌ {A = ℕ} (cond (is_null (value x)) 1 0) 0 = ap (λ n. cond n 1 0) (some x) in
      omega (arith, here, count-cons is_null (value x) (masked_rows bits (map value xs)), count-cons (λ b. b) true bits, nulls-masked bits xs (omega arith))
  nulls-masked (false ∷ bits) (x ∷ xs) e = omega (arith, count-cons is_null null (masked_rows bits (map value xs)), count-cons (λ b. b) false bits, nulls-masked bits xs (omega arith))

  pub nulls-valid : (valid : Validity) (xs : List A) → validity_length valid (length xs) ≡ true → nulls_in valid ≡ count_by is_null (valid_rows valid (map value xs))
  nulls-valid None xs h = sym (nulls-none xs)
  nulls-valid (Some bits) xs h = omega (arith, nulls-masked bits xs (eqb-true (length bits) (length xs) h))

-- ---- node by node

pub count-same : (v : PlainValue) (n : ℕ) → count_by is_null (replicate n v) ≡ n * cond (is_null v) 1 0
count-same v n = sum_by-replicate (λ w. cond (is_null w) 1 0) n v

pub nulls-null : (n : ℕ) → null_count (column_of (nulls n)) ≡ n
nulls-null n = omega (arith, count-same null n)

pub nulls-constant : (s : PlainScalar) (n : ℕ) → is_null s.value ≡ true → null_count (column_of (constant s n)) ≡ n
nulls-constant s n e = count-same s.value n ∙ ap (λ b. n * cond b 1 0) e ∙ omega arith

pub nulls-value : (s : PlainScalar) (n : ℕ) → is_null s.value ≡ false → null_count (column_of (constant s n)) ≡ 0
nulls-value s n e = count-same s.value n ∙ ap (λ b. n * cond b 1 0) e ∙ omega arith

pub nulls-bool : (bs : List Bool) (valid : Validity) (n : Nullability) → WellFormed (bool bs valid n) → null_count (column_of (bool bs valid n)) ≡ nulls_in valid
nulls-bool bs valid n w = sym (nulls-valid truth (λ b. refl) valid bs (has_length valid (length bs) n w.0))

pub nulls-primitive : (p : PType) (zs : List ℤ) (valid : Validity) (n : Nullability) → WellFormed (primitive p zs valid n) → null_count (column_of (primitive p zs valid n)) ≡ nulls_in valid
nulls-primitive p zs valid n w = sym (nulls-valid int (λ z. refl) valid zs (has_length valid (length zs) n w.0.validity))

pub nulls-view : (vs : List (List ℕ)) (valid : Validity) (t : PlainType) → WellFormed (var_bin_view vs valid t) → null_count (column_of (var_bin_view vs valid t)) ≡ nulls_in valid
nulls-view vs valid t w = sym (nulls-valid bytes (λ b. refl) valid vs (has_length valid (length vs) (nullability_of t) w.0.validity))

-- the same of items whose number is known otherwise
nulls-items : {A : Type 0} (value : A → PlainValue) (some : (x : A) → is_null (value x) ≡ false) (valid : Validity) (xs : List A) (len : ℕ) (n : Nullability) → IsValidityOf valid len n → length xs ≡ len
    → count_by is_null (valid_rows valid (map value xs)) ≡ nulls_in valid
nulls-items value some valid xs len n v e = sym (nulls-valid value some valid xs (ap (validity_length valid) e ∙ has_length valid len n v))

pub nulls-structure : (names : List (List ℕ)) (fields : Trees) (len : ℕ) (valid : Validity) (n : Nullability) → WellFormed (structure names fields len valid n) → null_count (column_of (structure names fields len valid n)) ≡ nulls_in valid
nulls-structure names fields len valid n w = nulls-items items (λ vs. refl) valid (field_rows fields len) len n w.1.validity (length-field_rows fields len w.1.lengths)

pub nulls-list : (elements offsets : Tree) (valid : Validity) (n : Nullability) → WellFormed (list elements offsets valid n) → null_count (column_of (list elements offsets valid n)) ≡ nulls_in valid
nulls-list elements offsets valid n w =
    nulls-items list_value (λ vs. refl) valid (cut_at (rows offsets) (rows elements)) (length (rows offsets) - 1) n w.2.validity (length-cut_at (rows offsets) (rows elements))

pub nulls-fixed : (elements : Tree) (size len : ℕ) (valid : Validity) (n : Nullability) → WellFormed (fixed_size_list elements size len valid n) → null_count (column_of (fixed_size_list elements size len valid n)) ≡ nulls_in valid
nulls-fixed elements size len valid n w = nulls-items list_value (λ vs. refl) valid (parts_of size len (rows elements)) len n w.1.validity (length-parts_of size len (rows elements))

pub ruleset node_nulls = (nulls-null, nulls-constant, nulls-value, nulls-bool, nulls-primitive, nulls-view, nulls-structure, nulls-list, nulls-fixed)

-- ---- rows that are read where they stand

pub nulls_of_bits : (valid : Validity) (bs : List Bool) → validity_length valid (length bs) ≡ true → nulls_in valid ≡ count_by is_null (valid_rows valid (map truth bs))
nulls_of_bits valid bs h = nulls-valid truth (λ b. refl) valid bs h

pub nulls_of_ints : (valid : Validity) (zs : List ℤ) → validity_length valid (length zs) ≡ true → nulls_in valid ≡ count_by is_null (valid_rows valid (map int zs))
nulls_of_ints valid zs h = nulls-valid int (λ z. refl) valid zs h

pub nulls_of_bytes : (valid : Validity) (bss : List (List ℕ)) → validity_length valid (length bss) ≡ true → nulls_in valid ≡ count_by is_null (valid_rows valid (map bytes bss))
nulls_of_bytes valid bss h = nulls-valid bytes (λ b. refl) valid bss h

pub nulls_of_null : (v : PlainValue) (n : ℕ) → is_null v ≡ true → n ≡ count_by is_null (replicate n v)
nulls_of_null v n e = sym (count-same v n ∙ ap (λ b. n * cond b 1 0) e ∙ omega arith)

pub nulls_of_some : (v : PlainValue) (n : ℕ) → is_null v ≡ false → 0 ≡ count_by is_null (replicate n v)
nulls_of_some v n e = sym (count-same v n ∙ ap (λ b. n * cond b 1 0) e ∙ omega arith)

pub ruleset lent_nulls = (nulls_of_bits, nulls_of_ints, nulls_of_bytes, nulls_of_null, nulls_of_some)

-- as many rows at most are true as there are
pub true_few : (bits : List Bool) → count_by (λ b. b) bits ≤ length bits
true_few bits = count_by-le-length (λ b. b) bits
