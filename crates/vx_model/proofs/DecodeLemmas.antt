-- Decodings of nodes: values with defaults beneath nulls, and validity.
use Rattle.std.proofs.Common.{◌≡◌, ℕ, zero, suc, ℤ, pos, List, [], ◌∷◌, length, map, refl, sym, ap, ◌∙◌, arith, Bool, true, false, cond, Some, None}
use Rattle.std.specs.Prelude.{◌||◌, ◌&&◌, not, is_some, replicate}
use Rattle.std.specs.List.{list_all, list_any}
use Rattle.std.proofs.lemmas.Bool.{cond_both, eq-eqb, and_parts}
use Rattle.std.proofs.lemmas.List.{length-map}
use Rattle.vx_base.specs.declared.ptype.PType.{PType}
use Rattle.vx_base.specs.declared.dtype.Nullability.{Nullability}
use Rattle.vx_base.specs.declared.dtype.Nullability.TheVariants.{Nullable, NonNullable}
use Rattle.vx_base.specs.Defaults.{default_of, or_default}
use Rattle.vx_base.specs.Integers.{lies_in}
use Rattle.vx_base.specs.PlainScalar.{fits}
use Rattle.vx_base.specs.PlainType.{PlainType, is_integer, is_nullable}
use Rattle.vx_base.specs.PlainType as types
use Rattle.vx_base.specs.PlainValue.{PlainValue, null, int, is_null, whole_or_zero}
use Rattle.vx_model.specs.Tree.{Tree, Validity, primitive}
use Rattle.vx_model.specs.Decoded.{zeroed, zeroed_by}
use Rattle.vx_model.specs.Column.{column_of}
use Rattle.vx_model.specs.Plain.{plain, plain_of, validity, valid_bits}
use Rattle.vx_model.specs.Refusals.{kept, validity_length, primitive_refusal}
use Rattle.vx_model.specs.Rows.{rows, masked_rows, valid_rows}
use Rattle.vx_model.specs.TreeType.{tree_type}
use Rattle.vx_model.specs.WellFormed.{WellFormed, IsValidityOf}
use Rattle.vx_base.proofs.NullLemmas.{null-fitted}
use Rattle.vx_model.proofs.MadeLemmas.{rows_fit}

-- ---- rows by any function, which null's item stands for: the whole number or 0, the value or its default

module _ {A : Type 0} (f : PlainValue → A) where
  at_bit : (b : Bool) (v : PlainValue) → f (cond b v null) ≡ cond b (f v) (f null)
  at_bit true v = refl
  at_bit false v = refl

  pub map-masked_rows : (bits : List Bool) (rs : List PlainValue) → length bits ≡ length rs → map f (masked_rows bits rs) ≡ zeroed (f null) bits (map f rs)
  map-masked_rows [] [] l = refl
  map-masked_rows [] (r ∷ rs) l = absurd (omega arith)
  map-masked_rows (b ∷ bits) [] l = absurd (omega arith)
  map-masked_rows (b ∷ bits) (r ∷ rs) l = let rest = map-masked_rows bits rs (omega arith) in λ i. at_bit b r i ∷ rest i

  pub map-valid_rows : (valid : Validity) (rs : List PlainValue) (n : Nullability) → IsValidityOf valid (length rs) n → map f (valid_rows valid rs) ≡ zeroed_by (f null) valid (map f rs)
  map-valid_rows None rs n h = refl
  map-valid_rows (Some bits) rs n h = map-masked_rows bits rs h.0

-- ---- integers as values

pub wholes-map-int : (xs : List ℤ) → map whole_or_zero (map int xs) ≡ xs
wholes-map-int [] = refl
wholes-map-int (x ∷ xs) = ap (λ ys. x ∷ ys) (wholes-map-int xs)

pub wholes-valid_rows : (valid : Validity) (xs : List ℤ) (n : Nullability) → IsValidityOf valid (length xs) n → map whole_or_zero (valid_rows valid (map int xs)) ≡ zeroed_by (pos 0) valid xs
wholes-valid_rows valid xs n h = map-valid_rows whole_or_zero valid (map int xs) n (rw length-map h) ∙ ap (zeroed_by (pos 0) valid) (wholes-map-int xs)

-- whole numbers with 0 beneath nulls are the values of an integer type with its default
pub values-wholes : (t : PlainType) → is_integer t ≡ true → (rs : List PlainValue) → list_all (fits t) rs ≡ true → map int (map whole_or_zero rs) ≡ map (or_default (default_of t)) rs
values-wholes (types.primitive p n) e [] h = refl
values-wholes (types.primitive p n) e (null ∷ rs) h = let b = and_parts (types.allows_null n) (list_all (fits (types.primitive p n)) rs) h in ap (λ vs. int (pos 0) ∷ vs) (values-wholes (types.primitive p n) e rs b.1)
values-wholes (types.primitive p n) e (int z ∷ rs) h = let b = and_parts (lies_in p z) (list_all (fits (types.primitive p n)) rs) h in ap (λ vs. int z ∷ vs) (values-wholes (types.primitive p n) e rs b.1)
values-wholes (types.primitive p n) e (v ∷ rs) h = absurd cc
values-wholes t e rs h = absurd cc

-- and back
pub wholes-values : (t : PlainType) → is_integer t ≡ true → (xs : List ℤ) (rs : List PlainValue) → list_all (fits t) rs ≡ true → map int xs ≡ map (or_default (default_of t)) rs → xs ≡ map whole_or_zero rs
wholes-values t e xs rs f h = sym (wholes-map-int xs) ∙ ap (map whole_or_zero) (h ∙ sym (values-wholes t e rs f)) ∙ wholes-map-int (map whole_or_zero rs)

-- ---- validity

pub no_null-map-int : (xs : List ℤ) → list_any is_null (map int xs) ≡ false
no_null-map-int [] = refl
no_null-map-int (x ∷ xs) = no_null-map-int xs

bit_of : (b : Bool) (v : PlainValue) → is_null v ≡ false → is_null (cond b v null) ≡ not b
bit_of true v e = e
bit_of false v e = refl

split_any : (b c : Bool) → (b || c) ≡ false → (b ≡ false) × (c ≡ false)
split_any true c e = absurd cc
split_any false c e = (refl, e)

pub any_masked : (bits : List Bool) (rs : List PlainValue) → length bits ≡ length rs → list_any is_null rs ≡ false → list_any is_null (masked_rows bits rs) ≡ not (list_all (λ b. b) bits)
any_masked [] [] l e = refl
any_masked [] (r ∷ rs) l e = absurd (omega arith)
any_masked (b ∷ bits) [] l e = absurd (omega arith)
any_masked (b ∷ bits) (r ∷ rs) l e =
    let s = split_any (is_null r) (list_any is_null rs) e in
    rw (bit_of b r s.0, any_masked bits rs (omega arith) s.1) (joined b (list_all (λ b. b) bits))
  where
    joined : (b c : Bool) → (not b || not c) ≡ not (b && c)
    joined true c = refl
    joined false c = refl

pub bits_masked : (bits : List Bool) (rs : List PlainValue) → length bits ≡ length rs → list_any is_null rs ≡ false → valid_bits (masked_rows bits rs) ≡ bits
bits_masked [] [] l e = refl
bits_masked [] (r ∷ rs) l e = absurd (omega arith)
bits_masked (b ∷ bits) [] l e = absurd (omega arith)
bits_masked (b ∷ bits) (r ∷ rs) l e =
    let s = split_any (is_null r) (list_any is_null rs) e in
    rw (bit_of b r s.0, bits_masked bits rs (omega arith) s.1) (ap (λ c. c ∷ bits) (twice b))
  where
    twice : (b : Bool) → not (not b) ≡ b
    twice true = refl
    twice false = refl

pub validity-masked_rows : (bits : List Bool) (rs : List PlainValue) → length bits ≡ length rs → list_any is_null rs ≡ false → validity (masked_rows bits rs) ≡ kept (Some bits)
validity-masked_rows bits rs l e = rw (any_masked bits rs l e, bits_masked bits rs l e) (turned (list_all (λ b. b) bits))
  where
    turned : (b : Bool) → cond (not b) (Some bits) None ≡ cond b None (Some bits)
    turned true = refl
    turned false = refl

-- rows without nulls, under validity bits
pub any_null-valid_rows : (valid : Validity) (rs : List PlainValue) (n : Nullability) → IsValidityOf valid (length rs) n → list_any is_null rs ≡ false → list_any is_null (valid_rows valid rs) ≡ is_some valid
any_null-valid_rows None rs n h e = e
any_null-valid_rows (Some bits) rs n h e = any_masked bits rs h.0 e ∙ ap not h.2

pub validity-valid_rows : (valid : Validity) (rs : List PlainValue) (n : Nullability) → IsValidityOf valid (length rs) n → list_any is_null rs ≡ false → validity (valid_rows valid rs) ≡ valid
validity-valid_rows None rs n h e = rw e refl
validity-valid_rows (Some bits) rs n h e = validity-masked_rows bits rs h.0 e ∙ rw h.2 refl

pub validity-cells : (valid : Validity) (xs : List ℤ) (n : Nullability) → IsValidityOf valid (length xs) n → validity (valid_rows valid (map int xs)) ≡ valid
validity-cells valid xs n h = validity-valid_rows valid (map int xs) n (rw length-map h) (no_null-map-int xs)

-- validity has a bit per row
pub length-validity : {A : Type 0} (f : PlainValue → A) (vs : List PlainValue) → validity_length (validity vs) (length (map f vs)) ≡ true
length-validity f vs =
    cond_both (list_any is_null vs) (Some (valid_bits vs)) None (λ valid. validity_length valid (length (map f vs)) ≡ true)
    (λ some. eq-eqb _ _ (length-map vs (λ v. not (is_null v)) ∙ sym (length-map vs f))) (λ none. refl)

-- ---- the plain tree by its constructor

pub length-valid_bits : (vs : List PlainValue) → length (valid_bits vs) ≡ length vs
length-valid_bits vs = length-map vs (λ v. not (is_null v))

pub all_valid_bits : (vs : List PlainValue) → list_all (λ b. b) (valid_bits vs) ≡ not (list_any is_null vs)
all_valid_bits [] = refl
all_valid_bits (v ∷ vs) = rw (all_valid_bits vs) (joined (is_null v) (list_any is_null vs))
  where
    joined : (b c : Bool) → (not b && not c) ≡ not (b || c)
    joined true c = refl
    joined false c = refl

pub kept-validity : (vs : List PlainValue) → kept (validity vs) ≡ validity vs
kept-validity vs = by_any (list_any is_null vs) refl
  where
    by_any : (b : Bool) → list_any is_null vs ≡ b → kept (cond b (Some (valid_bits vs)) None) ≡ cond b (Some (valid_bits vs)) None
    by_any true e = rw (all_valid_bits vs, e) refl
    by_any false e = refl

-- a type that isn't nullable has no null
pub no_null : (t : PlainType) (vs : List PlainValue) → list_all (fits t) vs ≡ true → is_nullable t ≡ false → list_any is_null vs ≡ false
no_null t vs h e = by_any (list_any is_null vs) refl
  where
    by_any : (b : Bool) → list_any is_null vs ≡ b → b ≡ false
    by_any true f = let some : is_nullable t ≡ true = null-fitted t vs h f in absurd cc
    by_any false f = refl

pub null_allowed : (p : PType) (vs : List PlainValue) → list_all (fits (types.primitive p NonNullable)) vs ≡ true → list_any is_null vs ≡ false
null_allowed p vs h = no_null (types.primitive p NonNullable) vs h refl

-- the validity of fitting rows is accepted, for items of any kind
pub items_admitted : {A : Type 0} (f : PlainValue → A) (t : PlainType) (vs : List PlainValue) → list_all (fits t) vs ≡ true → primitive_refusal (length (map f vs)) (validity vs) (types.nullability_of t) ≡ None
items_admitted f t vs h = by_nullability (types.nullability_of t) (no_null t vs h)
  where
    by_any : (b : Bool) → primitive_refusal (length (map f vs)) (cond b (Some (valid_bits vs)) None) Nullable ≡ None
    by_any true = rw (eq-eqb _ _ (length-map vs (λ v. not (is_null v)) ∙ sym (length-map vs f))) refl
    by_any false = refl

    by_nullability : (n : Nullability) → (types.allows_null n ≡ false → list_any is_null vs ≡ false) → primitive_refusal (length (map f vs)) (validity vs) n ≡ None
    by_nullability NonNullable none = rw (none refl) refl
    by_nullability Nullable none = by_any (list_any is_null vs)

pub plain_admitted : (p : PType) (n : Nullability) (vs : List PlainValue) → list_all (fits (types.primitive p n)) vs ≡ true → primitive_refusal (length (map whole_or_zero vs)) (validity vs) n ≡ None
plain_admitted p n vs h = items_admitted whole_or_zero (types.primitive p n) vs h

-- the plain tree of a tree of integers
pub plain-integers : (t : Tree) (p : PType) (n : Nullability) → tree_type t ≡ types.primitive p n → plain (column_of t) ≡ primitive p (map whole_or_zero (rows t)) (validity (rows t)) n
plain-integers t p n e = rw e refl

-- ---- a constant, and the nodes' rows as their decoding needs them

map-copies : {A B : Type 0} (f : A → B) (len : ℕ) (x : A) → map f (replicate len x) ≡ replicate len (f x)
map-copies f zero x = refl
map-copies f (suc len) x = ap (λ ys. f x ∷ ys) (map-copies f len x)

pub copies-null : (len : ℕ) (z : ℤ) → map (or_default (int z)) (replicate len null) ≡ map int (replicate len z)
copies-null len z = map-copies (or_default (int z)) len null ∙ sym (map-copies int len z)

pub copies-int : (default : PlainValue) (len : ℕ) (z : ℤ) → map (or_default default) (replicate len (int z)) ≡ map int (replicate len z)
copies-int default len z = map-copies (or_default default) len (int z) ∙ sym (map-copies int len z)

any_null-one : (len : ℕ) (v : PlainValue) → is_null v ≡ false → list_any is_null (replicate len v) ≡ false
any_null-one zero v e = refl
any_null-one (suc len) v e = rw e (any_null-one len v e)

bits-nulls : (len : ℕ) (v : PlainValue) → is_null v ≡ true → valid_bits (replicate len v) ≡ replicate len false
bits-nulls zero v e = refl
bits-nulls (suc len) v e = rw e (ap (λ bs. false ∷ bs) (bits-nulls len v e))

pub validity-value : (len : ℕ) (v : PlainValue) → is_null v ≡ false → validity (replicate len v) ≡ None
validity-value len v e = rw (any_null-one len v e) refl

pub validity-none : (len : ℕ) (v : PlainValue) → len ≡ 0 → validity (replicate len v) ≡ None
validity-none zero v e = refl
validity-none (suc len) v e = absurd (omega arith)

pub validity-nulls : (len : ℕ) (v : PlainValue) → (len ≡ 0 → ⊥) → is_null v ≡ true → validity (replicate len v) ≡ Some (replicate len false)
validity-nulls zero v h e = absurd (h refl)
validity-nulls (suc len) v h e = rw (e, bits-nulls len v e) refl

pub ruleset decodes = (copies-null, copies-int, validity-value, validity-none, validity-nulls)

-- ---- the plain tree of a tree of integers

module _ (t : Tree) (n : Nullability) (xs : List ℤ) (valid : Validity) (wholes : xs ≡ map whole_or_zero (rows t)) (bits : valid ≡ validity (rows t)) (nullability : n ≡ types.nullability_of (tree_type t)) where
  pub canonical_refusal : WellFormed t → primitive_refusal (length xs) valid n ≡ None
  canonical_refusal h = rw (wholes, bits, nullability) (items_admitted whole_or_zero (tree_type t) (rows t) (rows_fit t h))

  pub canonical_tree : (p : PType) → is_integer (tree_type t) ≡ true → p ≡ types.integer_of (tree_type t) → primitive p xs (kept valid) n ≡ plain (column_of t)
  canonical_tree p integer kind = rw (kind, wholes, bits, nullability, kept-validity (rows t)) (by_type (tree_type t) integer)
    where
      by_type : (s : PlainType) → is_integer s ≡ true → primitive (types.integer_of s) (map whole_or_zero (rows t)) (validity (rows t)) (types.nullability_of s) ≡ plain_of s (rows t)
      by_type (types.primitive q m) e = refl
      by_type s e = absurd cc
