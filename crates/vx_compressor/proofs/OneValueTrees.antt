-- Trees of nulls alone, and of one value behind the validity of rows.
use Rattle.std.proofs.Common.{◌≡◌, ◌≢◌, ◌<◌, ◌∙◌, ℕ, Bool, List, [], ◌∷◌, length, true, false, cond, Some, None, refl, sym, ap, subst, arith}
use Rattle.std.specs.Prelude.{Result, ◌==◌, not, replicate, position, option_map, nat_lt}
use Rattle.std.specs.List.{list_all, list_any, position_or_len}
use Rattle.std.proofs.lemmas.List.{length-replicate}
use Rattle.std.proofs.lemmas.Bool.{and_parts, cond_both, cond-true, cond-false, eq-eqb, ltb-true}
use Rattle.vx_base.specs.declared.error.VortexError.{VortexError}
use Rattle.vx_base.specs.Answers.{Answers}
use Rattle.vx_base.specs.PlainScalar.{fits, scalar}
use Rattle.vx_base.specs.PlainType.{PlainType, is_flat, is_nullable}
use Rattle.vx_base.proofs.NullLemmas.{by_null, null-fitted}
use Rattle.vx_base.specs.PlainValue.{PlainValue, is_null}
use Rattle.vx_model.specs.Plain.{valid_bits, validity}
use Rattle.vx_model.specs.Refusals.{masked_refusal}
use Rattle.vx_model.specs.Tree.{Tree, Validity, constant}
use Rattle.vx_model.specs.Column.{column_of}
use Rattle.vx_model.specs.Leaf.{first_valid, one_value_tree}
use Rattle.vx_model.specs.Rows.{rows, row_at}
use Rattle.vx_model.specs.TreeType.{tree_type}
use Rattle.vx_model.specs.WellFormed.{WellFormed}
use Rattle.vx_model.proofs.MadeLemmas.{rows_fit}
use Rattle.vx_model.proofs.NullLemmas.{any_null-replicate}
use Rattle.vx_model.proofs.OneValueLemmas.{first_valid-position, first_valid-valid}
use Rattle.vx_model.proofs.PlainLemmas.{length-valid_bits}
use Rattle.vx_compressor.specs.Behind.{behind, behind_refusal}

pub answers_along : {A : Type 0} (result : Result A VortexError) (x y : A) → x ≡ y → Answers result x → Answers result y
answers_along result x y e h = subst (λ z. Answers result z) e h

-- ---- values that fit

pub nulls_fit : (t : PlainType) (vs : List PlainValue) → length vs ≢ 0 → first_valid vs ≡ None → list_all (fits t) vs ≡ true → is_nullable t ≡ true
nulls_fit t [] full e h = absurd (full refl)
nulls_fit t (v ∷ vs) full e h = null-fitted t (v ∷ vs) h (first v e)
  where
    some : (w : PlainValue) → Some w ≡ None → ⊥
    some w q = cc

    first : (w : PlainValue) → first_valid (w ∷ vs) ≡ None → list_any is_null (w ∷ vs) ≡ true
    first = by_null (λ w. first_valid (w ∷ vs) ≡ None → list_any is_null (w ∷ vs) ≡ true) (λ q. refl) (λ w f q. absurd (some w (rw f at q)))

-- a tree of nulls alone has a nullable type
pub nulls_nullable : (t : Tree) → WellFormed t → length (rows t) ≢ 0 → first_valid (rows t) ≡ None → is_nullable (tree_type t) ≡ true
nulls_nullable t w full e = nulls_fit (tree_type t) (rows t) full e (rows_fit t w)

pub first_fits_in : (t : PlainType) (vs : List PlainValue) (v : PlainValue) → first_valid vs ≡ Some v → list_all (fits t) vs ≡ true → fits t v ≡ true
first_fits_in t [] v e h = absurd cc
first_fits_in t (w ∷ vs) v e h = let b = and_parts (fits t w) (list_all (fits t) vs) h in by_test (is_null w) e (λ q. first_fits_in t vs v q b.1) b.0
  where
    by_test : (is : Bool) → cond is (first_valid vs) (Some w) ≡ Some v → (first_valid vs ≡ Some v → fits t v ≡ true) → fits t w ≡ true → fits t v ≡ true
    by_test true q later k = later q
    by_test false q later k = let same : w ≡ v = cc in subst (λ u. fits t u ≡ true) same k

-- the first valid value fits the type
pub first_fits : (t : Tree) (v : PlainValue) → WellFormed t → first_valid (rows t) ≡ Some v → fits (tree_type t) v ≡ true
first_fits t v w e = first_fits_in (tree_type t) (rows t) v e (rows_fit t w)

pub ruleset fitting = (nulls_nullable, first_fits)

-- ---- one value behind the validity of a tree's rows

pub record IsBehind (valid : Validity) (child t : Tree) (v : PlainValue) : Type 0 where
  pub admitted : behind_refusal valid child ≡ None
  pub one : behind valid child ≡ one_value_tree (column_of t) v

module _ (t : Tree) (v : PlainValue) (w : WellFormed t) (flat : is_flat (tree_type t) ≡ true) (some : is_null v ≡ false) where
  abbrev every : Tree
  every = constant (scalar (tree_type t) v) (length (rows t))

  -- where some row is null, so is the type
  admitted-some : list_any is_null (rows t) ≡ true → masked_refusal every (valid_bits (rows t)) ≡ None
  admitted-some null =
      let nullable : is_nullable (tree_type t) ≡ true = null-fitted (tree_type t) (rows t) (rows_fit t w) null in
      let lengths : (length (valid_bits (rows t)) == length (replicate (length (rows t)) v)) ≡ true = eq-eqb _ _ (length-valid_bits (rows t) ∙ sym (length-replicate (length (rows t)) v)) in
      rw (flat, nullable, lengths, any_null-replicate (length (rows t)) v some) refl

  behind-rows : IsBehind (validity (rows t)) every t v
  behind-rows = cond_both (list_any is_null (rows t)) (Some (valid_bits (rows t))) None (λ valid. IsBehind valid every t v)
      (λ null. record { admitted = admitted-some null; one = sym (cond-true _ _ _ null) })
      (λ none. record { admitted = refl; one = sym (cond-false _ _ _ none) })

pub behind_of : (t child : Tree) (valid : Validity) (v : PlainValue) → WellFormed t → is_flat (tree_type t) ≡ true → is_null v ≡ false → valid ≡ validity (rows t) → child ≡ constant (scalar (tree_type t) v) (length (rows t)) → IsBehind valid child t v
behind_of t child valid v w flat some e f = subst (λ u. IsBehind u child t v) (sym e) (subst (λ x. IsBehind (validity (rows t)) x t v) (sym f) (behind-rows t v w flat some))

-- ---- the first valid row

-- it is none where every row is null, else one of the rows
pub record IsFirst (vs : List PlainValue) (row : ℕ) : Type 0 where
  pub in_range : row < length vs
  pub first : first_valid vs ≡ Some (row_at vs row)
  pub some : is_null (row_at vs row) ≡ false

pub first-none : (vs : List PlainValue) → None ≡ position (λ v. not (is_null v)) vs → first_valid vs ≡ None
first-none vs e = first_valid-position vs ∙ ap (option_map (row_at vs)) (sym e)

pub first-some : (vs : List PlainValue) (row : ℕ) → Some row ≡ position (λ v. not (is_null v)) vs → IsFirst vs row
first-some vs row e =
    let first = first_valid-position vs ∙ ap (option_map (row_at vs)) (sym e) in
    record { in_range = place (nat_lt at (length vs)) refl e; first = first; some = first_valid-valid vs (row_at vs row) first }
  where
    at : ℕ
    at = position_or_len (λ v. not (is_null v)) vs

    place : (b : Bool) → nat_lt at (length vs) ≡ b → Some row ≡ cond b (Some at) None → row < length vs
    place true l is = let same : row ≡ at = cc in let less = ltb-true at (length vs) l in omega (arith, same, less)
    place false l is = absurd cc
