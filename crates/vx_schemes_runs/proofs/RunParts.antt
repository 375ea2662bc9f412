-- The rows of a plain tree of integers: as optional whole numbers, and some of them as a plain tree.
use Rattle.std.proofs.Common.{◌≡◌, ◌∙◌, ℕ, ℤ, pos, Bool, true, false, cond, List, [], ◌∷◌, length, map, get_or, Option, Some, None, refl, sym, ap, subst}
use Rattle.std.specs.Prelude.{not, nat_lt, replicate, unwrap_or}
use Rattle.std.specs.List.{list_all, list_any}
use Rattle.std.proofs.Math.ListN.{get_or-map}
use Rattle.std.proofs.lemmas.Bool.{eq-eqb}
use Rattle.std.proofs.lemmas.List.{length-map}
use Rattle.vx_base.specs.declared.ptype.PType.{PType}
use Rattle.vx_base.specs.declared.dtype.Nullability.{Nullability}
use Rattle.vx_base.specs.declared.dtype.Nullability.TheVariants.{NonNullable, Nullable}
use Rattle.vx_base.specs.IntegersIn.{integer_in}
use Rattle.vx_base.specs.PlainScalar.{fits}
use Rattle.vx_base.specs.PlainType as types
use Rattle.vx_base.specs.PlainValue.{PlainValue, null, cell, is_null, whole_or_zero}
use Rattle.vx_base.proofs.IntegerLemmas.{by_cells}
use Rattle.vx_blocks.specs.Optional.{optional_rows}
use Rattle.vx_model.specs.Column.{column_of}
use Rattle.vx_model.specs.Plain.{plain, plain_of, validity, valid_bits, IsPlain}
use Rattle.vx_model.specs.Refusals.{primitive_refusal, validity_allowed, kept}
use Rattle.vx_model.specs.Rows.{rows, row_at}
use Rattle.vx_model.specs.Tree.{Tree, Validity, primitive}
use Rattle.vx_model.specs.TreeType.{tree_type}
use Rattle.vx_model.specs.WellFormed.{WellFormed}
use Rattle.vx_model.proofs.DecodeLemmas.{all_valid_bits, length-valid_bits, null_allowed}
use Rattle.vx_model.proofs.MadeLemmas.{rows_fit}
use Rattle.vx_schemes_common.proofs.BitsLemmas.{all_bits-are}
use Rattle.vx_schemes_common.proofs.ColumnLemmas.{wholes_are, length_is}
use Rattle.vx_schemes_runs.specs.RowsAt.{optional_wholes, rows_at}
use Rattle.vx_schemes_runs.specs.RowsAtLaws.{rows_at-column}

-- ---- bits that stand for nulls

kept-bits : (vs : List PlainValue) → kept (Some (valid_bits vs)) ≡ validity vs
kept-bits vs = ap (λ b. cond b None (Some (valid_bits vs))) (all_valid_bits vs) ∙ by_any (list_any is_null vs)
  where
    by_any : (b : Bool) → cond (not b) None (Some (valid_bits vs)) ≡ cond b (Some (valid_bits vs)) None
    by_any true = refl
    by_any false = refl

bits-allowed : (p : PType) (n : Nullability) (vs : List PlainValue) → list_all (fits (types.primitive p n)) vs ≡ true → validity_allowed (Some (valid_bits vs)) n ≡ true
bits-allowed p Nullable vs h = refl
bits-allowed p NonNullable vs h = all_valid_bits vs ∙ ap not (null_allowed p vs h)

-- ---- optional whole numbers

optional-cells : (os : List (Option ℤ)) → optional_rows (map whole_or_zero (map cell os)) (valid_bits (map cell os)) ≡ map integer_in (map cell os)
optional-cells [] = refl
optional-cells (None ∷ os) = ap (λ l. None ∷ l) (optional-cells os)
optional-cells (Some z ∷ os) = ap (λ l. Some z ∷ l) (optional-cells os)

-- ---- rows by their numbers

wholes-at : (vs : List PlainValue) (numbers : List ℕ) → map (λ k. get_or (map whole_or_zero vs) k (pos 0)) numbers ≡ map whole_or_zero (map (row_at vs) numbers)
wholes-at vs [] = refl
wholes-at vs (k ∷ numbers) =
    let here = get_or-map whole_or_zero vs k null in
    let rest = wholes-at vs numbers in
    λ i. here i ∷ rest i

bits-at : (vs : List PlainValue) (numbers : List ℕ) → map (λ k. get_or (valid_bits vs) k false) numbers ≡ valid_bits (map (row_at vs) numbers)
bits-at vs [] = refl
bits-at vs (k ∷ numbers) =
    let here = get_or-map (λ v. not (is_null v)) vs k null in
    let rest = bits-at vs numbers in
    λ i. here i ∷ rest i

module _ (t : Tree) (p : PType) (xs : List ℤ) (valid : Validity) (n : Nullability) (at : primitive p xs valid n ≡ t) (w : WellFormed (primitive p xs valid n)) (is_plain : IsPlain t) where
  well : WellFormed t
  well = subst WellFormed at w

  typed : tree_type t ≡ types.primitive p n
  typed = ap tree_type (sym at)

  fitting : list_all (fits (types.primitive p n)) (rows t) ≡ true
  fitting = subst (λ s. list_all (fits s) (rows t) ≡ true) typed (rows_fit t well)

  numbers_are : xs ≡ map whole_or_zero (rows t)
  numbers_are = wholes_are t p xs valid n well (sym at) is_plain

  pub bits_are : (len : ℕ) → len ≡ length xs → unwrap_or valid (replicate len true) ≡ valid_bits (rows t)
  bits_are len e = ap (λ k. unwrap_or valid (replicate k true)) e ∙ all_bits-are t p xs valid n well (sym at) is_plain

  module _ (bits : List Bool) (own : bits ≡ valid_bits (rows t)) where
    pub bits_long : length bits ≡ length xs
    bits_long = ap length own ∙ length-valid_bits (rows t) ∙ length_is t p xs valid n well (sym at) is_plain

    pub optional_are : optional_rows xs bits ≡ optional_wholes (column_of t)
    optional_are = (λ i. optional_rows (numbers_are i) (own i)) ∙ by_cells p n (λ vs. optional_rows (map whole_or_zero vs) (valid_bits vs) ≡ map integer_in vs) (λ os f. optional-cells os) (rows t) fitting

    module _ (numbers : List ℕ) (within : list_all (λ k. nat_lt k (length (rows t))) numbers ≡ true) where
      abbrev some : List PlainValue
      some = map (row_at (rows t)) numbers

      pub within_wholes : list_all (λ k. nat_lt k (length xs)) numbers ≡ true
      within_wholes = ap (λ m. list_all (λ k. nat_lt k m) numbers) (sym (length_is t p xs valid n well (sym at) is_plain)) ∙ within

      pub within_bits : list_all (λ k. nat_lt k (length bits)) numbers ≡ true
      within_bits = ap (λ m. list_all (λ k. nat_lt k m) numbers) bits_long ∙ within_wholes

      some_fit : list_all (fits (types.primitive p n)) some ≡ true
      some_fit = subst (λ s. list_all (fits s) some ≡ true) typed (rows_at-column (column_of t) numbers (rows_fit t well) within)

      module _ (q : PType) (ys : List ℤ) (taken : List Bool) (q_is : q ≡ p) (ys_are : ys ≡ map (λ k. get_or xs k (pos 0)) numbers) (taken_are : taken ≡ map (λ k. get_or bits k false) numbers) where
        some_wholes : ys ≡ map whole_or_zero some
        some_wholes = ys_are ∙ ap (λ zs. map (λ k. get_or zs k (pos 0)) numbers) numbers_are ∙ wholes-at (rows t) numbers

        some_bits : taken ≡ valid_bits some
        some_bits = taken_are ∙ ap (λ bs. map (λ k. get_or bs k false) numbers) own ∙ bits-at (rows t) numbers

        pub some_admitted : primitive_refusal (length ys) (Some taken) n ≡ None
        some_admitted =
            let long : length taken ≡ length ys = ap length some_bits ∙ length-valid_bits some ∙ sym (length-map some whole_or_zero) ∙ sym (ap length some_wholes) in
            let allowed : validity_allowed (Some taken) n ≡ true = ap (λ bs. validity_allowed (Some bs) n) some_bits ∙ bits-allowed p n some some_fit in
            rw (eq-eqb (length taken) (length ys) long, allowed) refl

        pub some_plain : primitive q ys (kept (Some taken)) n ≡ plain (rows_at (column_of t) numbers)
        some_plain =
            let masked : kept (Some taken) ≡ validity some = ap (λ bs. kept (Some bs)) some_bits ∙ kept-bits some in
            (λ i. primitive (q_is i) (some_wholes i) (masked i) n) ∙ ap (λ s. plain_of s some) (sym typed)
