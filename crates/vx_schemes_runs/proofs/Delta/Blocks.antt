-- The bases and the differences of a plain tree are those of its column, and over their trees the node is admitted.
use Rattle.std.proofs.Common.{◌≡◌, ◌∙◌, ℤ, true, List, [], ◌∷◌, length, map, Some, None, sym, ap, subst}
use Rattle.std.specs.List.{list_all, list_any}
use Rattle.std.proofs.lemmas.Bool.{cond-false}
use Rattle.vx_base.specs.declared.ptype.PType.{PType}
use Rattle.vx_base.specs.declared.dtype.Nullability.{Nullability}
use Rattle.vx_base.specs.declared.dtype.Nullability.TheVariants.{NonNullable}
use Rattle.vx_base.specs.PlainScalar.{fits}
use Rattle.vx_base.specs.PlainType.{is_integer, integer_of, nullability_of}
use Rattle.vx_base.specs.PlainType as types
use Rattle.vx_base.specs.PlainValue.{int, is_null}
use Rattle.vx_blocks.specs.Deltas.{filled}
use Rattle.vx_blocks.specs.Optional.{optional_rows}
use Rattle.vx_model.specs.Column.{Column, IsColumn, column_of}
use Rattle.vx_model.specs.Plain.{plain, IsPlain, validity, valid_bits}
use Rattle.vx_model.specs.Refusals.{delta_refusal}
use Rattle.vx_model.specs.Rows.{rows}
use Rattle.vx_model.specs.Tree.{Tree, Validity, primitive}
use Rattle.vx_model.specs.TreeType.{tree_type}
use Rattle.vx_model.specs.WellFormed.{WellFormed}
use Rattle.vx_model.proofs.DecodeLemmas.{wholes-map-int, no_null-map-int}
use Rattle.vx_model.proofs.MadeLemmas.{rows_fit}
use Rattle.vx_schemes_common.specs.Pairs.{pair_of}
use Rattle.vx_schemes_common.proofs.BitsLemmas.{all_bits, all_bits-are}
use Rattle.vx_schemes_common.proofs.ColumnLemmas.{wholes_are}
use Rattle.vx_schemes_runs.specs.Delta.Laws.{optional-integers, delta-admitted}
use Rattle.vx_schemes_runs.specs.Delta.Tree.{whole_column, filled_rows, delta_bases, delta_differences}

-- the plain tree of integers without nulls
pub whole-plain : (c : Column) (zs : List ℤ) → primitive (integer_of c.dtype) zs None NonNullable ≡ plain (whole_column c zs)
whole-plain c zs = λ i. primitive (integer_of c.dtype) (sym (wholes-map-int zs) i) (sym none i) NonNullable
  where
    none : validity (map int zs) ≡ None
    none = cond-false (list_any is_null (map int zs)) (Some (valid_bits (map int zs))) None (no_null-map-int zs)

-- ---- the rows of a plain tree

module _ (t : Tree) (p : PType) (xs : List ℤ) (valid : Validity) (n : Nullability) (w : WellFormed t) (at : t ≡ primitive p xs valid n) (is_plain : IsPlain t) where
  pub filled_is : filled (optional_rows xs (all_bits t p xs valid n w at is_plain)) ≡ filled_rows (column_of t)
  filled_is =
      let fit : list_all (fits (types.primitive p n)) (rows t) ≡ true = subst (λ s. list_all (fits s) (rows t) ≡ true) (ap tree_type at) (rows_fit t w) in
      ap filled ((λ i. optional_rows (wholes_are t p xs valid n w at is_plain i) (all_bits-are t p xs valid n w at is_plain i)) ∙ optional-integers p n (rows t) fit)

  pub kind_is : p ≡ integer_of (tree_type t)
  kind_is = sym (ap (λ s. integer_of (tree_type s)) at)

-- ---- the two trees of the parts

some_same : {A : Type 0} (a b : A) → Some a ≡ Some b → a ≡ b
some_same a b e = cc

heads : {A : Type 0} (a b c d : A) → a ∷ b ∷ [] ≡ c ∷ d ∷ [] → (a ≡ c) × (b ≡ d)
heads a b c d e = (cc, cc)

pub joined-admitted : (c : Column) (trees : List Tree) (x y : Tree) → is_integer c.dtype ≡ true → IsColumn c → Some (x, y) ≡ pair_of trees → map column_of trees ≡ delta_bases c ∷ delta_differences c ∷ []
    → delta_refusal x y (length c.values) (validity c.values) (nullability_of c.dtype) ≡ None
joined-admitted c [] x y j h e fit = absurd cc
joined-admitted c (s ∷ []) x y j h e fit = absurd cc
joined-admitted c (s ∷ t ∷ []) x y j h e fit =
    let pair : (x, y) ≡ (s, t) = some_same (x, y) (s, t) e in
    let columns = heads (column_of s) (column_of t) (delta_bases c) (delta_differences c) fit in
    delta-admitted c x y j h (ap (λ q. column_of q.0) pair ∙ columns.0) (ap (λ q. column_of q.1) pair ∙ columns.1)
joined-admitted c (s ∷ t ∷ u ∷ us) x y j h e fit = absurd cc
