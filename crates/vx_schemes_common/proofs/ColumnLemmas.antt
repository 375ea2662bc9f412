-- A plain tree's numbers and validity are its column's, and what its column of other integers is.
use Rattle.std.proofs.Common.{◌≡◌, ◌∙◌, ℤ, List, length, map, sym, ap, subst}
use Rattle.std.proofs.lemmas.List.{length-map}
use Rattle.vx_base.specs.declared.ptype.PType.{PType}
use Rattle.vx_base.specs.declared.dtype.Nullability.{Nullability}
use Rattle.vx_base.specs.PlainType.{nullability_of}
use Rattle.vx_base.specs.PlainType as types
use Rattle.vx_base.specs.PlainValue.{whole_or_zero}
use Rattle.vx_model.specs.Column.{column}
use Rattle.vx_model.specs.Tree.{Tree, Validity, primitive}
use Rattle.vx_model.specs.TreeType.{tree_type}
use Rattle.vx_model.specs.Plain.{plain, plain_of, validity, IsPlain}
use Rattle.vx_model.specs.Rows.{rows, each_int}
use Rattle.vx_model.specs.WellFormed.{WellFormed}
use Rattle.vx_model.proofs.EachIntLemmas.{validity-each_int, length-each_int}
use Rattle.vx_model.proofs.RowLemmas.{length-primitive}

module _ (t : Tree) (p : PType) (xs : List ℤ) (valid : Validity) (n : Nullability) (w : WellFormed t) (at : t ≡ primitive p xs valid n) (is_plain : IsPlain t) where
  typed : tree_type t ≡ types.primitive p n
  typed = ap tree_type at

  plain_is : primitive p xs valid n ≡ primitive p (map whole_or_zero (rows t)) (validity (rows t)) n
  plain_is = sym at ∙ is_plain ∙ ap (λ s. plain_of s (rows t)) typed

  pub wholes_are : xs ≡ map whole_or_zero (rows t)
  wholes_are = cc plain_is

  pub validity_is : valid ≡ validity (rows t)
  validity_is = cc plain_is

  pub length_is : length (rows t) ≡ length xs
  length_is = ap (λ s. length (rows s)) at ∙ length-primitive p xs valid n (subst WellFormed at w)

-- ---- other integers, each of a row's, 0 beneath nulls

module _ (t : Tree) (q : PType) (f : ℤ → ℤ) (p : PType) (xs : List ℤ) (wholes : xs ≡ map whole_or_zero (map (each_int f) (rows t))) where
  pub each_int-long : length xs ≡ length (rows t)
  each_int-long = ap length wholes ∙ length-map (map (each_int f) (rows t)) whole_or_zero ∙ length-each_int f (rows t)

  pub each_int-plain : p ≡ q → primitive p xs (validity (rows t)) (nullability_of (tree_type t)) ≡ plain (column (types.primitive q (nullability_of (tree_type t))) (map (each_int f) (rows t)))
  each_int-plain typed = λ i. primitive (typed i) (wholes i) (sym (validity-each_int f (rows t)) i) (nullability_of (tree_type t))
