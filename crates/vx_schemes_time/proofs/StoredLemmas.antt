-- The parts as they are split off, in the narrowest type for them.
use Rattle.std.proofs.Common.{◌≡◌, ◌∙◌, ℕ, zero, suc, ℤ, pos, true, false, List, ◌∷◌, map, Some, None, refl, sym, ap, subst}
use Rattle.std.specs.Prelude.{fold, replicate}
use Rattle.std.specs.Int.{int_max, int_min}
use Rattle.std.specs.List.{list_all, list_any}
use Rattle.vx_base.specs.declared.array_id.ArrayId.TheVariants as ids
use Rattle.vx_base.specs.declared.dtype.Nullability.{Nullability}
use Rattle.vx_base.specs.declared.dtype.Nullability.TheVariants.{NonNullable}
use Rattle.vx_base.specs.declared.ptype.PType.{PType}
use Rattle.vx_base.specs.declared.ptype.PType.TheVariants.{U8, I32}
use Rattle.vx_base.specs.Integers.{lies_in}
use Rattle.vx_base.specs.Narrow.{narrow_of}
use Rattle.vx_base.specs.PlainScalar.{fits}
use Rattle.vx_base.specs.PlainType.{is_integer, nullability_of}
use Rattle.vx_base.specs.PlainType as types
use Rattle.vx_base.specs.PlainValue.{int, is_null, whole_or_zero}
use Rattle.vx_model.specs.Column.{column_of}
use Rattle.vx_model.specs.Nodes.{encoding}
use Rattle.vx_model.specs.Plain.{plain, plain_of, validity}
use Rattle.vx_model.specs.Rows.{rows}
use Rattle.vx_model.specs.Tree.{Tree, primitive}
use Rattle.vx_model.specs.TreeType.{tree_type}
use Rattle.vx_model.specs.WellFormed.{WellFormed}
use Rattle.vx_model.proofs.MadeLemmas.{rows_fit}
use Rattle.vx_model.proofs.PrimitiveLemmas.{encoding-plain}
use Rattle.vx_schemes_time.specs.Narrowest.{all_fit, narrowest, narrowed}
use Rattle.vx_schemes_time.specs.NarrowestLaws.{narrowest-holds}
use Rattle.vx_schemes_time.specs.Stored.{IsStored32, constant_zeros}
use Rattle.vx_schemes_time.proofs.ExtremeLemmas.{fit-by-stored, narrowest-is}

-- ---- plain integers

pub stored-root : (t : Tree) → IsStored32 t → encoding t ≡ ids.Primitive
stored-root t own = encoding-plain t (ap is_integer own.integers) own.own

-- with the type that the code picks for them
module _ (t : Tree) (own : IsStored32 t) (well : WellFormed t) (xs : List ℤ) (q : PType) (wholes : xs ≡ map whole_or_zero (rows t)) (narrow : narrow_of (fold int_min (pos 0) xs) (fold int_max (pos 0) xs) ≡ Some q) where
  abbrev n : Nullability
  n = nullability_of (tree_type t)

  fit : all_fit (nullability_of (tree_type t)) (rows t) I32 ≡ true
  fit = subst (λ s. list_all (fits s) (rows t) ≡ true) own.integers (rows_fit t well)

  typed : q ≡ narrowest (nullability_of (tree_type t)) (rows t)
  typed = narrowest-is n (rows t) xs q fit wholes narrow

  pub narrowed-held : list_all (lies_in q) xs ≡ true
  narrowed-held = (λ i. list_all (lies_in (typed i)) (wholes i)) ∙ sym (fit-by-stored (narrowest n (rows t)) n (rows t) fit) ∙ narrowest-holds n (rows t) fit

  pub narrowed-made : (p : PType) (ys : List ℤ) → p ≡ q → ys ≡ xs → primitive p ys (validity (rows t)) (nullability_of (tree_type t)) ≡ plain (narrowed (column_of t))
  narrowed-made p ys same stored = λ i. primitive ((same ∙ typed) i) ((stored ∙ wholes) i) (validity (rows t)) n

  pub narrowed-own : q ≡ I32 → t ≡ plain (narrowed (column_of t))
  narrowed-own same = own.own ∙ ap (λ s. plain_of s (rows t)) (own.integers ∙ ap (λ p. types.primitive p n) (sym same ∙ typed))

-- ---- 0 in each row

zeros-fit : (len : ℕ) → all_fit NonNullable (replicate len (int (pos 0))) U8 ≡ true
zeros-fit zero = refl
zeros-fit (suc len) = zeros-fit len

zeros-whole : (len : ℕ) → list_any is_null (replicate len (int (pos 0))) ≡ false
zeros-whole zero = refl
zeros-whole (suc len) = zeros-whole len

zeros-stored : (len : ℕ) → map whole_or_zero (replicate len (int (pos 0))) ≡ replicate len (pos 0)
zeros-stored zero = refl
zeros-stored (suc len) = λ i. pos 0 ∷ zeros-stored len i

pub narrowed-zeros : (len : ℕ) → primitive U8 (replicate len (pos 0)) None NonNullable ≡ plain (narrowed (column_of (constant_zeros len)))
narrowed-zeros len = rw (zeros-fit len, zeros-whole len, zeros-stored len) refl
