-- Rows taken from a constant.
use Rattle.std.proofs.Common.{◌≡◌, ℕ, ℤ, pos, negsuc, true, false, List, [], ◌∷◌, Some, None, length, map, refl, sym, ap}
use Rattle.std.specs.Prelude.{replicate}
use Rattle.std.specs.List.{list_all}
use Rattle.std.proofs.lemmas.Bool.{and_parts, ltb-true}
use Rattle.vx_base.specs.declared.dtype.Nullability.{Nullability}
use Rattle.vx_base.specs.declared.dtype.Nullability.TheVariants.{NonNullable, Nullable}
use Rattle.vx_base.specs.declared.ptype.PType.{PType}
use Rattle.vx_base.specs.PlainScalar.{PlainScalar}
use Rattle.vx_base.specs.PlainType.{PlainType, allows_null, nullability_of, or_nullable, with_nullability}
use Rattle.vx_base.specs.PlainType as types
use Rattle.vx_base.specs.PlainValue.{PlainValue, int}
use Rattle.vx_model.specs.Column.{column, column_of}
use Rattle.vx_model.specs.Rows.{looked_up, rows}
use Rattle.vx_model.specs.Tree.{Validity, constant, primitive}
use Rattle.vx_model.specs.WellFormed.{WellFormed, is_place}
use Rattle.vx_model.proofs.RowLemmas.{row_at-replicate}
use Rattle.vx_rules.specs.Selections.{taken}

-- ---- the type stays by indices of a type without null

or-none : (n : Nullability) → n ≡ or_nullable n NonNullable
or-none NonNullable = refl
or-none Nullable = refl

type-stays : (t : PlainType) → t ≡ with_nullability t (or_nullable (nullability_of t) NonNullable)
type-stays types.null_type = refl
type-stays (types.boolean n) = ap types.boolean (or-none n)
type-stays (types.primitive p n) = ap (types.primitive p) (or-none n)
type-stays (types.utf8 n) = ap types.utf8 (or-none n)
type-stays (types.binary n) = ap types.binary (or-none n)
type-stays (types.timestamp k n) = ap (types.timestamp k) (or-none n)
type-stays (types.structure fs n) = ap (types.structure fs) (or-none n)
type-stays (types.list t n) = ap (types.list t) (or-none n)
type-stays (types.fixed_size_list t size n) = ap (types.fixed_size_list t size) (or-none n)

-- ---- each index has the one row

copies-looked_up : (v : PlainValue) (len : ℕ) (zs : List ℤ) → list_all (is_place len) (map int zs) ≡ true → replicate (length zs) v ≡ map (looked_up (replicate len v)) (map int zs)
copies-looked_up v len [] h = refl
copies-looked_up v len (pos k ∷ zs) h =
    let a = and_parts (is_place len (int (pos k))) (list_all (is_place len) (map int zs)) h in
    λ i. sym (row_at-replicate len k v (ltb-true _ _ a.0)) i ∷ copies-looked_up v len zs a.1 i
copies-looked_up v len (negsuc k ∷ zs) h = absurd cc

unlike : NonNullable ≡ Nullable → ⊥
unlike e = cc

pub constant_taken : (s : PlainScalar) (len : ℕ) (p : PType) (zs : List ℤ) (valid : Validity) (n : Nullability) → WellFormed (primitive p zs valid n) → allows_null n ≡ false
    → list_all (is_place len) (rows (primitive p zs valid n)) ≡ true → column_of (constant s (length zs)) ≡ taken (column_of (constant s len)) (column_of (primitive p zs valid n))
constant_taken s len p zs valid Nullable w f h = absurd cc
constant_taken s len p zs (Some bits) NonNullable w f h = absurd (unlike w.0.validity.1)
constant_taken s len p zs None NonNullable w f h = λ i. column (type-stays s.dtype i) (copies-looked_up s.value len zs h i)
