-- The default of a type is of the type.
use Rattle.std.proofs.Common.{◌≡◌, ◌∙◌, ap, ℕ, zero, suc, [], length, true, pos, refl, eq-eqb}
use Rattle.std.specs.Prelude.{◌==◌, replicate}
use Rattle.std.proofs.lemmas.Bool.{and_from, cond_both}
use Rattle.std.proofs.lemmas.List.{length-replicate}
use Rattle.std.proofs.lemmas.Str.{IsUtf8-nil, is_utf8-from_IsUtf8}
use Rattle.vx_base.specs.declared.ptype.PType.{PType}
use Rattle.vx_base.specs.declared.ptype.PType.TheVariants.{U8, U16, U32, U64, I8, I16, I32, I64}
use Rattle.vx_base.specs.Defaults.{default_of, field_defaults, null_or_default}
use Rattle.vx_base.specs.Integers.{lies_in}
use Rattle.vx_base.specs.PlainScalar.{fits, fields_fit, items_fit}
use Rattle.vx_base.specs.PlainType.{PlainType, PlainFields, null_type, boolean, primitive, utf8, binary, timestamp, structure, list, fixed_size_list, none, more, is_nullable}
use Rattle.vx_base.specs.PlainValue.{PlainValue, null, of_list, list_of}
use Rattle.vx_base.proofs.WithinLemmas.{list_of-of_list}

pub lies_in-zero : (p : PType) → lies_in p (pos 0) ≡ true
lies_in-zero U8 = refl
lies_in-zero U16 = refl
lies_in-zero U32 = refl
lies_in-zero U64 = refl
lies_in-zero I8 = refl
lies_in-zero I16 = refl
lies_in-zero I32 = refl
lies_in-zero I64 = refl

-- `size` equal values, for a list of fixed size
items_fit-replicate : (t : PlainType) (v : PlainValue) (n : ℕ) → fits t v ≡ true → items_fit t (of_list (replicate n v)) ≡ true
items_fit-replicate t v zero h = refl
items_fit-replicate t v (suc n) h = and_from _ _ h (items_fit-replicate t v n h)

length-replicated : (v : PlainValue) (n : ℕ) → length (list_of (of_list (replicate n v))) == n ≡ true
length-replicated v n = eq-eqb _ n (ap length (list_of-of_list (replicate n v)) ∙ length-replicate n v)

mutual
  pub fits-default_of : (t : PlainType) → fits t (default_of t) ≡ true
  fits-default_of null_type = refl
  fits-default_of (boolean n) = refl
  fits-default_of (primitive p n) = lies_in-zero p
  fits-default_of (utf8 n) = is_utf8-from_IsUtf8 [] IsUtf8-nil
  fits-default_of (binary n) = refl
  fits-default_of (timestamp k n) = refl
  fits-default_of (structure fs n) = fields_fit-field_defaults fs
  fits-default_of (list t n) = refl
  fits-default_of (fixed_size_list t size n) =
      and_from _ _ (length-replicated (null_or_default t) size) (items_fit-replicate t (null_or_default t) size (cond_both (is_nullable t) null (default_of t) (λ v. fits t v ≡ true) (λ e. e) (λ e. fits-default_of t)))

  pub fields_fit-field_defaults : (fs : PlainFields) → fields_fit fs (field_defaults fs) ≡ true
  fields_fit-field_defaults none = refl
  fields_fit-field_defaults (more name t fs) =
      and_from _ _ (cond_both (is_nullable t) null (default_of t) (λ v. fits t v ≡ true) (λ e. e) (λ e. fits-default_of t)) (fields_fit-field_defaults fs)

pub fits-null_or_default : (t : PlainType) → fits t (null_or_default t) ≡ true
fits-null_or_default t = cond_both (is_nullable t) null (default_of t) (λ v. fits t v ≡ true) (λ e. e) (λ e. fits-default_of t)

pub ruleset fitting = (fits-null_or_default)
