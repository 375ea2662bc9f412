-- The constructors accept the plain trees within the plain tree of a nested column.
use Rattle.std.proofs.Common.{◌≡◌, ℕ, List, length, Bool, true, false, Option, Some, None, refl, ap}
use Rattle.std.specs.Prelude.{not}
use Rattle.std.specs.List.{list_all}
use Rattle.std.proofs.lemmas.Bool.{and_from, eq-eqb}
use Rattle.vx_base.specs.declared.error.VortexError.{VortexError}
use Rattle.vx_base.specs.declared.error.VortexError.TheVariants.{MismatchedTypes}
use Rattle.vx_base.specs.declared.ptype.PType.TheVariants.{I64}
use Rattle.vx_base.specs.declared.dtype.Nullability.{Nullability}
use Rattle.vx_base.specs.declared.dtype.Nullability.TheVariants.{Nullable}
use Rattle.vx_base.specs.Answers.{unless}
use Rattle.vx_base.specs.PlainScalar.{fits}
use Rattle.vx_base.specs.PlainType.{PlainType, PlainFields, allows_null, stored_type}
use Rattle.vx_base.specs.PlainType as types
use Rattle.vx_base.specs.PlainValue.{PlainValue}
use Rattle.vx_base.specs.Storable.{same_refl}
use Rattle.vx_model.specs.Nested.{struct_rows, names_of, list_rows, elements, fixed_elements}
use Rattle.vx_model.specs.Plain.{validity, plain_of, plain_fields, plain_offsets}
use Rattle.vx_model.specs.Refusals.{validity_allowed, structure_refusal, list_refusal, fixed_size_list_refusal, timestamp_refusal}
use Rattle.vx_model.specs.Tree.{Validity}
use Rattle.vx_model.specs.WellFormed.{IsValidityOf}
use Rattle.vx_model.proofs.MadeLemmas.{has_length}
use Rattle.vx_model.proofs.NestedLemmas.{struct_rows-fit, length-struct_rows}
use Rattle.vx_model.proofs.PlainLemmas.{length-plain_fields, plain_fields-rows, validity-rows, lists, fixed_lists}

pass : (b : Bool) (e : VortexError) (others : Option VortexError) → b ≡ true → others ≡ None → unless b e others ≡ None
pass true e others h o = o
pass false e others h o = absurd cc

-- bits of a node stand in a nullable one alone
may_stand : (valid : Validity) (len : ℕ) (n : Nullability) → IsValidityOf valid len n → validity_allowed valid n ≡ true
may_stand None len n h = refl
may_stand (Some bits) len Nullable h = refl
may_stand (Some bits) len n h = absurd (let e : n ≡ Nullable = h.1 in cc)

not_so : (b : Bool) → b ≡ false → not b ≡ true
not_so b e = ap not e

pub structure_admitted : (fs : PlainFields) (n : Nullability) (vs : List PlainValue) → list_all (fits (types.structure fs n)) vs ≡ true
    → structure_refusal (names_of fs) (plain_fields fs (struct_rows fs vs)) (length vs) (validity vs) n ≡ None
structure_admitted fs n vs h =
    let rs = struct_rows fs vs in
    let bits = validity-rows (types.structure fs n) vs (length vs) h refl in
    let named = eq-eqb _ _ (length-plain_fields fs rs) in
    let rows = plain_fields-rows fs rs (length vs) (length-struct_rows fs vs) (struct_rows-fit fs n vs h) in
    pass _ _ _ (and_from _ _ named (and_from _ _ rows (has_length _ _ n bits))) (pass _ _ _ (may_stand _ _ _ bits) refl)

pub list_admitted : (t : PlainType) (n : Nullability) (vs : List PlainValue) → list_all (fits (types.list t n)) vs ≡ true
    → list_refusal (plain_of t (elements vs)) (plain_offsets (list_rows vs)) (validity vs) n ≡ None
list_admitted t n vs h =
    let is = lists t n vs h in
    pass _ MismatchedTypes _ (and_from _ _ is.offsets_type (not_so _ is.not_null))
    (pass _ _ _ (and_from _ _ is.some (has_length _ _ n is.validity)) (pass _ _ _ is.ends (pass _ _ _ (may_stand _ _ _ is.validity) refl)))

pub fixed_size_list_admitted : (t : PlainType) (size : ℕ) (n : Nullability) (vs : List PlainValue) → list_all (fits (types.fixed_size_list t size n)) vs ≡ true
    → fixed_size_list_refusal (plain_of t (fixed_elements t size vs)) size (length vs) (validity vs) n ≡ None
fixed_size_list_admitted t size n vs h =
    let is = fixed_lists t size n vs h in
    pass _ _ _ (and_from _ _ (eq-eqb _ _ is.lengths) (has_length _ _ n is.validity)) (pass _ _ _ (may_stand _ _ _ is.validity) refl)

pub stamps_admitted : (n : Nullability) (vs : List PlainValue) → timestamp_refusal (plain_of (types.primitive I64 n) vs) ≡ None
stamps_admitted n vs = pass _ _ _ (same_refl stored_type (types.primitive I64 n) (types.primitive I64 n) refl) refl
