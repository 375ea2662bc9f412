-- Roots with narrowed validity and a wider type: admitted, and of the rows that the validity leaves.
use Rattle.std.proofs.Common.{◌≡◌, ◌-◌, ℕ, zero, suc, ℤ, Bool, true, false, cond, List, [], ◌∷◌, length, map, Some, None, refl, sym, ap, subst, arith, ◌∙◌}
use Rattle.std.specs.Prelude.{not, replicate}
use Rattle.std.specs.List.{list_all}
use Rattle.std.proofs.lemmas.Bool.{and_from, and_parts, eq-eqb, eqb-true}
use Rattle.std.proofs.lemmas.List.{length-map, length-replicate}
use Rattle.vx_base.specs.declared.dtype.Nullability.{Nullability}
use Rattle.vx_base.specs.declared.dtype.Nullability.TheVariants.{NonNullable, Nullable}
use Rattle.vx_base.specs.declared.ptype.PType.{PType}
use Rattle.vx_base.specs.PlainScalar.{fits}
use Rattle.vx_base.specs.PlainType.{PlainType, is_bytes, nullability_of, or_nullable, with_nullability}
use Rattle.vx_base.specs.PlainType as types
use Rattle.vx_base.specs.PlainValue.{PlainValue, null, truth, int, bytes, items}
use Rattle.vx_base.proofs.NullLemmas.{by_null}
use Rattle.vx_base.proofs.TypeLemmas.{is_nullable-with, fits-with}
use Rattle.vx_model.specs.Column.{Column, column, column_of}
use Rattle.vx_model.specs.Refusals.{kept, primitive_refusal, validity_allowed, validity_length, var_bin_view_refusal, structure_refusal, list_refusal, fixed_size_list_refusal}
use Rattle.vx_model.specs.Rows.{rows, masked_rows, valid_rows, list_value, cut_at, parts_of, field_rows}
use Rattle.vx_model.specs.Tree.{Tree, Trees, Validity, bool, primitive, var_bin_view, nulls, structure, list, fixed_size_list}
use Rattle.vx_model.specs.TreeType.{tree_type, field_types}
use Rattle.vx_model.specs.WellFormed.{WellFormed, IsValidityOf}
use Rattle.vx_model.proofs.BoolLemmas.{length-bool}
use Rattle.vx_model.proofs.FixedSizeListLemmas.{length-fixed_size_list}
use Rattle.vx_model.proofs.ListLemmas.{length-list}
use Rattle.vx_model.proofs.MadeLemmas.{rows_fit, kept_validity, valid_fit}
use Rattle.vx_model.proofs.PartLemmas.{length-parts_of}
use Rattle.vx_model.proofs.RowLemmas.{length-primitive}
use Rattle.vx_model.proofs.StructLemmas.{length-structure, length-field_rows}
use Rattle.vx_model.proofs.VarBinLemmas.{length-cut_at}
use Rattle.vx_model.proofs.ViewLemmas.{length-var_bin_view}
use Rattle.vx_selections.specs.Narrowed.{Restricts, narrowed, restricted}
use Rattle.vx_selections.proofs.Leaves.{Stands}
use Rattle.vx_selections.proofs.Narrowing.{narrowed_long, narrowed_allowed, narrowed_admitted, narrowed_rows}
use Rattle.vx_selections.proofs.Validities.{kept-rows, own-length, view_admitted, pass}

-- what is common: `rs` are the rows before their own validity
module _ (c : Column) (own valid : Validity) (len : ℕ) (m : Nullability) (bits : Validity) (rs : List PlainValue) (h : IsValidityOf own len (nullability_of c.dtype)) (r : Restricts valid m c) (count : length c.values ≡ len) (same : length rs ≡ len)
    (values : c.values ≡ valid_rows own rs) (is : bits ≡ narrowed own valid) where
  long : validity_length valid len ≡ true
  long = ap (validity_length valid) (sym count) ∙ r.long

  pub root_long : validity_length bits len ≡ true
  root_long = ap (λ b. validity_length b len) is ∙ narrowed_long own valid len (nullability_of c.dtype) m h (own-length own len _ h) long r.wider r.allowed

  pub root_allowed : validity_allowed bits m ≡ true
  root_allowed = ap (λ b. validity_allowed b m) is ∙ narrowed_allowed own valid len (nullability_of c.dtype) m h (own-length own len _ h) long r.wider r.allowed

  pub root_admitted : primitive_refusal len bits m ≡ None
  root_admitted = ap (λ b. primitive_refusal len b m) is ∙ narrowed_admitted own valid len (nullability_of c.dtype) m h (own-length own len _ h) long r.wider r.allowed

  pub root_rows : valid_rows (kept bits) rs ≡ valid_rows valid c.values
  root_rows =
      ap (λ b. valid_rows (kept b) rs) is ∙ narrowed_rows own valid len (nullability_of c.dtype) m h (own-length own len _ h) long r.wider r.allowed rs same
      ∙ ap (valid_rows valid) (sym values)

-- ---- leaves

pub bool_restricted : (bs : List Bool) (own : Validity) (n : Nullability) (valid : Validity) (m : Nullability) (bits : Validity) → WellFormed (bool bs own n) → Restricts valid m (column_of (bool bs own n)) → bits ≡ narrowed own valid
    → Stands (restricted valid m (column_of (bool bs own n))) (primitive_refusal (length bs) bits m) (bool bs (kept bits) m)
bool_restricted bs own n valid m bits w r is =
    let c = column_of (bool bs own n) in
    record {
      accepted = root_admitted c own valid (length bs) m bits (map truth bs) w.0 r (length-bool bs own n w) (length-map bs truth) refl is;
      column = ap (column (types.boolean m)) (root_rows c own valid (length bs) m bits (map truth bs) w.0 r (length-bool bs own n w) (length-map bs truth) refl is);
    }

pub ints_restricted : (p : PType) (xs : List ℤ) (own : Validity) (n : Nullability) (valid : Validity) (m : Nullability) (bits : Validity) → WellFormed (primitive p xs own n) → Restricts valid m (column_of (primitive p xs own n)) → bits ≡ narrowed own valid
    → Stands (restricted valid m (column_of (primitive p xs own n))) (primitive_refusal (length xs) bits m) (primitive p xs (kept bits) m)
ints_restricted p xs own n valid m bits w r is =
    let c = column_of (primitive p xs own n) in
    record {
      accepted = root_admitted c own valid (length xs) m bits (map int xs) w.0.validity r (length-primitive p xs own n w) (length-map xs int) refl is;
      column = ap (column (types.primitive p m)) (root_rows c own valid (length xs) m bits (map int xs) w.0.validity r (length-primitive p xs own n w) (length-map xs int) refl is);
    }

-- ---- texts and binaries

pub is_bytes-with : (t : PlainType) (m : Nullability) → is_bytes t ≡ true → is_bytes (with_nullability t m) ≡ true
is_bytes-with (types.utf8 n) m e = refl
is_bytes-with (types.binary n) m e = refl
is_bytes-with t m e = absurd cc

pub nullability_of-bytes : (t : PlainType) (m : Nullability) → is_bytes t ≡ true → nullability_of (with_nullability t m) ≡ m
nullability_of-bytes (types.utf8 n) m e = refl
nullability_of-bytes (types.binary n) m e = refl
nullability_of-bytes t m e = absurd cc

-- a value of a type is one of the wider type
wide_null : (n m : Nullability) → or_nullable n m ≡ m → types.allows_null n ≡ true → types.allows_null m ≡ true
wide_null n m w e = ap types.allows_null (sym w) ∙ wide n m e
  where
    wide : (n m : Nullability) → types.allows_null n ≡ true → types.allows_null (or_nullable n m) ≡ true
    wide NonNullable m e = absurd cc
    wide Nullable m e = refl

value_wide : (t : PlainType) (m : Nullability) → or_nullable (nullability_of t) m ≡ m → (v : PlainValue) → fits t v ≡ true → fits (with_nullability t m) v ≡ true
value_wide t m w = by_null (λ v. fits t v ≡ true → fits (with_nullability t m) v ≡ true) (λ e. is_nullable-with t m (wide_null (nullability_of t) m w e)) (λ v e h. fits-with t m v e ∙ h)

all_wide : (t : PlainType) (m : Nullability) → or_nullable (nullability_of t) m ≡ m → (vs : List PlainValue) → list_all (fits t) vs ≡ true → list_all (fits (with_nullability t m)) vs ≡ true
all_wide t m w [] h = refl
all_wide t m w (v ∷ vs) h = let b = and_parts (fits t v) (list_all (fits t) vs) h in and_from _ _ (value_wide t m w v b.0) (all_wide t m w vs b.1)

pub fit_restricted : (c : Column) (valid : Validity) (m : Nullability) → nullability_of (with_nullability c.dtype m) ≡ m → Restricts valid m c → list_all (fits c.dtype) c.values ≡ true → list_all (fits (with_nullability c.dtype m)) (valid_rows valid c.values) ≡ true
fit_restricted c valid m own r h =
    let t = with_nullability c.dtype m in
    let bits : IsValidityOf (kept valid) (length c.values) (nullability_of t) = subst (λ k. IsValidityOf (kept valid) (length c.values) k) (sym own) (kept_validity valid (length c.values) m r.long r.allowed) in
    ap (list_all (fits t)) (sym (kept-rows valid c.values r.long)) ∙ valid_fit (kept valid) t (length c.values) c.values bits (all_wide c.dtype m r.wider c.values h)

pub view_restricted : (vs : List (List ℕ)) (own : Validity) (t : PlainType) (valid : Validity) (m : Nullability) (bits : Validity) (s : PlainType) → WellFormed (var_bin_view vs own t) → Restricts valid m (column_of (var_bin_view vs own t)) → bits ≡ narrowed own valid → s ≡ with_nullability t m
    → Stands (restricted valid m (column_of (var_bin_view vs own t))) (var_bin_view_refusal vs bits s) (var_bin_view vs (kept bits) s)
view_restricted vs own t valid m bits s w r is e =
    let c = column_of (var_bin_view vs own t) in
    let long = length-var_bin_view vs own t w in
    let all = root_rows c own valid (length vs) m bits (map bytes vs) w.0.validity r long (length-map vs bytes) refl is in
    let n = nullability_of-bytes t m w.0.byte_type in
    record {
      accepted =
          ap (var_bin_view_refusal vs bits) e
          ∙ view_admitted vs bits (with_nullability t m) (is_bytes-with t m w.0.byte_type) w.0.short
          (ap (primitive_refusal (length vs) bits) n ∙ root_admitted c own valid (length vs) m bits (map bytes vs) w.0.validity r long (length-map vs bytes) refl is)
          (ap (list_all (fits (with_nullability t m))) all ∙ fit_restricted c valid m n r (rows_fit (var_bin_view vs own t) w));
      column = λ i. column (e i) (all i);
    }

-- ---- nested roots

nothing : (bits : List Bool) → masked_rows bits [] ≡ []
nothing [] = refl
nothing (b ∷ bits) = refl

null_bit : (b : Bool) → cond b null null ≡ null
null_bit true = refl
null_bit false = refl

all_null : (len : ℕ) (bits : List Bool) → length bits ≡ len → masked_rows bits (replicate len null) ≡ replicate len null
all_null zero bits l = nothing bits
all_null (suc len) [] l = absurd (omega arith)
all_null (suc len) (b ∷ bits) l = λ i. null_bit b i ∷ all_null len bits (omega arith) i

pub nulls_restricted : (len : ℕ) (valid : Validity) (m : Nullability) → Restricts valid m (column_of (nulls len)) → column_of (nulls len) ≡ restricted valid m (column_of (nulls len))
nulls_restricted len None m r = refl
nulls_restricted len (Some bits) m r = ap (column types.null_type) (sym (all_null len bits (eqb-true _ _ r.long ∙ length-replicate len null)))

pub struct_restricted : (names : List (List ℕ)) (fields : Trees) (len : ℕ) (own : Validity) (n : Nullability) (valid : Validity) (m : Nullability) (bits : Validity) → WellFormed (structure names fields len own n)
    → Restricts valid m (column_of (structure names fields len own n)) → bits ≡ narrowed own valid
    → Stands (restricted valid m (column_of (structure names fields len own n))) (structure_refusal names fields len bits m) (structure names fields len (kept bits) m)
struct_restricted names fields len own n valid m bits w r is =
    let c = column_of (structure names fields len own n) in
    let long = length-structure names fields len own n w in
    let rs = map items (field_rows fields len) in
    let same = length-map (field_rows fields len) items ∙ length-field_rows fields len w.1.lengths in
    let fit = root_long c own valid len m bits rs w.1.validity r long same refl is in
    let allowed = root_allowed c own valid len m bits rs w.1.validity r long same refl is in
    record {
      accepted = pass _ _ _ (and_from _ _ (eq-eqb _ _ w.1.named) (and_from _ _ w.1.lengths fit)) (pass _ _ _ allowed refl);
      column = ap (column (types.structure (field_types names fields) m)) (root_rows c own valid len m bits rs w.1.validity r long same refl is);
    }

pub list_restricted : (elements offsets : Tree) (own : Validity) (n : Nullability) (valid : Validity) (m : Nullability) (bits : Validity) → WellFormed (list elements offsets own n) → Restricts valid m (column_of (list elements offsets own n)) → bits ≡ narrowed own valid
    → Stands (restricted valid m (column_of (list elements offsets own n))) (list_refusal elements offsets bits m) (list elements offsets (kept bits) m)
list_restricted elements offsets own n valid m bits w r is =
    let c = column_of (list elements offsets own n) in
    let len = length (rows offsets) - 1 in
    let long = length-list elements offsets own n w in
    let rs = map list_value (cut_at (rows offsets) (rows elements)) in
    let same = length-map (cut_at (rows offsets) (rows elements)) list_value ∙ length-cut_at (rows offsets) (rows elements) in
    let fit = root_long c own valid len m bits rs w.2.validity r long same refl is in
    let allowed = root_allowed c own valid len m bits rs w.2.validity r long same refl is in
    record {
      accepted = pass _ _ _ (and_from _ _ w.2.offsets_type (ap not w.2.not_null)) (pass _ _ _ (and_from _ _ w.2.some fit) (pass _ _ _ w.2.ends (pass _ _ _ allowed refl)));
      column = ap (column (types.list (tree_type elements) m)) (root_rows c own valid len m bits rs w.2.validity r long same refl is);
    }

pub fixed_restricted : (elements : Tree) (size len : ℕ) (own : Validity) (n : Nullability) (valid : Validity) (m : Nullability) (bits : Validity) → WellFormed (fixed_size_list elements size len own n) → Restricts valid m (column_of (fixed_size_list elements size len own n)) → bits ≡ narrowed own valid
    → Stands (restricted valid m (column_of (fixed_size_list elements size len own n))) (fixed_size_list_refusal elements size len bits m) (fixed_size_list elements size len (kept bits) m)
fixed_restricted elements size len own n valid m bits w r is =
    let c = column_of (fixed_size_list elements size len own n) in
    let long = length-fixed_size_list elements size len own n w in
    let rs = map list_value (parts_of size len (rows elements)) in
    let same = length-map (parts_of size len (rows elements)) list_value ∙ length-parts_of size len (rows elements) in
    let fit = root_long c own valid len m bits rs w.1.validity r long same refl is in
    let allowed = root_allowed c own valid len m bits rs w.1.validity r long same refl is in
    record {
      accepted = pass _ _ _ (and_from _ _ (eq-eqb _ _ w.1.lengths) fit) (pass _ _ _ allowed refl);
      column = ap (column (types.fixed_size_list (tree_type elements) size m)) (root_rows c own valid len m bits rs w.1.validity r long same refl is);
    }
