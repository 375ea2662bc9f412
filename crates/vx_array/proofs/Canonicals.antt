-- The plain tree of a tree, from what it is decoded to.
use Rattle.std.proofs.Common.{◌≡◌, ◌∙◌, ℕ, ℤ, pos, List, [], ◌∷◌, map, length, Bool, ap, refl, sym, true, false, None, Option}
use Rattle.std.specs.List.{list_all}
use Rattle.std.proofs.lemmas.Bool.{and_from}
use Rattle.vx_base.specs.declared.error.VortexError.{VortexError}
use Rattle.vx_base.specs.declared.ptype.PType.{PType}
use Rattle.vx_base.specs.declared.ptype.PType.TheVariants.{I64}
use Rattle.vx_base.specs.declared.dtype.Nullability.{Nullability}
use Rattle.vx_base.specs.Answers.{unless}
use Rattle.vx_base.specs.Defaults.{default_of, or_default}
use Rattle.vx_base.specs.PlainScalar.{fits}
use Rattle.vx_base.specs.PlainType.{PlainType, is_flat, is_bytes, is_timestamp, nullability_of, stored_type}
use Rattle.vx_base.specs.PlainType as types
use Rattle.vx_base.specs.PlainValue.{PlainValue, null, truth, int, bytes, items, truth_or_false, whole_or_zero, bytes_or_empty}
use Rattle.vx_base.specs.Storable.{same_refl}
use Rattle.vx_model.specs.Column.{column_of}
use Rattle.vx_model.specs.Plain.{validity, plain, plain_of}
use Rattle.vx_model.specs.Refusals.{kept, primitive_refusal, var_bin_view_refusal, timestamp_refusal}
use Rattle.vx_model.specs.Rows.{rows, valid_rows}
use Rattle.vx_model.specs.Tree.{Tree, Validity, bool, primitive, var_bin_view, timestamp}
use Rattle.vx_model.specs.TreeType.{tree_type}
use Rattle.vx_model.specs.WellFormed.{WellFormed}
use Rattle.vx_model.proofs.BoolLemmas.{canonical_bool}
use Rattle.vx_model.proofs.DecodeLemmas.{items_admitted, kept-validity, length-validity}
use Rattle.vx_model.proofs.MadeLemmas.{rows_fit}
use Rattle.vx_model.proofs.PackedLemmas.{passed}
use Rattle.vx_model.proofs.PlainLemmas.{rows-plain_of, short_items}
use Rattle.vx_model.proofs.ViewLemmas.{canonical_bytes}
use Rattle.vx_values.specs.declared.decoded.Decoded.{Decoded}
use Rattle.vx_values.specs.declared.ints.Ints.{Ints}
use Rattle.vx_values.specs.declared.values.Values.TheVariants as lists
use Rattle.vx_values.specs.IntsOf.{ptype_of, wholes_of}
use Rattle.vx_values.specs.ValuesOf.{truths, ints, byte_rows, kind_of, kind_in, values_of}
use Rattle.vx_array.specs.AsType.{as_type}
use Rattle.vx_array.specs.IsDecoded.{IsDecoded}
use Rattle.vx_array.proofs.Decodings.{bytes_kind}

-- ---- items from values with a default

module _ {A : Type 0} (item : PlainValue → A) (value : A → PlainValue) (back : (x : A) → item (value x) ≡ x) (default : PlainValue) (beneath : item default ≡ item null) where
  items-values : (xs : List A) → map item (map value xs) ≡ xs
  items-values [] = refl
  items-values (x ∷ xs) = λ i. back x i ∷ items-values xs i

  item-or_default : (v : PlainValue) → item (or_default default v) ≡ item v
  item-or_default null = beneath
  item-or_default (truth b) = refl
  item-or_default (int z) = refl
  item-or_default (bytes bs) = refl
  item-or_default (items vs) = refl

  items-or_default : (vs : List PlainValue) → map item (map (or_default default) vs) ≡ map item vs
  items-or_default [] = refl
  items-or_default (v ∷ vs) = λ i. item-or_default v i ∷ items-or_default vs i

  items_of : (xs : List A) (vs : List PlainValue) → map value xs ≡ map (or_default default) vs → xs ≡ map item vs
  items_of xs vs e = sym (items-values xs) ∙ ap (map item) e ∙ items-or_default vs

pass : (b : Bool) (e : VortexError) (o : Option VortexError) → b ≡ true → o ≡ None → unless b e o ≡ None
pass true e o h n = n
pass false e o h n = absurd cc

-- ---- truth values

truth_kind : (t : PlainType) → is_flat t ≡ true → truths ≡ kind_of t → t ≡ types.boolean (nullability_of t)
truth_kind (types.boolean n) f e = refl
truth_kind (types.primitive p n) f e = absurd cc
truth_kind (types.utf8 n) f e = absurd cc
truth_kind (types.binary n) f e = absurd cc
truth_kind (types.timestamp k n) f e = absurd cc
truth_kind t f e = absurd cc

pub record IsBoolOf (t : Tree) (bs : List Bool) (valid : Validity) (n : Nullability) : Type 0 where
  pub admitted : primitive_refusal (length bs) valid n ≡ None
  pub made : bool bs (kept valid) n ≡ plain (column_of t)

pub bool_of : (t : Tree) (d : Decoded) (bs : List Bool) (valid : Validity) (n : Nullability) → WellFormed t → is_flat (tree_type t) ≡ true → lists.Bits bs ≡ d.values → valid ≡ d.valid → n ≡ nullability_of (tree_type t) → IsDecoded t d → IsBoolOf t bs valid n
bool_of t d bs valid n w f e v m h =
    let typed = truth_kind (tree_type t) f (ap kind_in e ∙ h.0) in
    let values : map truth bs ≡ map (or_default (truth false)) (rows t) = ap values_of e ∙ h.1 ∙ ap (λ s. map (or_default (default_of s)) (rows t)) typed in
    let items : bs ≡ map truth_or_false (rows t) = items_of truth_or_false truth (λ b. refl) (truth false) refl bs (rows t) values in
    let bits : valid ≡ validity (rows t) = v ∙ h.2 in
    record {
      admitted = rw (items, bits, m) (items_admitted truth_or_false (tree_type t) (rows t) (rows_fit t w));
      made = canonical_bool t n bs valid items bits (typed ∙ ap types.boolean (sym m));
    }

-- ---- texts and binaries

bytes_type : (t : PlainType) → byte_rows ≡ kind_of t → is_bytes t ≡ true
bytes_type (types.utf8 n) e = refl
bytes_type (types.binary n) e = refl
bytes_type t e = absurd cc

bytes_back : (t : PlainType) → is_bytes t ≡ true → (vs : List PlainValue) → list_all (fits t) vs ≡ true → valid_rows (validity vs) (map bytes (map bytes_or_empty vs)) ≡ vs
bytes_back (types.utf8 n) e vs h = rows-plain_of (types.utf8 n) vs h
bytes_back (types.binary n) e vs h = rows-plain_of (types.binary n) vs h
bytes_back t e vs h = absurd cc

-- the values of a column of texts or binaries are admitted
pub views_admitted : (t : PlainType) → is_bytes t ≡ true → (vs : List PlainValue) → list_all (fits t) vs ≡ true → var_bin_view_refusal (map bytes_or_empty vs) (validity vs) t ≡ None
views_admitted t e vs h =
    let allowed = passed _ _ _ (passed _ _ _ (items_admitted bytes_or_empty t vs h)).1 in
    let own = ap (λ valid. valid_rows valid (map bytes (map bytes_or_empty vs))) (kept-validity vs) ∙ bytes_back t e vs h in
    pass _ _ _ e (pass _ _ _ (length-validity bytes_or_empty vs) (pass _ _ _ (short_items t e vs h) (pass _ _ _ (and_from _ _ allowed.0 (ap (list_all (fits t)) own ∙ h)) refl)))

pub record IsViewOf (t : Tree) (vs : List (List ℕ)) (valid : Validity) (s : PlainType) : Type 0 where
  pub admitted : var_bin_view_refusal vs valid s ≡ None
  pub made : var_bin_view vs (kept valid) s ≡ plain (column_of t)

pub var_bin_view_of : (t : Tree) (d : Decoded) (vs : List (List ℕ)) (valid : Validity) (s : PlainType) → WellFormed t → lists.Bytes vs ≡ d.values → valid ≡ d.valid → s ≡ tree_type t → IsDecoded t d → IsViewOf t vs valid s
var_bin_view_of t d vs valid s w e v m h =
    let typed = bytes_type (tree_type t) (ap kind_in e ∙ h.0) in
    let values : map bytes vs ≡ map (or_default (bytes [])) (rows t) = ap values_of e ∙ h.1 ∙ ap (λ default. map (or_default default) (rows t)) (bytes_kind (tree_type t) typed).1 in
    let items : vs ≡ map bytes_or_empty (rows t) = items_of bytes_or_empty bytes (λ b. refl) (bytes []) refl vs (rows t) values in
    let bits : valid ≡ validity (rows t) = v ∙ h.2 in
    record {
      admitted = rw (items, bits, m) (views_admitted (tree_type t) typed (rows t) (rows_fit t w));
      made = ap (λ own. var_bin_view vs (kept valid) own) m ∙ canonical_bytes t vs valid items bits typed;
    }

-- ---- integers and timestamps

whole_default : (s : PlainType) (p : PType) → ints p ≡ kind_of s → default_of s ≡ int (pos 0)
whole_default (types.primitive q n) p e = refl
whole_default (types.timestamp k n) p e = refl
whole_default s p e = absurd cc

as_type-plain_of : (s : PlainType) (p : PType) (vs : List PlainValue) → ints p ≡ kind_of s → as_type s (primitive p (map whole_or_zero vs) (validity vs) (nullability_of s)) ≡ plain_of s vs
as_type-plain_of (types.primitive q n) p vs e = let same : p ≡ q = cc in ap (λ r. primitive r (map whole_or_zero vs) (validity vs) n) same
as_type-plain_of (types.timestamp k n) p vs e = let same : p ≡ I64 = cc in ap (λ r. timestamp (primitive r (map whole_or_zero vs) (validity vs) n) k) same
as_type-plain_of s p vs e = absurd cc

stamped_over : (s : PlainType) (p : PType) (xs : List ℤ) (valid : Validity) (n : Nullability) → ints p ≡ kind_of s → is_timestamp s ≡ true → timestamp_refusal (primitive p xs valid n) ≡ None
stamped_over (types.timestamp k m) p xs valid n e i = let same : p ≡ I64 = cc in pass _ _ _ (same_refl stored_type _ _ (ap (λ r. types.primitive r n) same)) refl
stamped_over s p xs valid n e i = absurd cc

pub record AreIntsOf (t : Tree) (xs : Ints) (valid : Validity) (n : Nullability) : Type 0 where
  pub admitted : primitive_refusal (length (wholes_of xs)) valid n ≡ None
  pub stamped : is_timestamp (tree_type t) ≡ true → timestamp_refusal (primitive (ptype_of xs) (wholes_of xs) (kept valid) n) ≡ None
  pub made : as_type (tree_type t) (primitive (ptype_of xs) (wholes_of xs) (kept valid) n) ≡ plain (column_of t)

pub ints_of : (t : Tree) (d : Decoded) (xs : Ints) (valid : Validity) (n : Nullability) → WellFormed t → lists.Ints xs ≡ d.values → valid ≡ d.valid → n ≡ nullability_of (tree_type t) → IsDecoded t d → AreIntsOf t xs valid n
ints_of t d xs valid n w e v m h =
    let kind : ints (ptype_of xs) ≡ kind_of (tree_type t) = ap kind_in e ∙ h.0 in
    let values : map int (wholes_of xs) ≡ map (or_default (int (pos 0))) (rows t) = ap values_of e ∙ h.1 ∙ ap (λ default. map (or_default default) (rows t)) (whole_default (tree_type t) (ptype_of xs) kind) in
    let items : wholes_of xs ≡ map whole_or_zero (rows t) = items_of whole_or_zero int (λ z. refl) (int (pos 0)) refl (wholes_of xs) (rows t) values in
    let bits : valid ≡ validity (rows t) = v ∙ h.2 in
    let keep = ap kept bits ∙ kept-validity (rows t) in
    record {
      admitted = rw (items, bits, m) (items_admitted whole_or_zero (tree_type t) (rows t) (rows_fit t w));
      stamped = stamped_over (tree_type t) (ptype_of xs) (wholes_of xs) (kept valid) n kind;
      made = (λ i. as_type (tree_type t) (primitive (ptype_of xs) (items i) (keep i) (m i))) ∙ as_type-plain_of (tree_type t) (ptype_of xs) (rows t) kind;
    }
