-- What a node is decoded to, by what the trees inside are.
use Rattle.std.proofs.Common.{◌≡◌, ◌∙◌, ℕ, ℤ, pos, List, [], ◌∷◌, map, length, Bool, ap, refl, subst, sym, true, false, cond, Some, None, Option}
use Rattle.std.specs.Prelude.{IsTrue, is_some}
use Rattle.std.specs.List.{list_any, range_with_len}
use Rattle.std.proofs.lemmas.Bool.{cond_both, or_parts}
use Rattle.std.proofs.lemmas.List.{length-map}
use Rattle.vx_base.specs.declared.ptype.PType.{PType}
use Rattle.vx_base.specs.declared.dtype.Nullability.{Nullability}
use Rattle.vx_base.specs.Defaults.{default_of, or_default}
use Rattle.vx_base.specs.Integers.{signed_of}
use Rattle.vx_base.specs.PlainScalar.{PlainScalar}
use Rattle.vx_base.specs.PlainType.{PlainType, is_flat, is_integer, is_bytes, is_nullable, integer_of, nullability_of}
use Rattle.vx_base.specs.PlainType as types
use Rattle.vx_base.specs.PlainValue.{PlainValue, truth, int, bytes, is_null, whole_or_zero}
use Rattle.vx_base.specs.Timestamps.{PlainTimestamp}
use Rattle.vx_model.specs.Decoded.{zeroed, zeroed_by, picked, picks_valid}
use Rattle.vx_model.specs.Plain.{validity, valid_bits}
use Rattle.vx_model.specs.Refusals.{validity_length, kept}
use Rattle.vx_model.specs.Rows.{rows, below, packed_or_patch, summed, unzigzagged_whole, valid_rows, cut_at}
use Rattle.vx_model.specs.Tree.{Tree, Validity, PlainPacked, PlainPatches, bool, primitive, var_bin_view, var_bin, timestamp, masked, packed_of, frame_of_reference, zig_zag, dict}
use Rattle.vx_model.specs.TreeType.{tree_type, dict_type}
use Rattle.vx_model.specs.WellFormed.{WellFormed, IsValidityOf}
use Rattle.vx_model.proofs.BoolLemmas.{validity-bool}
use Rattle.vx_model.proofs.DecodeLemmas.{length-validity, map-masked_rows, map-valid_rows, wholes-valid_rows, values-wholes, wholes-values, validity-cells, validity-masked_rows, no_null}
use Rattle.vx_model.proofs.DictDecodeLemmas.{map-dict, validity-dict, validity-dict_codes, default_of-dict}
use Rattle.vx_model.proofs.ItemMapLemmas.{map-zeroed_by}
use Rattle.vx_model.proofs.MadeLemmas.{rows_fit}
use Rattle.vx_model.proofs.PackedDecodeLemmas.{wholes-frame_of_reference, validity-frame_of_reference}
use Rattle.vx_model.proofs.PackedOfLemmas.{type-packed_of, map-packed_of, validity-packed_of}
use Rattle.vx_model.proofs.VarBinLemmas.{validity-var_bin}
use Rattle.vx_model.proofs.ViewLemmas.{validity-var_bin_view}
use Rattle.vx_model.proofs.ZigZagLemmas.{wholes-zig_zag, validity-zig_zag}
use Rattle.vx_values.specs.declared.decoded.Decoded.{Decoded}
use Rattle.vx_values.specs.declared.ints.Ints.{Ints}
use Rattle.vx_values.specs.declared.values.Values.{Values}
use Rattle.vx_values.specs.declared.values.Values.TheVariants as lists
use Rattle.vx_values.specs.Codes.{validity_by_codes}
use Rattle.vx_values.specs.IntsOf.{ptype_of, wholes_of}
use Rattle.vx_values.specs.ValuesOf.{truths, ints, byte_rows, kind_of, kind_in, holds_integers, values_of, default_in, AreRows}
use Rattle.vx_array.specs.IsDecoded.{IsDecoded}
use Rattle.vx_array.specs.declared.lent.LentInts.{LentInts}
use Rattle.vx_array.specs.Lent.{AreIntegers, lent}

-- ---- the kind of a tree's type

default_in-kind_of : (t : PlainType) → is_flat t ≡ true → default_in (kind_of t) ≡ default_of t
default_in-kind_of (types.boolean n) f = refl
default_in-kind_of (types.primitive p n) f = refl
default_in-kind_of (types.utf8 n) f = refl
default_in-kind_of (types.binary n) f = refl
default_in-kind_of (types.timestamp k n) f = refl
default_in-kind_of t f = absurd cc

-- the default of values that are of a flat type's kind
pub default_of_kind : (t : PlainType) (values : Values) → is_flat t ≡ true → kind_in values ≡ kind_of t → default_in (kind_in values) ≡ default_of t
default_of_kind t values f e = ap default_in e ∙ default_in-kind_of t f

pub kind_of-dict : (codes values : PlainType) → kind_of (dict_type codes values) ≡ kind_of values
kind_of-dict codes (types.boolean n) = refl
kind_of-dict codes (types.primitive p n) = refl
kind_of-dict codes (types.utf8 n) = refl
kind_of-dict codes (types.binary n) = refl
kind_of-dict codes (types.timestamp k n) = refl
kind_of-dict codes types.null_type = refl
kind_of-dict codes (types.structure fs n) = refl
kind_of-dict codes (types.list t n) = refl
kind_of-dict codes (types.fixed_size_list t size n) = refl

-- ---- items and their validity, with the default beneath nulls

module _ {A : Type 0} (value : A → PlainValue) (some : (x : A) → is_null (value x) ≡ false) (t : PlainType) (default : A) (own : default_of t ≡ value default) where
  no_default : (xs : List A) → map (or_default (default_of t)) (map value xs) ≡ map value xs
  no_default [] = refl
  no_default (x ∷ xs) = λ i. cond (some x i) (default_of t) (value x) ∷ no_default xs i

  values-items : (xs : List A) (valid : Validity) (n : Nullability) → IsValidityOf valid (length xs) n → map value (zeroed_by default valid xs) ≡ map (or_default (default_of t)) (valid_rows valid (map value xs))
  values-items xs valid n h =
      map-zeroed_by value default valid xs ∙ (λ i. zeroed_by (sym own i) valid (sym (no_default xs) i))
      ∙ sym (map-valid_rows (or_default (default_of t)) valid (map value xs) n (rw length-map h))

pub bool_rows : (bs : List Bool) (valid : Validity) (n : Nullability) (d : Decoded) → WellFormed (bool bs valid n) → AreRows truths (map truth (zeroed_by false valid bs)) valid d → IsDecoded (bool bs valid n) d
bool_rows bs valid n d w r = (r.0, r.1 ∙ values-items truth (λ b. refl) (types.boolean n) false refl bs valid n w.0, r.2 ∙ sym (validity-bool bs valid n w))

pub bytes_kind : (t : PlainType) → is_bytes t ≡ true → (byte_rows ≡ kind_of t) × (default_of t ≡ bytes [])
bytes_kind (types.utf8 n) e = (refl, refl)
bytes_kind (types.binary n) e = (refl, refl)
bytes_kind t e = absurd cc

pub view_rows : (vs : List (List ℕ)) (valid : Validity) (t : PlainType) (d : Decoded) → WellFormed (var_bin_view vs valid t) → AreRows byte_rows (map bytes (zeroed_by [] valid vs)) valid d → IsDecoded (var_bin_view vs valid t) d
view_rows vs valid t d w r =
    let k = bytes_kind t w.0.byte_type in
    (r.0 ∙ k.0, r.1 ∙ values-items bytes (λ b. refl) t [] k.1 vs valid (nullability_of t) w.0.validity, r.2 ∙ sym (validity-var_bin_view vs valid t w))

-- ---- trees of integers

integer_kind : (t : PlainType) (p : PType) → is_integer t ≡ true → ints p ≡ kind_of t → p ≡ integer_of t
integer_kind (types.primitive q n) p i e = cc
integer_kind t p i e = absurd cc

-- a type of integers by its parts
pub integer_is : (t : PlainType) → is_integer t ≡ true → t ≡ types.primitive (integer_of t) (nullability_of t)
integer_is (types.primitive p n) e = refl
integer_is t e = absurd cc

integer_held : (t : PlainType) → is_integer t ≡ true → holds_integers (kind_of t) ≡ true
integer_held (types.primitive p n) e = refl
integer_held t e = absurd cc

-- what a tree of integers is decoded to holds integers
pub held_integers : (t : Tree) (d : Decoded) → is_integer (tree_type t) ≡ true → IsDecoded t d → IsTrue (holds_integers (kind_in d.values))
held_integers t d i h = ap holds_integers h.0 ∙ integer_held (tree_type t) i

pub integers_of : (t : Tree) (d : Decoded) (xs : Ints) (valid : Validity) → WellFormed t → is_integer (tree_type t) ≡ true → lists.Ints xs ≡ d.values → valid ≡ d.valid → IsDecoded t d → AreIntegers t xs valid
integers_of t d xs valid w i e v h =
    record {
      ptype = integer_kind (tree_type t) (ptype_of xs) i (ap kind_in e ∙ h.0);
      wholes = wholes-values (tree_type t) i (wholes_of xs) (rows t) (rows_fit t w) (ap values_of e ∙ h.1);
      bits = v ∙ h.2;
    }

pub bits_of_integers : (t : Tree) (xs : Ints) (valid : Validity) → AreIntegers t xs valid → validity_length valid (length (wholes_of xs)) ≡ true
bits_of_integers t xs valid h = (λ i. validity_length (h.bits i) (length (h.wholes i))) ∙ length-validity whole_or_zero (rows t)

-- and such integers are what the tree is decoded to
pub integer_rows : (t : Tree) (p : PType) (n : Nullability) (xs : List ℤ) (valid : Validity) (d : Decoded) → WellFormed t → tree_type t ≡ types.primitive p n → xs ≡ map whole_or_zero (rows t) → valid ≡ validity (rows t) → AreRows (ints p) (map int xs) valid d → IsDecoded t d
integer_rows t p n xs valid d w typed wholes bits r =
    (r.0 ∙ sym (ap kind_of typed), r.1 ∙ ap (map int) wholes ∙ values-wholes (tree_type t) (ap is_integer typed) (rows t) (rows_fit t w), r.2 ∙ bits)

pub primitive_rows : (p : PType) (xs : List ℤ) (valid : Validity) (n : Nullability) (d : Decoded) → WellFormed (primitive p xs valid n) → AreRows (ints p) (map int (zeroed_by (pos 0) valid xs)) valid d → IsDecoded (primitive p xs valid n) d
primitive_rows p xs valid n d w = integer_rows (primitive p xs valid n) p n (zeroed_by (pos 0) valid xs) valid d w refl (sym (wholes-valid_rows valid xs n w.0.validity)) (sym (validity-cells valid xs n w.0.validity))

pub packed_rows : (k : PlainPacked) (o : Option PlainPatches) (d : Decoded) → WellFormed (packed_of k o) → AreRows (ints k.ptype) (map int (zeroed_by (pos 0) k.valid (below (λ i. whole_or_zero (packed_or_patch k o i)) k.len))) k.valid d → IsDecoded (packed_of k o) d
packed_rows k o d w = integer_rows (packed_of k o) k.ptype k.nullability _ k.valid d w (type-packed_of k o) (sym (map-packed_of whole_or_zero k o w)) (sym (validity-packed_of k o w))

-- what a plain tree without nulls stores
pub stored_integers : (xs : Ints) (valid : Validity) (n : Nullability) → is_some valid ≡ false → WellFormed (primitive (ptype_of xs) (wholes_of xs) valid n) → AreIntegers (primitive (ptype_of xs) (wholes_of xs) valid n) xs None
stored_integers xs None n none w =
    let d : Decoded = record { values = lists.Ints xs; valid = None } in
    integers_of (primitive (ptype_of xs) (wholes_of xs) None n) d xs None w refl refl refl (primitive_rows (ptype_of xs) (wholes_of xs) None n d w (refl, refl, refl))
stored_integers xs (Some bits) n none w = absurd cc

-- lent integers of a child, which the node holds in a box
pub lent_integers : (t u : Tree) (l : LentInts) (xs : Ints) (valid : Validity) → t ≡ u → xs ≡ lent l → AreIntegers t (lent l) valid → AreIntegers u xs valid
lent_integers t u l xs valid same is h = subst (λ t. AreIntegers t xs valid) same (subst (λ ys. AreIntegers t ys valid) (sym is) h)

pub moved_rows : (encoded : Tree) (reference : PlainScalar) (xs : Ints) (valid : Validity) (d : Decoded) → WellFormed (frame_of_reference encoded reference) → AreIntegers encoded xs valid
    → AreRows (ints (integer_of reference.dtype)) (map int (zeroed_by (pos 0) valid (map (summed reference) (wholes_of xs)))) valid d → IsDecoded (frame_of_reference encoded reference) d
moved_rows encoded reference xs valid d w h =
    integer_rows (frame_of_reference encoded reference) (integer_of reference.dtype) (nullability_of (tree_type encoded)) _ valid d w refl
    ((λ i. zeroed_by (pos 0) (h.bits i) (map (summed reference) (h.wholes i))) ∙ sym (wholes-frame_of_reference encoded reference)) (h.bits ∙ sym (validity-frame_of_reference encoded reference))

pub zig_zag_rows : (encoded : Tree) (xs : Ints) (valid : Validity) (d : Decoded) → WellFormed (zig_zag encoded) → AreIntegers encoded xs valid → AreRows (ints (signed_of (ptype_of xs))) (map int (map unzigzagged_whole (wholes_of xs))) valid d → IsDecoded (zig_zag encoded) d
zig_zag_rows encoded xs valid d w h =
    integer_rows (zig_zag encoded) (signed_of (ptype_of xs)) (nullability_of (tree_type encoded)) _ valid d w (ap (λ p. types.primitive (signed_of p) (nullability_of (tree_type encoded))) (sym h.ptype))
    (ap (map unzigzagged_whole) h.wholes ∙ sym (wholes-zig_zag encoded)) (h.bits ∙ sym (validity-zig_zag encoded))

-- ---- texts and binaries by their offsets

pub no_nulls : (default : PlainValue) (vs : List PlainValue) → list_any is_null vs ≡ false → map (or_default default) vs ≡ vs
no_nulls default [] e = refl
no_nulls default (v ∷ vs) e = let s = or_parts (is_null v) (list_any is_null vs) e in λ i. cond (s.0 i) default v ∷ no_nulls default vs s.1 i

-- integers of a type that isn't nullable are the rows themselves
pub wholes-rows : (t : Tree) (xs : Ints) (valid : Validity) → WellFormed t → is_integer (tree_type t) ≡ true → is_nullable (tree_type t) ≡ false → AreIntegers t xs valid → map int (wholes_of xs) ≡ rows t
wholes-rows t xs valid w i n h =
    ap (map int) h.wholes ∙ values-wholes (tree_type t) i (rows t) (rows_fit t w)
    ∙ no_nulls (default_of (tree_type t)) (rows t) (no_null (tree_type t) (rows t) (rows_fit t w) n)

pub var_bin_rows : (offsets : Tree) (bs : List ℕ) (valid : Validity) (t : PlainType) (os : List PlainValue) (d : Decoded) → WellFormed (var_bin offsets bs valid t) → os ≡ rows offsets
    → AreRows byte_rows (map bytes (zeroed_by [] valid (cut_at os bs))) valid d → IsDecoded (var_bin offsets bs valid t) d
var_bin_rows offsets bs valid t os d w e r =
    let k = bytes_kind t w.1.values.byte_type in (
      r.0 ∙ k.0,
      r.1 ∙ ap (λ os. map bytes (zeroed_by [] valid (cut_at os bs))) e
          ∙ values-items bytes (λ b. refl) t [] k.1 (cut_at (rows offsets) bs) valid (nullability_of t) w.1.values.validity,
      r.2 ∙ sym (validity-var_bin offsets bs valid t w),
    )

-- ---- timestamps

pub timestamp_rows : (storage : Tree) (k : PlainTimestamp) (d : Decoded) → WellFormed (timestamp storage k) → IsDecoded storage d → IsDecoded (timestamp storage k) d
timestamp_rows storage k d w h =
    let typed = w.1.storage_type in
    (h.0 ∙ ap kind_of typed, h.1 ∙ ap (λ t. map (or_default (default_of t)) (rows storage)) typed, h.2)

-- ---- trees of any such type

pub masked_rows_of : (child : Tree) (valid : List Bool) (c d : Decoded) → WellFormed (masked child valid) → IsDecoded child c
    → AreRows (kind_in c.values) (zeroed (default_in (kind_in c.values)) valid (values_of c.values)) (kept (Some valid)) d → IsDecoded (masked child valid) d
masked_rows_of child valid c d w h r = (
  r.0 ∙ h.0,
  r.1 ∙ (λ i. zeroed (default_of_kind (tree_type child) c.values w.1.flat h.0 i) valid (h.1 i)) ∙ sym (map-masked_rows (or_default (default_of (tree_type child))) valid (rows child) w.1.lengths),
  r.2 ∙ sym (validity-masked_rows valid (rows child) w.1.lengths w.1.no_null),
)

validity-by_codes : (codes values : Tree) (p : PType) → WellFormed (dict codes values) → validity_by_codes p (map whole_or_zero (rows codes)) (validity (rows codes)) (validity (rows values)) ≡ validity (rows (dict codes values))
validity-by_codes codes values p w =
    let picks = picks_valid p (valid_bits (rows values)) (validity (rows codes)) (map whole_or_zero (rows codes)) in
    let long = length-map (rows codes) whole_or_zero in
    cond_both (list_any is_null (rows values)) (Some (valid_bits (rows values))) None
    (λ bits. validity_by_codes p (map whole_or_zero (rows codes)) (validity (rows codes)) bits ≡ validity (rows (dict codes values)))
    (λ some. ap (λ n. kept (Some (map picks (range_with_len 0 n)))) long ∙ validity-dict codes values p w) (λ none. sym (validity-dict_codes codes values w none))

-- what the codes pick, with a default, are the values of a dict with it
module _ (codes values : Tree) (w : WellFormed (dict codes values)) (p : PType) where
  by_codes : (default : PlainValue) → default ≡ default_of (tree_type values) → zeroed_by default (validity (rows codes)) (map (λ code. picked p (map (or_default (default_of (tree_type values))) (rows values)) default code) (map whole_or_zero (rows codes)))
      ≡ map (or_default (default_of (tree_type (dict codes values)))) (rows (dict codes values))
  by_codes default e =
      let own = default_of (tree_type values) in
      (λ i. zeroed_by (e i) (validity (rows codes)) (map (λ code. picked p (map (or_default own) (rows values)) (e i) code) (map whole_or_zero (rows codes))))
      ∙ sym (map-dict (or_default own) codes values p w) ∙ ap (λ v. map (or_default v) (rows (dict codes values))) (sym (default_of-dict (tree_type codes) (tree_type values)))

pub dict_rows : (codes values : Tree) (xs : Ints) (valid : Validity) (v d : Decoded) → WellFormed (dict codes values) → AreIntegers codes xs valid → IsDecoded values v
    → AreRows (kind_in v.values) (zeroed_by (default_in (kind_in v.values)) valid (map (λ code. picked (ptype_of xs) (values_of v.values) (default_in (kind_in v.values)) code) (wholes_of xs))) (validity_by_codes (ptype_of xs) (wholes_of xs) valid v.valid) d
    → IsDecoded (dict codes values) d
dict_rows codes values xs valid v d w hc hv r =
    let default = default_in (kind_in v.values) in (
      r.0 ∙ hv.0 ∙ sym (kind_of-dict (tree_type codes) (tree_type values)),
      r.1 ∙ (λ i. zeroed_by default (hc.bits i) (map (λ code. picked (ptype_of xs) (hv.1 i) default code) (hc.wholes i))) ∙ by_codes codes values w (ptype_of xs) default (default_of_kind (tree_type values) v.values w.2.values_type hv.0),
      r.2 ∙ (λ i. validity_by_codes (ptype_of xs) (hc.wholes i) (hc.bits i) (hv.2 i)) ∙ validity-by_codes codes values (ptype_of xs) w,
    )
