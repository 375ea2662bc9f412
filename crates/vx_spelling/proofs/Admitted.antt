-- Nodes of well-formed trees are admitted by their constructors, which keep their validity: the nodes of one column, and packed
-- integers.
use Rattle.std.proofs.Common.{◌≡◌, ◌-◌, ℕ, subst, length, true, Bool, List, Option, None, Some, refl}
use Rattle.std.specs.Prelude.{map}
use Rattle.std.specs.List.{list_all}
use Rattle.std.proofs.lemmas.Bool.{eq-eqb}
use Rattle.vx_base.specs.declared.dtype.Nullability.{Nullability}
use Rattle.vx_base.specs.declared.dtype.Nullability.TheVariants.{NonNullable}
use Rattle.vx_base.specs.declared.ptype.PType.TheVariants.{I64}
use Rattle.vx_base.specs.PlainScalar.{PlainScalar, fits}
use Rattle.vx_base.specs.PlainType.{PlainType, nullability_of, stored_type}
use Rattle.vx_base.specs.PlainType as types
use Rattle.vx_base.specs.PlainValue.{bytes}
use Rattle.vx_base.specs.Timestamps.{PlainTimestamp}
use Rattle.vx_base.specs.Storable.{same_refl}
use Rattle.vx_model.specs.Refusals.{validity_allowed, primitive_refusal, var_bin_view_refusal, var_bin_refusal, timestamp_refusal, masked_refusal, bit_packed_refusal, for_refusal, zig_zag_refusal, dict_refusal, bit_packed_v2_refusal}
use Rattle.vx_model.specs.Rows.{rows, valid_rows, cut_at}
use Rattle.vx_model.specs.Tree.{Tree, Validity, PlainPacked, PlainBlocks, PlainPatches, packed_of, blocks_of, var_bin_view, var_bin, timestamp, masked, frame_of_reference, zig_zag, dict}
use Rattle.vx_model.specs.TreeType.{tree_type}
use Rattle.vx_model.specs.WellFormed.{WellFormed, IsValidityOf, differences_type}
use Rattle.vx_model.proofs.AdmittedLemmas.{kept-same}
use Rattle.vx_model.proofs.MadeLemmas.{has_length}
use Rattle.vx_model.proofs.VarBinLemmas.{length-cut_at}

pub allowed : (valid : Validity) (len : ℕ) (n : Nullability) → IsValidityOf valid len n → validity_allowed valid n ≡ true
allowed None len n h = refl
allowed (Some bits) len n h = rw h.1 refl

pub flat-admitted : (len : ℕ) (valid : Validity) (n : Nullability) → IsValidityOf valid len n → primitive_refusal len valid n ≡ None
flat-admitted len valid n h = rw (has_length valid len n h, allowed valid len n h) refl

pub var_bin_view-admitted : (vs : List (List ℕ)) (valid : Validity) (t : PlainType) → WellFormed (var_bin_view vs valid t) → var_bin_view_refusal vs valid t ≡ None
var_bin_view-admitted vs valid t w =
    let own = w.0 in
    let typed = own.byte_type in
    let short = own.short in
    let bits = has_length valid (length vs) (nullability_of t) own.validity in
    let allow = allowed valid (length vs) (nullability_of t) own.validity in
    let same = kept-same valid (length vs) (nullability_of t) own.validity in
    let fitting : list_all (fits t) (valid_rows valid (map bytes vs)) ≡ true = w.1 in
    rw (typed, bits, short, allow, same, fitting) refl

pub var_bin-admitted : (offsets : Tree) (bs : List ℕ) (valid : Validity) (t : PlainType) → WellFormed (var_bin offsets bs valid t) → var_bin_refusal offsets bs valid t ≡ None
var_bin-admitted offsets bs valid t w =
    let own = w.1 in
    let typed = own.offsets_type in
    let not_null = own.not_null in
    let some = own.some in
    let ends = own.ends in
    let view = own.values in
    let of_bytes = view.byte_type in
    let short = view.short in
    let len : length (cut_at (rows offsets) bs) ≡ length (rows offsets) - 1 = length-cut_at (rows offsets) bs in
    let counted : IsValidityOf valid (length (rows offsets) - 1) (nullability_of t) = subst (λ (n : ℕ). IsValidityOf valid n (nullability_of t)) len view.validity in
    let bits = has_length valid (length (rows offsets) - 1) (nullability_of t) counted in
    let allow = allowed valid (length (rows offsets) - 1) (nullability_of t) counted in
    let same = kept-same valid (length (rows offsets) - 1) (nullability_of t) counted in
    let fitting : list_all (fits t) (valid_rows valid (map bytes (cut_at (rows offsets) bs))) ≡ true = w.2 in
    rw (typed, not_null, of_bytes, some, bits, ends, short, allow, same, fitting) refl

pub timestamp-admitted : (storage : Tree) (k : PlainTimestamp) → WellFormed (timestamp storage k) → timestamp_refusal storage ≡ None
timestamp-admitted storage k w = rw (same_refl stored_type (tree_type storage) (types.primitive I64 (nullability_of (tree_type storage))) w.1.storage_type) refl

pub masked-admitted : (child : Tree) (valid : List Bool) → WellFormed (masked child valid) → masked_refusal child valid ≡ None
masked-admitted child valid w =
    let own = w.1 in
    let flat = own.flat in
    let nullable = own.nullable in
    let lengths = eq-eqb _ _ own.lengths in
    let no_null = own.no_null in
    rw (flat, nullable, lengths, no_null) refl

pub for-admitted : (encoded : Tree) (reference : PlainScalar) → WellFormed (frame_of_reference encoded reference) → for_refusal encoded reference ≡ None
for-admitted encoded reference w =
    let own = w.1 in
    let typed = own.reference_type in
    let not_null = own.not_null in
    let same = same_refl stored_type (tree_type encoded) (differences_type reference.dtype (tree_type encoded)) own.encoded_type in
    rw (typed, not_null, same) refl

pub zig_zag-admitted : (encoded : Tree) → WellFormed (zig_zag encoded) → zig_zag_refusal encoded ≡ None
zig_zag-admitted encoded w = let unsigned = w.1.unsigned in rw unsigned refl

pub dict-admitted : (codes values : Tree) → WellFormed (dict codes values) → dict_refusal codes values ≡ None
dict-admitted codes values w =
    let own = w.2 in
    let codes_type = own.codes_type in
    let values_type = own.values_type in
    let places = own.places in
    rw (codes_type, values_type, places) refl

pub packed-admitted : (k : PlainPacked) (o : Option PlainPatches) → WellFormed (packed_of k o) → bit_packed_refusal k o ≡ None
packed-admitted k None w =
    let own = w.0 in
    let sized = eq-eqb _ _ own.sized in
    let narrow = own.narrow in
    let bits = has_length k.valid k.len k.nullability own.validity in
    let allow = allowed k.valid k.len k.nullability own.validity in
    rw (sized, bits, narrow, allow) refl
packed-admitted k (Some p) w =
    let own = w.3 in
    let patched = w.4 in
    let sized = eq-eqb _ _ own.sized in
    let narrow = own.narrow in
    let bits = has_length k.valid k.len k.nullability own.validity in
    let allow = allowed k.valid k.len k.nullability own.validity in
    let lengths = eq-eqb _ _ patched.lengths in
    let typed = same_refl stored_type (tree_type p.values) (types.primitive k.ptype NonNullable) patched.values_type in
    rw (typed, sized, bits, lengths, narrow, allow) refl

pub blocks-admitted : (k : PlainBlocks) (offsets : Tree) (o : Option PlainPatches) → WellFormed (blocks_of k offsets o) → bit_packed_v2_refusal k offsets o ≡ None
blocks-admitted k offsets None w =
    let own = w.1 in
    let of_offsets = own.offsets_type in
    let lengths = eq-eqb _ _ own.lengths in
    let widths = own.widths in
    let sized = eq-eqb _ _ own.sized in
    let bits = has_length k.valid k.len k.nullability own.validity in
    let allow = allowed k.valid k.len k.nullability own.validity in
    rw (of_offsets, lengths, bits, widths, sized, allow) refl
blocks-admitted k offsets (Some p) w =
    let own = w.4 in
    let patched = w.5 in
    let of_offsets = own.offsets_type in
    let lengths = eq-eqb _ _ own.lengths in
    let widths = own.widths in
    let sized = eq-eqb _ _ own.sized in
    let bits = has_length k.valid k.len k.nullability own.validity in
    let allow = allowed k.valid k.len k.nullability own.validity in
    let same_len = eq-eqb _ _ patched.lengths in
    let typed = same_refl stored_type (tree_type p.values) (types.primitive k.ptype NonNullable) patched.values_type in
    rw (of_offsets, typed, lengths, bits, same_len, widths, sized, allow) refl
