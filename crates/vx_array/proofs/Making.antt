-- What a constructor has to show of its array, from its tests.
use Rattle.std.proofs.Common.{◌≡◌, ◌-◌, ℕ, List, Bool, false, None, Some, length, refl, sym, ◌∙◌}
use Rattle.std.specs.Prelude.{IsTrue, IfSome, Option, nat_lt}
use Rattle.std.specs.List.{list_any, list_all}
use Rattle.vx_base.specs.declared.dtype.Nullability.{Nullability}
use Rattle.vx_base.specs.Integers.{lies_in}
use Rattle.vx_base.specs.PlainScalar.{PlainScalar, fits}
use Rattle.vx_base.specs.PlainType.{PlainType, is_flat, is_nullable, integer_of, nullability_of}
use Rattle.vx_base.specs.PlainType as types
use Rattle.vx_base.specs.PlainValue.{is_null}
use Rattle.vx_base.specs.Timestamps.{PlainTimestamp}
use Rattle.vx_model.specs.Tree.{Tree, Trees, Validity, PlainPacked, PlainPatches, bool, primitive, var_bin_view, var_bin, timestamp, constant, masked, packed_of, frame_of_reference, zig_zag, dict, nulls, structure, list, fixed_size_list}
use Rattle.vx_model.specs.Refusals.{primitive_refusal, var_bin_view_refusal, var_bin_refusal, timestamp_refusal, kept, kept_packed, bit_packed_refusal, for_refusal, zig_zag_refusal, dict_refusal, structure_refusal, list_refusal, fixed_size_list_refusal}
use Rattle.vx_model.specs.Rows.{rows}
use Rattle.vx_model.specs.TreeType.{tree_type, field_types}
use Rattle.vx_model.specs.WellFormed.{WellFormed, AllWellFormed, WellFormedPatches}
use Rattle.vx_model.proofs.BoolLemmas.{bool_accepted, length-bool}
use Rattle.vx_model.proofs.FixedSizeListLemmas.{fixed_size_list_accepted, length-fixed_size_list}
use Rattle.vx_model.proofs.ListLemmas.{list_accepted, length-list}
use Rattle.vx_model.proofs.NullsLemmas.{nulls_made, length-nulls}
use Rattle.vx_model.proofs.StructLemmas.{structure_accepted, length-structure}
use Rattle.vx_model.proofs.MadeLemmas.{primitive_made, constant_made, masked_made}
use Rattle.vx_model.proofs.DictLemmas.{dict_accepted, length-dict}
use Rattle.vx_model.proofs.PackedLemmas.{passed, packed_accepted, for_accepted, length-frame_of_reference}
use Rattle.vx_model.proofs.PackedOfLemmas.{type-packed_of, length-packed_of}
use Rattle.vx_model.proofs.RowLemmas.{length-primitive, length-constant, length-masked}
use Rattle.vx_model.proofs.TimestampLemmas.{timestamp_accepted}
use Rattle.vx_model.proofs.VarBinLemmas.{var_bin_accepted, length-var_bin}
use Rattle.vx_model.proofs.ViewLemmas.{var_bin_view_accepted, length-var_bin_view}
use Rattle.vx_model.proofs.ZigZagLemmas.{zig_zag_accepted, length-zig_zag}
use Rattle.vx_values.specs.declared.ints.Ints.{Ints}
use Rattle.vx_values.specs.IntsOf.{ptype_of, wholes_of}
use Rattle.vx_array.specs.IsArray.{IsArray}

pub bool_array : (bs : List Bool) (valid : Validity) (n : Nullability) (own : PlainType) (len : ℕ) → primitive_refusal (length bs) valid n ≡ None → own ≡ types.boolean n → len ≡ length bs → IsArray (bool bs (kept valid) n) (Some own) len
bool_array bs valid n own len accepted own_is len_is =
    let w : WellFormed (bool bs (kept valid) n) = bool_accepted bs valid n accepted in
    record { well_formed = w; own_type_is = own_is; len_is = len_is ∙ sym (length-bool bs (kept valid) n w) }

pub primitive_array : (xs : Ints) (valid : Validity) (n : Nullability) (own : PlainType) (len : ℕ) → primitive_refusal (length (wholes_of xs)) valid n ≡ None → IsTrue (list_all (lies_in (ptype_of xs)) (wholes_of xs))
    → own ≡ types.primitive (ptype_of xs) n → len ≡ length (wholes_of xs) → IsArray (primitive (ptype_of xs) (wholes_of xs) (kept valid) n) (Some own) len
primitive_array xs valid n own len accepted held own_is len_is =
    let lengths = passed _ _ _ accepted in
    let allowed = passed _ _ _ lengths.1 in
    let w : WellFormed (primitive (ptype_of xs) (wholes_of xs) (kept valid) n) = primitive_made (ptype_of xs) (wholes_of xs) valid n lengths.0 allowed.0 held in
    record { well_formed = w; own_type_is = own_is; len_is = len_is ∙ sym (length-primitive (ptype_of xs) (wholes_of xs) (kept valid) n w) }

pub view_array : (vs : List (List ℕ)) (valid : Validity) (t : PlainType) (len : ℕ) → var_bin_view_refusal vs valid t ≡ None → len ≡ length vs → IsArray (var_bin_view vs (kept valid) t) None len
view_array vs valid t len accepted len_is =
    let w : WellFormed (var_bin_view vs (kept valid) t) = var_bin_view_accepted vs valid t accepted in
    record { well_formed = w; own_type_is = refl; len_is = len_is ∙ sym (length-var_bin_view vs (kept valid) t w) }

pub var_bin_array : (offsets : Tree) (bs : List ℕ) (valid : Validity) (t : PlainType) (len : ℕ) → var_bin_refusal offsets bs valid t ≡ None → WellFormed offsets → len ≡ length (rows offsets) - 1 → IsArray (var_bin offsets bs (kept valid) t) None len
var_bin_array offsets bs valid t len accepted o len_is =
    let w : WellFormed (var_bin offsets bs (kept valid) t) = var_bin_accepted offsets bs valid t accepted o in
    record { well_formed = w; own_type_is = refl; len_is = len_is ∙ sym (length-var_bin offsets bs (kept valid) t w) }

pub timestamp_array : (storage : Tree) (k : PlainTimestamp) (own : PlainType) (len : ℕ) → timestamp_refusal storage ≡ None → WellFormed storage → own ≡ tree_type (timestamp storage k) → len ≡ length (rows storage) → IsArray (timestamp storage k) (Some own) len
timestamp_array storage k own len accepted s own_is len_is = record { well_formed = timestamp_accepted storage k accepted s; own_type_is = own_is; len_is = len_is }

pub constant_array : (s : PlainScalar) (len : ℕ) → IsTrue (fits s.dtype s.value) → IsArray (constant s len) None len
constant_array s len h = record { well_formed = constant_made s len h; own_type_is = refl; len_is = sym (length-constant s len) }

pub masked_array : (child : Tree) (valid : List Bool) (own : PlainType) (len : ℕ) → IsTrue (is_flat (tree_type child)) → IsTrue (is_nullable (tree_type child)) → length valid ≡ length (rows child)
    → list_any is_null (rows child) ≡ false → WellFormed child → own ≡ tree_type child → len ≡ length (rows child) → IsArray (masked child valid) (Some own) len
masked_array child valid own len leaf nullable lengths no_null h own_is len_is =
    let w : WellFormed (masked child valid) = masked_made child valid leaf nullable lengths no_null h in
    record { well_formed = w; own_type_is = own_is; len_is = len_is ∙ sym (length-masked child valid w) }

pub packed_array : (k : PlainPacked) (o : Option PlainPatches) (own : PlainType) (len : ℕ) → bit_packed_refusal k o ≡ None → IsTrue (list_all (λ byte. nat_lt byte 256) k.bytes) → IfSome o WellFormedPatches
    → own ≡ types.primitive k.ptype k.nullability → len ≡ k.len → IsArray (packed_of (kept_packed k) o) (Some own) len
packed_array k o own len accepted held known own_is len_is =
    let w : WellFormed (packed_of (kept_packed k) o) = packed_accepted k o accepted held known in
    record { well_formed = w; own_type_is = own_is ∙ sym (type-packed_of (kept_packed k) o); len_is = len_is ∙ sym (length-packed_of (kept_packed k) o w) }

pub frame_array : (encoded : Tree) (reference : PlainScalar) (own : PlainType) (len : ℕ) → for_refusal encoded reference ≡ None → IsTrue (fits reference.dtype reference.value) → WellFormed encoded
    → own ≡ types.primitive (integer_of reference.dtype) (nullability_of (tree_type encoded)) → len ≡ length (rows encoded) → IsArray (frame_of_reference encoded reference) (Some own) len
frame_array encoded reference own len accepted fitting w own_is len_is =
    record { well_formed = for_accepted encoded reference accepted fitting w; own_type_is = own_is; len_is = len_is ∙ sym (length-frame_of_reference encoded reference) }

pub zig_zag_array : (encoded : Tree) (own : PlainType) (len : ℕ) → zig_zag_refusal encoded ≡ None → WellFormed encoded → own ≡ tree_type (zig_zag encoded) → len ≡ length (rows encoded) → IsArray (zig_zag encoded) (Some own) len
zig_zag_array encoded own len accepted w own_is len_is = record { well_formed = zig_zag_accepted encoded accepted w; own_type_is = own_is; len_is = len_is ∙ sym (length-zig_zag encoded) }

pub dict_array : (codes values : Tree) (own : PlainType) (len : ℕ) → dict_refusal codes values ≡ None → WellFormed codes → WellFormed values → own ≡ tree_type (dict codes values) → len ≡ length (rows codes) → IsArray (dict codes values) (Some own) len
dict_array codes values own len accepted c v own_is len_is = record { well_formed = dict_accepted codes values accepted c v; own_type_is = own_is; len_is = len_is ∙ sym (length-dict codes values) }

pub nulls_array : (len : ℕ) (own : PlainType) → own ≡ types.null_type → IsArray (nulls len) (Some own) len
nulls_array len own own_is = record { well_formed = nulls_made len; own_type_is = own_is; len_is = sym (length-nulls len) }

pub structure_array : (names : List (List ℕ)) (fields : Trees) (len : ℕ) (valid : Validity) (n : Nullability) (own : PlainType) → structure_refusal names fields len valid n ≡ None → AllWellFormed fields
    → own ≡ types.structure (field_types names fields) n → IsArray (structure names fields len (kept valid) n) (Some own) len
structure_array names fields len valid n own accepted known own_is =
    let w : WellFormed (structure names fields len (kept valid) n) = structure_accepted names fields len valid n accepted known in
    record { well_formed = w; own_type_is = own_is; len_is = sym (length-structure names fields len (kept valid) n w) }

pub list_array : (elements offsets : Tree) (valid : Validity) (n : Nullability) (own : PlainType) (len : ℕ) → list_refusal elements offsets valid n ≡ None → WellFormed elements → WellFormed offsets
    → own ≡ types.list (tree_type elements) n → len ≡ length (rows offsets) - 1 → IsArray (list elements offsets (kept valid) n) (Some own) len
list_array elements offsets valid n own len accepted e o own_is len_is =
    let w : WellFormed (list elements offsets (kept valid) n) = list_accepted elements offsets valid n accepted e o in
    record { well_formed = w; own_type_is = own_is; len_is = len_is ∙ sym (length-list elements offsets (kept valid) n w) }

pub fixed_size_list_array : (elements : Tree) (size len : ℕ) (valid : Validity) (n : Nullability) (own : PlainType) → fixed_size_list_refusal elements size len valid n ≡ None → WellFormed elements
    → own ≡ types.fixed_size_list (tree_type elements) size n → IsArray (fixed_size_list elements size len (kept valid) n) (Some own) len
fixed_size_list_array elements size len valid n own accepted e own_is =
    let w : WellFormed (fixed_size_list elements size len (kept valid) n) = fixed_size_list_accepted elements size len valid n accepted e in
    record { well_formed = w; own_type_is = own_is; len_is = sym (length-fixed_size_list elements size len (kept valid) n w) }
