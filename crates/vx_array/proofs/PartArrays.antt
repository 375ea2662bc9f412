-- Timestamps in parts: what their constructor has to show, and what they are decoded to.
use Rattle.std.proofs.Common.{◌≡◌, ◌∙◌, ◌<◌, ℕ, ℤ, pos, Bool, List, [], ◌∷◌, length, map, refl, sym, ap, true, false, Some, None}
use Rattle.std.specs.Prelude.{◌&&◌, ◌||◌, ◌+ℤ◌, ◌*ℤ◌, not, nat_lt, int_lt, unsigned_abs}
use Rattle.std.specs.List.{range_with_len}
use Rattle.std.proofs.lemmas.Bool.{and_parts}
use Rattle.std.proofs.lemmas.List.{length-map}
use Rattle.vx_base.specs.declared.dtype.Nullability.{Nullability}
use Rattle.vx_base.specs.declared.ptype.PType.{PType}
use Rattle.vx_base.specs.declared.ptype.PType.TheVariants.{I64}
use Rattle.vx_base.specs.Defaults.{or_default}
use Rattle.vx_base.specs.Integers.{lies_in}
use Rattle.vx_base.specs.PlainType.{PlainType, is_integer, is_nullable, same_type, stored_type}
use Rattle.vx_base.specs.PlainType as types
use Rattle.vx_base.specs.PlainValue.{PlainValue, null, int, is_null, whole_or_zero}
use Rattle.vx_base.specs.Storable.{same_path}
use Rattle.vx_base.specs.Timestamps.{PlainTimestamp}
use Rattle.vx_base.specs.Wrapping.{wrap}
use Rattle.vx_base.proofs.WrapLemmas.{wrap-same}
use Rattle.vx_model.specs.Decoded.{zeroed_by}
use Rattle.vx_model.specs.Plain.{validity}
use Rattle.vx_model.specs.Refusals.{datetime_parts_refusal}
use Rattle.vx_model.specs.Rows.{rows, row_at, each_int}
use Rattle.vx_model.specs.Tree.{Tree, Validity, datetime_parts}
use Rattle.vx_model.specs.WellFormed.{WellFormed, is_canonical_at, is_whole_type}
use Rattle.vx_model.proofs.DateTimePartsLemmas.{datetime_parts_accepted, length-datetime_parts, validity-datetime_parts, wholes-datetime_parts}
use Rattle.vx_model.proofs.NumberedLemmas.{below_passes}
use Rattle.vx_time.specs.CanonicalParts.{is_canonical, share_sign}
use Rattle.vx_time.specs.PartsOf.{parts, sum_of, units_per_second}
use Rattle.vx_values.specs.declared.decoded.Decoded.{Decoded}
use Rattle.vx_values.specs.declared.ints.Ints.{Ints}
use Rattle.vx_values.specs.Combined.{combined, sum_at}
use Rattle.vx_values.specs.IntsOf.{wholes_of}
use Rattle.vx_values.specs.ValuesOf.{ints, AreRows}
use Rattle.vx_array.specs.IsArray.{IsArray}
use Rattle.vx_array.specs.IsDecoded.{IsDecoded}
use Rattle.vx_array.specs.Lent.{AreIntegers}
use Rattle.vx_array.proofs.WholeRows.{whole-row, same-valid}

pub parts_array : (k : PlainTimestamp) (n : Nullability) (days seconds subseconds : Tree) (own : PlainType) (len : ℕ) → datetime_parts_refusal k n days seconds subseconds ≡ None → WellFormed days → WellFormed seconds → WellFormed subseconds
    → own ≡ types.timestamp k n → len ≡ length (rows days) → IsArray (datetime_parts k n days seconds subseconds) (Some own) len
parts_array k n days seconds subseconds own len accepted d s u own_is len_is =
    record { well_formed = datetime_parts_accepted k n days seconds subseconds accepted d s u; own_type_is = own_is; len_is = len_is ∙ sym (length-datetime_parts k n days seconds subseconds) }

-- what is of a type of integers has integers
pub same-integer : (t : PlainType) (p : PType) (n : Nullability) → same_type t (types.primitive p n) ≡ true → is_integer t ≡ true
same-integer t p n h = ap is_integer (same_path stored_type t (types.primitive p n) h)

pub whole-integer : (t : PlainType) → is_whole_type t ≡ true → is_integer t ≡ true
whole-integer t h = (and_parts (is_integer t) (not (is_nullable t)) h).0

pub ruleset part_types = (same-integer, whole-integer)

-- ---- decoding

either : (b c : Bool) → (b || c) ≡ true → b ≡ false → c ≡ true
either true c h e = absurd cc
either false c h e = h

canonical_held : (e : ℤ) (day second subsecond : ℤ) → is_canonical e (parts day second subsecond) ≡ true → lies_in I64 (sum_of e (parts day second subsecond)) ≡ true
canonical_held e day second subsecond h =
    let p = parts day second subsecond in
    (and_parts (share_sign p && nat_lt (unsigned_abs second) 86_400 && int_lt (pos (unsigned_abs subsecond)) e) (lies_in I64 (sum_of e p)) h).1

-- integers or null, with 0 for null
stamps : (f : ℕ → ℤ → ℤ) (vs : List PlainValue) (r : List ℕ) → map int (map whole_or_zero (map (λ i. each_int (f i) (row_at vs i)) r)) ≡ map (or_default (int (pos 0))) (map (λ i. each_int (f i) (row_at vs i)) r)
stamps f vs [] = refl
stamps f vs (i ∷ r) = λ j. own (row_at vs i) j ∷ stamps f vs r j
  where
    own : (v : PlainValue) → int (whole_or_zero (each_int (f i) v)) ≡ or_default (int (pos 0)) (each_int (f i) v)
    own null = refl
    own (int z) = refl
    own v = refl

pub parts_rows : (k : PlainTimestamp) (n : Nullability) (days seconds subseconds : Tree) (ds ss us : Ints) (dv sv uv : Validity) (d : Decoded) → WellFormed (datetime_parts k n days seconds subseconds) → AreIntegers days ds dv → AreIntegers seconds ss sv
    → AreIntegers subseconds us uv
    → AreRows (ints I64) (map int (zeroed_by (pos 0) dv (combined (pos 86_400 *ℤ units_per_second k.unit) (units_per_second k.unit) (wholes_of ds) (wholes_of ss) (wholes_of us)))) dv d → IsDecoded (datetime_parts k n days seconds subseconds) d
parts_rows k n days seconds subseconds ds ss us dv sv uv d w a b e r =
    let unit = units_per_second k.unit in
    let vs = rows days in
    let ws = rows seconds in
    let xs = rows subseconds in
    let f : ℕ → ℤ = sum_at (pos 86_400 *ℤ unit) unit (map whole_or_zero vs) (map whole_or_zero ws) (map whole_or_zero xs) in
    let g : ℕ → ℤ = λ i. sum_of unit (parts (whole_or_zero (row_at vs i)) (whole_or_zero (row_at ws i)) (whole_or_zero (row_at xs i))) in
    let exact : (i : ℕ) → i < length vs → is_null (row_at vs i) ≡ false → f i ≡ g i =
    λ i l some.
    (λ j. wrap I64 (whole-row vs i j *ℤ (pos 86_400 *ℤ unit) +ℤ whole-row ws i j *ℤ unit +ℤ whole-row xs i j))
    ∙ wrap-same I64 (g i)
    (canonical_held unit (whole_or_zero (row_at vs i)) (whole_or_zero (row_at ws i)) (whole_or_zero (row_at xs i))
    (either (is_null (row_at vs i)) _ (below_passes (is_canonical_at unit vs ws xs) (length vs) i w.3.canonical l) some))
    in
    let long = length-map vs whole_or_zero in
    let wholes : zeroed_by (pos 0) dv (combined (pos 86_400 *ℤ unit) unit (wholes_of ds) (wholes_of ss) (wholes_of us)) ≡ map whole_or_zero (rows (datetime_parts k n days seconds subseconds)) =
    (λ i. zeroed_by (pos 0) (a.bits i) (combined (pos 86_400 *ℤ unit) unit (a.wholes i) (b.wholes i) (e.wholes i)))
    ∙ ap (λ m. zeroed_by (pos 0) (validity vs) (map f (range_with_len 0 m))) long ∙ same-valid f g vs exact ∙ sym (wholes-datetime_parts k n days seconds subseconds)
    in (
      r.0,
      r.1 ∙ ap (map int) wholes ∙ stamps (λ i day. sum_of unit (parts day (whole_or_zero (row_at ws i)) (whole_or_zero (row_at xs i)))) vs (range_with_len 0 (length vs)),
      r.2 ∙ a.bits ∙ sym (validity-datetime_parts k n days seconds subseconds),
    )
