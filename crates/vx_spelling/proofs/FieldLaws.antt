-- The laws of the small fields.
use Rattle.std.proofs.Common.{◌≡◌, ℕ, ◌^◌, ◌<◌, ◌≤◌, ℤ, pos, negsuc, Bool, true, false, not, IsTrue, cond, ltb, eqb, List, ◌∷◌, ◌++◌, Some, None, refl, sym, ap, subst, ◌∙◌, arith, inl, inr}
use Rattle.std.proofs.lemmas.Bool.{cases_lt, le-ltb, lt-ltb, leb-true}
use Rattle.std.proofs.lemmas.Int.{ints, of_z-to_z, to_z-of_z}
use Rattle.std.specs.Int.{w128, cast_unsigned, cast_signed}
use Rattle.std.specs.List.{list_all}
use Rattle.std.specs.Prelude.{FitsSigned}
use Rattle.std.specs.Str.{is_utf8}
use Rattle.vx_base.specs.declared.dtype.Nullability.{Nullability}
use Rattle.vx_base.specs.declared.dtype.Nullability.TheVariants.{NonNullable, Nullable}
use Rattle.vx_base.specs.declared.ptype.PType.{PType}
use Rattle.vx_base.specs.declared.ptype.PType.TheVariants as ptypes
use Rattle.vx_base.specs.declared.timestamp.TimeUnit.{TimeUnit}
use Rattle.vx_base.specs.declared.timestamp.TimeUnit.TheVariants.{Nanoseconds, Microseconds, Milliseconds, Seconds, Days}
use Rattle.vx_base.specs.Integers.{bits_of, bytes_of, bits_in, lies_in, natural_bits}
use Rattle.vx_base.specs.PlainType.{nullability_number, ptype_number}
use Rattle.vx_base.specs.Timestamps.{unit_number, divides}
use Rattle.vx_base.specs.Wrapping.{from_bits}
use Rattle.vx_base.proofs.WrapBitsLemmas.{low_bits-bits}
use Rattle.vx_base.proofs.WrapLemmas.{low_bits-lt, from_bits-held, wrap-same}
use Rattle.vx_codec.specs.Bits.{bits}
use Rattle.vx_codec.specs.FixedWidth.{byte_at, little_endian, fixed_width, raw}
use Rattle.vx_codec.specs.Format.{◌>>=◌, IsLawful, tested}
use Rattle.vx_codec.specs.Lists.{delimited, optional}
use Rattle.vx_codec.specs.Varint.{varint}
use Rattle.vx_codec.proofs.BitLaws.{bits_lawful}
use Rattle.vx_codec.proofs.FormatLaws.{bind_ok, some_is, both_lawful, tested_lawful, made_round_trip, made_canonical}
use Rattle.vx_codec.proofs.ListLaws.{delimited_lawful, optional_lawful}
use Rattle.vx_codec.proofs.NumberLaws.{byte_canonical, varint_lawful, fixed_width_lawful, raw_lawful, enumerated_lawful, name_is, nothing_is}
use Rattle.vx_model.specs.Refusals.{kept}
use Rattle.vx_model.specs.Tree.{Validity}
use Rattle.vx_model.specs.WellFormed.{IsValidityOf}
use Rattle.vx_spelling.specs.Fields.{truth_number, truth_from, truth_value, nullability_from, nullability, ptype_from, ptype, integer, wide_integer, name, unit_from, unit, kind_parts, kind_of, timestamp_kind, are_few, row_count, is_size, list_size, has_false, validity, are_bytes, packed_bytes, counted_bytes}

-- ---- enums by a byte

truth_some : (b : Bool) → (truth_number b < 256) × (truth_from (truth_number b) ≡ Some b)
truth_some true = (omega arith, refl)
truth_some false = (omega arith, refl)

pub truth_value_lawful : IsLawful truth_value
truth_value_lawful = enumerated_lawful truth_number truth_from truth_some (λ n b. name_is truth_number n 0 false b _ refl (name_is truth_number n 1 true b _ refl (nothing_is n truth_number b)))

nullability_some : (n : Nullability) → (nullability_number n < 256) × (nullability_from (nullability_number n) ≡ Some n)
nullability_some NonNullable = (omega arith, refl)
nullability_some Nullable = (omega arith, refl)

pub nullability_lawful : IsLawful nullability
nullability_lawful = enumerated_lawful nullability_number nullability_from nullability_some (λ n b. name_is nullability_number n 0 NonNullable b _ refl (name_is nullability_number n 1 Nullable b _ refl (nothing_is n nullability_number b)))

ptype_some : (p : PType) → (ptype_number p < 256) × (ptype_from (ptype_number p) ≡ Some p)
ptype_some ptypes.U8 = (omega arith, refl)
ptype_some ptypes.U16 = (omega arith, refl)
ptype_some ptypes.U32 = (omega arith, refl)
ptype_some ptypes.U64 = (omega arith, refl)
ptype_some ptypes.I8 = (omega arith, refl)
ptype_some ptypes.I16 = (omega arith, refl)
ptype_some ptypes.I32 = (omega arith, refl)
ptype_some ptypes.I64 = (omega arith, refl)

pub ptype_lawful : IsLawful ptype
ptype_lawful =
    enumerated_lawful ptype_number ptype_from ptype_some
    (λ n b. name_is ptype_number n 0 ptypes.U8 b _ refl (name_is ptype_number n 1 ptypes.U16 b _ refl (name_is ptype_number n 2 ptypes.U32 b _ refl (name_is ptype_number n 3 ptypes.U64 b _ refl
    (name_is ptype_number n 4 ptypes.I8 b _ refl (name_is ptype_number n 5 ptypes.I16 b _ refl (name_is ptype_number n 6 ptypes.I32 b _ refl (name_is ptype_number n 7 ptypes.I64 b _ refl (nothing_is n ptype_number b)))))))))

-- ---- integers

bytes_hold : (p : PType) → 256 ^ bytes_of p ≡ 2 ^ bits_of p
bytes_hold ptypes.U8 = refl
bytes_hold ptypes.U16 = refl
bytes_hold ptypes.U32 = refl
bytes_hold ptypes.U64 = refl
bytes_hold ptypes.I8 = refl
bytes_hold ptypes.I16 = refl
bytes_hold ptypes.I32 = refl
bytes_hold ptypes.I64 = refl

bits-from_bits : (p : PType) (n : ℕ) → n < 2 ^ bits_of p → bits_in p (from_bits p n) ≡ n
bits-from_bits p n h =
    elim (cases_lt n (2 ^ natural_bits p)) [
      | inl lt ↦ let small : ltb n (2 ^ natural_bits p) ≡ true = lt-ltb _ _ lt in rw small refl
      | inr le ↦ let big : ltb n (2 ^ natural_bits p) ≡ false = le-ltb _ _ le in rw big (omega arith)
    ]

bits-below : (p : PType) (z : ℤ) → lies_in p z ≡ true → bits_in p z < 2 ^ bits_of p
bits-below p z h = subst (λ (n : ℕ). n < 2 ^ bits_of p) (low_bits-bits p z h) (low_bits-lt p z)

from_bits-bits : (p : PType) (z : ℤ) → lies_in p z ≡ true → from_bits p (bits_in p z) ≡ z
from_bits-bits p z h = ap (from_bits p) (sym (low_bits-bits p z h)) ∙ wrap-same p z h

pub integer_lawful : (p : PType) → IsLawful (integer p)
integer_lawful p = record {
  round_trip = λ z rest h.
      let fits : bits_in p z < 256 ^ bytes_of p = subst (λ (n : ℕ). bits_in p z < n) (sym (bytes_hold p)) (bits-below p z h) in
      made_round_trip (fixed_width (bytes_of p)) (from_bits p) (fixed_width_lawful (bytes_of p)) (bits_in p z) rest fits ∙ ap (λ (y : ℤ). Some (y, rest)) (from_bits-bits p z h);
  canonical = λ bytes x e.
      made_canonical (fixed_width (bytes_of p)) (from_bits p) (fixed_width_lawful (bytes_of p)) bytes (λ y. (bytes ≡ (integer p).spell y.0 ++ y.1) × (integer p).Fits y.0)
      (λ n rest h b.
      let below : n < 2 ^ bits_of p = subst (λ (m : ℕ). n < m) (bytes_hold p) h in
      (b ∙ ap (λ (m : ℕ). little_endian (bytes_of p) m ++ rest) (sym (bits-from_bits p n below)), from_bits-held p n below)) x e;
}

signed_fits : (n : ℕ) → FitsSigned w128 (cast_signed w128 n)
signed_fits n = omega (arith, ints)

unsigned_below : (z : ℤ) → FitsSigned w128 z → cast_unsigned w128 z < 2 ^ 128
unsigned_below (pos n) h = omega (arith, ints)
unsigned_below (negsuc n) h = omega arith

pub wide_integer_lawful : IsLawful wide_integer
wide_integer_lawful = record {
  round_trip = λ z rest h.
      made_round_trip (fixed_width 16) (cast_signed w128) (fixed_width_lawful 16) (cast_unsigned w128 z) rest (unsigned_below z h) ∙ ap (λ (y : ℤ). Some (y, rest)) (to_z-of_z w128 z h);
  canonical = λ bytes x e.
      made_canonical (fixed_width 16) (cast_signed w128) (fixed_width_lawful 16) bytes (λ y. (bytes ≡ wide_integer.spell y.0 ++ y.1) × wide_integer.Fits y.0)
      (λ n rest h b. (b ∙ ap (λ (m : ℕ). little_endian 16 m ++ rest) (sym (of_z-to_z w128 n h)), signed_fits n)) x e;
}

-- ---- names, kinds of timestamps and numbers of rows

pub name_lawful : IsLawful name
name_lawful = tested_lawful is_utf8 delimited delimited_lawful

unit_round_trip : (u : TimeUnit) (rest : List ℕ) → divides u ≡ true → unit.parse (unit.spell u ++ rest) ≡ Some (u, rest)
unit_round_trip Nanoseconds rest h = refl
unit_round_trip Microseconds rest h = refl
unit_round_trip Milliseconds rest h = refl
unit_round_trip Seconds rest h = refl
unit_round_trip Days rest h = absurd cc

unit_is : (n : ℕ) (u : TimeUnit) → unit_from n ≡ Some u → (unit_number u ≡ n) × (divides u ≡ true)
unit_is n u e = (numbered n u e, divided (eqb n 0) (eqb n 1) (eqb n 2) (eqb n 3) u e)
  where
    numbered : (n : ℕ) (u : TimeUnit) → unit_from n ≡ Some u → unit_number u ≡ n
    numbered n u = name_is unit_number n 0 Nanoseconds u _ refl (name_is unit_number n 1 Microseconds u _ refl (name_is unit_number n 2 Milliseconds u _ refl (name_is unit_number n 3 Seconds u _ refl (nothing_is n unit_number u))))

    divided : (a b c d : Bool) (u : TimeUnit) → cond a (Some Nanoseconds) (cond b (Some Microseconds) (cond c (Some Milliseconds) (cond d (Some Seconds) None))) ≡ Some u → divides u ≡ true
    divided true b c d u e = ap divides (sym (some_is Nanoseconds u e))
    divided false true c d u e = ap divides (sym (some_is Microseconds u e))
    divided false false true d u e = ap divides (sym (some_is Milliseconds u e))
    divided false false false true u e = ap divides (sym (some_is Seconds u e))
    divided false false false false u e = absurd cc

pub unit_lawful : IsLawful unit
unit_lawful = record {
  round_trip = unit_round_trip;
  canonical = λ bytes x e.
      let n = bind_ok (byte_at bytes) (λ y. (unit_from y.0 >>= λ u. Some (u, y.1))) x e in
      let u = bind_ok (unit_from n.0.0) (λ u. Some (u, n.0.1)) x n.2 in
      let t = byte_canonical bytes n.0 n.1 in
      let is = unit_is n.0.0 u.0 u.1 in
      let made : TimeUnit × List ℕ = (u.0, n.0.1) in
      subst (λ (y : TimeUnit × List ℕ). (bytes ≡ unit_number y.0 ∷ y.1) × IsTrue (divides y.0)) (some_is made x u.2) (t.0 ∙ ap (λ (k : ℕ). k ∷ n.0.1) (sym is.0), is.1);
}

kind_parts_lawful : IsLawful kind_parts
kind_parts_lawful = both_lawful unit (optional name) unit_lawful (optional_lawful name name_lawful)

pub timestamp_kind_lawful : IsLawful timestamp_kind
timestamp_kind_lawful = record {
  round_trip = λ k rest h. made_round_trip kind_parts kind_of kind_parts_lawful (k.unit, k.zone) rest h;
  canonical = λ bytes x e. made_canonical kind_parts kind_of kind_parts_lawful bytes (λ y. (bytes ≡ timestamp_kind.spell y.0 ++ y.1) × timestamp_kind.Fits y.0) (λ p rest h b. (b, h)) x e;
}

pub row_count_lawful : IsLawful row_count
row_count_lawful = tested_lawful are_few varint varint_lawful

pub list_size_lawful : IsLawful list_size
list_size_lawful = tested_lawful is_size varint varint_lawful

pub packed_bytes_lawful : (count : ℕ) → IsLawful (packed_bytes count)
packed_bytes_lawful count = tested_lawful are_bytes (raw count) (raw_lawful count)

pub counted_bytes_lawful : IsLawful counted_bytes
counted_bytes_lawful = tested_lawful are_bytes delimited delimited_lawful

pub small_fits : (n : ℕ) → n < 2 ^ 64 → varint.Fits n
small_fits n h = (omega arith, lt-ltb _ _ h)

pub few_fit : (n : ℕ) → are_few n ≡ true → row_count.Fits n
few_fit n h = let few : n ≤ 2_147_488_769 = leb-true n 2_147_488_769 h in (small_fits n (omega arith), h)

-- ---- validity

pub validity_lawful : (len : ℕ) → IsLawful (validity len)
validity_lawful len = optional_lawful (tested has_false (bits len)) (tested_lawful has_false (bits len) (bits_lawful len))

pub validity_fits : (valid : Validity) (len : ℕ) (n : Nullability) → IsValidityOf valid len n → (validity len).Fits valid
validity_fits None len n h = tt
validity_fits (Some bs) len n h = (h.0, ap not h.2)

pub fitted_kept : (valid : Validity) (len : ℕ) → (validity len).Fits valid → kept valid ≡ valid
fitted_kept None len h = refl
fitted_kept (Some bs) len h = by_test (list_all (λ bit. bit) bs) refl h.1
  where
    by_test : (all : Bool) → list_all (λ bit. bit) bs ≡ all → not all ≡ true → cond all None (Some bs) ≡ Some bs
    by_test true e n = absurd cc
    by_test false e n = refl
