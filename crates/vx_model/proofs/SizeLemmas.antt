-- Bounds on the sizes of plain trees and children.
use Rattle.std.proofs.Common.{◌≡◌, ◌<◌, ◌≤◌, ◌+◌, ◌*◌, ◌^◌, ℕ, List, [], ◌∷◌, map, length, true, Some, None, refl, arith}
use Rattle.std.specs.Prelude.{nat_le, sum_by}
use Rattle.std.specs.List.{list_all, list_any}
use Rattle.std.proofs.lemmas.Bool.{cond_both, and_parts, ltb-true}
use Rattle.std.proofs.lemmas.List.{length-map}
use Rattle.std.proofs.lemmas.List.Sums.{sum_by-cons}
use Rattle.std.proofs.Math.Nat.{mul-le-mul}
use Rattle.vx_base.specs.declared.ptype.PType.{PType}
use Rattle.vx_base.specs.declared.ptype.PType.TheVariants.{U8, U16, U32, U64, I8, I16, I32, I64}
use Rattle.vx_base.specs.Integers.{bytes_of}
use Rattle.vx_base.specs.PlainType.{PlainType, boolean, primitive, utf8, binary, timestamp, is_bytes, is_flat}
use Rattle.vx_base.specs.PlainScalar.{fits}
use Rattle.vx_base.specs.PlainValue.{PlainValue, is_null, is_short, truth_or_false, whole_or_zero, bytes_or_empty}
use Rattle.vx_model.specs.Size.{size, validity_size, bit_bytes, long_bytes}
use Rattle.vx_model.specs.Column.{Column, IsColumn}
use Rattle.vx_model.specs.Plain.{plain, plain_of, valid_bits, validity}
use Rattle.vx_model.proofs.PlainLemmas.{length-valid_bits, short_items}

pub bytes_of-range : (p : PType) → (1 ≤ bytes_of p) × (bytes_of p ≤ 8)
bytes_of-range U8 = (omega arith, omega arith)
bytes_of-range U16 = (omega arith, omega arith)
bytes_of-range U32 = (omega arith, omega arith)
bytes_of-range U64 = (omega arith, omega arith)
bytes_of-range I8 = (omega arith, omega arith)
bytes_of-range I16 = (omega arith, omega arith)
bytes_of-range I32 = (omega arith, omega arith)
bytes_of-range I64 = (omega arith, omega arith)

-- at most one bit per row
validity_size-le : (vs : List PlainValue) → validity_size (validity vs) ≤ bit_bytes (length vs)
validity_size-le vs =
    cond_both (list_any is_null vs) (Some (valid_bits vs)) None (λ valid. validity_size valid ≤ bit_bytes (length vs))
    (λ some. rw (length-valid_bits vs) (omega arith)) (λ none. omega arith)

-- some rows of a flat type take a byte at least
pub size-plain_of-ge : (t : PlainType) (vs : List PlainValue) → is_flat t ≡ true → 1 ≤ length vs → 1 ≤ size (plain_of t vs)
size-plain_of-ge (boolean n) vs f h = rw (length-map vs truth_or_false) (omega arith)
size-plain_of-ge (primitive p n) vs f h =
    let each : length vs * 1 ≤ length vs * bytes_of p = mul-le-mul (omega arith) (bytes_of-range p).0 in
    rw (length-map vs whole_or_zero) (omega arith)
size-plain_of-ge (utf8 n) vs f h = rw (length-map vs bytes_or_empty) (omega arith)
size-plain_of-ge (binary n) vs f h = rw (length-map vs bytes_or_empty) (omega arith)
size-plain_of-ge (timestamp k n) vs f h = rw (length-map vs whole_or_zero) (omega arith)
size-plain_of-ge t vs f h = absurd cc

long_bytes-le : (bs : List ℕ) → is_short bs ≡ true → long_bytes bs ≤ 2 ^ 32
long_bytes-le bs h = let short : length bs < 2 ^ 32 = ltb-true _ _ h in cond_both (nat_le (length bs) 12) 0 (length bs) (λ n. n ≤ 2 ^ 32) (λ few. omega arith) (λ many. omega arith)

sum-long_bytes-le : (items : List (List ℕ)) → list_all is_short items ≡ true → sum_by long_bytes items ≤ length items * 2 ^ 32
sum-long_bytes-le [] h = omega arith
sum-long_bytes-le (bs ∷ items) h =
    let b = and_parts (is_short bs) (list_all is_short items) h in
    let here = long_bytes-le bs b.0 in
    let later = sum-long_bytes-le items b.1 in
    rw (sum_by-cons long_bytes bs items) (omega arith)

-- and at most 16 bytes more than the longest value
size-views-le : (t : PlainType) → is_bytes t ≡ true → (vs : List PlainValue) → list_all (fits t) vs ≡ true
    → 16 * length (map bytes_or_empty vs) + sum_by long_bytes (map bytes_or_empty vs) + validity_size (validity vs) ≤ length vs * (2 ^ 32 + 16) + bit_bytes (length vs)
size-views-le t i vs h =
    let longs = sum-long_bytes-le (map bytes_or_empty vs) (short_items t i vs h) in
    let same = length-map vs bytes_or_empty in
    let bits = validity_size-le vs in
    omega (arith, longs, same, bits)

size-wholes-le : (p : PType) (vs : List PlainValue) → length (map whole_or_zero vs) * bytes_of p + validity_size (validity vs) ≤ length vs * (2 ^ 32 + 16) + bit_bytes (length vs)
size-wholes-le p vs =
    let each : length vs * bytes_of p ≤ length vs * 8 = mul-le-mul (omega arith) (bytes_of-range p).1 in
    rw (length-map vs whole_or_zero) (omega (arith, validity_size-le vs))

pub size-plain_of-le : (t : PlainType) (vs : List PlainValue) → is_flat t ≡ true → list_all (fits t) vs ≡ true → size (plain_of t vs) ≤ length vs * (2 ^ 32 + 16) + bit_bytes (length vs)
size-plain_of-le (boolean n) vs f h = rw (length-map vs truth_or_false) (omega (arith, validity_size-le vs))
size-plain_of-le (primitive p n) vs f h = size-wholes-le p vs
size-plain_of-le (utf8 n) vs f h = size-views-le (utf8 n) refl vs h
size-plain_of-le (binary n) vs f h = size-views-le (binary n) refl vs h
size-plain_of-le (timestamp k n) vs f h = size-wholes-le I64 vs
size-plain_of-le t vs f h = absurd cc

-- no sum of such sizes comes near 2^128
pub small_plain : (c : Column) → is_flat c.dtype ≡ true → IsColumn c → length c.values < 2 ^ 64 → size (plain c) < 2 ^ 100
small_plain c f h few = let most = size-plain_of-le c.dtype c.values f h in omega arith
