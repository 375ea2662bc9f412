-- Packed integers with the patches that there are, both shapes as one.
use Rattle.std.proofs.Common.{◌≡◌, ◌<◌, ◌+◌, ℕ, [], ◌∷◌, length, map, refl, arith, Option, Some, None, cond}
use Rattle.std.specs.Prelude.{is_some}
use Rattle.std.specs.List.{list_any}
use Rattle.vx_base.specs.declared.array_id.ArrayId.TheVariants as ids
use Rattle.vx_base.specs.Packed.{packed_size}
use Rattle.vx_base.specs.PlainType as types
use Rattle.vx_base.specs.PlainValue.{PlainValue, null, is_null}
use Rattle.vx_model.specs.Tree.{PlainPacked, PlainPatches, packed_of}
use Rattle.vx_model.specs.Decoded.{zeroed_by}
use Rattle.vx_model.specs.Extents.{extents}
use Rattle.vx_model.specs.Nodes.{encoding}
use Rattle.vx_model.specs.Plain.{validity}
use Rattle.vx_model.specs.Rows.{rows, row_at, is_valid_at, below, packed_or_patch}
use Rattle.vx_model.specs.Size.{size, patches_size, validity_size}
use Rattle.vx_model.specs.TreeType.{tree_type}
use Rattle.vx_model.specs.WellFormed.{WellFormed, IsWellPacked}
use Rattle.vx_model.proofs.PackedLemmas.{length-bit_packed, row_at-bit_packed, length-bit_packed_with, row_at-bit_packed_with}
use Rattle.vx_model.proofs.PackedDecodeLemmas.{map-bit_packed, any_null-bit_packed, validity-bit_packed, map-bit_packed_with, any_null-bit_packed_with, validity-bit_packed_with}

pub length-packed_of : (k : PlainPacked) (o : Option PlainPatches) → WellFormed (packed_of k o) → length (rows (packed_of k o)) ≡ k.len
length-packed_of k None h = length-bit_packed k h
length-packed_of k (Some p) h = length-bit_packed_with k p.array_len p.offset p.indices p.values h

pub row_at-packed_of : (k : PlainPacked) (o : Option PlainPatches) (i : ℕ) → WellFormed (packed_of k o) → i < k.len → row_at (rows (packed_of k o)) i ≡ cond (is_valid_at k.valid i) (packed_or_patch k o i) null
row_at-packed_of k None i h l = row_at-bit_packed k i h l
row_at-packed_of k (Some p) i h l = row_at-bit_packed_with k p.array_len p.offset p.indices p.values i h l

pub type-packed_of : (k : PlainPacked) (o : Option PlainPatches) → tree_type (packed_of k o) ≡ types.primitive k.ptype k.nullability
type-packed_of k None = refl
type-packed_of k (Some p) = refl

pub encoding-packed_of : (k : PlainPacked) (o : Option PlainPatches) → encoding (packed_of k o) ≡ ids.BitPacked
encoding-packed_of k None = refl
encoding-packed_of k (Some p) = refl

pub extents-packed_of : (k : PlainPacked) (o : Option PlainPatches) → extents (packed_of k o) ≡ k.len ∷ []
extents-packed_of k None = refl
extents-packed_of k (Some p) = refl

pub size-packed_of : (k : PlainPacked) (o : Option PlainPatches) → size (packed_of k o) ≡ packed_size k.width k.len + patches_size o + validity_size k.valid
size-packed_of k None = omega arith
size-packed_of k (Some p) = refl

pub ruleset packed_of_reads = (length-packed_of, row_at-packed_of, type-packed_of, encoding-packed_of, extents-packed_of, size-packed_of)

-- ---- what is known of the parts

pub packed-packed_of : (k : PlainPacked) (o : Option PlainPatches) → WellFormed (packed_of k o) → IsWellPacked k
packed-packed_of k None h = h.0
packed-packed_of k (Some p) h = h.3

pub patches_len-packed_of : (k : PlainPacked) (p : PlainPatches) → WellFormed (packed_of k (Some p)) → p.array_len ≡ k.len
patches_len-packed_of k p h = h.4.lengths

-- ---- decoding

pub map-packed_of : {A : Type 0} (f : PlainValue → A) (k : PlainPacked) (o : Option PlainPatches) → WellFormed (packed_of k o) → map f (rows (packed_of k o)) ≡ zeroed_by (f null) k.valid (below (λ i. f (packed_or_patch k o i)) k.len)
map-packed_of f k None h = map-bit_packed k h f
map-packed_of f k (Some p) h = map-bit_packed_with k p.array_len p.offset p.indices p.values h f

pub any_null-packed_of : (k : PlainPacked) (o : Option PlainPatches) → WellFormed (packed_of k o) → list_any is_null (rows (packed_of k o)) ≡ is_some k.valid
any_null-packed_of k None h = any_null-bit_packed k h
any_null-packed_of k (Some p) h = any_null-bit_packed_with k p.array_len p.offset p.indices p.values h

pub validity-packed_of : (k : PlainPacked) (o : Option PlainPatches) → WellFormed (packed_of k o) → validity (rows (packed_of k o)) ≡ k.valid
validity-packed_of k None h = validity-bit_packed k h
validity-packed_of k (Some p) h = validity-bit_packed_with k p.array_len p.offset p.indices p.values h
