-- The laws of what stands behind the id of each node, where the format of the trees inside is lawful.
use Rattle.std.proofs.Common.{◌≡◌, ◌-◌, ◌<◌, Bool, true, false, length, Some, refl, arith}
use Rattle.vx_base.specs.Packed.{packed_size}
use Rattle.vx_codec.specs.Bits.{bits}
use Rattle.vx_codec.specs.FixedWidth.{byte, enumerated}
use Rattle.vx_codec.specs.Format.{Format, IsLawful, pair, both, keyed}
use Rattle.vx_codec.specs.Lists.{counted, delimited, optional}
use Rattle.vx_codec.specs.Varint.{varint}
use Rattle.vx_codec.proofs.BitLaws.{bits_lawful}
use Rattle.vx_codec.proofs.FormatLaws.{pair_lawful, both_lawful, tested_lawful, keyed_lawful}
use Rattle.vx_codec.proofs.ListLaws.{counted_lawful, delimited_lawful, optional_lawful}
use Rattle.vx_codec.proofs.NumberLaws.{byte_lawful, varint_lawful, enumerated_lawful, name_is, nothing_is}
use Rattle.vx_model.specs.Rows.{rows}
use Rattle.vx_model.specs.Tree.{Tree}
use Rattle.vx_spelling.specs.Fields.{nullability, ptype, integer, wide_integer, name, timestamp_kind, row_count, list_size, validity, packed_bytes, counted_bytes}
use Rattle.vx_spelling.specs.LeafParts.{bool_ok, bool_parts, primitive_ok, primitive_parts, text_number, text_from, byte_type, view_ok, view_parts, constant_parts, sequence_ok, sequence_parts}
use Rattle.vx_spelling.specs.NestedParts.{struct_ok, struct_parts, list_ok, list_parts, fixed_ok, fixed_parts, timestamp_ok, timestamp_parts, datetime_ok, datetime_parts, var_bin_ok, var_bin_parts, masked_ok, masked_parts, dict_ok, dict_parts, run_end_ok, run_end_parts, rle_ok, rle_parts}
use Rattle.vx_spelling.specs.PackedParts.{flat_fields, no_chunks_number, no_chunks_from, flat_ok, flat_parts, patches_ok, patch_parts, sparse_ok, sparse_parts, packed_fields, packed_ok, packed_parts, blocks_fields, blocks_ok, blocks_parts, for_ok, for_parts, frames_ok, frames_parts, delta_ok, delta_parts, zig_zag_ok, zig_zag_parts}
use Rattle.vx_spelling.specs.ValueSpelling.{scalar_parts}
use Rattle.vx_spelling.proofs.FieldLaws.{nullability_lawful, ptype_lawful, integer_lawful, wide_integer_lawful, name_lawful, timestamp_kind_lawful, row_count_lawful, list_size_lawful, validity_lawful, packed_bytes_lawful, counted_bytes_lawful}
use Rattle.vx_spelling.proofs.ValueLaws.{scalar_parts_lawful}

-- ---- leaves

pub bool_lawful : IsLawful bool_parts
bool_lawful =
    tested_lawful bool_ok (pair (both nullability (keyed varint length bits)) (λ h. validity (length h.1)))
    (pair_lawful (both nullability (keyed varint length bits)) (λ h. validity (length h.1))
    (both_lawful nullability (keyed varint length bits) nullability_lawful (keyed_lawful varint length bits varint_lawful bits_lawful (λ n bs h. h))) (λ h _. validity_lawful (length h.1)))

pub primitive_lawful : IsLawful primitive_parts
primitive_lawful =
    tested_lawful primitive_ok (pair (both ptype nullability) (λ h. pair (counted (integer h.0)) (λ xs. validity (length xs))))
    (pair_lawful (both ptype nullability) (λ h. pair (counted (integer h.0)) (λ xs. validity (length xs))) (both_lawful ptype nullability ptype_lawful nullability_lawful)
    (λ h _. pair_lawful (counted (integer h.0)) (λ xs. validity (length xs)) (counted_lawful (integer h.0) (integer_lawful h.0)) (λ xs _. validity_lawful (length xs))))

text_some : (b : Bool) → (text_number b < 256) × (text_from (text_number b) ≡ Some b)
text_some true = (omega arith, refl)
text_some false = (omega arith, refl)

pub byte_type_lawful : IsLawful byte_type
byte_type_lawful =
    both_lawful (enumerated text_number text_from) nullability
    (enumerated_lawful text_number text_from text_some (λ n b. name_is text_number n 3 true b _ refl (name_is text_number n 4 false b _ refl (nothing_is n text_number b)))) nullability_lawful

pub view_lawful : IsLawful view_parts
view_lawful =
    tested_lawful view_ok (both byte_type (pair (counted delimited) (λ vs. validity (length vs))))
    (both_lawful byte_type (pair (counted delimited) (λ vs. validity (length vs))) byte_type_lawful
    (pair_lawful (counted delimited) (λ vs. validity (length vs)) (counted_lawful delimited delimited_lawful) (λ vs _. validity_lawful (length vs))))

pub constant_lawful : IsLawful constant_parts
constant_lawful = both_lawful row_count scalar_parts row_count_lawful scalar_parts_lawful

pub sequence_lawful : IsLawful sequence_parts
sequence_lawful =
    tested_lawful sequence_ok (both (both ptype nullability) (both (both wide_integer wide_integer) row_count))
    (both_lawful (both ptype nullability) (both (both wide_integer wide_integer) row_count) (both_lawful ptype nullability ptype_lawful nullability_lawful)
    (both_lawful (both wide_integer wide_integer) row_count (both_lawful wide_integer wide_integer wide_integer_lawful wide_integer_lawful) row_count_lawful))

pub packed_fields_lawful : IsLawful packed_fields
packed_fields_lawful =
    pair_lawful (both (both ptype nullability) (both byte row_count)) (λ h. both (packed_bytes (packed_size h.1.0 h.1.1)) (validity h.1.1))
    (both_lawful (both ptype nullability) (both byte row_count) (both_lawful ptype nullability ptype_lawful nullability_lawful) (both_lawful byte row_count byte_lawful row_count_lawful))
    (λ h _. both_lawful (packed_bytes (packed_size h.1.0 h.1.1)) (validity h.1.1) (packed_bytes_lawful (packed_size h.1.0 h.1.1)) (validity_lawful h.1.1))

module _ (child : Format Tree) (law : IsLawful child) where
  two_lawful : IsLawful (both child child)
  two_lawful = both_lawful child child law law

  three_lawful : IsLawful (both child (both child child))
  three_lawful = both_lawful child (both child child) law two_lawful

  -- ---- nested columns and timestamps

  pub struct_lawful : IsLawful (struct_parts child)
  struct_lawful =
      tested_lawful struct_ok (pair (both nullability row_count) (λ h. both (counted (both name child)) (validity h.1)))
      (pair_lawful (both nullability row_count) (λ h. both (counted (both name child)) (validity h.1)) (both_lawful nullability row_count nullability_lawful row_count_lawful)
      (λ h _. both_lawful (counted (both name child)) (validity h.1) (counted_lawful (both name child) (both_lawful name child name_lawful law)) (validity_lawful h.1)))

  pub list_lawful : IsLawful (list_parts child)
  list_lawful =
      tested_lawful list_ok (both nullability (pair (both child child) (λ c. validity (length (rows c.1) - 1))))
      (both_lawful nullability (pair (both child child) (λ c. validity (length (rows c.1) - 1))) nullability_lawful
      (pair_lawful (both child child) (λ c. validity (length (rows c.1) - 1)) two_lawful (λ c _. validity_lawful (length (rows c.1) - 1))))

  pub fixed_lawful : IsLawful (fixed_parts child)
  fixed_lawful =
      tested_lawful fixed_ok (pair (both nullability (both list_size row_count)) (λ h. both child (validity h.1.1)))
      (pair_lawful (both nullability (both list_size row_count)) (λ h. both child (validity h.1.1))
      (both_lawful nullability (both list_size row_count) nullability_lawful (both_lawful list_size row_count list_size_lawful row_count_lawful))
      (λ h _. both_lawful child (validity h.1.1) law (validity_lawful h.1.1)))

  pub timestamp_lawful : IsLawful (timestamp_parts child)
  timestamp_lawful = tested_lawful timestamp_ok (both timestamp_kind child) (both_lawful timestamp_kind child timestamp_kind_lawful law)

  pub datetime_lawful : IsLawful (datetime_parts child)
  datetime_lawful =
      tested_lawful datetime_ok (both (both timestamp_kind nullability) (both child (both child child)))
      (both_lawful (both timestamp_kind nullability) (both child (both child child)) (both_lawful timestamp_kind nullability timestamp_kind_lawful nullability_lawful) three_lawful)

  -- ---- texts and binaries by offsets, masks, codes, runs

  pub var_bin_lawful : IsLawful (var_bin_parts child)
  var_bin_lawful =
      tested_lawful var_bin_ok (both byte_type (pair child (λ offsets. both delimited (validity (length (rows offsets) - 1)))))
      (both_lawful byte_type (pair child (λ offsets. both delimited (validity (length (rows offsets) - 1)))) byte_type_lawful
      (pair_lawful child (λ offsets. both delimited (validity (length (rows offsets) - 1))) law
      (λ offsets _. both_lawful delimited (validity (length (rows offsets) - 1)) delimited_lawful (validity_lawful (length (rows offsets) - 1)))))

  pub masked_lawful : IsLawful (masked_parts child)
  masked_lawful = tested_lawful masked_ok (pair child (λ t. bits (length (rows t)))) (pair_lawful child (λ t. bits (length (rows t))) law (λ t _. bits_lawful (length (rows t))))

  pub dict_lawful : IsLawful (dict_parts child)
  dict_lawful = tested_lawful dict_ok (both child child) two_lawful

  pub run_end_lawful : IsLawful (run_end_parts child)
  run_end_lawful = tested_lawful run_end_ok (both child child) two_lawful

  pub rle_lawful : IsLawful (rle_parts child)
  rle_lawful = tested_lawful rle_ok (both row_count (both child (both child child))) (both_lawful row_count (both child (both child child)) row_count_lawful three_lawful)

  -- ---- patches

  flat_fields_lawful : IsLawful (flat_fields child)
  flat_fields_lawful = both_lawful (both row_count varint) (both child child) (both_lawful row_count varint row_count_lawful varint_lawful) two_lawful

  no_chunks_lawful : IsLawful (enumerated no_chunks_number no_chunks_from)
  no_chunks_lawful = enumerated_lawful no_chunks_number no_chunks_from (λ u. (omega arith, refl)) (λ n u. name_is no_chunks_number n 0 tt u _ refl (nothing_is n no_chunks_number u))

  pub flat_lawful : IsLawful (flat_parts child)
  flat_lawful =
      tested_lawful flat_ok (both (flat_fields child) (enumerated no_chunks_number no_chunks_from)) (both_lawful (flat_fields child) (enumerated no_chunks_number no_chunks_from) flat_fields_lawful no_chunks_lawful)

  patch_lawful : IsLawful (patch_parts child)
  patch_lawful = tested_lawful patches_ok (both (flat_fields child) (optional child)) (both_lawful (flat_fields child) (optional child) flat_fields_lawful (optional_lawful child law))

  pub sparse_lawful : IsLawful (sparse_parts child)
  sparse_lawful = tested_lawful sparse_ok (both (patch_parts child) scalar_parts) (both_lawful (patch_parts child) scalar_parts patch_lawful scalar_parts_lawful)

  -- ---- packed integers, frames of reference, differences

  pub packed_lawful : IsLawful (packed_parts child)
  packed_lawful =
      tested_lawful packed_ok (both packed_fields (optional (flat_parts child)))
      (both_lawful packed_fields (optional (flat_parts child)) packed_fields_lawful (optional_lawful (flat_parts child) flat_lawful))

  blocks_fields_lawful : IsLawful (blocks_fields child)
  blocks_fields_lawful =
      pair_lawful (both (both ptype nullability) row_count) (λ h. both child (both counted_bytes (validity h.1)))
      (both_lawful (both ptype nullability) row_count (both_lawful ptype nullability ptype_lawful nullability_lawful) row_count_lawful)
      (λ h _. both_lawful child (both counted_bytes (validity h.1)) law (both_lawful counted_bytes (validity h.1) counted_bytes_lawful (validity_lawful h.1)))

  pub blocks_lawful : IsLawful (blocks_parts child)
  blocks_lawful =
      tested_lawful blocks_ok (both (blocks_fields child) (optional (flat_parts child)))
      (both_lawful (blocks_fields child) (optional (flat_parts child)) blocks_fields_lawful (optional_lawful (flat_parts child) flat_lawful))

  pub for_lawful : IsLawful (for_parts child)
  for_lawful = tested_lawful for_ok (both child scalar_parts) (both_lawful child scalar_parts law scalar_parts_lawful)

  pub frames_lawful : IsLawful (frames_parts child)
  frames_lawful = tested_lawful frames_ok (both child child) two_lawful

  pub delta_lawful : IsLawful (delta_parts child)
  delta_lawful =
      tested_lawful delta_ok (pair (both nullability row_count) (λ h. both (both child child) (validity h.1)))
      (pair_lawful (both nullability row_count) (λ h. both (both child child) (validity h.1)) (both_lawful nullability row_count nullability_lawful row_count_lawful)
      (λ h _. both_lawful (both child child) (validity h.1) two_lawful (validity_lawful h.1)))

  pub zig_zag_lawful : IsLawful (zig_zag_parts child)
  zig_zag_lawful = tested_lawful zig_zag_ok child law
