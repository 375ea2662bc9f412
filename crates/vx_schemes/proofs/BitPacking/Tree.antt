-- The tree of a packed column: its patches, and the packing of a plain tree.
use Rattle.std.proofs.Common.{◌≡◌, ◌∙◌, ℕ, ℤ, Bool, true, false, List, [], ◌∷◌, length, map, Some, None, refl, ap}
use Rattle.std.specs.List.{list_any}
use Rattle.vx_base.specs.declared.ptype.PType.{PType}
use Rattle.vx_base.specs.declared.dtype.Nullability.{Nullability}
use Rattle.vx_base.specs.PlainValue.{whole_or_zero}
use Rattle.vx_model.specs.Tree.{Tree, Validity, primitive}
use Rattle.vx_model.specs.TreeType.{tree_type}
use Rattle.vx_model.specs.Column.{Column, column_of}
use Rattle.vx_model.specs.Plain.{valid_bits, IsPlain}
use Rattle.vx_model.specs.Rows.{rows}
use Rattle.vx_model.specs.WellFormed.{WellFormed}
use Rattle.vx_schemes.specs.Patches.Compressed.{compressed_patches}
use Rattle.vx_schemes.specs.BitPacking.Tree.{is_negative, has_negative, patches_at, patches_of, packing_of, bit_packing_made}
use Rattle.vx_schemes_common.proofs.BitsLemmas.{all_bits, all_bits-are}
use Rattle.vx_schemes_common.proofs.ColumnLemmas.{wholes_are}

-- where there are rows there are patches
pub patches_of-some : (p : PType) (xs : List ℤ) (chosen : List ℕ) → (length chosen ≡ 0 → ⊥) → patches_of p xs chosen ≡ Some (compressed_patches (patches_at p xs chosen))
patches_of-some p xs [] h = absurd (h refl)
patches_of-some p xs (row ∷ chosen) h = refl

-- ---- the packing of a plain tree is that of its column

module _ (t : Tree) (p : PType) (xs : List ℤ) (valid : Validity) (n : Nullability) (w : WellFormed t) (at : t ≡ primitive p xs valid n) (is_plain : IsPlain t) where
  numbers : xs ≡ map whole_or_zero (rows t)
  numbers = wholes_are t p xs valid n w at is_plain

  made : (bits : List Bool) → bits ≡ valid_bits (rows t) → packing_of p n xs bits ≡ bit_packing_made (column_of t)
  made bits e = rw (numbers, e, ap tree_type at) refl

  pub wholes-natural : has_negative (column_of t) ≡ false → list_any is_negative xs ≡ false
  wholes-natural h = ap (list_any is_negative) numbers ∙ h

  pub packing-made : packing_of p n xs (all_bits t p xs valid n w at is_plain) ≡ bit_packing_made (column_of t)
  packing-made = made (all_bits t p xs valid n w at is_plain) (all_bits-are t p xs valid n w at is_plain)

-- a column with a negative value is kept
pub negative-kept : (c : Column) → has_negative c ≡ true → bit_packing_made c ≡ None
negative-kept c h = rw h refl
