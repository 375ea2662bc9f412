-- Offsets of any integer type by their bits.
use Rattle.std.proofs.Common.{◌≡◌, ◌<◌, ◌+◌, ◌∙◌, ℕ, zero, suc, ℤ, pos, negsuc, List, [], ◌∷◌, length, map, true, refl, ap, arith}
use Rattle.std.specs.Prelude.{slice_index_or}
use Rattle.std.specs.List.{list_all}
use Rattle.std.proofs.lemmas.Bool.{and_parts, and_from, le-leb}
use Rattle.std.proofs.lemmas.List.{length-map}
use Rattle.vx_base.specs.declared.ptype.PType.{PType}
use Rattle.vx_base.specs.Integers.{bits_in}
use Rattle.vx_base.specs.Masks.{is_part}
use Rattle.vx_base.specs.PlainValue.{int}
use Rattle.vx_model.specs.Rows.{offset_at}
use Rattle.vx_model.specs.WellFormed.{lies_between, are_offsets}
use Rattle.vx_model.proofs.OffsetLemmas.{all_between, offset_step}

module _ {T : Type 0} (whole : T → ℤ) (p : PType) where
  natural_bits : (high : ℕ) (z : ℤ) → lies_between 0 high (int z) ≡ true → bits_in p z ≡ offset_at (int z ∷ []) 0
  natural_bits high (pos n) h = refl
  natural_bits high (negsuc n) h = absurd cc

  bits_between : (high : ℕ) (items : List T) (i : ℕ) (x : T) → list_all (lies_between 0 high) (map int (map whole items)) ≡ true → i < length items → x ≡ slice_index_or items i x
      → bits_in p (whole x) ≡ offset_at (map int (map whole items)) i
  bits_between high [] i x h l e = absurd (omega arith)
  bits_between high (y ∷ ys) zero x h l e = ap (λ w. bits_in p (whole w)) e ∙ natural_bits high (whole y) (and_parts (lies_between 0 high (int (whole y))) _ h).0
  bits_between high (y ∷ ys) (suc i) x h l e = bits_between high ys i x (and_parts (lies_between 0 high (int (whole y))) _ h).1 (omega arith) e

  -- the bits of an item are its offset
  pub offset_bits : (len : ℕ) (items : List T) (i : ℕ) (x : T) → are_offsets len (map int (map whole items)) ≡ true → i < length items → x ≡ slice_index_or items i x → bits_in p (whole x) ≡ offset_at (map int (map whole items)) i
  offset_bits len items i x h l e = bits_between (len + 1) items i x (all_between len (map int (map whole items)) h) l e

  -- an item and the next one are a range in bounds
  pub offsets_part : (len : ℕ) (items : List T) (i : ℕ) → are_offsets len (map int (map whole items)) ≡ true → i + 1 < length items
      → is_part len (offset_at (map int (map whole items)) i) (offset_at (map int (map whole items)) (i + 1)) ≡ true
  offsets_part len items i h l =
      let within : i + 1 < length (map int (map whole items)) = rw (length-map, length-map) l in
      let s = offset_step len (map int (map whole items)) i h within in
      and_from _ _ (le-leb _ _ s.rising) (le-leb _ _ s.within)
