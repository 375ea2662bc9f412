-- Differences packed as they are made are what bit packing makes of the column of them.
use Rattle.std.proofs.Common.{◌≡◌, ◌∙◌, ◌+◌, ℕ, ℤ, pos, Bool, true, false, List, [], ◌∷◌, length, map, drop, replicate, sum, Some, None, refl, sym, ap, subst}
use Rattle.std.specs.Prelude.{◌==◌, IfSome, unwrap_or}
use Rattle.std.proofs.lemmas.List.{length-map}
use Rattle.vx_base.specs.declared.ptype.PType.{PType}
use Rattle.vx_base.specs.declared.dtype.Nullability.{Nullability}
use Rattle.vx_base.specs.Integers.{bits_in, bits_of, bytes_of, unsigned_of}
use Rattle.vx_base.specs.Packed.{bytes_in, packed_number, kept_row, kept_rows, packed_size, wide_rows}
use Rattle.vx_base.specs.PlainValue.{whole_or_zero}
use Rattle.vx_blocks.specs.Cost.{IsBest, cost}
use Rattle.vx_blocks.specs.Histogram.{IsHistogram}
use Rattle.vx_blocks.proofs.Rows.{length-kept_rows}
use Rattle.vx_model.specs.Column.{column_of}
use Rattle.vx_model.specs.Decoded.{zeroed, zeroed_by}
use Rattle.vx_model.specs.Plain.{plain, valid_bits, IsPlain}
use Rattle.vx_model.specs.Refusals.{bit_packed_refusal, kept, validity_allowed, validity_length}
use Rattle.vx_model.specs.Rows.{rows}
use Rattle.vx_model.specs.Tree.{Tree, Validity, packed_of, plain_packed, primitive}
use Rattle.vx_model.specs.WellFormed.{IsValidityOf, WellFormed}
use Rattle.vx_model.proofs.DecodeLemmas.{length-valid_bits}
use Rattle.vx_model.proofs.EachIntLemmas.{valid_bits-each_int, wholes-each_int}
use Rattle.vx_model.proofs.MadeLemmas.{validity_length-made}
use Rattle.vx_values.specs.Differences.{difference_bits, packed_differences}
use Rattle.vx_values.proofs.DifferenceRows.{packed-is}
use Rattle.vx_schemes.specs.BitPacking.Admitted.{packed_admitted_by}
use Rattle.vx_schemes.specs.BitPacking.FirstLeast.{first_least-is, narrow_width}
use Rattle.vx_schemes.specs.BitPacking.Tree.{packed_bytes, packed_tree, packing_of, patches_of}
use Rattle.vx_schemes.specs.FrameOfReference.Tree.{less, difference, differences, packed_or_plain}
use Rattle.vx_schemes.specs.Widths.{best_width_of, widths_of}
use Rattle.vx_schemes_common.proofs.BitsLemmas.{all_bits-are, all_bits-true}
use Rattle.vx_schemes.proofs.BitPacking.Wide.{none_wider}
use Rattle.vx_schemes_common.proofs.ColumnLemmas.{length_is, validity_is, wholes_are}
use Rattle.vx_schemes.proofs.FrameOfReference.Framed.{less-held, less-natural}
use Rattle.vx_schemes.proofs.WidthLemmas.{widths_of-is}

-- ---- what lies beneath nulls isn't packed

kept-zeros : (k : ℕ) (f : ℤ → ℕ) (bits : List Bool) (xs : List ℤ) → kept_rows k (map f (zeroed (pos 0) bits xs)) bits ≡ kept_rows k (map f xs) bits
kept-zeros k f [] xs = refl
kept-zeros k f (bit ∷ bits) [] = refl
kept-zeros k f (true ∷ bits) (x ∷ xs) = ap (λ l. kept_row k (f x) true ∷ l) (kept-zeros k f bits xs)
kept-zeros k f (false ∷ bits) (x ∷ xs) = ap (λ l. 0 ∷ l) (kept-zeros k f bits xs)

kept-zeroed : (k : ℕ) (f : ℤ → ℕ) (valid : Validity) (len : ℕ) (xs : List ℤ) → kept_rows k (map f (zeroed_by (pos 0) valid xs)) (unwrap_or valid (replicate len true)) ≡ kept_rows k (map f xs) (unwrap_or valid (replicate len true))
kept-zeroed k f None len xs = refl
kept-zeroed k f (Some bits) len xs = kept-zeros k f bits xs

-- ---- validity with a bit for each row, and without where each is true

kept-bits : (valid : Validity) (len : ℕ) → kept (Some (unwrap_or valid (replicate len true))) ≡ kept valid
kept-bits None len = rw (all_bits-true None len refl) refl
kept-bits (Some bits) len = refl

allowed : (valid : Validity) (len : ℕ) (n : Nullability) → IsValidityOf valid len n → validity_allowed valid n ≡ true
allowed None len n v = refl
allowed (Some bits) len n v = rw v.1 refl

pub bits-same : (valid : Validity) (len : ℕ) (n : Nullability) → IsValidityOf valid len n → IfSome valid (λ bits. length bits ≡ len)
bits-same None len n v = v
bits-same (Some bits) len n v = v.0

module _ (p : PType) (xs : List ℤ) (valid : Validity) (n : Nullability) (w : WellFormed (primitive p xs valid n)) (is_plain : IsPlain (primitive p xs valid n)) (reference : ℤ) where
  abbrev t : Tree
  t = primitive p xs valid n

  abbrev u : PType
  u = unsigned_of p

  -- the differences as the column has them, 0 beneath nulls
  abbrev ys : List ℤ
  ys = map whole_or_zero (differences (column_of t) reference).values

  abbrev bits : List Bool
  bits = valid_bits (differences (column_of t) reference).values

  abbrev all : List Bool
  all = unwrap_or valid (replicate (length xs) true)

  ys-are : ys ≡ zeroed_by (pos 0) valid (map (less p reference) xs)
  ys-are =
      wholes-each_int (less p reference) (rows t) ∙ (λ i. zeroed_by (pos 0) (sym (validity_is t p xs valid n w refl is_plain) i) (map (less p reference) (sym (wholes_are t p xs valid n w refl is_plain) i)))

  bits-are : bits ≡ all
  bits-are = valid_bits-each_int (less p reference) (rows t) ∙ sym (all_bits-are t p xs valid n w refl is_plain)

  kept-are : (k : ℕ) → kept_rows k (map (bits_in u) ys) bits ≡ kept_rows k (difference_bits p reference xs) all
  kept-are k = (λ i. kept_rows k (map (bits_in u) (ys-are i)) (bits-are i)) ∙ kept-zeroed k (bits_in u) valid (length xs) (map (less p reference) xs)

  long : length ys ≡ length xs
  long = length-map (differences (column_of t) reference).values whole_or_zero ∙ length-map (rows t) (difference p reference) ∙ length_is t p xs valid n w refl is_plain

  same : length bits ≡ length ys
  same = length-valid_bits (differences (column_of t) reference).values ∙ sym (length-map (differences (column_of t) reference).values whole_or_zero)

  bytes : (width : ℕ) → packed_bytes u width ys bits ≡ packed_differences p reference xs valid width
  bytes width = (λ i. bytes_in (packed_size width (long i)) (packed_number width (kept-are width i))) ∙ packed-is p reference xs valid width

  pub counted : (counts : List ℕ) → IsHistogram (bits_of u) (kept_rows 64 (difference_bits p reference xs) all) counts → sum counts ≡ length xs
  counted counts h =
      let kept = length-kept_rows 64 (map (bits_in u) ys) bits (same ∙ sym (length-map ys (bits_in u))) in
      h.total ∙ ap length (sym (kept-are 64)) ∙ kept ∙ length-map ys (bits_in u) ∙ long

  module _ (counts : List ℕ) (width : ℕ) (h : IsHistogram (bits_of u) (kept_rows 64 (difference_bits p reference xs) all) counts) (best : IsBest (cost counts (bytes_of u)) (bits_of u) width) (narrow : (width == bits_of u) ≡ false)
      (none : sum (drop (width + 1) counts) ≡ 0) where
    histogram : IsHistogram (bits_of u) (kept_rows 64 (map (bits_in u) ys) bits) counts
    histogram = subst (λ r. IsHistogram (bits_of u) r counts) (sym (kept-are 64)) h

    width-is : width ≡ best_width_of u ys bits
    width-is = first_least-is (cost (widths_of u ys bits) (bytes_of u)) (bits_of u) width (subst (λ c. IsBest (cost c (bytes_of u)) (bits_of u) width) (widths_of-is u ys bits counts histogram) best)

    wide : wide_rows width (map (bits_in u) ys) bits ≡ []
    wide = none_wider u width ys bits counts same (less-held t reference refl w) (less-natural t reference refl w) histogram best.within none

    made : packing_of u n ys bits ≡ Some (packed_tree u n ys bits width)
    made = rw (less-natural t reference refl w, ← width-is, narrow) refl

    pub packed-whole : packed_of (plain_packed u width (packed_differences p reference xs valid width) (length xs) (kept valid) n) None ≡ packed_or_plain (differences (column_of t) reference)
    packed-whole =
        sym (
        ap (λ o. unwrap_or o (plain (differences (column_of t) reference))) made
        ∙ (λ i. packed_of (plain_packed u width (bytes width i) (long i) ((ap (λ b. kept (Some b)) bits-are ∙ kept-bits valid (length xs)) i) n) (patches_of u ys (wide i)))
        )

    pub packed-admitted : bit_packed_refusal (plain_packed u width (packed_differences p reference xs valid width) (length xs) valid n) None ≡ None
    packed-admitted =
        sym (λ i. bit_packed_refusal (plain_packed u width (bytes width i) (long i) valid n) None)
        ∙ packed_admitted_by u n ys bits valid width [] (subst (λ k. validity_length valid k ≡ true) (sym long) (validity_length-made p xs valid n w)) (allowed valid (length xs) n w.0.validity) (narrow_width u width best.within narrow)
