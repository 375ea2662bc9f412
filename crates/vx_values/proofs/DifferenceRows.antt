-- The differences of a block's rows are those rows of the differences.
use Rattle.std.proofs.Common.{◌≡◌, ◌∙◌, ◌+◌, ◌-◌, ◌≤◌, ℕ, ℤ, Bool, true, List, length, map, take, drop, replicate, Some, None, refl, sym, ap, arith}
use Rattle.std.specs.Prelude.{◌-ℤ◌, IfSome, unwrap_or}
use Rattle.std.proofs.lemmas.List.{length-drop, length-map, length-replicate, length-take-le, drop-map, take-map}
use Rattle.vx_base.specs.declared.ptype.PType.{PType}
use Rattle.vx_base.specs.Integers.{bits_in, unsigned_of}
use Rattle.vx_base.specs.Packed.{bytes_in, packed_number, kept_rows, packed_size}
use Rattle.vx_base.specs.Wrapping.{wrap}
use Rattle.vx_model.specs.Tree.{Validity}
use Rattle.vx_blocks.proofs.Rows.{kept_rows-length, kept_rows_all}
use Rattle.vx_values.specs.Differences.{difference_bits, packed_differences}
use Rattle.vx_values.proofs.DifferenceBlocks.{kept-part}

pub map-part : {X Y : Type 0} (f : X → Y) (s n : ℕ) (xs : List X) → map f (take n (drop s xs)) ≡ take n (drop s (map f xs))
map-part f s n xs = sym (ap (take n) (drop-map f s xs) ∙ take-map f n (drop s xs))

pub part-long : {X : Type 0} (xs : List X) (s n : ℕ) → s + n ≤ length xs → length (take (s + n - s) (drop s xs)) ≡ n
part-long xs s n room = let e : s + n - s ≡ n = omega arith in ap (λ k. length (take k (drop s xs))) e ∙ length-take-le n (drop s xs) (omega (arith, length-drop s xs))

pub bits-long : (valid : Validity) (n : ℕ) → IfSome valid (λ bits. length bits ≡ n) → length (unwrap_or valid (replicate n true)) ≡ n
bits-long (Some bits) n h = h
bits-long None n h = length-replicate n true

pub packed-is : (p : PType) (reference : ℤ) (xs : List ℤ) (valid : Validity) (width : ℕ)
    → bytes_in (packed_size width (length xs)) (packed_number width (kept_rows width (difference_bits p reference xs) (unwrap_or valid (replicate (length xs) true)))) ≡ packed_differences p reference xs valid width
unfolding packed_differences
packed-is p reference xs valid width = refl

module _ {X : Type 0} (whole : X → ℤ) (p : PType) (reference : ℤ) (w : ℕ) (items : List X) (all : List Bool) where
  abbrev less : ℤ → ℤ
  less z = wrap (unsigned_of p) (z -ℤ reference)

  abbrev pub rows : List ℕ
  rows = kept_rows w (difference_bits p reference (map whole items)) all

  bits-part : (s n : ℕ) → difference_bits p reference (map whole (take n (drop s items))) ≡ take n (drop s (difference_bits p reference (map whole items)))
  bits-part s n =
      ap (map (bits_in (unsigned_of p))) (ap (map less) (map-part whole s n items) ∙ map-part less s n (map whole items)) ∙ map-part (bits_in (unsigned_of p)) s n (map less (map whole items))

  pub rows-part : (s n : ℕ) (bits : List Bool) → bits ≡ take (s + n - s) (drop s all) → kept_rows w (difference_bits p reference (map whole (take (s + n - s) (drop s items)))) bits ≡ take n (drop s rows)
  rows-part s n bits are =
      let e : s + n - s ≡ n = omega arith in
      ap (kept_rows w (difference_bits p reference (map whole (take (s + n - s) (drop s items))))) are
      ∙ ap (λ k. kept_rows w (difference_bits p reference (map whole (take k (drop s items)))) (take k (drop s all))) e
      ∙ ap (λ l. kept_rows w l (take n (drop s all))) (bits-part s n)
      ∙ kept-part w s n (difference_bits p reference (map whole items)) all

  module _ (same : length all ≡ length items) where
    long : length all ≡ length (map whole items)
    long = same ∙ sym (length-map items whole)

    pub rows-length : length rows ≡ length items
    rows-length = kept_rows-length (bits_in (unsigned_of p)) less w (map whole items) all long ∙ length-map items whole

    pub rows-all : (i : ℕ) → length items ≤ i → take i rows ≡ rows
    rows-all i h = kept_rows_all (bits_in (unsigned_of p)) less w (map whole items) all i long (omega (arith, length-map items whole))
