-- Partitions cover the rows in order, and each slice lies in its own.
use Rattle.std.proofs.Common.{◌≡◌, ◌<◌, ◌≤◌, ℕ, ◌+◌, ◌-◌, ◌*◌, Bool, true, false, cond, List, [], ◌∷◌, ◌++◌, refl, sym, ◌∙◌, ap, arith}
use Rattle.std.specs.Prelude.{◌/◌, ◌%◌, min, max, nat_lt}
use borrow.Author.Tests.{ltb-true}
use Rattle.std.proofs.Math.Nat.{mod-lt, mul-le-mul_right, mul-mod_left}
use Rattle.std.proofs.lemmas.Bool.{leb-false, ltb-false}
use Rattle.std.proofs.lemmas.List.FromFn.{map-range_with_len_more}
use Rattle.std.proofs.lemmas.Nat.{le-div}
use Rattle.vx_model.specs.Rows.{below}
use Rattle.vx_compressor.specs.Sampling.{partition_rows, partition_start, partition, slice_of, slice_count, is_short, word_at}
use Rattle.vx_compressor.specs.SamplingLaws.{PartitionsCover, SlicesLieInPartitions, CountsAreLeast}

step : (q r i : ℕ) (b : Bool) → nat_lt i r ≡ b → (i + 1) * q + min (i + 1) r ≡ i * q + min i r + cond b (q + 1) q
step q r i true e = let l : i < r = ltb-true _ _ e in omega arith
step q r i false e = let l : r ≤ i = ltb-false _ _ e in omega arith

-- each partition begins where the one before ends
pub start-next : (rows n i : ℕ) → partition_start rows n (i + 1) ≡ partition_start rows n i + partition_rows rows n i
start-next rows n i = step (rows / n) (rows % n) i (nat_lt i (rows % n)) refl

start-last : (rows n : ℕ) → 0 < n → partition_start rows n n ≡ rows
start-last rows n some = omega arith

last-end : (rows n : ℕ) → 0 < n → partition_start rows n (n - 1) + partition_rows rows n (n - 1) ≡ rows
last-end rows n some =
    let same : n - 1 + 1 ≡ n = omega arith in
    sym (start-next rows n (n - 1)) ∙ ap (partition_start rows n) same ∙ start-last rows n some

pub partitions_cover : PartitionsCover
partitions_cover rows n some = record { from_first = omega arith; in_order = start-next rows n; to_last = last-end rows n some }

-- and no partition is beyond the rows
pub start-within : (rows n i : ℕ) → 0 < n → i ≤ n → partition_start rows n i ≤ rows
start-within rows n i some below = omega (arith, mul-le-mul_right (rows / n) below)

pub end-within : (rows n i : ℕ) → 0 < n → i < n → partition_start rows n i + partition_rows rows n i ≤ rows
end-within rows n i some below = rw (← start-next rows n i) (start-within rows n (i + 1) some (omega arith))

-- ---- counts

pub counts_are_least : CountsAreLeast
counts_are_least rows = record { sixteens = mul-mod_left ((max 16 (rows / 100 / 64) + 15) / 16) 16; some = omega arith; enough = omega arith; least = λ k some enough. omega arith }

-- ---- slices

-- where a column is long, there are at least 64 rows to a partition
long : (rows : ℕ) → is_short rows ≡ false → 64 ≤ rows / slice_count rows
long rows e =
    let least = counts_are_least rows in
    let l : 64 * slice_count rows < rows = leb-false rows (64 * slice_count rows) e in
    le-div 64 rows (slice_count rows) (omega (arith, least.some)) (omega (arith, l))

at_least : (q r i : ℕ) (b : Bool) → q ≤ cond b (q + 1) q
at_least q r i true = omega arith
at_least q r i false = omega arith

-- a slice has room in its partition
pub room : (rows i : ℕ) → is_short rows ≡ false → 64 ≤ partition_rows rows (slice_count rows) i
room rows i e = omega (arith, long rows e, at_least (rows / slice_count rows) (rows % slice_count rows) i (nat_lt i (rows % slice_count rows)))

placed : (start rows word : ℕ) → 64 ≤ rows → start + word % (rows - 63) + 64 ≤ start + rows
placed start rows word h = let l : word % (rows - 63) < rows - 63 = mod-lt word (omega arith) in omega arith

pub slices_lie : SlicesLieInPartitions
slices_lie rows words i e = (
  refl,
  record {
    not_before = omega arith;
    not_beyond = placed (partition_start rows (slice_count rows) i) (partition_rows rows (slice_count rows) i) (word_at words i) (room rows i e);
  },
)

-- ---- one more range

below-next : {A : Type 0} (f : ℕ → A) (n : ℕ) → below f (n + 1) ≡ below f n ++ f n ∷ []
below-next f n = map-range_with_len_more f 0 n n (omega arith)

pub start_of-next : (rows n i start long : ℕ) → start ≡ partition_start rows n i → long ≡ partition_rows rows n i → start + long ≡ partition_start rows n (i + 1)
start_of-next rows n i start long s l = (λ j. s j + l j) ∙ sym (start-next rows n i)

pub partitions-next : (rows n i start long : ℕ) → start ≡ partition_start rows n i → long ≡ partition_rows rows n i → below (partition rows n) i ++ (start, start + long) ∷ [] ≡ below (partition rows n) (i + 1)
partitions-next rows n i start long s l = (λ j. below (partition rows n) i ++ (s j, s j + l j) ∷ []) ∙ sym (below-next (partition rows n) i)

pub slices-next : (rows : ℕ) (words : List ℕ) (count i start long word : ℕ) → count ≡ slice_count rows → start ≡ partition_start rows count i → long ≡ partition_rows rows count i → word ≡ word_at words i
    → below (slice_of rows words) i ++ (start + word % (long - 63), start + word % (long - 63) + 64) ∷ [] ≡ below (slice_of rows words) (i + 1)
slices-next rows words count i start long word e s l w =
    let s' = s ∙ ap (λ n. partition_start rows n i) e in
    let l' = l ∙ ap (λ n. partition_rows rows n i) e in
    (λ j. below (slice_of rows words) i ++ (s' j + w j % (l' j - 63), s' j + w j % (l' j - 63) + 64) ∷ []) ∙ sym (below-next (slice_of rows words) i)

-- a slice has room, within the rows
pub slice_fits : (rows count i start long : ℕ) → is_short rows ≡ false → count ≡ slice_count rows → i < count → start ≡ partition_start rows count i → long ≡ partition_rows rows count i → (64 ≤ long) × (start + long ≤ rows)
slice_fits rows count i start long e counted below s l =
    let wide = room rows i e in
    let same : long ≡ partition_rows rows (slice_count rows) i = l ∙ ap (λ n. partition_rows rows n i) counted in
    let within = end-within rows count i (omega arith) below in
    (omega (arith, wide, same), omega (arith, within, s, l))
