-- Block offsets as values and as natural numbers.
use Rattle.std.proofs.Common.{◌≡◌, ◌<◌, ◌≤◌, ◌+◌, ◌-◌, ◌*◌, ◌/◌, ◌%◌, ◌^◌, ◌∙◌, ℕ, zero, suc, ℤ, pos, List, [], ◌∷◌, length, map, refl, ap, sym, subst, arith, Bool, true}
use Rattle.std.specs.Prelude.{slice_index, slice_index_or, drop}
use Rattle.std.specs.List.{list_all, range_with_len}
use Rattle.std.proofs.lemmas.Bool.{and_parts, and_from, lt-ltb}
use Rattle.std.proofs.lemmas.List.{length-map}
use Rattle.vx_base.specs.declared.ptype.PType.TheVariants.{U64}
use Rattle.vx_base.specs.Integers.{lies_in}
use Rattle.vx_base.specs.Packed.{packed_row}
use Rattle.vx_base.specs.PackedBlocks.{block_row}
use Rattle.vx_base.specs.PlainValue.{PlainValue, int, whole_or_zero}
use Rattle.vx_blocks.specs.InBlocks.{AreBlockOffsets}
use Rattle.vx_model.specs.Rows.{row_at, is_index, offset_at, below, block_rows, packed_in_block}
use Rattle.vx_model.specs.WellFormed.{lies_between, is_block_width, are_block_offsets}
use Rattle.vx_model.proofs.BlocksLemmas.{width-within}
use Rattle.vx_model.proofs.NumberedLemmas.{below_passes}

-- ---- each offset is a natural number, at most the last one

between-int : (low high : ℕ) (v : PlainValue) (vs : List PlainValue) → lies_between low high v ≡ true → whole_or_zero v ≡ pos (offset_at (v ∷ vs) 0)
between-int low high (int (pos n)) vs h = refl
between-int low high v vs h = absurd cc

module _ (most : ℕ) (vs : List PlainValue) (h : are_block_offsets most vs ≡ true) where
  -- an offset as a whole number
  pub whole-offset : (b : ℕ) → b < length vs → whole_or_zero (row_at vs b) ≡ pos (offset_at vs b)
  whole-offset zero l = first (row_at vs 0) (and_parts (is_index (row_at vs 0) 0) _ h).0
    where
      first : (v : PlainValue) → is_index v 0 ≡ true → whole_or_zero v ≡ pos (offset_at (v ∷ []) 0)
      first (int (pos k)) e = refl
      first v e = absurd cc
  whole-offset (suc b) l =
      let each = (and_parts (is_index (row_at vs 0) 0) (list_all (is_block_width most vs) (range_with_len 0 (length vs - 1))) h).1 in
      let one : b + 1 ≡ suc b = omega arith in
      let own = below_passes (is_block_width most vs) (length vs - 1) b each (omega arith) in
      subst (λ k. whole_or_zero (row_at vs k) ≡ pos (offset_at vs k)) one (between-int (offset_at vs b) (offset_at vs b + most + 1) (row_at vs (b + 1)) [] own)

  pub rises_to : (n b c : ℕ) → b + n ≡ c → c < length vs → offset_at vs b ≤ offset_at vs c
  rises_to zero b c e l = let same : b ≡ c = omega arith in omega (arith, ap (offset_at vs) same)
  rises_to (suc n) b c e l =
      let step = (width-within most vs b h (omega arith)).0 in
      let later = rises_to n (b + 1) c (omega arith) l in
      omega arith

by_index : (p : ℤ → Bool) (zs : List ℤ) → ((b : ℕ) → b < length zs → p (slice_index_or zs b (pos 0)) ≡ true) → list_all p zs ≡ true
by_index p [] h = refl
by_index p (z ∷ zs) h = and_from _ _ (h 0 (omega arith)) (by_index p zs (λ b l. h (suc b) (omega arith)))

row-whole : (zs : List ℤ) (b : ℕ) → b < length zs → slice_index_or zs b (pos 0) ≡ whole_or_zero (row_at (map int zs) b)
row-whole [] b l = absurd (omega arith)
row-whole (z ∷ zs) zero l = refl
row-whole (z ∷ zs) (suc b) l = row-whole zs b (omega arith)

-- offsets into bytes that a slice holds are words of 64 bits
pub offsets_are_words : (most : ℕ) (zs : List ℤ) (blocks size : ℕ) → are_block_offsets most (map int zs) ≡ true → length zs ≡ blocks + 1 → size ≡ 128 * offset_at (map int zs) blocks → size < 2 ^ 64
    → list_all (lies_in U64) zs ≡ true
offsets_are_words most zs blocks size h lengths sized few =
    let as_long = length-map zs int in
    by_index (lies_in U64) zs (λ b l.
    let up = rises_to most (map int zs) h (blocks - b) b blocks (omega arith) (omega arith) in
    let e = row-whole zs b l ∙ whole-offset most (map int zs) h b (omega arith) in
    subst (λ z. lies_in U64 z ≡ true) (sym e) (lt-ltb _ _ (omega arith)))

-- ---- offsets as natural numbers

offset_at-words : (ws : List ℕ) (b : ℕ) → offset_at (map int (map pos ws)) b ≡ slice_index ws b
offset_at-words [] b = refl
offset_at-words (w ∷ ws) zero = refl
offset_at-words (w ∷ ws) (suc b) = offset_at-words ws b

module _ (ws : List ℕ) (zs : List ℤ) (same : map pos ws ≡ zs) where
  pub offset_at-wholes : (b : ℕ) → offset_at (map int zs) b ≡ slice_index ws b
  offset_at-wholes b = subst (λ xs. offset_at (map int xs) b ≡ slice_index ws b) same (offset_at-words ws b)

  pub length-words : length ws ≡ length zs
  length-words = sym (length-map ws pos) ∙ ap length same

  pub words_are_offsets : (most : ℕ) → are_block_offsets most (map int zs) ≡ true → AreBlockOffsets most ws
  words_are_offsets most h =
      let as_long : length (map int zs) ≡ length ws = length-map zs int ∙ sym length-words in
      record {
        rising = λ b l. let w = width-within most (map int zs) b h (omega arith) in omega (arith, offset_at-wholes b, offset_at-wholes (b + 1));
        narrow = λ b l. let w = width-within most (map int zs) b h (omega arith) in omega (arith, offset_at-wholes b, offset_at-wholes (b + 1));
      }

  row-words : (bytes : List ℕ) (i : ℕ) → pos (block_row bytes ws i) ≡ whole_or_zero (packed_in_block bytes (map int zs) i)
  row-words bytes i =
      let b = i / block_rows in
      λ j. pos (packed_row (drop (128 * sym (offset_at-wholes b) j) bytes) (sym (offset_at-wholes (b + 1)) j - sym (offset_at-wholes b) j) (i % block_rows))

  -- the rows of blocks by either
  pub rows-words : (bytes : List ℕ) (len : ℕ) → map (λ row. pos (block_row bytes ws row)) (range_with_len 0 len) ≡ below (λ i. whole_or_zero (packed_in_block bytes (map int zs) i)) len
  rows-words bytes len = λ j. map (λ i. row-words bytes i j) (range_with_len 0 len)

pub ruleset words_of_offsets = (offsets_are_words, offset_at-wholes, length-words, words_are_offsets, rows-words)
