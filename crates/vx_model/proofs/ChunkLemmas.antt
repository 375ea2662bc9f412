-- Chunk offsets of patches: a row's patch is among those of the row's chunk.
use Rattle.std.proofs.Common.{◌≡◌, ◌<◌, ◌≤◌, ◌+◌, ◌*◌, ◌/◌, ◌∙◌, ℕ, zero, suc, pos, List, [], ◌∷◌, length, refl, arith, inl, inr, true, false, sym, ap}
use Rattle.std.specs.Prelude.{unwrap_or}
use Rattle.std.proofs.lemmas.Bool.{cases_lt, lt-ltb, le-ltb, ne_eqb, eqb-true}
use Rattle.vx_base.specs.Packed.{block_count}
use Rattle.vx_base.specs.PlainValue.{PlainValue, int}
use Rattle.vx_model.specs.Rows.{row_at, is_index, index_of, offset_at, block_rows}
use Rattle.vx_model.specs.WellFormed.{ascend, indices_below, are_chunk_offsets}
use Rattle.vx_model.proofs.NumberedLemmas.{below_passes}
use Rattle.vx_model.proofs.PatchLemmas.{NoneBelow, NoneFrom, ascend_parts, above_all}
use Rattle.vx_model.proofs.RleLemmas.{block-within}

-- ---- the number of indices below a bound, where indices ascend

-- of an index in front
below-taken : (b m : ℕ) (is : List PlainValue) → m < b → indices_below b (int (pos m) ∷ is) ≡ suc (indices_below b is)
below-taken b m is l = rw (lt-ltb m b l) refl

below-left : (b m : ℕ) (is : List PlainValue) → b ≤ m → indices_below b (int (pos m) ∷ is) ≡ indices_below b is
below-left b m is l = rw (le-ltb m b l) refl

-- none where all are at the bound or above
below-none : (low high b : ℕ) (is : List PlainValue) → ascend low high is ≡ true → b ≤ low → indices_below b is ≡ 0
below-none low high b [] e l = refl
below-none low high b (int (pos m) ∷ is) e l =
    let parts = ascend_parts low high m is e in
    below-left b m is (omega arith) ∙ below-none (m + 1) high b is parts.2 (omega arith)
below-none low high b (v ∷ is) e l = absurd cc

pub below-all : (low high b : ℕ) (is : List PlainValue) → ascend low high is ≡ true → high ≤ b → indices_below b is ≡ length is
below-all low high b [] e l = refl
below-all low high b (int (pos m) ∷ is) e l =
    let parts = ascend_parts low high m is e in
    below-taken b m is (omega arith) ∙ ap suc (below-all (m + 1) high b is parts.2 l)
below-all low high b (v ∷ is) e l = absurd cc

pub below-most : (low high b : ℕ) (is : List PlainValue) → ascend low high is ≡ true → indices_below b is ≤ length is
below-most low high b [] e = omega arith
below-most low high b (int (pos m) ∷ is) e =
    let parts = ascend_parts low high m is e in
    let rest = below-most (m + 1) high b is parts.2 in
    elim (cases_lt m b) [
      | inl less ↦ omega (arith, below-taken b m is less)
      | inr more ↦ omega (arith, below-left b m is more)
    ]
below-most low high b (v ∷ is) e = absurd cc

pub below-rises : (low high a b : ℕ) (is : List PlainValue) → ascend low high is ≡ true → a ≤ b → indices_below a is ≤ indices_below b is
below-rises low high a b [] e l = omega arith
below-rises low high a b (int (pos m) ∷ is) e l =
    let parts = ascend_parts low high m is e in
    let rest = below-rises (m + 1) high a b is parts.2 l in
    elim (cases_lt m a) [
      | inl less ↦ omega (arith, below-taken a m is less, below-taken b m is (omega arith))
      | inr more ↦ omega (arith, below-left a m is more, below-none (m + 1) high a is parts.2 (omega arith))
    ]
below-rises low high a b (v ∷ is) e l = absurd cc

-- ---- an index is behind those below a bound that it is not below, and before those from a bound on that it is below

pub below-before : (low high b n : ℕ) (is : List PlainValue) → ascend low high is ≡ true → b ≤ n → NoneBelow is n (indices_below b is)
below-before low high b n [] e l j k = absurd (omega arith)
below-before low high b n (int (pos m) ∷ is) e l j k =
    let parts = ascend_parts low high m is e in
    elim (cases_lt m b) [
      | inl less ↦ here less (below-before (m + 1) high b n is parts.2 l) j (omega (arith, k, below-taken b m is less))
      | inr more ↦ absurd (omega (arith, k, below-left b m is more, below-none (m + 1) high b is parts.2 (omega arith)))
    ]
  where
    here : m < b → NoneBelow is n (indices_below b is) → (i : ℕ) → i < suc (indices_below b is) → is_index (row_at (int (pos m) ∷ is) i) n ≡ false
    here less rest zero k = ne_eqb m n (λ same. absurd (omega (arith, same)))
    here less rest (suc i) k = rest i (omega arith)
below-before low high b n (v ∷ is) e l j k = absurd cc

pub below-behind : (low high b n : ℕ) (is : List PlainValue) → ascend low high is ≡ true → n < b → NoneFrom is n (indices_below b is)
below-behind low high b n [] e l j k = refl
below-behind low high b n (int (pos m) ∷ is) e l j k =
    let parts = ascend_parts low high m is e in
    elim (cases_lt m b) [
      | inl less ↦ there (below-behind (m + 1) high b n is parts.2 l) j (omega (arith, k, below-taken b m is less))
      | inr more ↦ here more (above_all (m + 1) high is n parts.2 (omega arith)) j
    ]
  where
    there : NoneFrom is n (indices_below b is) → (i : ℕ) → suc (indices_below b is) ≤ i → is_index (row_at (int (pos m) ∷ is) i) n ≡ false
    there rest zero k = absurd (omega arith)
    there rest (suc i) k = rest i (omega arith)

    here : b ≤ m → NoneFrom is n 0 → (i : ℕ) → is_index (row_at (int (pos m) ∷ is) i) n ≡ false
    here more rest zero = ne_eqb m n (λ same. absurd (omega (arith, same)))
    here more rest (suc i) = rest i (omega arith)
below-behind low high b n (v ∷ is) e l j k = absurd cc

-- ---- chunk offsets

index-offset : (v : PlainValue) (k : ℕ) → is_index v k ≡ true → unwrap_or (index_of v) 0 ≡ k
index-offset (int (pos n)) k h = eqb-true n k h
index-offset v k h = absurd cc

-- the offset of a chunk is the number of indices before it
pub chunk-offset : (indices chunks : List PlainValue) (c : ℕ) → are_chunk_offsets indices chunks ≡ true → c < length chunks → offset_at chunks c ≡ indices_below (block_rows * c) indices
chunk-offset indices chunks c h l = index-offset (row_at chunks c) _ (below_passes (λ i. is_index (row_at chunks i) (indices_below (block_rows * i) indices)) (length chunks) c h l)

-- ---- the places that a search for an index looks through

module _ (len offset : ℕ) (indices chunks : List PlainValue) (rising : ascend offset (offset + len) indices ≡ true) (counted : are_chunk_offsets indices chunks ≡ true) (many : length chunks ≡ block_count (offset + len)) (n : ℕ) (within : n < offset + len) where
  -- the chunk has an offset, the number of indices before it
  pub chunk-there : n / block_rows < length chunks
  chunk-there = let own = block-within (offset + len) n within in omega (arith, own.0, many)

  pub chunk-low : offset_at chunks (n / block_rows) ≡ indices_below (block_rows * (n / block_rows)) indices
  chunk-low = chunk-offset indices chunks (n / block_rows) counted chunk-there

  -- it ends where the next one begins, or behind the last index
  pub chunk-high : n / block_rows + 1 < length chunks → offset_at chunks (n / block_rows + 1) ≡ indices_below (block_rows * (n / block_rows + 1)) indices
  chunk-high l = chunk-offset indices chunks (n / block_rows + 1) counted l

  pub chunk-last : length chunks ≤ n / block_rows + 1 → length indices ≡ indices_below (block_rows * (n / block_rows + 1)) indices
  chunk-last l =
      let ends : offset + len ≤ block_rows * (n / block_rows + 1) = omega (arith, l, many) in
      sym (below-all offset (offset + len) (block_rows * (n / block_rows + 1)) indices rising ends)

  -- the index is at none of the places before the chunk, and at none from its end on
  pub chunk-before : NoneBelow indices n (indices_below (block_rows * (n / block_rows)) indices)
  chunk-before = below-before offset (offset + len) (block_rows * (n / block_rows)) n indices rising (omega arith)

  pub chunk-behind : NoneFrom indices n (indices_below (block_rows * (n / block_rows + 1)) indices)
  chunk-behind = below-behind offset (offset + len) (block_rows * (n / block_rows + 1)) n indices rising (omega arith)

  pub chunk-order : indices_below (block_rows * (n / block_rows)) indices ≤ indices_below (block_rows * (n / block_rows + 1)) indices
  chunk-order = below-rises offset (offset + len) (block_rows * (n / block_rows)) (block_rows * (n / block_rows + 1)) indices rising (omega arith)

  pub chunk-most : indices_below (block_rows * (n / block_rows + 1)) indices ≤ length indices
  chunk-most = below-most offset (offset + len) (block_rows * (n / block_rows + 1)) indices rising
