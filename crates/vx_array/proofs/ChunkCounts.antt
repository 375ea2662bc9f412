-- Chunk offsets of patches: which indices are below a bound, where a search by chunks looks, and the test of each offset.
use Rattle.std.proofs.Common.{◌≡◌, ◌<◌, ◌≤◌, ◌+◌, ◌-◌, ◌*◌, ◌/◌, ◌^◌, ◌∙◌, ℕ, zero, suc, pos, negsuc, Bool, List, [], ◌∷◌, length, inl, inr, true, false, refl, sym, ap, subst, arith, add-one, Option, Some, None}
use Rattle.std.specs.List.{list_all, range_with_len}
use Rattle.std.specs.Prelude.{IfSome, nat_le}
use Rattle.std.proofs.lemmas.Bool.{cases_lt, true≢false, and_parts, and_from, ne_eqb, eqb-true, leb-true, leb-false}
use Rattle.vx_base.specs.PlainValue.{PlainValue, int}
use Rattle.vx_model.specs.Rows.{rows, row_at, index_of, is_index, offset_at, block_rows}
use Rattle.vx_model.specs.Tree.{Tree, PlainPatches, chunked}
use Rattle.vx_model.specs.WellFormed.{WellFormedPatches, IsChunked, are_chunk_offsets, ascend, indices_below}
use Rattle.vx_model.proofs.ChunkLemmas.{below-all, below-before, below-behind, below-most, below-rises, chunk-offset}
use Rattle.vx_model.proofs.NumberedLemmas.{below_passes}
use Rattle.vx_flat.proofs.PartRows.{range_passes}
use Rattle.vx_array.specs.Linear.{IsUniform}
use Rattle.vx_model.proofs.PatchLemmas.{NoneBelow, NoneFrom, ascend_parts, ascend_from, is_index-of}

-- ---- indices below a bound

-- what rises within bounds rises within wider ones
pub ascend-wider : (low high from to : ℕ) (is : List PlainValue) → from ≤ low → high ≤ to → ascend low high is ≡ true → ascend from to is ≡ true
ascend-wider low high from to [] a b e = refl
ascend-wider low high from to (int (pos m) ∷ is) a b e =
    let p = ascend_parts low high m is e in
    let least = p.0 in
    let most = p.1 in
    ascend_from from to m is (omega arith) (omega arith) (ascend-wider (m + 1) high (m + 1) to is (omega arith) b p.2)
ascend-wider low high from to (v ∷ is) a b e = absurd cc

module _ (low high b : ℕ) (is : List PlainValue) (e : ascend low high is ≡ true) (i k : ℕ) (found : index_of (row_at is i) ≡ Some k) where
  -- an index below the bound is among those that are counted
  pub counts-below : k < b → i < indices_below b is
  counts-below l =
      elim (cases_lt i (indices_below b is)) [
        | inl less ↦ less
        | inr more ↦ absurd (true≢false (sym (is_index-of (row_at is i) k found) ∙ below-behind low high b k is e l i more))
      ]

  -- and one that isn't below it isn't
  pub counts-behind : b ≤ k → indices_below b is ≤ i
  counts-behind l =
      elim (cases_lt i (indices_below b is)) [
        | inl less ↦ absurd (true≢false (sym (is_index-of (row_at is i) k found) ∙ below-before low high b k is e l i less))
        | inr more ↦ more
      ]

-- ---- where a search looks

-- the chunk offsets of patches are well formed
chunks-held : (len offset : ℕ) (indices values : Tree) (o : Option Tree) (chunks : Tree) → o ≡ Some chunks → WellFormedPatches (chunked len offset indices values o) → IsChunked len offset indices chunks
chunks-held len offset indices values None chunks e w = absurd cc
chunks-held len offset indices values (Some own) chunks e w = let same : own ≡ chunks = cc in rw same at w.3.1

module _ (p : PlainPatches) (chunks : Tree) (w : WellFormedPatches p) (e : p.chunks ≡ Some chunks) where
  held : IsChunked p.array_len p.offset p.indices chunks
  held = chunks-held p.array_len p.offset p.indices p.values p.chunks chunks e w

  -- the offset of a chunk, or behind the last one the number of all indices, is the number of indices before it
  pub before-offset : (c : ℕ) → c < length (rows chunks) → offset_at (rows chunks) c ≡ indices_below (block_rows * c) (rows p.indices)
  before-offset c l = chunk-offset (rows p.indices) (rows chunks) c held.counted l

  pub before-last : (c : ℕ) → length (rows chunks) ≤ c → length (rows p.indices) ≡ indices_below (block_rows * c) (rows p.indices)
  before-last c l =
      let many = held.lengths in
      sym (below-all p.offset (p.offset + p.array_len) (block_rows * c) (rows p.indices) w.2.ascending (omega arith))

  pub before-most : (c : ℕ) → indices_below (block_rows * c) (rows p.indices) ≤ length (rows p.indices)
  before-most c = below-most p.offset (p.offset + p.array_len) (block_rows * c) (rows p.indices) w.2.ascending

-- what is said of patches with chunk offsets holds where there are some
pub where_some : {T : Type 0} (o : Option T) (x : T) (P : Type 0) → o ≡ Some x → IfSome o (λ _. P) → P
where_some None x P e h = absurd cc
where_some (Some y) x P e h = h

-- the numbers of indices before a chunk and before the next one are where a search for an index of the chunk begins and ends
module _ (p : PlainPatches) (w : WellFormedPatches p) (n low high : ℕ) (l : low ≡ indices_below (block_rows * (n / block_rows)) (rows p.indices)) (h : high ≡ indices_below (block_rows * (n / block_rows + 1)) (rows p.indices)) where
  abbrev all : List PlainValue
  all = rows p.indices

  pub chunk_order : low ≤ high
  chunk_order = omega (arith, l, h, below-rises p.offset (p.offset + p.array_len) (block_rows * (n / block_rows)) (block_rows * (n / block_rows + 1)) all w.2.ascending (omega arith))

  pub chunk_below : NoneBelow all n low
  chunk_below = subst (NoneBelow all n) (sym l) (below-before p.offset (p.offset + p.array_len) (block_rows * (n / block_rows)) n all w.2.ascending (omega arith))

  pub chunk_from : NoneFrom all n high
  chunk_from = subst (NoneFrom all n) (sym h) (below-behind p.offset (p.offset + p.array_len) (block_rows * (n / block_rows + 1)) n all w.2.ascending (omega arith))

-- ---- a test of each number

all_from : (p : ℕ → Bool) (start n : ℕ) → list_all p (range_with_len start n) ≡ true → p (start + n) ≡ true → list_all p (range_with_len start (suc n)) ≡ true
all_from p start zero h e = let at : start + 0 ≡ start = omega arith in and_from _ _ (subst (λ k. p k ≡ true) at e) refl
all_from p start (suc n) h e =
    let at : start + suc n ≡ start + 1 + n = omega arith in
    let b = and_parts (p start) (list_all p (range_with_len (start + 1) n)) h in
    and_from _ _ b.0 (all_from p (start + 1) n b.1 (subst (λ k. p k ≡ true) at e))

pub all-next : (p : ℕ → Bool) (n : ℕ) → list_all p (range_with_len 0 n) ≡ true → p n ≡ true → list_all p (range_with_len 0 (n + 1)) ≡ true
all-next p n h e = let at : n ≡ 0 + n = omega arith in rw (add-one n) (all_from p 0 n h (subst (λ k. p k ≡ true) at e))

pub all-fail : (p : ℕ → Bool) (n i : ℕ) → i < n → p i ≡ false → list_all p (range_with_len 0 n) ≡ false
all-fail p n i l f = pick (list_all p (range_with_len 0 n)) refl
  where
    pick : (b : Bool) → list_all p (range_with_len 0 n) ≡ b → list_all p (range_with_len 0 n) ≡ false
    pick true e = absurd (true≢false (sym (below_passes p n i e l) ∙ f))
    pick false e = e

-- ---- equal chunk offsets

-- no indices are below any bound
pub below-none : (b : ℕ) (is : List PlainValue) → length is ≡ 0 → indices_below b is ≡ 0
below-none b [] e = refl
below-none b (v ∷ is) e = absurd (omega arith)

module _ (is os : List PlainValue) (up : ascend 0 (2 ^ 65) is ≡ true) (same : IsUniform os) (some : 0 < length os) where
  abbrev counted : ℕ → Bool
  counted c = is_index (row_at os c) (indices_below (block_rows * c) is)

  -- no index is below 0
  first_count : indices_below (block_rows * 0) is ≡ 0
  first_count = pick is up
    where
      pick : (vs : List PlainValue) → ascend 0 (2 ^ 65) vs ≡ true → indices_below (block_rows * 0) vs ≡ 0
      pick [] e = refl
      pick (int (pos n) ∷ vs) e =
          elim (cases_lt 0 (indices_below (block_rows * 0) (int (pos n) ∷ vs))) [
            | inl less ↦ absurd (true≢false (sym (is_index-of (int (pos n)) n refl) ∙ below-before 0 (2 ^ 65) (block_rows * 0) n (int (pos n) ∷ vs) e (omega arith) 0 less))
            | inr more ↦ omega arith
          ]
      pick (v ∷ vs) e = absurd cc

  pub zeros-first : is_index (row_at os 0) 0 ≡ false → list_all counted (range_with_len 0 (length os)) ≡ false
  zeros-first fails = all-fail counted (length os) 0 some (ap (is_index (row_at os 0)) first_count ∙ fails)

  -- where no index is below the last chunk
  pub zeros-all : is_index (row_at os 0) 0 ≡ true → indices_below (block_rows * (length os - 1)) is ≡ 0 → list_all counted (range_with_len 0 (length os)) ≡ true
  zeros-all first none = range_passes counted 0 (length os) (λ c l. (
      let most = below-rises 0 (2 ^ 65) (block_rows * c) (block_rows * (length os - 1)) is up (omega arith) in
      let count : indices_below (block_rows * c) is ≡ 0 = omega (arith, most, none) in
      let few : c < length os = omega (arith, l) in
      (λ i. is_index (same c few i) (count i)) ∙ first
      ))

  is_zero : (v : PlainValue) (n : ℕ) → is_index v 0 ≡ true → 0 < n → is_index v n ≡ false
  is_zero (int (pos k)) n e l = ne_eqb k n (λ f. let z = eqb-true k 0 e in omega arith)
  is_zero (int (negsuc k)) n e l = refl
  is_zero v n e l = absurd cc

  pub zeros-last : is_index (row_at os 0) 0 ≡ true → 0 < indices_below (block_rows * (length os - 1)) is → list_all counted (range_with_len 0 (length os)) ≡ false
  zeros-last first more =
      let last : length os - 1 < length os = omega arith in
      all-fail counted (length os) (length os - 1) last (ap (λ v. is_index v (indices_below (block_rows * (length os - 1)) is)) (same (length os - 1) last) ∙ is_zero (row_at os 0) (indices_below (block_rows * (length os - 1)) is) first more)

  -- by the first index
  pub zeros-first_index : (k : ℕ) → is_index (row_at os 0) 0 ≡ true → index_of (row_at is 0) ≡ Some k → list_all counted (range_with_len 0 (length os)) ≡ nat_le (block_rows * (length os - 1)) k
  zeros-first_index k first found = pick (nat_le (block_rows * (length os - 1)) k) refl
    where
      pick : (b : Bool) → nat_le (block_rows * (length os - 1)) k ≡ b → list_all counted (range_with_len 0 (length os)) ≡ b
      pick true e =
          let behind = counts-behind 0 (2 ^ 65) (block_rows * (length os - 1)) is up 0 k found (leb-true (block_rows * (length os - 1)) k e) in
          zeros-all first (omega (arith, behind))
      pick false e = zeros-last first (counts-below 0 (2 ^ 65) (block_rows * (length os - 1)) is up 0 k found (leb-false (block_rows * (length os - 1)) k e))

  -- without an index
  pub zeros-no_index : is_index (row_at os 0) 0 ≡ true → length is ≡ 0 → list_all counted (range_with_len 0 (length os)) ≡ true
  zeros-no_index first none = zeros-all first (below-none (block_rows * (length os - 1)) is none)

pub zeros-none : (is os : List PlainValue) → length os ≡ 0 → are_chunk_offsets is os ≡ true
zeros-none is os none = ap (λ n. list_all (λ c. is_index (row_at os c) (indices_below (block_rows * c) is)) (range_with_len 0 n)) none
