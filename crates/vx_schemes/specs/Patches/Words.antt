-- Indices and chunk offsets are words that never decrease.
use Rattle.std.proofs.Common.{◌≡◌, ◌<◌, ◌≤◌, ◌+◌, ◌*◌, ℕ, suc, pos, List, [], ◌∷◌, length, map, Some, true, refl, ap, subst, arith}
use Rattle.std.specs.Prelude.{int_le}
use Rattle.std.specs.List.{list_all}
use Rattle.std.proofs.lemmas.Bool.{and_from, and_parts, eqb-true}
use Rattle.std.proofs.lemmas.Bool.Decides.{nat_tests}
use Rattle.std.proofs.lemmas.Int.{ints}
use Rattle.vx_base.specs.declared.ptype.PType.TheVariants.{U64}
use Rattle.vx_base.specs.declared.dtype.Nullability.TheVariants.{NonNullable}
use Rattle.vx_base.specs.Integers.{lies_in}
use Rattle.vx_base.specs.PlainScalar.{fits}
use Rattle.vx_base.specs.PlainType.{PlainType}
use Rattle.vx_base.specs.PlainType as types
use Rattle.vx_base.specs.PlainValue.{PlainValue, int, whole_or_zero}
use Rattle.vx_model.specs.Rows.{rows, row_at, is_index, block_rows}
use Rattle.vx_model.specs.Tree.{Tree, PlainPatches}
use Rattle.vx_model.specs.TreeType.{tree_type}
use Rattle.vx_model.specs.WellFormed.{WellFormed, WellFormedChunks, WellFormedPatches, IsChunked, ascend, indices_below, never_falls}
use Rattle.vx_model.proofs.AscentLemmas.{by_ascent}
use Rattle.vx_model.proofs.ChunkLemmas.{below-rises}
use Rattle.vx_model.proofs.MadeLemmas.{rows_fit}
use Rattle.vx_model.proofs.NumberedLemmas.{below_passes}
use Rattle.vx_model.proofs.PatchLemmas.{ascend_parts}
use Rattle.vx_model.proofs.RisingLemmas.{word_of}
use Rattle.vx_schemes_common.specs.Rising.{ascend-words, fit_all}
use Rattle.vx_schemes.specs.Patches.Compressed.{IsRising}

-- words are their whole numbers
pub words-whole : (vs : List PlainValue) → fit_all U64 vs ≡ true → map int (map whole_or_zero vs) ≡ vs
words-whole [] h = refl
words-whole (int z ∷ vs) h = let b = and_parts (lies_in U64 z) (fit_all U64 vs) h in ap (λ rest. int z ∷ rest) (words-whole vs b.1)
words-whole (v ∷ vs) h = absurd cc

-- ---- indices ascend

ascend-rising : (low high : ℕ) (is : List PlainValue) → ascend low high is ≡ true → never_falls is ≡ true
ascend-rising low high is a = by_ascent high (λ low is. never_falls is ≡ true) (λ low. refl) (λ low n is from under rest later. before n is rest later) low is a
  where
    before : (n : ℕ) (is : List PlainValue) → ascend (n + 1) high is ≡ true → never_falls is ≡ true → never_falls (int (pos n) ∷ is) ≡ true
    before n [] rest later = refl
    before n (int (pos m) ∷ is) rest later =
        let p = ascend_parts (n + 1) high m is rest in
        let next = p.0 in
        and_from _ _ (grind (arith, nat_tests, ints)) later
    before n (v ∷ is) rest later = absurd cc

pub indices-rising : (p : PlainPatches) → WellFormedPatches p → IsRising p.indices
indices-rising p h =
    let low = p.offset in
    let high = p.offset + p.array_len in
    record {
      integers = h.2.indices_type;
      words = ascend-words (tree_type p.indices) low high (rows p.indices) h.2.ascending (rows_fit p.indices h.0);
      rising = ascend-rising low high (rows p.indices) h.2.ascending;
    }

-- ---- chunk offsets count the indices before each chunk

-- value c is the number f c, for each c
abbrev AreNumbers : (ℕ → ℕ) → List PlainValue → Type 0
AreNumbers f vs = (c : ℕ) → c < length vs → is_index (row_at vs c) (f c) ≡ true

word : (t : PlainType) (v : PlainValue) (n : ℕ) → is_index v n ≡ true → fits t v ≡ true → fits (types.primitive U64 NonNullable) v ≡ true
word t (int (pos k)) n h f = word_of t k f
word t v n h f = absurd cc

numbers-words : (t : PlainType) (f : ℕ → ℕ) (vs : List PlainValue) → AreNumbers f vs → list_all (fits t) vs ≡ true → fit_all U64 vs ≡ true
numbers-words t f [] h fit = refl
numbers-words t f (v ∷ vs) h fit =
    let b = and_parts (fits t v) (list_all (fits t) vs) fit in
    and_from _ _ (word t v (f 0) (h 0 (omega arith)) b.0) (numbers-words t (λ c. f (suc c)) vs (λ c l. h (suc c) (omega arith)) b.1)

in_order : (v w : PlainValue) (m n : ℕ) → is_index v m ≡ true → is_index w n ≡ true → m ≤ n → int_le (whole_or_zero v) (whole_or_zero w) ≡ true
in_order (int (pos j)) (int (pos k)) m n g h l =
    let first : j ≡ m = eqb-true j m g in
    let second : k ≡ n = eqb-true k n h in
    grind (arith, nat_tests, ints)
in_order (int (pos j)) w m n g h l = absurd cc
in_order v w m n g h l = absurd cc

numbers-rising : (f : ℕ → ℕ) (vs : List PlainValue) → AreNumbers f vs → ((c : ℕ) → f c ≤ f (suc c)) → never_falls vs ≡ true
numbers-rising f [] h up = refl
numbers-rising f (v ∷ []) h up = refl
numbers-rising f (v ∷ w ∷ vs) h up =
    and_from _ _ (in_order v w (f 0) (f 1) (h 0 (omega arith)) (h 1 (omega arith)) (up 0))
    (numbers-rising (λ c. f (suc c)) (w ∷ vs) (λ c l. h (suc c) (omega arith)) (λ c. up (suc c)))

pub chunks-rising : (p : PlainPatches) (chunks : Tree) → p.chunks ≡ Some chunks → WellFormedPatches p → IsRising chunks
chunks-rising p chunks e h =
    let w : WellFormed chunks × IsChunked p.array_len p.offset p.indices chunks = subst (WellFormedChunks p.array_len p.offset p.indices) e h.3 in
    let own = w.1 in
    let f : ℕ → ℕ = λ c. indices_below (block_rows * c) (rows p.indices) in
    let are : AreNumbers f (rows chunks) = λ c l. below_passes (λ i. is_index (row_at (rows chunks) i) (f i)) (length (rows chunks)) c own.counted l in
    record {
      integers = (and_parts _ _ own.chunks_type).0;
      words = numbers-words (tree_type chunks) f (rows chunks) are (rows_fit chunks w.0);
      rising = numbers-rising f (rows chunks) are (λ c. below-rises p.offset (p.offset + p.array_len) (block_rows * c) (block_rows * suc c) (rows p.indices) h.2.ascending (omega arith));
    }
