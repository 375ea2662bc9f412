-- The plain tree of a sample's rows.
use Rattle.std.proofs.Common.{◌≡◌, ◌<◌, ℕ, zero, suc, ◌+◌, Bool, true, false, cond, List, ◌∷◌, [], map, length, refl, sym, ◌∙◌, ap, arith}
use Rattle.std.specs.Prelude.{◌||◌, nat_le, IsTrue}
use Rattle.std.specs.List.{list_all, range_with_len}
use Rattle.std.proofs.lemmas.Bool.{cond_both, and_from, le-leb}
use Rattle.vx_base.specs.Gathered.{gathered, are_parts}
use Rattle.vx_base.specs.Masks.{is_part}
use Rattle.vx_model.specs.Column.{column, column_of}
use Rattle.vx_model.specs.Plain.{plain}
use Rattle.vx_model.specs.Rows.{rows, below}
use Rattle.vx_model.specs.Tree.{Tree}
use Rattle.vx_model.specs.TreeType.{tree_type}
use Rattle.vx_compressor.specs.Sampling.{is_short, slice_count, slice_start, slice_of, slices, sample}
use Rattle.vx_compressor.proofs.SamplingLemmas.{slices_lie, end-within, counts_are_least}

-- ---- slices are parts

all_in_range : {A : Type 0} (p : A → Bool) (f : ℕ → A) (a n : ℕ) → ((i : ℕ) → i < a + n → p (f i) ≡ true) → list_all p (map f (range_with_len a n)) ≡ true
all_in_range p f a zero h = refl
all_in_range p f a (suc n) h = and_from _ _ (h a (omega arith)) (all_in_range p f (a + 1) n (λ i l. h i (omega arith)))

slice_is_part : (len : ℕ) (words : List ℕ) (i : ℕ) → is_short len ≡ false → i < slice_count len → is_part len (slice_of len words i).0 (slice_of len words i).1 ≡ true
slice_is_part len words i e l =
    let lies = slices_lie len words i e in
    let least = counts_are_least len in
    let within = end-within len (slice_count len) i (omega (arith, least.some)) l in
    let start = slice_start len words i in
    and_from (nat_le start (start + 64)) (nat_le (start + 64) len) (le-leb start (start + 64) (omega arith)) (le-leb (start + 64) len (omega (arith, lies.1.not_beyond, within)))

pub slices_are_parts : (len : ℕ) (words : List ℕ) → are_parts len (slices len words) ≡ true
slices_are_parts len words =
    cond_both (is_short len) ((0, len) ∷ []) (below (slice_of len words) (slice_count len)) (λ ranges. are_parts len ranges ≡ true)
    (λ e. and_from (is_part len 0 len) true (and_from (nat_le 0 len) (nat_le len len) (le-leb 0 len (omega arith)) (le-leb len len (omega arith))) refl)
    (λ e. all_in_range (λ r. is_part len r.0 r.1) (slice_of len words) 0 (slice_count len) (λ i l. slice_is_part len words i e (omega (arith, l))))

-- ---- as the calls need them

pub rows_are_parts : (t : Tree) (len : ℕ) (words : List ℕ) (ranges : List (ℕ × ℕ)) → len ≡ length (rows t) → ranges ≡ slices len words → IsTrue (are_parts (length (rows t)) ranges)
rows_are_parts t len words ranges l is = (λ i. are_parts (sym l i) (is i)) ∙ slices_are_parts len words

either : (a b : Bool) → a ≡ false → b ≡ false → (a || b) ≡ false
either true b e f = e
either false b e f = f

-- the sample of a long column
pub sample_of_long : (t : Tree) (words : List ℕ) (sampled : Bool) (ranges : List (ℕ × ℕ)) → sampled ≡ false → is_short (length (rows t)) ≡ false → ranges ≡ slices (length (rows t)) words
    → plain (column (tree_type t) (gathered ranges (rows t))) ≡ plain (sample sampled words (column_of t))
sample_of_long t words sampled ranges fresh long is =
    (λ i. plain (column (tree_type t) (gathered (is i) (rows t))))
    ∙ sym (ap (λ b. plain (cond b (column_of t) (column (tree_type t) (gathered (slices (length (rows t)) words) (rows t))))) (either sampled (is_short (length (rows t))) fresh long))
