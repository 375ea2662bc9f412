-- The keys of the first rows, and their words.
use Rattle.std.proofs.Common.{◌≡◌, ◌<◌, ◌≤◌, ◌+◌, ◌∙◌, ℕ, zero, suc, true, List, [], ◌∷◌, ◌++◌, length, map, refl, sym, ap, inl, inr, arith}
use Rattle.std.specs.List.{AllByRecursion, range_with_len}
use Rattle.std.specs.Prelude.{◌==◌}
use Rattle.std.specs.Set.{distinct_count}
use Rattle.std.proofs.lemmas.Bool.{cases_eq}
use Rattle.std.proofs.lemmas.List.FromFn.{map-range_with_len_more}
use Rattle.std.proofs.lemmas.Map.Made.{distinct_count-le}
use Rattle.vx_model.specs.Decoded.{zeroed_by}
use Rattle.vx_model.specs.Refusals.{validity_length}
use Rattle.vx_model.specs.Rows.{below}
use Rattle.vx_model.specs.Tree.{Validity}
use Rattle.vx_stats.specs.Keys.{key_of, key_in, same_key, word_of}
use Rattle.vx_stats.proofs.KeyLemmas.{IsFaithful, distinct-words}
use Rattle.vx_values.proofs.Kept.{kept_at, zeroed_by-kept}

-- the key of a row, and its word
abbrev pub key_at : List (List ℕ) → Validity → ℕ → ℕ × List ℕ
key_at rows valid i = key_of (kept_at rows valid i)

abbrev pub word_at : List (List ℕ) → Validity → ℕ → ℕ
word_at rows valid i = word_of (key_at rows valid i)

-- those of the first n rows
abbrev pub keys_to : List (List ℕ) → Validity → ℕ → List (ℕ × List ℕ)
keys_to rows valid n = below (key_at rows valid) n

abbrev pub words_to : List (List ℕ) → Validity → ℕ → List ℕ
words_to rows valid n = below (word_at rows valid) n

abbrev pub AreFaithfulTo : List (List ℕ) → Validity → ℕ → Type 0
AreFaithfulTo rows valid n = (i : ℕ) → i < n → IsFaithful (key_at rows valid i)

pub faithful-more : (rows : List (List ℕ)) (valid : Validity) (n word : ℕ) → word ≡ word_at rows valid n → key_in word ≡ key_at rows valid n → AreFaithfulTo rows valid n → AreFaithfulTo rows valid (n + 1)
faithful-more rows valid n word is key before = λ i h. elim (cases_eq i n) [
  | inl e ↦ ap (λ j. key_in (word_at rows valid j)) e ∙ ap key_in (sym is) ∙ key ∙ ap (key_at rows valid) (sym e)
  | inr ne ↦ before i (omega (arith, ne))
]

pub words-more : (rows : List (List ℕ)) (valid : Validity) (n word : ℕ) → word ≡ word_at rows valid n → words_to rows valid n ++ word ∷ [] ≡ words_to rows valid (n + 1)
words-more rows valid n word is = ap (λ w. words_to rows valid n ++ w ∷ []) is ∙ sym (map-range_with_len_more (word_at rows valid) 0 n n (omega arith))

module _ (f : ℕ → ℕ × List ℕ) where
  all-faithful : (from n : ℕ) → ((i : ℕ) → from ≤ i → i < from + n → IsFaithful (f i)) → AllByRecursion IsFaithful (map f (range_with_len from n))
  all-faithful from zero each = tt
  all-faithful from (suc n) each = (each from (omega arith) (omega arith), all-faithful (from + 1) n (λ i h k. each i (omega arith) (omega arith)))

  words-of : (from n : ℕ) → map (λ i. word_of (f i)) (range_with_len from n) ≡ map word_of (map f (range_with_len from n))
  words-of from zero = refl
  words-of from (suc n) = ap (λ r. word_of (f from) ∷ r) (words-of (from + 1) n)

  keys-of : (g : List ℕ → ℕ × List ℕ) (h : ℕ → List ℕ) → ((i : ℕ) → g (h i) ≡ f i) → (from n : ℕ) → map f (range_with_len from n) ≡ map g (map h (range_with_len from n))
  keys-of g h is from zero = refl
  keys-of g h is from (suc n) = λ i. sym (is from) i ∷ keys-of g h is (from + 1) n i

-- the distinct words of all rows are their distinct keys
pub distinct-all : (rows : List (List ℕ)) (valid : Validity) (n count : ℕ) → validity_length valid (length rows) ≡ true → n ≡ length rows → count ≡ distinct_count ◌==◌ (words_to rows valid n) → AreFaithfulTo rows valid n
    → count ≡ distinct_count same_key (map key_of (zeroed_by [] valid rows))
distinct-all rows valid n count mask all is faithful =
    is ∙ ap (distinct_count ◌==◌) (words-of (key_at rows valid) 0 n) ∙ distinct-words (keys_to rows valid n) (all-faithful (key_at rows valid) 0 n (λ i _ h. faithful i (omega arith)))
    ∙ ap (distinct_count same_key) (keys-of (key_at rows valid) key_of (kept_at rows valid) (λ i. refl) 0 n ∙ ap (map key_of) (zeroed_by-kept rows valid n mask all))

length-words_to : (rows : List (List ℕ)) (valid : Validity) (n : ℕ) → length (words_to rows valid n) ≡ n
length-words_to rows valid n = from 0 n
  where
    from : (start n : ℕ) → length (map (word_at rows valid) (range_with_len start n)) ≡ n
    from start zero = refl
    from start (suc n) = ap suc (from (start + 1) n)

-- there are no more words than rows
pub few-words : (rows : List (List ℕ)) (valid : Validity) (n count : ℕ) → count ≡ distinct_count ◌==◌ (words_to rows valid n) → count ≤ n
few-words rows valid n count is = omega (arith, is, distinct_count-le ◌==◌ (words_to rows valid n), length-words_to rows valid n)
