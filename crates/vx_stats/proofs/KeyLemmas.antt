-- Keys of texts and binaries, and the words that stand for them: distinct keys are distinct words.
use Rattle.std.proofs.Common.{◌≡◌, ℕ, suc, Bool, true, false, cond, List, [], ◌∷◌, length, map, refl, sym, ap, ◌∙◌}
use Rattle.std.specs.Prelude.{◌==◌, ◌||◌}
use Rattle.std.specs.Bool.{Decides}
use Rattle.std.specs.Cmp.Lexicographic.{bytes_decides}
use Rattle.std.specs.List.{AllByRecursion}
use Rattle.std.specs.Set.{is_member, unique_keys, distinct_count}
use Rattle.std.proofs.lemmas.Bool.Decides.{same_from_decides, Decides-and, Decides-eqb, Decides-like}
use Rattle.vx_stats.specs.Keys.{same_key, word_of, key_in}

abbrev pub IsFaithful : ℕ × List ℕ → Type 0
IsFaithful k = key_in (word_of k) ≡ k

same_key-decides : (a b : ℕ × List ℕ) → Decides (same_key a b) (a ≡ b)
same_key-decides a b = Decides-like (same_key a b) (λ e i. (e.0 i, e.1 i)) (λ e. (ap (λ (k : ℕ × List ℕ). k.0) e, ap (λ (k : ℕ × List ℕ). k.1) e)) (Decides-and (a.0 == b.0) _ (Decides-eqb a.0 b.0) (bytes_decides a.1 b.1))

same-words : (a b : ℕ × List ℕ) → IsFaithful a → IsFaithful b → (word_of a == word_of b) ≡ same_key a b
same-words a b fa fb = same_from_decides _ _ (Decides-like (word_of a == word_of b) (λ e. sym fa ∙ ap key_in e ∙ fb) (λ e. ap word_of e) (Decides-eqb (word_of a) (word_of b))) (same_key-decides a b)

member-words : (k : ℕ × List ℕ) (ks : List (ℕ × List ℕ)) → IsFaithful k → AllByRecursion IsFaithful ks → is_member ◌==◌ (map word_of ks) (word_of k) ≡ is_member same_key ks k
member-words k [] f all = refl
member-words k (j ∷ ks) f all = λ i. same-words k j f all.0 i || member-words k ks f all.1 i

pub distinct-words : (ks : List (ℕ × List ℕ)) → AllByRecursion IsFaithful ks → distinct_count ◌==◌ (map word_of ks) ≡ distinct_count same_key ks
distinct-words [] all = refl
distinct-words (k ∷ ks) all =
    ap (λ b. length (cond b (unique_keys ◌==◌ (map word_of ks)) (word_of k ∷ unique_keys ◌==◌ (map word_of ks)))) (member-words k ks all.0 all.1)
    ∙ by (is_member same_key ks k) (distinct-words ks all.1)
  where
    by : (b : Bool) → distinct_count ◌==◌ (map word_of ks) ≡ distinct_count same_key ks
        → length (cond b (unique_keys ◌==◌ (map word_of ks)) (word_of k ∷ unique_keys ◌==◌ (map word_of ks))) ≡ length (cond b (unique_keys same_key ks) (k ∷ unique_keys same_key ks))
    by true e = e
    by false e = ap suc e

pub same_key-same : (k : ℕ × List ℕ) → same_key k k ≡ true
same_key-same k = (same_key-decides k k).1 refl
