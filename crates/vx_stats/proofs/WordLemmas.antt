-- Slots of words: where a word stands, and what one more word changes.
use Rattle.std.proofs.Common.{◌≡◌, ◌≢◌, ℕ, zero, suc, ◌+◌, ◌<◌, ◌≤◌, Bool, true, false, cond, List, [], ◌∷◌, ◌++◌, length, get_or, replicate, take, refl, sym, ap, subst, inl, inr, ◌⊎◌, ◌∙◌, arith}
use Rattle.std.specs.Prelude.{◌==◌, ◌||◌, not}
use mir.Val.{bool_byte}
use Rattle.std.specs.Set.{distinct_count, unique_keys}
use Rattle.std.proofs.Math.ListN.{set}
use Rattle.std.proofs.lemmas.Bool.{cases_eq, ne_eqb, eq-eqb, eqb-true}
use Rattle.std.proofs.lemmas.List.{get_or-set_same, get_or-set_other, get_or_past, get_or_default}
use Rattle.std.proofs.lemmas.List.Folds.{list_any-append, list_any_none, list_any_at, list_any_more}
use Rattle.vx_stats.specs.Words.{free, has, IsTaken, IsReached, AreReached, IsPast, IsSlotOf, Holds}
use Rattle.vx_stats.specs.declared.strings.word_set.WordSet.{WordSet}

-- ---- the slots before the one where a search stands, from the home on

pub past-none : (slots : List ℕ) (word home : ℕ) → IsPast slots word home home
past-none slots word home = λ q h k. absurd (omega arith)

pub past-more : (slots : List ℕ) (word home slot there : ℕ) → there ≡ get_or slots slot free → there ≢ free → there ≢ word → IsPast slots word home slot → IsPast slots word home (slot + 1)
past-more slots word home slot there is some other past = λ q h k. elim (cases_eq q slot) [
  | inl e ↦ (λ f. some (is ∙ ap (λ i. get_or slots i free) (sym e) ∙ f), λ f. other (is ∙ ap (λ i. get_or slots i free) (sym e) ∙ f))
  | inr ne ↦ past q h (omega (arith, ne))
]

compared : (a b : ℕ) → (a < b) ⊎ (b ≤ a)
compared a b = grind arith

-- a word isn't there where the search for it ends at a free slot, or behind all slots
pub absent : (home : ℕ → ℕ) (slots : List ℕ) (word slot : ℕ) → word ≢ free → AreReached home slots → home word ≤ slot → IsPast slots word (home word) slot → get_or slots slot free ≡ free → has slots word ≡ false
absent home slots word slot some reached above past free_here = list_any_none (λ w. word == w) slots (λ k d h. ne_eqb word (get_or slots k d) (λ e. apart k (get_or_default slots k free d h ∙ sym e)))
  where
    apart : (k : ℕ) → get_or slots k free ≡ word → ⊥
    apart k e =
        let way = reached k (λ f. some (sym e ∙ f)) in
        let from : home word ≤ k = subst (λ w. home w ≤ k) e way.above in
        let taken : (q : ℕ) → home word ≤ q → q ≤ k → IsTaken slots q = subst (λ w. (q : ℕ) → home w ≤ q → q ≤ k → IsTaken slots q) e way.taken in
        elim (compared k slot) [
          | inl less ↦ (past k from less).1 e
          | inr more ↦ taken slot above more free_here
        ]

pub present : (slots : List ℕ) (word slot : ℕ) → slot < length slots → get_or slots slot free ≡ word → has slots word ≡ true
present slots word slot within is = list_any_at (λ w. word == w) slots slot free within (eq-eqb word (get_or slots slot free) (sym is))

-- ---- one more word

-- a word was put into a free slot, or behind all of them
pub record IsPut (slots : List ℕ) (slot word : ℕ) (new : List ℕ) : Type 0 where
  pub here : get_or new slot free ≡ word
  pub others : (q : ℕ) → q ≢ slot → get_or new q free ≡ get_or slots q free

pub put-set : (slots : List ℕ) (slot word : ℕ) → slot < length slots → IsPut slots slot word (set slots slot word)
put-set slots slot word within = record { here = get_or-set_same slots slot word free within; others = λ q ne. get_or-set_other slots slot q word free ne }

pub put-behind : (slots : List ℕ) (word : ℕ) → IsPut slots (length slots) word (slots ++ word ∷ [])
put-behind [] word = record { here = refl; others = λ q ne. none q ne }
  where
    none : (q : ℕ) → q ≢ 0 → get_or (word ∷ []) q free ≡ free
    none zero ne = absurd (ne refl)
    none (suc q) ne = refl
put-behind (x ∷ slots) word = behind (put-behind slots word)
  where
    other : IsPut slots (length slots) word (slots ++ word ∷ []) → (q : ℕ) → q ≢ suc (length slots) → get_or (x ∷ slots ++ word ∷ []) q free ≡ get_or (x ∷ slots) q free
    other put zero ne = refl
    other put (suc q) ne = put.others q (λ e. ne (ap suc e))

    behind : IsPut slots (length slots) word (slots ++ word ∷ []) → IsPut (x ∷ slots) (suc (length slots)) word (x ∷ slots ++ word ∷ [])
    behind put = record { here = put.here; others = other put }

pub reached-put : (home : ℕ → ℕ) (slots new : List ℕ) (word slot : ℕ) → word ≢ free → IsPut slots slot word new → home word ≤ slot → IsPast slots word (home word) slot → AreReached home slots → AreReached home new
reached-put home slots new word slot some put above past reached = λ p taken. elim (cases_eq p slot) [
  | inl e ↦ subst (λ i. IsReached new (home (get_or new i free)) i) (sym e) here
  | inr ne ↦ there p ne taken
]
  where
    stays : (q : ℕ) → IsTaken slots q → IsTaken new q
    stays q taken = elim (cases_eq q slot) [
      | inl e ↦ λ f. some (sym put.here ∙ ap (λ i. get_or new i free) (sym e) ∙ f)
      | inr ne ↦ λ f. taken (sym (put.others q ne) ∙ f)
    ]

    to_slot : (q : ℕ) → home word ≤ q → q ≤ slot → IsTaken new q
    to_slot q h k = elim (cases_eq q slot) [
      | inl e ↦ λ f. some (sym put.here ∙ ap (λ i. get_or new i free) (sym e) ∙ f)
      | inr ne ↦ stays q (past q h (omega (arith, ne))).0
    ]

    here : IsReached new (home (get_or new slot free)) slot
    here = subst (λ w. IsReached new (home w) slot) (sym put.here) (record { above = above; taken = to_slot })

    there : (p : ℕ) → p ≢ slot → IsTaken new p → IsReached new (home (get_or new p free)) p
    there p ne taken =
        let same = put.others p ne in
        let way = reached p (λ f. taken (same ∙ f)) in
        subst (λ w. IsReached new (home w) p) (sym same) (record { above = way.above; taken = λ q h k. stays q (way.taken q h k) })

either-swap : (a b c : Bool) → (a || (b || c)) ≡ (b || (a || c))
either-swap true true c = refl
either-swap true false c = refl
either-swap false true c = refl
either-swap false false c = refl

pub has-set : (slots : List ℕ) (slot word other : ℕ) → slot < length slots → get_or slots slot free ≡ free → other ≢ free → has (set slots slot word) other ≡ (other == word || has slots other)
has-set [] slot word other within is some = absurd (omega arith)
has-set (x ∷ slots) zero word other within is some = ap (λ b. other == word || b) (ap (λ b. b || has slots other) (sym (ne_eqb other x (λ e. some (e ∙ is)))))
has-set (x ∷ slots) (suc slot) word other within is some = ap (λ b. other == x || b) (has-set slots slot word other (omega arith) is some) ∙ either-swap (other == x) (other == word) (has slots other)

pub has-behind : (words : List ℕ) (word other : ℕ) → has (words ++ word ∷ []) other ≡ (other == word || has words other)
has-behind words word other = list_any-append (λ w. other == w) words (word ∷ []) ∙ turned (has words other) (other == word)
  where
    turned : (a b : Bool) → (a || (b || false)) ≡ (b || a)
    turned true true = refl
    turned true false = refl
    turned false true = refl
    turned false false = refl

-- ---- how many distinct words

same-word : (a b : ℕ) → (a == b) ≡ (b == a)
same-word a b = elim (cases_eq a b) [
  | inl e ↦ eq-eqb a b e ∙ sym (eq-eqb b a (sym e))
  | inr ne ↦ ne_eqb a b ne ∙ sym (ne_eqb b a (λ e. ne (sym e)))
]

-- one word more
abbrev pub more : Bool → ℕ
more there = cond there 0 1

pub count-behind : (words : List ℕ) (word : ℕ) → distinct_count ◌==◌ (words ++ word ∷ []) ≡ distinct_count ◌==◌ words + more (has words word)
count-behind [] word = refl
count-behind (x ∷ words) word = by (x == word) refl (has words x) refl (count-behind words word)
  where
    counted : (y : ℕ) (ws : List ℕ) → distinct_count ◌==◌ (y ∷ ws) ≡ more (has ws y) + distinct_count ◌==◌ ws
    counted y ws = step (has ws y)
      where
        step : (b : Bool) → length (cond b (unique_keys ◌==◌ ws) (y ∷ unique_keys ◌==◌ ws)) ≡ more b + distinct_count ◌==◌ ws
        step true = omega arith
        step false = omega arith

    by : (same : Bool) → (x == word) ≡ same → (there : Bool) → has words x ≡ there → distinct_count ◌==◌ (words ++ word ∷ []) ≡ distinct_count ◌==◌ words + more (has words word)
        → distinct_count ◌==◌ (x ∷ (words ++ word ∷ [])) ≡ distinct_count ◌==◌ (x ∷ words) + more (has (x ∷ words) word)
    by true e there h later =
        let is : x ≡ word = eqb-true x word e in
        let back : (word == x) ≡ true = same-word word x ∙ e in
        let own : has words word ≡ there = ap (has words) (sym is) ∙ h in
        let left : has (words ++ word ∷ []) x ≡ true = has-behind words word x ∙ ap (λ b. b || has words x) e in
        omega (arith, counted x (words ++ word ∷ []), counted x words, ap more left, later, ap more own, ap more h, ap (λ b. more (b || has words word)) back)
    by false e there h later =
        let back : (word == x) ≡ false = same-word word x ∙ e in
        let left : has (words ++ word ∷ []) x ≡ has words x = has-behind words word x ∙ ap (λ b. b || has words x) e in
        omega (arith, counted x (words ++ word ∷ []), counted x words, ap more left, later, ap (λ b. more (b || has words word)) back)

-- ---- a search that ends, and what is put there

-- the search ran behind all slots
pub behind-all : (home : ℕ → ℕ) (last : ℕ) (slots : List ℕ) (word len slot : ℕ) → home word ≤ last → last < length slots → len ≡ length slots → slot ≤ len → len ≤ slot → home word ≤ slot → IsPast slots word (home word) slot → IsSlotOf (home word) slots word len
behind-all home last slots word len slot below within is most past_len above past =
    let same : slot ≡ len = omega arith in
    record {
      above = omega arith;
      within = omega arith;
      past = subst (IsPast slots word (home word)) same past;
      ends = inr (get_or_past slots len free (omega arith));
    }

-- what is new where a word was put into its slot
pub record IsAdded (home : ℕ → ℕ) (slots : List ℕ) (word : ℕ) (new : List ℕ) : Type 0 where
  pub absent : has slots word ≡ false
  pub members : (other : ℕ) → other ≢ free → has new other ≡ (other == word || has slots other)
  pub reached : AreReached home new

pub added-behind : (home : ℕ → ℕ) (slots : List ℕ) (word slot : ℕ) → word ≢ free → AreReached home slots → IsSlotOf (home word) slots word slot → length slots ≤ slot → IsAdded home slots word (slots ++ word ∷ [])
added-behind home slots word slot some reached is behind =
    let end : slot ≡ length slots = omega (arith, is.within) in
    let at_end = subst (IsSlotOf (home word) slots word) end is in
    record {
      absent = absent home slots word slot some reached is.above is.past (get_or_past slots slot free behind);
      members = λ other _. has-behind slots word other;
      reached = reached-put home slots (slots ++ word ∷ []) word (length slots) some (put-behind slots word) at_end.above at_end.past reached;
    }

pub added-at : (home : ℕ → ℕ) (slots : List ℕ) (word slot there : ℕ) → word ≢ free → AreReached home slots → IsSlotOf (home word) slots word slot → slot < length slots → there ≡ get_or slots slot free → (there ≡ word → ⊥) → IsAdded home slots word (set slots slot word)
added-at home slots word slot there some reached is within read other =
    let free_here : get_or slots slot free ≡ free = elim is.ends [
      | inl e ↦ absurd (other (read ∙ e))
      | inr e ↦ e
    ] in
    record {
      absent = absent home slots word slot some reached is.above is.past free_here;
      members = λ o some_o. has-set slots slot word o within free_here some_o;
      reached = reached-put home slots (set slots slot word) word slot some (put-set slots slot word within) is.above is.past reached;
    }

-- adding a word that is there changes nothing
pub same-members : (slots : List ℕ) (word other : ℕ) → has slots word ≡ true → has slots other ≡ (other == word || has slots other)
same-members slots word other there = elim (cases_eq other word) [
  | inl e ↦ ap (has slots) e ∙ there ∙ ap (λ b. b || has slots other) (sym (eq-eqb other word e))
  | inr ne ↦ ap (λ b. b || has slots other) (sym (ne_eqb other word ne))
]

-- ---- sets as a whole

pub none-has : (n word : ℕ) → word ≢ free → has (replicate n free) word ≡ false
none-has zero word some = refl
none-has (suc n) word some = ap (λ b. b || has (replicate n free) word) (ne_eqb word free some) ∙ none-has n word some

pub none-reached : (home : ℕ → ℕ) (n : ℕ) → AreReached home (replicate n free)
none-reached home n = λ p taken. absurd (taken (get_or-free n p))
  where
    get_or-free : (n p : ℕ) → get_or (replicate n free) p free ≡ free
    get_or-free zero p = refl
    get_or-free (suc n) zero = refl
    get_or-free (suc n) (suc p) = get_or-free n p

pub one-counted : (old : WordSet) (words : List ℕ) (word count : ℕ) (new : Bool) → word ≢ free → new ≡ not (has old.slots.items word) → count ≡ old.count + bool_byte new → Holds words old → count ≡ distinct_count ◌==◌ (words ++ word ∷ [])
one-counted old words word count new some is counts held =
    counts ∙ ap (λ b. old.count + bool_byte b) (is ∙ ap not (held.members word some)) ∙ ap (λ n. n + bool_byte (not (has words word))) held.count
    ∙ ap (λ n. distinct_count ◌==◌ words + n) (by (has words word)) ∙ sym (count-behind words word)
  where
    by : (b : Bool) → bool_byte (not b) ≡ more b
    by true = refl
    by false = refl

pub one-member : (slots new words : List ℕ) (word other : ℕ) → has new other ≡ (other == word || has slots other) → has slots other ≡ has words other → has new other ≡ has (words ++ word ∷ []) other
one-member slots new words word other is held = is ∙ ap (λ b. other == word || b) held ∙ sym (has-behind words word other)

pub member-more : (slots : List ℕ) (slot word other : ℕ) → slot < length slots → word ≡ get_or slots slot free → (other == word || has (take slot slots) other) ≡ has (take (slot + 1) slots) other
member-more slots slot word other within is =
    turned (other == word) (has (take slot slots) other) ∙ ap (λ w. has (take slot slots) other || (other == w)) is ∙ sym (list_any_more (λ w. other == w) slots slot free within)
  where
    turned : (a b : Bool) → (a || b) ≡ (b || a)
    turned true true = refl
    turned true false = refl
    turned false true = refl
    turned false false = refl

pub not-member : (slots : List ℕ) (word other : ℕ) → word ≡ free → other ≢ free → has slots other ≡ (other == word || has slots other)
not-member slots word other is some = ap (λ b. b || has slots other) (sym (ne_eqb other word (λ e. some (e ∙ is))))
