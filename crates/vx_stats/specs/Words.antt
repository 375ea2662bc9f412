-- A set of words in a hash table with open addressing.
use Rattle.std.specs.Prelude.{◌≡◌, ◌≢◌, ◌⊎◌, ℕ, Bool, ◌^◌, ◌<◌, ◌≤◌, ◌==◌, List, length, get_or, bit_and}
use Rattle.std.specs.Set.{is_member, distinct_count}
use Rattle.vx_stats.specs.Slots.{slot_of}
use Rattle.vx_stats.specs.declared.strings.word_set.WordSet.{WordSet}

-- the word that marks a free slot
abbrev pub free : ℕ
free = 2 ^ 32

-- the home of a word: its slot by Fibonacci hashing, within the homes, of which `last` is the last
abbrev pub home_of : ℕ → ℕ → ℕ → ℕ
home_of shift last word = bit_and (slot_of shift word) last

-- whether the words have this one
abbrev pub has : List ℕ → ℕ → Bool
has words word = is_member ◌==◌ words word

-- a slot is not free
abbrev pub IsTaken : List ℕ → ℕ → Type 0
IsTaken slots p = get_or slots p free ≢ free

-- slot p is at or above a home, and none from the home to it is free
pub record IsReached (slots : List ℕ) (home p : ℕ) : Type 0 where
  pub above : home ≤ p
  pub taken : (q : ℕ) → home ≤ q → q ≤ p → IsTaken slots q

-- each word is reached from its home
abbrev pub AreReached : (ℕ → ℕ) → List ℕ → Type 0
AreReached home slots = (p : ℕ) → IsTaken slots p → IsReached slots (home (get_or slots p free)) p

-- the slots from a home to the one before `slot` neither are free nor have the word
abbrev pub IsPast : List ℕ → ℕ → ℕ → ℕ → Type 0
IsPast slots word home slot = (q : ℕ) → home ≤ q → q < slot → (get_or slots q free ≢ free) × (get_or slots q free ≢ word)

-- the first slot from a home on that has the word or is free; behind all slots where there is none
pub record IsSlotOf (home : ℕ) (slots : List ℕ) (word slot : ℕ) : Type 0 where
  pub above : home ≤ slot
  pub within : slot ≤ length slots
  pub past : IsPast slots word home slot
  pub ends : (get_or slots slot free ≡ word) ⊎ (get_or slots slot free ≡ free)

-- the homes are slots, and each word is reached from its home
pub record IsProbed (set : WordSet) : Type 0 where
  pub homes : set.last < length set.slots.items
  pub reached : AreReached (home_of set.shift set.last) set.slots.items

-- the set has exactly these words, and counts the distinct ones
pub record Holds (words : List ℕ) (set : WordSet) : Type 0 where
  pub probed : IsProbed set
  pub members : (word : ℕ) → word ≢ free → has set.slots.items word ≡ has words word
  pub count : set.count ≡ distinct_count ◌==◌ words
