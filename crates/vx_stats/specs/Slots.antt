-- Hash slots of integers. Integers in different slots are distinct, so the slots that are taken are a lower bound on the distinct count.
use Rattle.std.specs.Prelude.{◌≡◌, ℕ, ◌*◌, ◌/◌, ◌%◌, ◌^◌, ◌≤◌, ℤ, Bool, true, List, get_or, length}
use Rattle.std.specs.List.{AllByRecursion}
use Rattle.vx_base.specs.declared.ptype.PType.{PType}
use Rattle.vx_base.specs.Integers.{bits_in}
use Rattle.vx_stats.specs.Distinct.{distinct}
use Rattle.vx_stats.specs.declared.integer.slots.Slots.{Slots}

-- the slot of a 64-bit word, by Fibonacci hashing: its product with 2^64 / phi, without the lowest `shift` bits
abbrev pub slot_of : ℕ → ℕ → ℕ
slot_of shift word = ((word * 11400714819323198485) % 2 ^ 64) / 2 ^ (shift % 64)

-- the slot of an integer is taken, or outside the table
abbrev pub HasSlot : PType → List Bool → ℕ → ℤ → Type 0
HasSlot p taken shift z = get_or taken (slot_of shift (bits_in p z)) true ≡ true

-- the slots after integers took theirs: the count is at most the number of distinct ones
pub record TakenBy (p : PType) (zs : List ℤ) (slots : Slots) : Type 0 where
  pub few : slots.count ≤ length (distinct zs)
  pub taken : AllByRecursion (HasSlot p slots.taken.items slots.shift) zs
