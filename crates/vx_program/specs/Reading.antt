-- What came from a source. Of it, old are the bytes still to come before, new those after.
use Rattle.std.specs.Prelude.{◌≡◌, ◌<◌, ◌≤◌, ◌+◌, ◌^◌, ℕ, List, [], ◌++◌, Option, length}
use Rattle.std.specs.Io.KnownBytes.{Consumes, IsAtEnd}
use Rattle.vx_program.specs.Causes.{Rose}
use Rattle.vx_program.specs.declared.reading.Input.{Input}
use Rattle.vx_program.specs.declared.reading.Input.TheVariants.{Whole, TooLong, Fault}
use Rattle.vx_program.specs.declared.reading.Turn.{Turn}
use Rattle.vx_program.specs.declared.reading.Turn.TheVariants as turn

-- the greatest number of bytes that is read whole
abbrev pub limit : ℕ
limit = 2 ^ 26

-- the bytes taken from the source: all of them, one above the limit, or at most the limit before a fault
abbrev pub Came : Option (List ℕ) → Option (List ℕ) → Input → Type 0
Came old new (Whole bytes) = Consumes old new bytes.items × IsAtEnd new × (length bytes.items ≤ limit)
Came old new TooLong = (bytes : List ℕ) × Consumes old new bytes × (length bytes ≡ limit + 1)
Came old new Fault = (bytes : List ℕ) × Consumes old new bytes × (length bytes ≤ limit)

-- at most n bytes were taken from the source
abbrev pub TakesAtMost : Option (List ℕ) → Option (List ℕ) → ℕ → Type 0
TakesAtMost old new n = (bytes : List ℕ) × Consumes old new bytes × (length bytes ≤ n)

-- the count of faults rose where the outcome is a fault, and is as it was elsewhere
abbrev pub Blames : ℕ → ℕ → Input → Type 0
Blames before now (Whole bytes) = now ≡ before
Blames before now TooLong = now ≡ before
Blames before now Fault = Rose before now

-- one read into a buffer of this room appended a front of what was left to the bytes had so far
abbrev pub Adds : Option (List ℕ) → Option (List ℕ) → List ℕ → List ℕ → ℕ → Turn → Type 0
Adds left rest had has room turn.More = (front : List ℕ) × (has ≡ had ++ front) × Consumes left rest front × (0 < length front) × (length front ≤ room)
Adds left rest had has room turn.End = (has ≡ had) × Consumes left rest [] × IsAtEnd rest
Adds left rest had has room turn.Fault = (has ≡ had) × Consumes left rest []

-- Blames, of one read
abbrev pub TurnBlames : ℕ → ℕ → Turn → Type 0
TurnBlames before now turn.More = now ≡ before
TurnBlames before now turn.End = now ≡ before
TurnBlames before now turn.Fault = Rose before now
