-- What is written of a text that is not written whole.
use Rattle.std.specs.Prelude.{◌≡◌, ◌<◌, ℕ, List, Option, length, take}
use Rattle.std.specs.Io.KnownBytes.{Appends}
use Rattle.vx_program.specs.Causes.{Rose}
use Rattle.vx_program.specs.declared.writing.Stop.{Stop}
use Rattle.vx_program.specs.declared.writing.Stop.TheVariants as stop

-- the count of faults rose, and a front of the text, less than the whole, was written
abbrev pub Fails : Option (List ℕ) → Option (List ℕ) → ℕ → ℕ → List ℕ → Type 0
Fails old new before now text = Rose before now × ((n : ℕ) × (n < length text) × Appends old new (take n text))

-- where memory runs out, the bytes written and the count of faults stay as they were
abbrev pub Stops : Option (List ℕ) → Option (List ℕ) → ℕ → ℕ → List ℕ → Stop → Type 0
Stops old new before now text stop.NoMemory = (new ≡ old) × (now ≡ before)
Stops old new before now text stop.Failed = Fails old new before now text
