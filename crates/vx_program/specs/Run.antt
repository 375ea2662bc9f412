-- How a run ends.
use Rattle.std.specs.Prelude.{◌≡◌, ℕ, List, Option}
use Rattle.std.specs.Io.KnownBytes.{Appends}
use Rattle.vx_program.specs.Answer.{Reply}
use Rattle.vx_program.specs.Writing.{Fails}

-- a reply with P and this status was written whole, and the sink's count of faults is as it was
abbrev pub Replies : (Reply → Type 0) → Option (List ℕ) → Option (List ℕ) → ℕ → ℕ → ℕ → Type 0
Replies P old new before now status = (text : List ℕ) × P (status, text) × Appends old new text × (now ≡ before)

-- less than the whole of a reply with P was written, and the sink's count of faults rose
abbrev pub Breaks : (Reply → Type 0) → Option (List ℕ) → Option (List ℕ) → ℕ → ℕ → Type 0
Breaks P old new before now = (reply : Reply) × P reply × Fails old new before now reply.1
