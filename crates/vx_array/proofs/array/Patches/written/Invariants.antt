use Rattle.std.proofs.Common.{◌≡◌, ℕ, ℤ, length}
use Rattle.vx_model.specs.Rows.{rows, below}
use Rattle.vx_model.proofs.PatchWriteLemmas.{patched_to}
use Rattle.vx_values.specs.IntsOf.{ptype_of, wholes_of}
use Rattle.vx_array.proofs.array.Patches.written.Given as goal

abbrev pub invariant-loop-place : goal.invariant-loop-place
invariant-loop-place l =
    (ptype_of l.values ≡ ptype_of l.fn.values)
    × (length (wholes_of l.values) ≡ l.fn.self.array_len)
    × ((f : ℕ → ℤ) → wholes_of l.fn.values ≡ below f l.fn.self.array_len → wholes_of l.values ≡ patched_to (rows l.fn.self.indices) (rows l.fn.self.values) f l.fn.self.offset l.fn.self.array_len l.place)
