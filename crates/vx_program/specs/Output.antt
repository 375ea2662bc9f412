-- What a reply writes.
use Rattle.std.specs.Prelude.{ℕ, List, string_bytes}
use Rattle.vx_program.specs.declared.output.Output.{Output}
use Rattle.vx_program.specs.declared.output.Output.TheVariants as out

-- the bytes of an output
abbrev pub output_bytes : Output → List ℕ
output_bytes (out.Refusal text) = text.now
output_bytes (out.Text text) = string_bytes text
output_bytes (out.File bytes) = bytes
