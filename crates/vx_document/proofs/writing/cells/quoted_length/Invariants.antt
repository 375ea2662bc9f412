use Rattle.std.proofs.Common.{◌≡◌, ◌+◌, ◌-◌, ◌^◌, length, min, take}
use Rattle.std.specs.List.{flat_map}
use Rattle.json.specs.Print.{escape_byte}
use Rattle.vx_document.proofs.writing.cells.quoted_length.Given as goal

-- the opening quote, the bytes so far, and the closing quote
abbrev pub invariant-loop-byte : goal.invariant-loop-byte
invariant-loop-byte l = l.length ≡ min (2 + length (flat_map escape_byte (take l.byte-index l.inside))) (2 ^ 64 - 1)
