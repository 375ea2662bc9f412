use Rattle.std.proofs.Common.{◌≡◌, ◌+◌, take, length}
use Rattle.std.specs.Prelude.{sum_by}
use Rattle.vx_file.specs.Lengths.{capped, delimited_size, varint_size}
use Rattle.vx_file.proofs.writing.field_lengths.names_length.Given as goal

abbrev pub invariant-loop-name : goal.invariant-loop-name
invariant-loop-name l = l.all ≡ capped (varint_size (length l.names) + sum_by (λ v. delimited_size (length v)) (take l.name-index l.name-items))
