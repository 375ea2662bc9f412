use Rattle.std.proofs.Common.{◌≡◌, take, length}
use Rattle.std.specs.Prelude.{sum_by}
use Rattle.vx_file.specs.Lengths.{capped, delimited_size}
use Rattle.vx_file.proofs.writing.field_lengths.texts_length.Given as goal

abbrev pub invariant-loop-row : goal.invariant-loop-row
invariant-loop-row l = l.all ≡ capped (sum_by (λ v. delimited_size (length v)) (take l.row-index l.row-items))
