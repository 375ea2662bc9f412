-- What the sequence scheme makes of a column of integers: its first value and its step.
use Rattle.std.specs.Prelude.{ℤ, length, map, if◌then◌else◌, Option, None, option_map}
use Rattle.std.specs.List.{list_any}
use Rattle.vx_base.specs.PlainType.{integer_of, nullability_of}
use Rattle.vx_base.specs.PlainValue.{is_null, whole_or_zero}
use Rattle.vx_blocks.specs.Sequence.{sequence_of}
use Rattle.vx_model.specs.Column.{Column}
use Rattle.vx_model.specs.Tree.{Tree, sequence}

-- the first value and the step, where no row is null and the rows are an arithmetic sequence whose step the type holds
abbrev pub sequence_in : Column → Option (ℤ × ℤ)
sequence_in c = if list_any is_null c.values then None else sequence_of (integer_of c.dtype) (map whole_or_zero c.values)

-- the sequence of the column's type and length from a first value and a step
abbrev pub sequence_over : Column → ℤ × ℤ → Tree
sequence_over c found = sequence (integer_of c.dtype) (nullability_of c.dtype) found.0 found.1 (length c.values)

-- the sequence of a column; None where it is no arithmetic sequence
abbrev pub sequence_made : Column → Option Tree
sequence_made c = option_map (sequence_over c) (sequence_in c)
