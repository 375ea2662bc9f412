use Rattle.std.proofs.Common.{◌≡◌, ◌-◌, ◌*◌, ◌+◌, map, drop}
use Rattle.vx_base.specs.TypeOf.{type_of, fields_of, value_of}
use Rattle.vx_spelling.specs.ValueSpelling.{value_at}
use Rattle.vx_codec.specs.Lists.{repeated_at}
use Rattle.vx_codec.proofs.Loops.{with_front}
use Rattle.vx_file.proofs.ValueReading.{each_at}
use Rattle.vx_file.proofs.reading.values.+read_value.Given as goal

abbrev pub decreases-read_content : goal.decreases-read_content
decreases-read_content l = 3 * l.depth

abbrev pub decreases-read_value : goal.decreases-read_value
decreases-read_value l = 3 * l.depth + 1

abbrev pub decreases-read_each : goal.decreases-read_each
decreases-read_each l = 3 * l.depth + 2

abbrev pub decreases-read_values : goal.decreases-read_values
decreases-read_values l = 3 * l.depth + 2

abbrev pub invariant-read_each-loop-place : goal.invariant-read_each-loop-place
invariant-read_each-loop-place l = with_front (map value_of l.values.items) (each_at (drop l.place (fields_of l.fields)) l.rest) ≡ each_at (fields_of l.fields) l.bytes

abbrev pub invariant-read_values-loop : goal.invariant-read_values-loop
invariant-read_values-loop l = with_front (map value_of l.values.items) (repeated_at (value_at (type_of l.dtype)) (l.count - l.counter) l.rest) ≡ repeated_at (value_at (type_of l.dtype)) l.count l.bytes
