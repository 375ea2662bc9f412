use Rattle.std.proofs.Common.{◌≡◌, ◌-◌, ◌*◌, ◌+◌, map}
use Rattle.vx_base.specs.TypeOf.{field_of}
use Rattle.vx_codec.specs.Format.{both}
use Rattle.vx_spelling.specs.Fields.{name}
use Rattle.vx_spelling.specs.TypeSpelling.{type_at, types_by}
use Rattle.vx_codec.specs.Lists.{repeated_at}
use Rattle.vx_codec.proofs.Loops.{with_front}
use Rattle.vx_file.proofs.reading.types.+read_type.Given as goal

abbrev pub decreases-read_type : goal.decreases-read_type
decreases-read_type l = 6 * l.depth

abbrev pub decreases-read_behind : goal.decreases-read_behind
decreases-read_behind l = 6 * l.depth + 5

abbrev pub decreases-read_boxed : goal.decreases-read_boxed
decreases-read_boxed l = 6 * l.depth + 1

abbrev pub decreases-read_field : goal.decreases-read_field
decreases-read_field l = 6 * l.depth + 1

abbrev pub decreases-read_each_field : goal.decreases-read_each_field
decreases-read_each_field l = 6 * l.depth + 2

abbrev pub decreases-read_fields : goal.decreases-read_fields
decreases-read_fields l = 6 * l.depth + 3

abbrev pub decreases-read_struct_type : goal.decreases-read_struct_type
decreases-read_struct_type l = 6 * l.depth + 4

abbrev pub decreases-read_list_type : goal.decreases-read_list_type
decreases-read_list_type l = 6 * l.depth + 2

abbrev pub decreases-read_fixed_type : goal.decreases-read_fixed_type
decreases-read_fixed_type l = 6 * l.depth + 2

abbrev pub invariant-read_each_field-loop : goal.invariant-read_each_field-loop
invariant-read_each_field-loop l = with_front (map field_of l.fields.items) (repeated_at (both name (types_by (type_at l.depth))).parse (l.count - l.counter) l.rest) ≡ repeated_at (both name (types_by (type_at l.depth))).parse l.count l.bytes
