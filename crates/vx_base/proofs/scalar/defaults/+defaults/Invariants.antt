use Rattle.std.proofs.Common.{◌≡◌, map, take}
use Rattle.vx_base.specs.Defaults.{field_list_defaults}
use Rattle.vx_base.specs.TypeOf.{type_of, value_of, field_of, fields_of}
use Rattle.vx_base.proofs.FallLemmas.{type_count, field_list_count}
use Rattle.vx_base.proofs.scalar.defaults.+defaults.Given as goal

abbrev pub decreases-null_or_default : goal.decreases-null_or_default
decreases-null_or_default l = type_count (type_of l.dtype.now)

abbrev pub decreases-field_defaults : goal.decreases-field_defaults
decreases-field_defaults l = field_list_count (fields_of l.fields.now)

abbrev pub invariant-field_defaults-loop-field : goal.invariant-field_defaults-loop-field
invariant-field_defaults-loop-field l = map value_of l.values.items ≡ field_list_defaults (map field_of (take l.field-index l.field-items))
