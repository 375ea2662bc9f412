use Rattle.std.proofs.Common.{◌≡◌, map, drop, length}
use Rattle.vx_base.specs.PlainScalar.{list_fits, field_list_fits}
use Rattle.vx_base.specs.PlainValue.{list_count, value_count}
use Rattle.vx_base.specs.TypeOf.{type_of, value_of, field_of, fields_of}
use Rattle.vx_base.proofs.scalar.fitting.+fitting.Given as goal

abbrev pub decreases-fits : goal.decreases-fits
decreases-fits l = value_count (value_of l.value.now)

abbrev pub decreases-fields_fit : goal.decreases-fields_fit
decreases-fields_fit l = list_count l.values.now

abbrev pub decreases-items_fit : goal.decreases-items_fit
decreases-items_fit l = list_count l.values.now

-- what is left decides
abbrev pub invariant-fields_fit-loop-place : goal.invariant-fields_fit-loop-place
invariant-fields_fit-loop-place l = record { lengths : length l.fields ≡ length l.values; rest : field_list_fits (map field_of (drop l.place l.fields)) (map value_of (drop l.place l.values)) ≡ field_list_fits (fields_of l.fields-2) l.values-2 }

abbrev pub invariant-items_fit-loop-value : goal.invariant-items_fit-loop-value
invariant-items_fit-loop-value l = list_fits (type_of l.items) (map value_of (drop l.value-index l.value-items)) ≡ list_fits (type_of l.items) l.values
