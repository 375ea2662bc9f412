use Rattle.std.proofs.Common.{◌≡◌, ◌*◌, ◌+◌, map, drop, nat_le}
use Rattle.vx_base.specs.PlainType.{of_fields}
use Rattle.vx_base.specs.TypeOf.{field_of, fields_of}
use Rattle.vx_spelling.specs.TypeSpelling.{field_types_depth}
use Rattle.vx_file.proofs.nesting.+nests.Given as goal

abbrev pub decreases-nests : goal.decreases-nests
decreases-nests l = 2 * l.limit

abbrev pub decreases-each_nests : goal.decreases-each_nests
decreases-each_nests l = 2 * l.limit + 1

-- the fields that are left decide
abbrev pub invariant-each_nests-loop-dtype : goal.invariant-each_nests-loop-dtype
invariant-each_nests-loop-dtype l = nat_le (field_types_depth (of_fields (map field_of (drop l.dtype-index l.dtype-items)))) l.limit ≡ nat_le (field_types_depth (of_fields (fields_of l.fields))) l.limit
