-- Sets of encodings.
use Rattle.std.specs.Prelude.{Bool, ◌==◌, List, map}
use Rattle.std.specs.Bool.{beq}
use Rattle.std.specs.Cmp.Lexicographic.{pointwise}
use Rattle.std.specs.Ordering.{on}
use Rattle.std.specs.Int.{bit_at}
use Rattle.vx_base.specs.declared.array_id.ArrayId.{ArrayId}
use Rattle.vx_base.specs.declared.id_set.IdSet.{IdSet}
use Rattle.vx_base.specs.IdNumber.{id_number, every_id}

-- whether the id is in the set: its bit is 1
abbrev pub holds : IdSet → ArrayId → Bool
holds set id = bit_at set.bits (id_number id) == 1

-- for each id, by number, whether it is in the set
abbrev pub members : IdSet → List Bool
members set = map (holds set) every_id

-- whether two sets have the same ids
abbrev pub same_set : IdSet → IdSet → Bool
same_set = on members (pointwise beq)
