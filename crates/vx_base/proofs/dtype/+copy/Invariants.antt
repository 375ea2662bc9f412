use Rattle.std.proofs.Common.{◌≡◌, map, take}
use Rattle.vx_base.specs.TypeOf.{field_of}
use Rattle.vx_base.proofs.dtype.+copy.Given as goal

abbrev pub invariant-Fields::copy-loop-name : goal.invariant-Fields::copy-loop-name
invariant-Fields::copy-loop-name l = map field_of l.items.items ≡ map field_of (take l.name-index l.name-items)
