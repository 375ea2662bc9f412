use Rattle.std.proofs.Common.{◌≡◌, take, true}
use Rattle.std.specs.List.{list_all}
use Rattle.vx_array.specs.Beneath.{is_default}
use Rattle.vx_model.specs.Decoded.{zero_beneath}
use Rattle.vx_model.specs.Rows.{rows, parts_of}
use Rattle.vx_model.specs.TreeType.{tree_type}
use Rattle.vx_array.proofs.array.ArrayRef.parts_are_default_beneath.Given as goal

abbrev pub invariant-loop-part : goal.invariant-loop-part
invariant-loop-part l = zero_beneath (λ part. list_all (is_default (tree_type l.self)) part) (take l.part l.bits) (parts_of l.size l.len (rows l.self)) ≡ true
