use Rattle.std.proofs.Common.{◌≡◌, pos, map}
use Rattle.std.specs.Prelude.{int_lt}
use Rattle.std.specs.List.{list_any}
use Rattle.std.specs.Slice.Iter.{chunks_rest}
use Rattle.vx_values.proofs.ints.converting.has_negative.Given as goal

-- what is left decides
abbrev pub invariant-loop-rows : goal.invariant-loop-rows
invariant-loop-rows g l = list_any (λ z. int_lt z (pos 0)) (map g.T.Integer.whole (chunks_rest l.rows-iterator)) ≡ list_any (λ z. int_lt z (pos 0)) (map g.T.Integer.whole l.items)
