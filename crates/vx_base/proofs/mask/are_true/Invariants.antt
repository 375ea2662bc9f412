use Rattle.std.proofs.Common.{◌≡◌}
use Rattle.std.specs.List.{list_all}
use Rattle.std.specs.Slice.Iter.{chunks_rest}
use Rattle.vx_base.proofs.mask.are_true.Given as goal

-- what is left decides
abbrev pub invariant-loop-rows : goal.invariant-loop-rows
invariant-loop-rows l = list_all (λ bit. bit) (chunks_rest l.rows-iterator) ≡ list_all (λ bit. bit) l.bits
