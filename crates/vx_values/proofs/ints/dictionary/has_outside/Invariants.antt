use Rattle.std.proofs.Common.{◌≡◌, map}
use Rattle.std.specs.Prelude.{not}
use Rattle.vx_base.specs.PlainValue.{int}
use Rattle.vx_model.specs.WellFormed.{is_place}
use Rattle.std.specs.List.{list_any}
use Rattle.std.specs.Slice.Iter.{chunks_rest}
use Rattle.vx_values.proofs.ints.dictionary.has_outside.Given as goal

-- what is left decides
abbrev pub invariant-loop-rows : goal.invariant-loop-rows
invariant-loop-rows g l = list_any (λ z. not (is_place l.fn.items (int z))) (map g.C.Integer.whole (chunks_rest l.rows-iterator)) ≡ list_any (λ z. not (is_place l.fn.items (int z))) (map g.C.Integer.whole l.codes)
