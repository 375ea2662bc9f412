use Rattle.std.proofs.Common.{◌≡◌, map, take}
use Rattle.std.specs.Prelude.{not}
use Rattle.vx_base.specs.PlainValue.{int}
use Rattle.vx_model.specs.WellFormed.{is_place}
use Rattle.std.specs.List.{list_any}
use Rattle.vx_values.proofs.ints.dictionary.some_outside.Given as goal

abbrev pub invariant-loop-code : goal.invariant-loop-code
invariant-loop-code g l = l.some ≡ list_any (λ z. not (is_place l.fn.items (int z))) (map g.C.Integer.whole (take l.code-index l.codes))
