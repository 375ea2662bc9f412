use Rattle.std.proofs.Common.{map}
use Rattle.std.specs.Prelude.{All}
use Rattle.vx_schemes.specs.Dictionary.Codes.{IsCoded}
use Rattle.vx_schemes.proofs.integer.dictionary.recent_codes.filled.Given as goal

abbrev pub invariant-loop : goal.invariant-loop
invariant-loop g l = All (IsCoded g.T.Integer.whole g.C.Integer.whole g.C.Integer.kind (map g.T.Integer.whole l.values)) l.slots.items
