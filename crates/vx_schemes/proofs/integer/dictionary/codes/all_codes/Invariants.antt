use Rattle.std.proofs.Common.{◌≡◌, ◌++◌, map, drop}
use Rattle.vx_schemes.specs.Dictionary.Codes.{codes_in}
use Rattle.vx_schemes.proofs.integer.dictionary.codes.all_codes.Given as goal

abbrev pub invariant-loop-row : goal.invariant-loop-row
invariant-loop-row g l =
    let whole = g.T.Integer.whole in
    let f = codes_in g.C.Integer.kind (map whole l.values) in
    record {
      values : l.recent ≡ map whole l.values;
      codes : map g.C.Integer.whole l.codes.items ++ f (map whole (drop l.row l.items)) ≡ f (map whole l.items);
    }
