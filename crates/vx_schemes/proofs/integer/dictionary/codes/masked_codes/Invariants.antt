use Rattle.std.proofs.Common.{◌≡◌, ◌++◌, map}
use Rattle.vx_schemes.specs.Dictionary.Codes.{as_code}
use Rattle.vx_schemes.proofs.Dictionary.Codes.{codes_left}
use Rattle.vx_schemes.proofs.integer.dictionary.codes.masked_codes.Given as goal

abbrev pub invariant-loop-row : goal.invariant-loop-row
invariant-loop-row g l =
    let whole = g.T.Integer.whole in
    let f = as_code g.C.Integer.kind (map whole l.values) in
    record {
      values : l.recent ≡ map whole l.values;
      codes : map g.C.Integer.whole l.codes.items ++ codes_left whole f l.bits l.items l.row ≡ codes_left whole f l.bits l.items 0;
    }
