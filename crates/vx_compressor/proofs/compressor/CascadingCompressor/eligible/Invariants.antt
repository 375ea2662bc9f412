use Rattle.std.proofs.Common.{◌≡◌, ◌++◌, map, filter, drop}
use Rattle.vx_base.specs.TypeOf.{type_of}
use Rattle.vx_scheme.specs.Contexts.{site_of}
use Rattle.vx_compressor.specs.Cascade.{is_eligible}
use Rattle.vx_compressor.proofs.compressor.CascadingCompressor.eligible.Given as goal

-- those so far, and those of the rest, are those of all
abbrev pub invariant-loop-scheme : goal.invariant-loop-scheme
invariant-loop-scheme g l =
    let meaning = g.S.Scheme.meaning in
    let may_stand = is_eligible (map meaning l.self) (type_of l.dtype) (site_of l.site).history in
    record {
      all : l.schemes ≡ l.self;
      kept : map meaning l.found.items ++ filter may_stand (map meaning (drop l.scheme-index l.schemes)) ≡ filter may_stand (map meaning l.schemes);
    }
