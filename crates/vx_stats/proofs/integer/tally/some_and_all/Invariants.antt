use Rattle.std.proofs.Common.{◌≡◌, take}
use Rattle.std.specs.List.{list_all, list_any}
use Rattle.vx_stats.proofs.integer.tally.some_and_all.Given as goal

abbrev pub invariant-loop-bit : goal.invariant-loop-bit
invariant-loop-bit l =
    record {
      any : l.some ≡ list_any (λ bit. bit) (take l.bit-index l.bits);
      each : l.all ≡ list_all (λ bit. bit) (take l.bit-index l.bits);
    }
