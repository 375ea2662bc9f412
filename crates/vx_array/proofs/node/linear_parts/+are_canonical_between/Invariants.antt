use Rattle.std.proofs.Common.{◌-◌}
use Rattle.vx_array.proofs.node.linear_parts.+are_canonical_between.Given as goal

abbrev pub decreases-are_canonical_between : goal.decreases-are_canonical_between
decreases-are_canonical_between l = l.last - l.first
