use Rattle.vx_time.proofs.Canonicals.{canonical_out, parts_cmp-sum_of}
use Rattle.vx_time.proofs.laws.parts_order_timestamps.Goals as goal

pub returns : goal.returns
returns c d p q e f = parts_cmp-sum_of d p q (canonical_out d p e) (canonical_out d q f)
