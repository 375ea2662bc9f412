use Rattle.std.proofs.Common.{refl}
use Rattle.vx_datetime.proofs.kernels.part_rows.decoded_part.Goals as goal

pub returns-then-is_plain : goal.returns-then-is_plain
returns-then-is_plain c = record { plain = c.is_plain.ensures.0 c.if-is_plain.true; same = refl }

pub returns : goal.returns
returns c = record { plain = c.in_ok-read.ensures.plain; same = c.in_ok-read.ensures.kept }
