use Rattle.vx_datetime.proofs.PartReads.{days-integer, same-integer, seconds-integer, subseconds-integer}
use Rattle.vx_datetime.specs.Moments.{part_tree}
use Rattle.vx_datetime.proofs.kernels.part_rows.decoded_parts.Goals as goal

pub returns-clause-decoded : goal.returns-clause-decoded
returns-clause-decoded c = record { days = c.in_ok-days.ensures; seconds = c.in_ok-seconds.ensures; subseconds = c.in_ok-subseconds.ensures }

pub returns-clause-readable : goal.returns-clause-readable
returns-clause-readable c =
    let p = c.args.parts.now in
    let d = c.in_ok-days.ensures in
    let s = c.in_ok-seconds.ensures in
    let u = c.in_ok-subseconds.ensures in
    record {
      days = record { plain = d.plain; integers = same-integer p.days.now (part_tree c.in_ok-days.days) d.same (days-integer p.kind.now p.nullability p.days.now p.seconds.now p.subseconds.now c.requires) };
      seconds = record { plain = s.plain; integers = same-integer p.seconds.now (part_tree c.in_ok-seconds.seconds) s.same (seconds-integer p.kind.now p.nullability p.days.now p.seconds.now p.subseconds.now c.requires) };
      subseconds = record { plain = u.plain; integers = same-integer p.subseconds.now (part_tree c.in_ok-subseconds.subseconds) u.same (subseconds-integer p.kind.now p.nullability p.days.now p.seconds.now p.subseconds.now c.requires) };
    }
