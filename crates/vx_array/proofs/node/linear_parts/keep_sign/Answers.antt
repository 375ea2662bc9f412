use Rattle.std.proofs.Common.{refl}
use Rattle.vx_array.proofs.node.linear_parts.keep_sign.Goals as goal

pub returns : goal.returns
returns c =
    rw (c.signs-days_up.ensures.up, c.signs-days_up.ensures.down, c.signs-seconds_up.ensures.up, c.signs-seconds_up.ensures.down, c.signs-rest_up.ensures.up, c.signs-rest_up.ensures.down) refl
