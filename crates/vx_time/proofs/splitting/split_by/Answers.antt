use Rattle.std.proofs.Common.{subst, sym, ◌∙◌, FitsSigned}
use Rattle.std.proofs.lemmas.Int.{to_z-of_z}
use Rattle.std.specs.Int.{w32}
use Rattle.vx_time.proofs.Decided.{split_made, split_refused}
use Rattle.vx_time.proofs.Machine.{days_is, seconds_is, subseconds_is}
use Rattle.vx_time.proofs.splitting.split_by.Goals as goal

pub returns-in_default : goal.returns-in_default
returns-in_default c =
    let t = c.args.timestamp in
    let d = c.args.divisor in
    let days = days_is t d c.ranges.timestamp c.ranges.divisor c.requires.positive in
    split_refused d t c.requires.positive (λ fits. c.in_default.ensures {u = tt} (subst (FitsSigned w32) (sym days) fits))

pub returns : goal.returns
returns c =
    let t = c.args.timestamp in
    let d = c.args.divisor in
    let ok = c.in-Ok.ensures {u = tt} in
    let days = days_is t d c.ranges.timestamp c.ranges.divisor c.requires.positive in
    let fits = subst (FitsSigned w32) (sym ok.1) ok.0 in
    let back = to_z-of_z w32 c.in-Ok.days fits in
    split_made d t _ _ _ c.requires.positive (subst (FitsSigned w32) (sym back) fits) (back ∙ ok.1 ∙ days)
    (seconds_is t d c.ranges.timestamp c.ranges.divisor c.requires.positive)
    (subseconds_is t d c.ranges.timestamp c.ranges.divisor c.requires.positive c.requires.small)
