use Rattle.std.proofs.Common.{◌∙◌}
use Rattle.vx_base.proofs.MakesLemmas.{MakesSurely_ok, MakesSurely_err}
use Rattle.vx_schemes_runs.proofs.RunParts.{within_wholes, within_bits, some_admitted, some_plain}
use Rattle.vx_schemes_runs.proofs.integer.runs.rows_at.Goals as goal

pub gathered-requires : goal.gathered-requires
gathered-requires c =
    let a = c.as_primitive-nullability in
    within_wholes c.args.array.now _ _ _ _ a.ensures.tree a.ensures.well_formed c.requires.plain c.args.valid.now c.requires.valid c.args.numbers.now c.requires.within

pub bits_at-requires : goal.bits_at-requires
bits_at-requires c =
    let a = c.as_primitive-nullability in
    within_bits c.args.array.now _ _ _ _ a.ensures.tree a.ensures.well_formed c.requires.plain c.args.valid.now c.requires.valid c.args.numbers.now c.requires.within

pub returns-in-Ok : goal.returns-in-Ok
returns-in-Ok c =
    let a = c.as_primitive-nullability in
    MakesSurely_ok _ _ _ _ c.in-Ok.ensures ∙ some_plain c.args.array.now _ _ _ _ a.ensures.tree a.ensures.well_formed c.requires.plain c.args.valid.now c.requires.valid c.args.numbers.now c.requires.within _ _ _ c.in_ok-values.ensures.0 c.in_ok-values.ensures.1 c.in_ok-valid.ensures

pub returns-in-Err : goal.returns-in-Err
returns-in-Err c =
    let a = c.as_primitive-nullability in
    absurd (MakesSurely_err _ _ _ _ (some_admitted c.args.array.now _ _ _ _ a.ensures.tree a.ensures.well_formed c.requires.plain c.args.valid.now c.requires.valid c.args.numbers.now c.requires.within _ _ _ c.in_ok-values.ensures.0 c.in_ok-values.ensures.1 c.in_ok-valid.ensures) c.in-Err.ensures)
