use Rattle.std.proofs.Common.{◌∙◌, ap}
use Rattle.std.proofs.lemmas.Result.{MatchResult-weaker}
use Rattle.vx_base.specs.PlainType.{is_integer}
use Rattle.vx_model.specs.Column.{column_of}
use Rattle.vx_selections.proofs.StampColumns.{stamps_restricted}
use Rattle.vx_selections.proofs.masks.plain.restricted_stamps.Goals as goal

pub restricted_storage-requires-clause-integers : goal.restricted_storage-requires-clause-integers
restricted_storage-requires-clause-integers c = ap is_integer c.requires.well.1.storage_type

pub restricted_storage-requires-clause-bits : goal.restricted_storage-requires-clause-bits
restricted_storage-requires-clause-bits c = record { long = c.requires.bits.long; allowed = c.requires.bits.allowed; wider = c.requires.bits.wider }

pub stamped-requires : goal.stamped-requires
stamped-requires c = (stamps_restricted c.args.storage c.in_ok-chosen.chosen c.args.kind.now c.requires.well c.args.valid.now c.args.nullability c.in_ok-chosen.ensures).accepted

pub returns : goal.returns
returns c =
    let made = (stamps_restricted c.args.storage c.in_ok-chosen.chosen c.args.kind.now c.requires.well c.args.valid.now c.args.nullability c.in_ok-chosen.ensures).column in
    MatchResult-weaker c.stamped.result c.stamped.ensures (λ out is. ap column_of is ∙ made) (λ e is. is)
