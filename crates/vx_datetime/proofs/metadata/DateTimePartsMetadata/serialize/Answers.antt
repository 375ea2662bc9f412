use Rattle.std.proofs.Common.{List, ℕ, ◌≡◌}
use Rattle.vx_datetime.specs.Metadata.{spelling, spelling_refusal}
use Rattle.vx_datetime.proofs.MetadataLaws.{days_refused, handed_on, seconds_refused, subseconds_refused}
use Rattle.vx_datetime.proofs.metadata.DateTimePartsMetadata.serialize.Goals as goal

pub returns-in_err-get_days_ptype : goal.returns-in_err-get_days_ptype
returns-in_err-get_days_ptype c =
    let own = c.args.self.now in
    let e = c.in_err-get_days_ptype.field-0.0 in
    let P : List ℕ → Type 0 = λ bytes. bytes ≡ spelling own in
    handed_on (spelling_refusal own) P c.from_residual.result e c.from_residual.ensures.1 (days_refused own P e c.in_err-get_days_ptype.ensures)

pub returns-in_err-get_seconds_ptype : goal.returns-in_err-get_seconds_ptype
returns-in_err-get_seconds_ptype c =
    let own = c.args.self.now in
    let e = c.in_err-get_seconds_ptype.field-0.0 in
    let P : List ℕ → Type 0 = λ bytes. bytes ≡ spelling own in
    handed_on (spelling_refusal own) P c.from_residual-in_err-get_seconds_ptype.result e c.from_residual-in_err-get_seconds_ptype.ensures.1
    (seconds_refused own P e c.in_ok-get_days_ptype.field-0 c.in_ok-get_days_ptype.ensures.0 c.in_err-get_seconds_ptype.ensures)

pub returns-in_err-get_subseconds_ptype : goal.returns-in_err-get_subseconds_ptype
returns-in_err-get_subseconds_ptype c =
    let own = c.args.self.now in
    let e = c.in_err-get_subseconds_ptype.field-0.0 in
    let P : List ℕ → Type 0 = λ bytes. bytes ≡ spelling own in
    handed_on (spelling_refusal own) P c.from_residual-in_err-get_subseconds_ptype.result e c.from_residual-in_err-get_subseconds_ptype.ensures.1
    (subseconds_refused own P e c.in_ok-get_days_ptype.field-0 c.in_ok-get_seconds_ptype.field-0 c.in_ok-get_days_ptype.ensures.0 c.in_ok-get_seconds_ptype.ensures.0 c.in_err-get_subseconds_ptype.ensures)
