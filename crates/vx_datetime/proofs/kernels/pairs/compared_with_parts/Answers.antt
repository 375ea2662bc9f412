use Rattle.std.proofs.Common.{◌≡◌, ◌∙◌, ap, length, subst, sym}
use Rattle.std.specs.Prelude.{IfSome}
use Rattle.std.proofs.lemmas.Result.{MatchResult-weaker}
use Rattle.vx_base.specs.declared.dtype.Nullability.TheVariants.{Nullable}
use Rattle.vx_base.specs.PlainType.{or_nullable}
use Rattle.vx_base.specs.PlainType as types
use Rattle.vx_model.specs.Column.{column}
use Rattle.vx_model.specs.Refusals.{kept, primitive_refusal}
use Rattle.vx_model.specs.Rows.{rows, valid_rows}
use Rattle.vx_model.specs.Tree.{bool}
use Rattle.vx_model.specs.TreeType.{tree_type}
use Rattle.vx_datetime.proofs.FurtherNulls.{further-nullable, nullable-last}
use Rattle.vx_datetime.proofs.PairsColumn.{pairs-admitted, pairs-long, pairs-rows}
use Rattle.vx_datetime.proofs.ReadRows.{days-read, seconds-read, subseconds-read}
use Rattle.vx_datetime.proofs.kernels.pairs.compared_with_parts.Goals as goal

pub rows-rows-requires : goal.rows-rows-requires
rows-rows-requires c = c.in_ok-read.ensures.readable

pub rows-other_rows-requires : goal.rows-other_rows-requires
rows-other_rows-requires c = c.in_ok-other_read.ensures.readable

pub holds_in_pairs-requires-clause-seconds : goal.holds_in_pairs-requires-clause-seconds
holds_in_pairs-requires-clause-seconds c =
    let p = c.args.parts.now in
    let own = c.rows-rows.ensures p.days.now p.seconds.now p.subseconds.now c.in_ok-read.ensures.decoded in
    seconds-read p.days.now p.seconds.now p.subseconds.now c.rows-rows.result own c.requires.well.3.seconds_length ∙ sym (days-read p.days.now p.seconds.now p.subseconds.now c.rows-rows.result own)

pub holds_in_pairs-requires-clause-subseconds : goal.holds_in_pairs-requires-clause-subseconds
holds_in_pairs-requires-clause-subseconds c =
    let p = c.args.parts.now in
    let own = c.rows-rows.ensures p.days.now p.seconds.now p.subseconds.now c.in_ok-read.ensures.decoded in
    subseconds-read p.days.now p.seconds.now p.subseconds.now c.rows-rows.result own c.requires.well.3.subseconds_length ∙ sym (days-read p.days.now p.seconds.now p.subseconds.now c.rows-rows.result own)

pub holds_in_pairs-requires-clause-other_days : goal.holds_in_pairs-requires-clause-other_days
holds_in_pairs-requires-clause-other_days c =
    let p = c.args.parts.now in
    let own = c.rows-rows.ensures p.days.now p.seconds.now p.subseconds.now c.in_ok-read.ensures.decoded in
    let q = c.args.others.now in
    let others = c.rows-other_rows.ensures q.days.now q.seconds.now q.subseconds.now c.in_ok-other_read.ensures.decoded in
    days-read q.days.now q.seconds.now q.subseconds.now c.rows-other_rows.result others ∙ c.requires.lengths ∙ sym (days-read p.days.now p.seconds.now p.subseconds.now c.rows-rows.result own)

pub holds_in_pairs-requires-clause-other_seconds : goal.holds_in_pairs-requires-clause-other_seconds
holds_in_pairs-requires-clause-other_seconds c =
    let p = c.args.parts.now in
    let own = c.rows-rows.ensures p.days.now p.seconds.now p.subseconds.now c.in_ok-read.ensures.decoded in
    let q = c.args.others.now in
    let others = c.rows-other_rows.ensures q.days.now q.seconds.now q.subseconds.now c.in_ok-other_read.ensures.decoded in
    seconds-read q.days.now q.seconds.now q.subseconds.now c.rows-other_rows.result others c.requires.other_well.3.seconds_length ∙ c.requires.lengths ∙ sym (days-read p.days.now p.seconds.now p.subseconds.now c.rows-rows.result own)

pub holds_in_pairs-requires-clause-other_subseconds : goal.holds_in_pairs-requires-clause-other_subseconds
holds_in_pairs-requires-clause-other_subseconds c =
    let p = c.args.parts.now in
    let own = c.rows-rows.ensures p.days.now p.seconds.now p.subseconds.now c.in_ok-read.ensures.decoded in
    let q = c.args.others.now in
    let others = c.rows-other_rows.ensures q.days.now q.seconds.now q.subseconds.now c.in_ok-other_read.ensures.decoded in
    subseconds-read q.days.now q.seconds.now q.subseconds.now c.rows-other_rows.result others c.requires.other_well.3.subseconds_length ∙ c.requires.lengths ∙ sym (days-read p.days.now p.seconds.now p.subseconds.now c.rows-rows.result own)

pub bool_of-tree-requires : goal.bool_of-tree-requires
bool_of-tree-requires c =
    let p = c.args.parts.now in
    let q = c.args.others.now in
    let own = c.rows-rows.ensures p.days.now p.seconds.now p.subseconds.now c.in_ok-read.ensures.decoded in
    let others = c.rows-other_rows.ensures q.days.now q.seconds.now q.subseconds.now c.in_ok-other_read.ensures.decoded in
    ap (primitive_refusal (length c.in_ok-bits.bits) c.in_ok-valid.valid) c.or-nullability.ensures ∙ pairs-admitted p.kind.now q.kind.now p.nullability q.nullability p.days.now p.seconds.now p.subseconds.now q.days.now q.seconds.now q.subseconds.now c.requires.well c.requires.other_well c.requires.units c.requires.lengths c.rows-rows.result c.rows-other_rows.result own others c.args.operator c.in_ok-bits.bits c.in_ok-bits.ensures c.in_ok-valid.valid c.in_ok-valid.ensures

pub beneath-requires-clause-lengths : goal.beneath-requires-clause-lengths
beneath-requires-clause-lengths c =
    let p = c.args.parts.now in
    let q = c.args.others.now in
    let own = c.rows-rows.ensures p.days.now p.seconds.now p.subseconds.now c.in_ok-read.ensures.decoded in
    let others = c.rows-other_rows.ensures q.days.now q.seconds.now q.subseconds.now c.in_ok-other_read.ensures.decoded in
    let made = c.bool_of-tree.ensures ∙ ap (bool c.in_ok-bits.bits (kept c.in_ok-valid.valid)) c.or-nullability.ensures in
    subst (λ t. IfSome c.rows-other_rows.result.valid.now (λ more. length more ≡ length (rows t))) (sym made) (pairs-long p.kind.now q.kind.now p.nullability q.nullability p.days.now p.seconds.now p.subseconds.now q.days.now q.seconds.now q.subseconds.now c.requires.well c.requires.other_well c.requires.units c.requires.lengths c.rows-rows.result c.rows-other_rows.result own others c.args.operator c.in_ok-bits.bits c.in_ok-bits.ensures c.in_ok-valid.valid c.in_ok-valid.ensures)

pub beneath-requires-clause-nullable : goal.beneath-requires-clause-nullable
beneath-requires-clause-nullable c =
    let q = c.args.others.now in
    let n = c.args.parts.now.nullability in
    let others = c.rows-other_rows.ensures q.days.now q.seconds.now q.subseconds.now c.in_ok-other_read.ensures.decoded in
    let made = c.bool_of-tree.ensures ∙ ap (bool c.in_ok-bits.bits (kept c.in_ok-valid.valid)) c.or-nullability.ensures in
    subst (λ t. IfSome c.rows-other_rows.result.valid.now (λ more. tree_type t ≡ types.boolean Nullable)) (sym made)
    (further-nullable q.kind.now q.nullability q.days.now q.seconds.now q.subseconds.now c.requires.other_well c.rows-other_rows.result.valid.now others.valid (or_nullable n q.nullability) (λ e. ap (or_nullable n) e ∙ nullable-last n))

pub returns-clause-answer : goal.returns-clause-answer
returns-clause-answer c =
    let p = c.args.parts.now in
    let q = c.args.others.now in
    let own = c.rows-rows.ensures p.days.now p.seconds.now p.subseconds.now c.in_ok-read.ensures.decoded in
    let others = c.rows-other_rows.ensures q.days.now q.seconds.now q.subseconds.now c.in_ok-other_read.ensures.decoded in
    let made = c.bool_of-tree.ensures ∙ ap (bool c.in_ok-bits.bits (kept c.in_ok-valid.valid)) c.or-nullability.ensures in
    MatchResult-weaker c.beneath.result c.beneath.ensures.answer
    (λ out is. is ∙ (λ i. column (tree_type (made i)) (valid_rows c.rows-other_rows.result.valid.now (rows (made i)))) ∙ ap (column (types.boolean (or_nullable p.nullability q.nullability))) (pairs-rows p.kind.now q.kind.now p.nullability q.nullability p.days.now p.seconds.now p.subseconds.now q.days.now q.seconds.now q.subseconds.now c.requires.well c.requires.other_well c.requires.units c.requires.lengths c.rows-rows.result c.rows-other_rows.result own others c.args.operator c.in_ok-bits.bits c.in_ok-bits.ensures c.in_ok-valid.valid c.in_ok-valid.ensures)) (λ e is. is)
