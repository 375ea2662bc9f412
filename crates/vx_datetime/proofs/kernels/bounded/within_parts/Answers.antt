use Rattle.std.proofs.Common.{◌≡◌, ◌∙◌, ap, length, subst, sym}
use Rattle.std.specs.Prelude.{IfSome}
use Rattle.std.proofs.lemmas.Result.{MatchResult-weaker}
use Rattle.vx_base.specs.declared.dtype.Nullability.TheVariants.{Nullable}
use Rattle.vx_base.specs.PlainType.{or_nullable}
use Rattle.vx_base.specs.PlainType as types
use Rattle.vx_model.specs.Column.{column}
use Rattle.vx_model.specs.Refusals.{kept, primitive_refusal}
use Rattle.vx_model.specs.Rows.{rows, valid_rows}
use Rattle.vx_model.specs.Tree.{bool}
use Rattle.vx_model.specs.TreeType.{tree_type}
use Rattle.vx_datetime.proofs.FurtherNulls.{further-nullable, nullable-last}
use Rattle.vx_datetime.proofs.RangesColumn.{highs-long, lows-long, ranges-admitted, ranges-rows}
use Rattle.vx_datetime.proofs.ReadRows.{days-read, seconds-read, subseconds-read}
use Rattle.vx_datetime.proofs.kernels.bounded.within_parts.Goals as goal

pub rows-rows-requires : goal.rows-rows-requires
rows-rows-requires c = c.in_ok-read.ensures.readable

pub rows-low_rows-requires : goal.rows-low_rows-requires
rows-low_rows-requires c = c.in_ok-low_read.ensures.readable

pub rows-high_rows-requires : goal.rows-high_rows-requires
rows-high_rows-requires c = c.in_ok-high_read.ensures.readable

pub lies_in_each-requires-clause-seconds : goal.lies_in_each-requires-clause-seconds
lies_in_each-requires-clause-seconds c =
    let p = c.args.parts.now in
    let own = c.rows-rows.ensures p.days.now p.seconds.now p.subseconds.now c.in_ok-read.ensures.decoded in
    seconds-read p.days.now p.seconds.now p.subseconds.now c.rows-rows.result own c.requires.well.3.seconds_length ∙ sym (days-read p.days.now p.seconds.now p.subseconds.now c.rows-rows.result own)

pub lies_in_each-requires-clause-subseconds : goal.lies_in_each-requires-clause-subseconds
lies_in_each-requires-clause-subseconds c =
    let p = c.args.parts.now in
    let own = c.rows-rows.ensures p.days.now p.seconds.now p.subseconds.now c.in_ok-read.ensures.decoded in
    subseconds-read p.days.now p.seconds.now p.subseconds.now c.rows-rows.result own c.requires.well.3.subseconds_length ∙ sym (days-read p.days.now p.seconds.now p.subseconds.now c.rows-rows.result own)

pub lies_in_each-requires-clause-low_days : goal.lies_in_each-requires-clause-low_days
lies_in_each-requires-clause-low_days c =
    let p = c.args.parts.now in
    let own = c.rows-rows.ensures p.days.now p.seconds.now p.subseconds.now c.in_ok-read.ensures.decoded in
    let f = c.args.lows.now in
    let others = c.rows-low_rows.ensures f.days.now f.seconds.now f.subseconds.now c.in_ok-low_read.ensures.decoded in
    days-read f.days.now f.seconds.now f.subseconds.now c.rows-low_rows.result others ∙ c.requires.low_length ∙ sym (days-read p.days.now p.seconds.now p.subseconds.now c.rows-rows.result own)

pub lies_in_each-requires-clause-low_seconds : goal.lies_in_each-requires-clause-low_seconds
lies_in_each-requires-clause-low_seconds c =
    let p = c.args.parts.now in
    let own = c.rows-rows.ensures p.days.now p.seconds.now p.subseconds.now c.in_ok-read.ensures.decoded in
    let f = c.args.lows.now in
    let others = c.rows-low_rows.ensures f.days.now f.seconds.now f.subseconds.now c.in_ok-low_read.ensures.decoded in
    seconds-read f.days.now f.seconds.now f.subseconds.now c.rows-low_rows.result others c.requires.low_well.3.seconds_length ∙ c.requires.low_length ∙ sym (days-read p.days.now p.seconds.now p.subseconds.now c.rows-rows.result own)

pub lies_in_each-requires-clause-low_subseconds : goal.lies_in_each-requires-clause-low_subseconds
lies_in_each-requires-clause-low_subseconds c =
    let p = c.args.parts.now in
    let own = c.rows-rows.ensures p.days.now p.seconds.now p.subseconds.now c.in_ok-read.ensures.decoded in
    let f = c.args.lows.now in
    let others = c.rows-low_rows.ensures f.days.now f.seconds.now f.subseconds.now c.in_ok-low_read.ensures.decoded in
    subseconds-read f.days.now f.seconds.now f.subseconds.now c.rows-low_rows.result others c.requires.low_well.3.subseconds_length ∙ c.requires.low_length ∙ sym (days-read p.days.now p.seconds.now p.subseconds.now c.rows-rows.result own)

pub lies_in_each-requires-clause-high_days : goal.lies_in_each-requires-clause-high_days
lies_in_each-requires-clause-high_days c =
    let p = c.args.parts.now in
    let own = c.rows-rows.ensures p.days.now p.seconds.now p.subseconds.now c.in_ok-read.ensures.decoded in
    let g = c.args.highs.now in
    let others = c.rows-high_rows.ensures g.days.now g.seconds.now g.subseconds.now c.in_ok-high_read.ensures.decoded in
    days-read g.days.now g.seconds.now g.subseconds.now c.rows-high_rows.result others ∙ c.requires.high_length ∙ sym (days-read p.days.now p.seconds.now p.subseconds.now c.rows-rows.result own)

pub lies_in_each-requires-clause-high_seconds : goal.lies_in_each-requires-clause-high_seconds
lies_in_each-requires-clause-high_seconds c =
    let p = c.args.parts.now in
    let own = c.rows-rows.ensures p.days.now p.seconds.now p.subseconds.now c.in_ok-read.ensures.decoded in
    let g = c.args.highs.now in
    let others = c.rows-high_rows.ensures g.days.now g.seconds.now g.subseconds.now c.in_ok-high_read.ensures.decoded in
    seconds-read g.days.now g.seconds.now g.subseconds.now c.rows-high_rows.result others c.requires.high_well.3.seconds_length ∙ c.requires.high_length ∙ sym (days-read p.days.now p.seconds.now p.subseconds.now c.rows-rows.result own)

pub lies_in_each-requires-clause-high_subseconds : goal.lies_in_each-requires-clause-high_subseconds
lies_in_each-requires-clause-high_subseconds c =
    let p = c.args.parts.now in
    let own = c.rows-rows.ensures p.days.now p.seconds.now p.subseconds.now c.in_ok-read.ensures.decoded in
    let g = c.args.highs.now in
    let others = c.rows-high_rows.ensures g.days.now g.seconds.now g.subseconds.now c.in_ok-high_read.ensures.decoded in
    subseconds-read g.days.now g.seconds.now g.subseconds.now c.rows-high_rows.result others c.requires.high_well.3.subseconds_length ∙ c.requires.high_length ∙ sym (days-read p.days.now p.seconds.now p.subseconds.now c.rows-rows.result own)

pub bool_of-tree-requires : goal.bool_of-tree-requires
bool_of-tree-requires c =
    let p = c.args.parts.now in
    let f = c.args.lows.now in
    let g = c.args.highs.now in
    let own = c.rows-rows.ensures p.days.now p.seconds.now p.subseconds.now c.in_ok-read.ensures.decoded in
    let lows = c.rows-low_rows.ensures f.days.now f.seconds.now f.subseconds.now c.in_ok-low_read.ensures.decoded in
    let highs = c.rows-high_rows.ensures g.days.now g.seconds.now g.subseconds.now c.in_ok-high_read.ensures.decoded in
    ap (primitive_refusal (length c.in_ok-bits.bits) c.in_ok-valid.valid) (c.or-nullability.ensures ∙ ap (or_nullable c.args.parts.now.nullability) c.or-bounds.ensures) ∙ ranges-admitted p.kind.now f.kind.now g.kind.now p.nullability f.nullability g.nullability p.days.now p.seconds.now p.subseconds.now f.days.now f.seconds.now f.subseconds.now g.days.now g.seconds.now g.subseconds.now c.requires.well c.requires.low_well c.requires.high_well c.requires.low_unit c.requires.high_unit c.requires.low_length c.requires.high_length c.rows-rows.result c.rows-low_rows.result c.rows-high_rows.result own lows highs c.args.options c.in_ok-bits.bits c.in_ok-bits.ensures c.in_ok-valid.valid c.in_ok-valid.ensures

pub beneath_both-requires-clause-low : goal.beneath_both-requires-clause-low
beneath_both-requires-clause-low c =
    let p = c.args.parts.now in
    let f = c.args.lows.now in
    let g = c.args.highs.now in
    let own = c.rows-rows.ensures p.days.now p.seconds.now p.subseconds.now c.in_ok-read.ensures.decoded in
    let lows = c.rows-low_rows.ensures f.days.now f.seconds.now f.subseconds.now c.in_ok-low_read.ensures.decoded in
    let highs = c.rows-high_rows.ensures g.days.now g.seconds.now g.subseconds.now c.in_ok-high_read.ensures.decoded in
    let made = c.bool_of-tree.ensures ∙ ap (bool c.in_ok-bits.bits (kept c.in_ok-valid.valid)) (c.or-nullability.ensures ∙ ap (or_nullable c.args.parts.now.nullability) c.or-bounds.ensures) in
    subst (λ t. IfSome c.rows-low_rows.result.valid.now (λ more. length more ≡ length (rows t))) (sym made) (lows-long p.kind.now f.kind.now g.kind.now p.nullability f.nullability g.nullability p.days.now p.seconds.now p.subseconds.now f.days.now f.seconds.now f.subseconds.now g.days.now g.seconds.now g.subseconds.now c.requires.well c.requires.low_well c.requires.high_well c.requires.low_unit c.requires.high_unit c.requires.low_length c.requires.high_length c.rows-rows.result c.rows-low_rows.result c.rows-high_rows.result own lows highs c.args.options c.in_ok-bits.bits c.in_ok-bits.ensures c.in_ok-valid.valid c.in_ok-valid.ensures)

pub beneath_both-requires-clause-high : goal.beneath_both-requires-clause-high
beneath_both-requires-clause-high c =
    let p = c.args.parts.now in
    let f = c.args.lows.now in
    let g = c.args.highs.now in
    let own = c.rows-rows.ensures p.days.now p.seconds.now p.subseconds.now c.in_ok-read.ensures.decoded in
    let lows = c.rows-low_rows.ensures f.days.now f.seconds.now f.subseconds.now c.in_ok-low_read.ensures.decoded in
    let highs = c.rows-high_rows.ensures g.days.now g.seconds.now g.subseconds.now c.in_ok-high_read.ensures.decoded in
    let made = c.bool_of-tree.ensures ∙ ap (bool c.in_ok-bits.bits (kept c.in_ok-valid.valid)) (c.or-nullability.ensures ∙ ap (or_nullable c.args.parts.now.nullability) c.or-bounds.ensures) in
    subst (λ t. IfSome c.rows-high_rows.result.valid.now (λ more. length more ≡ length (rows t))) (sym made) (highs-long p.kind.now f.kind.now g.kind.now p.nullability f.nullability g.nullability p.days.now p.seconds.now p.subseconds.now f.days.now f.seconds.now f.subseconds.now g.days.now g.seconds.now g.subseconds.now c.requires.well c.requires.low_well c.requires.high_well c.requires.low_unit c.requires.high_unit c.requires.low_length c.requires.high_length c.rows-rows.result c.rows-low_rows.result c.rows-high_rows.result own lows highs c.args.options c.in_ok-bits.bits c.in_ok-bits.ensures c.in_ok-valid.valid c.in_ok-valid.ensures)

pub beneath_both-requires-clause-low_nullable : goal.beneath_both-requires-clause-low_nullable
beneath_both-requires-clause-low_nullable c =
    let p = c.args.parts.now in
    let f = c.args.lows.now in
    let g = c.args.highs.now in
    let lows = c.rows-low_rows.ensures f.days.now f.seconds.now f.subseconds.now c.in_ok-low_read.ensures.decoded in
    let made = c.bool_of-tree.ensures ∙ ap (bool c.in_ok-bits.bits (kept c.in_ok-valid.valid)) (c.or-nullability.ensures ∙ ap (or_nullable c.args.parts.now.nullability) c.or-bounds.ensures) in
    subst (λ t. IfSome c.rows-low_rows.result.valid.now (λ more. tree_type t ≡ types.boolean Nullable)) (sym made)
    (further-nullable f.kind.now f.nullability f.days.now f.seconds.now f.subseconds.now c.requires.low_well c.rows-low_rows.result.valid.now lows.valid (or_nullable p.nullability (or_nullable f.nullability g.nullability))
    (λ e. ap (λ x. or_nullable p.nullability (or_nullable x g.nullability)) e ∙ nullable-last p.nullability))

pub beneath_both-requires-clause-high_nullable : goal.beneath_both-requires-clause-high_nullable
beneath_both-requires-clause-high_nullable c =
    let p = c.args.parts.now in
    let f = c.args.lows.now in
    let g = c.args.highs.now in
    let highs = c.rows-high_rows.ensures g.days.now g.seconds.now g.subseconds.now c.in_ok-high_read.ensures.decoded in
    let made = c.bool_of-tree.ensures ∙ ap (bool c.in_ok-bits.bits (kept c.in_ok-valid.valid)) (c.or-nullability.ensures ∙ ap (or_nullable c.args.parts.now.nullability) c.or-bounds.ensures) in
    subst (λ t. IfSome c.rows-high_rows.result.valid.now (λ more. tree_type t ≡ types.boolean Nullable)) (sym made)
    (further-nullable g.kind.now g.nullability g.days.now g.seconds.now g.subseconds.now c.requires.high_well c.rows-high_rows.result.valid.now highs.valid (or_nullable p.nullability (or_nullable f.nullability g.nullability))
    (λ e. ap (or_nullable p.nullability) (ap (or_nullable f.nullability) e ∙ nullable-last f.nullability) ∙ nullable-last p.nullability))

pub returns-clause-answer : goal.returns-clause-answer
returns-clause-answer c =
    let p = c.args.parts.now in
    let f = c.args.lows.now in
    let g = c.args.highs.now in
    let own = c.rows-rows.ensures p.days.now p.seconds.now p.subseconds.now c.in_ok-read.ensures.decoded in
    let lows = c.rows-low_rows.ensures f.days.now f.seconds.now f.subseconds.now c.in_ok-low_read.ensures.decoded in
    let highs = c.rows-high_rows.ensures g.days.now g.seconds.now g.subseconds.now c.in_ok-high_read.ensures.decoded in
    let made = c.bool_of-tree.ensures ∙ ap (bool c.in_ok-bits.bits (kept c.in_ok-valid.valid)) (c.or-nullability.ensures ∙ ap (or_nullable c.args.parts.now.nullability) c.or-bounds.ensures) in
    MatchResult-weaker c.beneath_both.result c.beneath_both.ensures.answer
    (λ out is. is ∙ (λ i. column (tree_type (made i)) (valid_rows c.rows-high_rows.result.valid.now (valid_rows c.rows-low_rows.result.valid.now (rows (made i))))) ∙ ap (column (types.boolean (or_nullable p.nullability (or_nullable f.nullability g.nullability)))) (ranges-rows p.kind.now f.kind.now g.kind.now p.nullability f.nullability g.nullability p.days.now p.seconds.now p.subseconds.now f.days.now f.seconds.now f.subseconds.now g.days.now g.seconds.now g.subseconds.now c.requires.well c.requires.low_well c.requires.high_well c.requires.low_unit c.requires.high_unit c.requires.low_length c.requires.high_length c.rows-rows.result c.rows-low_rows.result c.rows-high_rows.result own lows highs c.args.options c.in_ok-bits.bits c.in_ok-bits.ensures c.in_ok-valid.valid c.in_ok-valid.ensures)) (λ e is. is)
