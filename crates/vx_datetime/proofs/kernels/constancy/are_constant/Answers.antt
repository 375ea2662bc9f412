use Rattle.std.proofs.Common.{◌≡◌, ◌∙◌, ap, false, subst, sym, true}
use Rattle.std.specs.Prelude.{◌&&◌, ◌||◌}
use Rattle.vx_base.specs.Answers.{Answers}
use Rattle.vx_base.specs.PlainValue.{is_null}
use Rattle.vx_model.specs.Rows.{row_at, rows}
use Rattle.vx_rules.specs.Aggregates.{all_equal}
use Rattle.vx_datetime.proofs.ConstantParts.{constant-parts, some-rows}
use Rattle.vx_datetime.proofs.kernels.constancy.are_constant.Goals as goal

pub is_null_at-requires : goal.is_null_at-requires
is_null_at-requires c = some-rows (rows c.args.parts.now.days.now) (sym c.in_ok-same_day.ensures.answer ∙ c.if-not-same_day.false)

pub returns-then-not-same_day-clause-answer : goal.returns-then-not-same_day-clause-answer
returns-then-not-same_day-clause-answer c =
    let p = c.args.parts.now in
    let parts = constant-parts p.kind.now p.nullability p.days.now p.seconds.now p.subseconds.now c.requires.well in
    let later = is_null (row_at (rows p.days.now) 0) || (all_equal (rows p.seconds.now) && all_equal (rows p.subseconds.now)) in
    sym (parts ∙ ap (λ b. b && later) (sym c.in_ok-same_day.ensures.answer ∙ c.if-not-same_day.true))

pub returns-then-is_null_at-clause-answer : goal.returns-then-is_null_at-clause-answer
returns-then-is_null_at-clause-answer c =
    let p = c.args.parts.now in
    let parts = constant-parts p.kind.now p.nullability p.days.now p.seconds.now p.subseconds.now c.requires.well in
    let day = sym c.in_ok-same_day.ensures.answer ∙ c.if-not-same_day.false in
    let none : is_null (row_at (rows p.days.now) 0) ≡ true = sym c.is_null_at.ensures ∙ c.if-is_null_at.true in
    sym (parts ∙ (λ i. day i && (none i || (all_equal (rows p.seconds.now) && all_equal (rows p.subseconds.now)))))

pub returns-then-not-same_second-clause-answer : goal.returns-then-not-same_second-clause-answer
returns-then-not-same_second-clause-answer c =
    let p = c.args.parts.now in
    let parts = constant-parts p.kind.now p.nullability p.days.now p.seconds.now p.subseconds.now c.requires.well in
    let day = sym c.in_ok-same_day.ensures.answer ∙ c.if-not-same_day.false in
    let some : is_null (row_at (rows p.days.now) 0) ≡ false = sym c.is_null_at.ensures ∙ c.if-is_null_at.false in
    let second = sym c.in_ok-same_second.ensures.answer ∙ c.if-not-same_second.true in
    sym (parts ∙ (λ i. day i && (some i || (second i && all_equal (rows p.subseconds.now)))))

pub returns-clause-answer : goal.returns-clause-answer
returns-clause-answer c =
    let p = c.args.parts.now in
    let parts = constant-parts p.kind.now p.nullability p.days.now p.seconds.now p.subseconds.now c.requires.well in
    let day = sym c.in_ok-same_day.ensures.answer ∙ c.if-not-same_day.false in
    let some : is_null (row_at (rows p.days.now) 0) ≡ false = sym c.is_null_at.ensures ∙ c.if-is_null_at.false in
    let second = sym c.in_ok-same_second.ensures.answer ∙ c.if-not-same_second.false in
    subst (Answers c.is_constant-3.result) (sym (parts ∙ (λ i. day i && (some i || (second i && all_equal (rows p.subseconds.now)))))) c.is_constant-3.ensures.answer
