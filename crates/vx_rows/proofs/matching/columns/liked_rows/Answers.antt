use Rattle.std.proofs.Common.{◌≡◌, ◌∙◌, ap, arith, length, map, sym}
use Rattle.vx_base.specs.PlainValue.{bytes}
use Rattle.vx_rules.specs.Patterns.{liked}
use Rattle.vx_rows.specs.Readable.{lent_rows}
use Rattle.vx_rows.specs.Texts.{liked_rows}
use Rattle.vx_rows.proofs.TextLemmas.{no-rows, one-text}
use Rattle.vx_rows.proofs.ValidLemmas.{pair-replicate}
use Rattle.vx_rows.proofs.AnswerLemmas.{or-map}
use Rattle.vx_rows.proofs.matching.columns.liked_rows.Goals as goal

pub liked_by_one-requires-clause-utf8_pattern : goal.liked_by_one-requires-clause-utf8_pattern
liked_by_one-requires-clause-utf8_pattern c =
    let patterns = lent_rows c.args.patterns in
    one-text patterns (length patterns) c.in-Some.pattern.now c.in-Some.ensures (omega (arith, c.requires.lengths, c.len.ensures, c.if-len-eq0.false)) c.requires.utf8_patterns

pub returns-in-Some : goal.returns-in-Some
returns-in-Some c =
    let texts = lent_rows c.args.texts in
    let patterns = lent_rows c.args.patterns in
    let same : liked_rows c.args.options texts patterns ≡ map (λ v. liked c.args.options v (bytes c.in-Some.pattern.now)) texts =
    ap (liked_rows c.args.options texts) c.in-Some.ensures ∙ pair-replicate (liked c.args.options) texts (bytes c.in-Some.pattern.now) (length patterns) c.requires.lengths
    in
    or-map c.liked_by_one.result _ _ (λ truths e. e ∙ sym same) c.liked_by_one.ensures

pub returns-then-len-eq0 : goal.returns-then-len-eq0
returns-then-len-eq0 c = c.finish.ensures ∙ c.in_ok-nulls.ensures ∙ no-rows c.args.options (lent_rows c.args.texts) (lent_rows c.args.patterns) (omega (arith, c.len.ensures, c.if-len-eq0.true))
