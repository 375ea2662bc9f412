use Rattle.std.proofs.Common.{◌≡◌, ◌+◌, ◌*◌, ◌∙◌, ap}
use Rattle.vx_base.specs.Digits.{digits}
use Rattle.vx_schemes.specs.Dictionary.Meaning.{code_bits}
use Rattle.vx_schemes.proofs.Dictionary.Ratio.{verdict-ratio}
use Rattle.vx_schemes.proofs.integer.dictionary.ratio.verdict.Goals as goal

pub returns : goal.returns
returns c =
    let a = c.args in
    let width : c.digits.result ≡ digits a.distinct = c.digits.ensures.digits ∙ ap digits c.from-3.ensures in
    let coded = c.code_bits-codes.ensures.bits ∙ ap (λ w. code_bits w a.values a.run_length) width in
    verdict-ratio a.bits a.values a.distinct a.run_length c.new.result c.if-values-eq0.false c.if-distinct-values.false (c.new.ensures.num ∙ (λ i. c.from.ensures i * c.from-2.ensures i))
    (c.new.ensures.den ∙ (λ i. c.from-4.ensures i * c.from-5.ensures i + coded i))
