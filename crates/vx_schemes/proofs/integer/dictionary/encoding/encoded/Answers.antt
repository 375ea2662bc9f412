use Rattle.std.proofs.Common.{◌∙◌, sym, ap, subst}
use Rattle.vx_base.specs.Answers.{Answers}
use Rattle.vx_base.specs.PlainType.{is_integer, integer_of}
use Rattle.vx_model.specs.Column.{column_of}
use Rattle.vx_model.specs.Plain.{IsPlain}
use Rattle.vx_model.proofs.MadeLemmas.{rows_fit}
use Rattle.vx_model.proofs.PlainLemmas.{column_of-plain, plain_is_plain}
use Rattle.vx_stats.specs.Stats.{distinct_values}
use Rattle.vx_schemes.specs.Dictionary.Tree.{dictionary_of}
use Rattle.vx_schemes.proofs.integer.dictionary.encoding.encoded.Goals as goal

pub plain_encoded-requires-else-is_plain : goal.plain_encoded-requires-else-is_plain
plain_encoded-requires-else-is_plain c =
    let column = column_of c.args.array.now in
    let fit = rows_fit c.args.array.now c.known.ensures in
    let same = ap column_of c.in_ok-canonical.ensures.tree ∙ column_of-plain column fit in
    record {
      plain = subst IsPlain (sym c.in_ok-canonical.ensures.tree) (plain_is_plain column fit);
      integer = ap (λ d. is_integer d.dtype) same ∙ c.requires.integer;
      ptype = c.requires.ptype ∙ sym (ap (λ d. integer_of d.dtype) same);
      values = c.requires.values ∙ sym (ap (λ d. distinct_values d.values) same);
      few = c.requires.few;
    }

pub returns-in_ok-canonical : goal.returns-in_ok-canonical
returns-in_ok-canonical c =
    let same = ap column_of c.in_ok-canonical.ensures.tree ∙ column_of-plain (column_of c.args.array.now) (rows_fit c.args.array.now c.known.ensures) in
    subst (λ column. Answers c.plain_encoded-else-is_plain.result (dictionary_of column)) same c.plain_encoded-else-is_plain.ensures
