use Rattle.std.proofs.Common.{◌∙◌, ap, length, refl, sym}
use Rattle.std.proofs.lemmas.Bool.{eq-eqb}
use Rattle.std.proofs.lemmas.Result.{MatchResult-weaker}
use Rattle.vx_base.specs.PlainType.{nullability_of}
use Rattle.vx_model.specs.Column.{column_of}
use Rattle.vx_rules.specs.Selections.{masked}
use Rattle.vx_selections.proofs.Masking.{or-nullable}
use Rattle.vx_selections.proofs.masks.masked_plain.Goals as goal

pub restricted-requires-clause-bits : goal.restricted-requires-clause-bits
restricted-requires-clause-bits c = record {
  long = eq-eqb _ _ (ap length c.in_ok-bits.ensures ∙ c.requires ∙ ap (λ k. length k.values) (sym c.in_ok-plain.ensures.kept));
  allowed = refl;
  wider = or-nullable (nullability_of (column_of c.in_ok-plain.plain).dtype);
}

pub returns : goal.returns
returns c = MatchResult-weaker c.restricted.result c.restricted.ensures (λ out is. is ∙ (λ i. masked (c.in_ok-plain.ensures.kept i) (c.in_ok-bits.ensures i))) (λ e is. is)
