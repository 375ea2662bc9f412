use Rattle.std.proofs.Common.{◌≡◌, ◌∙◌, ap, length, subst, sym}
use Rattle.vx_base.specs.Answers.{OrMemory}
use Rattle.vx_model.specs.Column.{column_of}
use Rattle.vx_rules.specs.Selections.{filtered}
use Rattle.vx_selections.proofs.filters.kept_decoded.Goals as goal

pub kept_stored-requires : goal.kept_stored-requires
kept_stored-requires c = c.requires ∙ ap (λ k. length k.values) (sym c.in_ok-plain.ensures.kept)

pub returns : goal.returns
returns c = subst (λ k. OrMemory c.kept_stored.result (λ out. column_of out ≡ filtered k c.args.keep.now)) c.in_ok-plain.ensures.kept c.kept_stored.ensures
