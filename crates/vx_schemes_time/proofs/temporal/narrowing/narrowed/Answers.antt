use Rattle.std.proofs.Common.{◌≡◌, ◌∙◌, pos, length, None, ap, sym, subst, rules, inl, inr}
use Rattle.std.specs.Prelude.{replicate}
use Rattle.vx_base.specs.Answers.{Answers}
use Rattle.vx_base.specs.declared.array_id.ArrayId.TheVariants as ids
use Rattle.vx_base.specs.declared.dtype.Nullability.TheVariants.{NonNullable}
use Rattle.vx_base.specs.declared.ptype.PType.TheVariants.{U8}
use Rattle.vx_model.specs.Column.{column_of}
use Rattle.vx_model.specs.Nodes.{encoding}
use Rattle.vx_model.specs.Plain.{plain}
use Rattle.vx_model.specs.Rows.{rows}
use Rattle.vx_model.specs.Tree.{primitive}
use Rattle.vx_schemes_time.specs.Narrowest.{narrowed}
use Rattle.vx_schemes_time.proofs.StoredLemmas.{stored-root, narrowed-zeros}
use Rattle.vx_schemes_time.proofs.temporal.narrowing.narrowed.Goals as goal

pub returns-then-eq : goal.returns-then-eq
returns-then-eq c =
    let part = c.args.part in
    let root : encoding part ≡ ids.Constant = search rules in
    elim c.requires [
      | inl own ↦ let plain_root = sym root ∙ stored-root part own in absurd cc
      | inr zero ↦
          subst (Answers c.zeros.result)
          (ap (λ k. primitive U8 (replicate k (pos 0)) None NonNullable) c.len.ensures ∙ narrowed-zeros (length (rows part)) ∙ ap (λ t. plain (narrowed (column_of t))) (sym zero)) c.zeros.ensures
    ]
