use Rattle.std.proofs.Common.{◌≡◌, ◌∙◌, ap, length, subst}
use Rattle.std.specs.List.{list_all}
use Rattle.vx_base.specs.Answers.{OrMemory}
use Rattle.vx_model.specs.Column.{column_of}
use Rattle.vx_model.specs.Rows.{rows}
use Rattle.vx_model.specs.Tree.{primitive}
use Rattle.vx_model.specs.WellFormed.{is_place}
use Rattle.vx_values.specs.IntsOf.{ptype_of, wholes_of}
use Rattle.vx_rules.specs.Selections.{taken}
use Rattle.vx_selections.proofs.takes.in_bounds.taken_encoded.Goals as goal

pub taken_stored-requires-clause-places : goal.taken_stored-requires-clause-places
taken_stored-requires-clause-places c =
    ap (λ k. list_all (is_place (length k.values)) (rows (primitive (ptype_of c.args.codes.now) (wholes_of c.args.codes.now) c.args.valid.now c.args.nulls))) c.in_ok-plain.ensures.kept ∙ c.requires.places

pub returns : goal.returns
returns c =
    subst (λ k. OrMemory c.taken_stored.result (λ out. column_of out ≡ taken k (column_of (primitive (ptype_of c.args.codes.now) (wholes_of c.args.codes.now) c.args.valid.now c.args.nulls)))) c.in_ok-plain.ensures.kept
    c.taken_stored.ensures
