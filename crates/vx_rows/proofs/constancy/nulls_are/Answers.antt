use Rattle.std.proofs.Common.{◌∙◌, ap, sym}
use Rattle.std.specs.Prelude.{◌||◌}
use Rattle.std.proofs.lemmas.Bool.{eq-eqb, ne_eqb}
use Rattle.vx_base.specs.CellValue.{cell_value}
use Rattle.vx_base.specs.PlainValue.{is_null}
use Rattle.vx_rows.proofs.NamedLemmas.{all-nulls, no-nulls}
use Rattle.vx_rows.proofs.constancy.nulls_are.Goals as goal

pub returns-then-nulls-eq0 : goal.returns-then-nulls-eq0
returns-then-nulls-eq0 c = eq-eqb c.args.nulls 0 c.if-nulls-eq0.true ∙ no-nulls (cell_value c.args.value) c.args.nulls c.if-nulls-eq0.true

pub returns-else-nulls-eq0 : goal.returns-else-nulls-eq0
returns-else-nulls-eq0 c =
    let v = cell_value c.args.value in
    c.is_null.ensures ∙ ap (λ b. b || is_null v) (sym (ne_eqb c.args.nulls 0 c.if-nulls-eq0.false)) ∙ all-nulls v c.args.nulls
