use Rattle.std.proofs.Common.{◌∙◌, ap, length, sym}
use Rattle.std.specs.Prelude.{◌&&◌, replicate}
use Rattle.std.specs.List.{list_all}
use Rattle.std.proofs.lemmas.List.Folds.{list_all-append}
use Rattle.vx_base.specs.CellValue.{cell_value}
use Rattle.vx_base.specs.PlainType.{is_flat}
use Rattle.vx_base.specs.PlainValue.{null, same_value}
use Rattle.vx_model.specs.Rows.{rows}
use Rattle.vx_rows.specs.Extremes.{valid_items}
use Rattle.vx_rows.proofs.constancy.used_are.Goals as goal

pub returns-then-not-nulls_are : goal.returns-then-not-nulls_are
returns-then-not-nulls_are c =
    let test = same_value (cell_value c.args.value) in
    let named = valid_items c.args.used.now.named (rows c.args.values.now) in
    sym (list_all-append test (replicate c.args.used.now.nulls null) named ∙ ap (λ b. b && list_all test named) (sym c.nulls_are.ensures ∙ c.if-not-nulls_are.true))

pub readable-requires : goal.readable-requires
readable-requires c = c.requires.flat

pub rows_of-rows-requires-clause-flat : goal.rows_of-rows-requires-clause-flat
rows_of-rows-requires-clause-flat c = ap is_flat c.in_ok-read.ensures.dtype ∙ c.requires.flat

pub rows_of-rows-requires-clause-readable : goal.rows_of-rows-requires-clause-readable
rows_of-rows-requires-clause-readable c = c.in_ok-read.ensures.readable

pub named_are-requires-clause-long : goal.named_are-requires-clause-long
named_are-requires-clause-long c = c.requires.long ∙ sym (ap length (c.rows_of-rows.ensures.rows ∙ c.in_ok-read.ensures.rows))

pub returns : goal.returns
returns c =
    let test = same_value (cell_value c.args.value) in
    let bits = c.args.used.now.named in
    let nulls = replicate c.args.used.now.nulls null in
    c.named_are.ensures ∙ ap (λ vs. list_all test (valid_items bits vs)) (c.rows_of-rows.ensures.rows ∙ c.in_ok-read.ensures.rows)
    ∙ sym (list_all-append test nulls (valid_items bits (rows c.args.values.now)) ∙ ap (λ b. b && list_all test (valid_items bits (rows c.args.values.now))) (sym c.nulls_are.ensures ∙ c.if-not-nulls_are.false))
