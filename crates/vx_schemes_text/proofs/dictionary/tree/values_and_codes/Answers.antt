use Rattle.std.proofs.Common.{◌≡◌, ◌∙◌, length, map, sym, ap, arith}
use Rattle.std.proofs.lemmas.List.{length-map}
use Rattle.vx_base.specs.PlainValue.{bytes}
use Rattle.vx_model.specs.Rows.{row_at, rows, valid_rows}
use Rattle.vx_schemes_text.specs.Dictionary.Tree.{appearing}
use Rattle.vx_schemes_text.proofs.CodeParts.{some-appearing}
use Rattle.vx_schemes_text.proofs.ViewParts.{rows-back}
use Rattle.vx_schemes_text.proofs.dictionary.tree.values_and_codes.Goals as goal

pub codes_tree-requires-clause-count : goal.codes_tree-requires-clause-count
codes_tree-requires-clause-count c =
    let t = c.args.array.now in
    let values = valid_rows c.views_of.result.1.now (map bytes c.as_slice.result.now) in
    let same : values ≡ rows t = (λ i. valid_rows (c.views_of.ensures.valid i) (map bytes ((c.as_slice.ensures ∙ c.views_of.ensures.rows) i))) ∙ rows-back t c.requires.bytes c.requires.plain in
    c.len.ensures ∙ sym (length-map c.in_ok-firsts.field-0.firsts (row_at values)) ∙ ap length c.in_ok-firsts.ensures.firsts ∙ ap (λ vs. length (appearing vs)) same

pub codes_tree-requires-clause-some : goal.codes_tree-requires-clause-some
codes_tree-requires-clause-some c =
    let t = c.args.array.now in
    let values = valid_rows c.views_of.result.1.now (map bytes c.as_slice.result.now) in
    let same : values ≡ rows t = (λ i. valid_rows (c.views_of.ensures.valid i) (map bytes ((c.as_slice.ensures ∙ c.views_of.ensures.rows) i))) ∙ rows-back t c.requires.bytes c.requires.plain in
    let count = c.len.ensures ∙ sym (length-map c.in_ok-firsts.field-0.firsts (row_at values)) ∙ ap length c.in_ok-firsts.ensures.firsts ∙ ap (λ vs. length (appearing vs)) same in
    omega (arith, count, some-appearing (rows t) c.requires.some)
