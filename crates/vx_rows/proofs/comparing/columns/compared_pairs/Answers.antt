use Rattle.std.proofs.Common.{◌∙◌, ap, length, map, sym}
use Rattle.vx_base.specs.PlainValue.{truth}
use Rattle.vx_model.specs.Refusals.{validity_length}
use Rattle.vx_model.specs.Rows.{valid_rows}
use Rattle.vx_values.specs.IntsOf.{wholes_of}
use Rattle.vx_rows.specs.Pairs.{both_valid}
use Rattle.vx_rows.proofs.AnswerLemmas.{or-map, rows-of-pairs, some-equal}
use Rattle.vx_rows.proofs.LentLemmas.{length-ints}
use Rattle.vx_rows.proofs.PairLemmas.{length-each_pair}
use Rattle.vx_rows.proofs.comparing.columns.compared_pairs.Goals as goal

pub with_both_valid-requires-clause-left : goal.with_both_valid-requires-clause-left
with_both_valid-requires-clause-left c =
    let zs = wholes_of c.args.values.now in
    let ws = wholes_of c.args.others.now in
    let made = some-equal _ c.in-Some.bits _ c.in-Some.is c.in_ok-found.ensures in
    ap (validity_length c.args.valid.now) (ap length made ∙ length-each_pair _ zs ws c.requires.lengths) ∙ c.requires.left

pub with_both_valid-requires-clause-right : goal.with_both_valid-requires-clause-right
with_both_valid-requires-clause-right c =
    let zs = wholes_of c.args.values.now in
    let ws = wholes_of c.args.others.now in
    let made = some-equal _ c.in-Some.bits _ c.in-Some.is c.in_ok-found.ensures in
    ap (validity_length c.args.other_valid.now) (ap length made ∙ length-each_pair _ zs ws c.requires.lengths ∙ c.requires.lengths) ∙ c.requires.right

pub compared_cells-requires-clause-lengths : goal.compared_cells-requires-clause-lengths
compared_cells-requires-clause-lengths c =
    length-ints (wholes_of c.args.values.now) c.args.valid.now c.requires.left ∙ c.requires.lengths ∙ sym (length-ints (wholes_of c.args.others.now) c.args.other_valid.now c.requires.right)

pub returns-in-Some : goal.returns-in-Some
returns-in-Some c =
    let zs = wholes_of c.args.values.now in
    let ws = wholes_of c.args.others.now in
    let valid = both_valid c.args.valid.now c.args.other_valid.now in
    let made = some-equal _ c.in-Some.bits _ c.in-Some.is c.in_ok-found.ensures in
    or-map c.with_both_valid.result _ _ (λ truths e. e ∙ ap (λ bits. valid_rows valid (map truth bits)) made ∙ sym (rows-of-pairs c.args.operator c.args.valid.now c.args.other_valid.now zs ws)) c.with_both_valid.ensures
