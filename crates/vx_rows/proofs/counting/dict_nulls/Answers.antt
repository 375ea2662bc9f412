use Rattle.std.proofs.Common.{◌∙◌, ap, length}
use Rattle.std.specs.List.{list_all}
use Rattle.vx_base.specs.PlainType.{is_flat}
use Rattle.vx_model.specs.TreeType.{tree_type}
use Rattle.vx_model.specs.WellFormed.{is_place}
use Rattle.vx_model.proofs.FlatTypeLemmas.{integer-flat}
use Rattle.vx_rows.proofs.PickedLemmas.{rows-picked}
use Rattle.vx_rows.proofs.counting.dict_nulls.Goals as goal

pub readable-requires : goal.readable-requires
readable-requires c = integer-flat (tree_type c.args.codes.now) c.requires.2.codes_type

pub readable-requires-2 : goal.readable-requires-2
readable-requires-2 c = c.requires.2.values_type

pub rows_of-code_rows-requires-clause-flat : goal.rows_of-code_rows-requires-clause-flat
rows_of-code_rows-requires-clause-flat c = ap is_flat c.in_ok-read_codes.ensures.dtype ∙ integer-flat (tree_type c.args.codes.now) c.requires.2.codes_type

pub rows_of-code_rows-requires-clause-readable : goal.rows_of-code_rows-requires-clause-readable
rows_of-code_rows-requires-clause-readable c = c.in_ok-read_codes.ensures.readable

pub rows_of-value_rows-requires-clause-flat : goal.rows_of-value_rows-requires-clause-flat
rows_of-value_rows-requires-clause-flat c = ap is_flat c.in_ok-read_values.ensures.dtype ∙ c.requires.2.values_type

pub rows_of-value_rows-requires-clause-readable : goal.rows_of-value_rows-requires-clause-readable
rows_of-value_rows-requires-clause-readable c = c.in_ok-read_values.ensures.readable

pub picked_nulls-requires-clause-places : goal.picked_nulls-requires-clause-places
picked_nulls-requires-clause-places c =
    let codes = c.rows_of-code_rows.ensures.rows ∙ c.in_ok-read_codes.ensures.rows in
    let values = c.rows_of-value_rows.ensures.rows ∙ c.in_ok-read_values.ensures.rows in
    (λ i. list_all (is_place (length (values i))) (codes i)) ∙ c.requires.2.places

pub returns : goal.returns
returns c =
    c.picked_nulls.ensures
    ∙ rows-picked c.args.codes.now c.args.values.now _ _ (c.rows_of-code_rows.ensures.rows ∙ c.in_ok-read_codes.ensures.rows) (c.rows_of-value_rows.ensures.rows ∙ c.in_ok-read_values.ensures.rows)
