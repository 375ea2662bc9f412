use Rattle.std.proofs.Common.{◌∙◌, ap, subst}
use Rattle.std.specs.List.{list_all}
use Rattle.std.specs.Prelude.{IfSome}
use Rattle.vx_base.specs.Answers.{OrMemory}
use Rattle.vx_base.specs.PlainType.{is_flat}
use Rattle.vx_model.specs.TreeType.{tree_type}
use Rattle.vx_model.specs.WellFormed.{is_place}
use Rattle.vx_model.proofs.FlatTypeLemmas.{integer-flat}
use Rattle.vx_rows.specs.Used.{IsUsed}
use Rattle.vx_rows.proofs.used.used_by.Goals as goal

pub readable-requires : goal.readable-requires
readable-requires c = integer-flat (tree_type c.args.codes.now) c.requires.integers

pub rows_of-requires-clause-flat : goal.rows_of-requires-clause-flat
rows_of-requires-clause-flat c = ap is_flat c.in_ok-read.ensures.dtype ∙ integer-flat (tree_type c.args.codes.now) c.requires.integers

pub rows_of-requires-clause-readable : goal.rows_of-requires-clause-readable
rows_of-requires-clause-readable c = c.in_ok-read.ensures.readable

pub used_by_rows-requires-clause-places : goal.used_by_rows-requires-clause-places
used_by_rows-requires-clause-places c = ap (list_all (is_place c.args.len)) (c.rows_of.ensures.rows ∙ c.in_ok-read.ensures.rows) ∙ c.requires.places

pub returns : goal.returns
returns c =
    subst (λ codes. OrMemory c.used_by_rows.result (λ found. IfSome found (IsUsed c.args.len codes))) (c.rows_of.ensures.rows ∙ c.in_ok-read.ensures.rows)
    c.used_by_rows.ensures
