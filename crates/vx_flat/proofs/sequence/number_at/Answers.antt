use Rattle.std.proofs.Common.{◌∙◌, ap, arith}
use Rattle.vx_base.specs.Integers.{lies_in}
use Rattle.vx_model.proofs.SequenceLemmas.{row-held}
use Rattle.vx_flat.proofs.Steps.{product-fits, sum-fits, sum-is}
use Rattle.vx_flat.proofs.sequence.number_at.Goals as goal

pub overflow_mul-result : goal.overflow_mul-result
overflow_mul-result c =
    let a = c.args in
    product-fits a.ptype a.first a.step c.from.result a.len a.row c.requires.sequence c.requires.in_range (omega arith) c.from.ensures c.ranges.first c.ranges.step

pub overflow_add-result : goal.overflow_add-result
overflow_add-result c =
    let a = c.args in
    sum-fits a.ptype a.first a.step c.from.result a.len a.row c.requires.sequence c.requires.in_range (omega arith) c.from.ensures c.ranges.first c.ranges.step

pub returns-clause-whole : goal.returns-clause-whole
returns-clause-whole c =
    let a = c.args in
    sum-is a.ptype a.first a.step c.from.result a.len a.row c.requires.sequence c.requires.in_range (omega arith) c.from.ensures c.ranges.first c.ranges.step

pub returns-clause-held : goal.returns-clause-held
returns-clause-held c =
    let a = c.args in
    ap (lies_in a.ptype) (sum-is a.ptype a.first a.step c.from.result a.len a.row c.requires.sequence c.requires.in_range (omega arith) c.from.ensures c.ranges.first c.ranges.step)
    ∙ row-held a.ptype a.first a.step a.len a.row c.requires.sequence c.requires.in_range
