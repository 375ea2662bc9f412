use Rattle.std.proofs.Common.{◌≡◌, ◌+◌, ◌-◌, length, arith, rules}
use Rattle.std.specs.Int.{w128}
use Rattle.std.specs.Prelude.{FitsSigned}
use Rattle.std.proofs.lemmas.Int.{to_z-of_z}
use Rattle.vx_model.specs.Rows.{rows}
use Rattle.vx_schemes.proofs.IndexTypeLemmas.{index_type-of, last_narrows, last_is_some}
use Rattle.vx_schemes.proofs.patches.index_type.Goals as goal

pub unreachable-requires : goal.unreachable-requires
unreachable-requires c =
    let is = rows c.args.numbers.now in
    let i = c.len-count.result - 1 in
    let long : length is ≡ i + 1 = omega arith in
    last_is_some is i c.requires.words long c.in_default.ensures

pub narrow_type-requires : goal.narrow_type-requires
narrow_type-requires c =
    let is = rows c.args.numbers.now in
    let i = c.len-count.result - 1 in
    let long : length is ≡ i + 1 = omega arith in
    let fits : FitsSigned w128 c.in-Some.last = search rules in
    rw (to_z-of_z w128 c.in-Some.last fits) (last_narrows is i c.in-Some.last c.requires.words long c.in-Some.ensures)

pub returns : goal.returns
returns c =
    let is = rows c.args.numbers.now in
    let i = c.len-count.result - 1 in
    let long : length is ≡ i + 1 = omega arith in
    let fits : FitsSigned w128 c.in-Some.last = search rules in
    index_type-of is i c.in-Some.last c.narrow_type.result c.requires.words c.requires.rising long c.in-Some.ensures (rw (to_z-of_z w128 c.in-Some.last fits) at c.narrow_type.ensures)
