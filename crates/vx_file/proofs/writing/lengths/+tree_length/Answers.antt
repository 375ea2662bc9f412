use Rattle.std.proofs.Common.{◌∙◌, ◌+◌, sym, ap, arith}
use Rattle.std.specs.Option.{option_copied}
use Rattle.std.specs.Prelude.{sum_by}
use Rattle.std.proofs.lemmas.Bool.{and_parts}
use Rattle.std.proofs.lemmas.List.{take_all}
use Rattle.vx_model.specs.Nodes.{children}
use Rattle.vx_spelling.specs.Storable.{is_within, is_within_below}
use Rattle.vx_file.specs.Lengths.{capped, own_size, text_size}
use Rattle.vx_file.proofs.Children.{child_falls, child_within}
use Rattle.vx_file.proofs.Sizes.{sizes-add}
use Rattle.vx_file.proofs.Steps.{past_end, sum_goes_on}
use Rattle.vx_file.proofs.writing.lengths.+tree_length.Goals as goal

pub own_length-requires : goal.own_length-requires
own_length-requires t c = (and_parts (is_within c.args.tree.now) (is_within_below c.args.tree.now) c.requires).0

pub unreachable-requires : goal.unreachable-requires
unreachable-requires t c =
    let none = sym c.child.ensures ∙ ap option_copied c.in_default.is in
    omega (arith, past_end (children c.args.tree.now) c.loop-place.place none)

pub tree_length-requires : goal.tree_length-requires
tree_length-requires t c =
    let some = sym c.child.ensures ∙ ap option_copied c.in-Some.is in
    let falls = child_falls c.args.tree.now c.loop-place.place c.in-Some.child.now some in
    (omega arith, child_within c.args.tree.now c.loop-place.place c.in-Some.child.now some c.requires)

pub loop-place-preserved : goal.loop-place-preserved
loop-place-preserved t c =
    let some = sym c.child.ensures ∙ ap option_copied c.in-Some.is in
    let more = sum_goes_on text_size (children c.args.tree.now) c.loop-place.place c.in-Some.child.now some in
    omega (arith, more, c.in_ok-tree_length.ensures, c.loop-place.invariant)

pub returns : goal.returns
returns t c =
    let tree = c.args.tree.now in
    let all = take_all c.loop-place.place (children tree) (omega arith) in
    c.loop-place.invariant ∙ ap (λ ts. capped (own_size tree + sum_by text_size ts)) all ∙ ap capped (sizes-add tree c.known.ensures)
