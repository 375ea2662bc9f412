use Rattle.std.proofs.Common.{◌∙◌, sym, ap, arith}
use Rattle.std.specs.Option.{option_copied}
use Rattle.vx_model.specs.Nodes.{children}
use Rattle.vx_file.proofs.Children.{is_stored}
use Rattle.vx_file.proofs.Steps.{test_goes_on, test_stops, past_end}
use Rattle.vx_file.proofs.storable.+is_stored.Goals as goal

pub are_stored-unreachable-requires : goal.are_stored-unreachable-requires
are_stored-unreachable-requires t c =
    let none = sym c.child.ensures ∙ ap option_copied c.in_default.is in
    omega (arith, past_end (children c.args.tree.now) c.loop-place.place none)

pub are_stored-returns-then-not-is_stored : goal.are_stored-returns-then-not-is_stored
are_stored-returns-then-not-is_stored t c =
    test_stops (is_stored c.args.limit) (children c.args.tree.now) c.loop-place.place c.in-Some.child.now _ (sym c.child.ensures ∙ ap option_copied c.in-Some.is) (sym c.is_stored.ensures ∙ c.if-not-is_stored.true) c.loop-place.invariant

pub are_stored-loop-place-preserved : goal.are_stored-loop-place-preserved
are_stored-loop-place-preserved t c =
    test_goes_on (is_stored c.args.limit) (children c.args.tree.now) c.loop-place.place c.in-Some.child.now _ (sym c.child.ensures ∙ ap option_copied c.in-Some.is) (sym c.is_stored.ensures ∙ c.if-not-is_stored.false) c.loop-place.invariant
