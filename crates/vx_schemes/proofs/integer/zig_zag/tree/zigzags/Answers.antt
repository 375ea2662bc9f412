use Rattle.std.proofs.Common.{subst}
use Rattle.vx_base.specs.Answers.{Answers}
use Rattle.vx_schemes.proofs.ZigZag.Tree.{zigzags_long, zigzags_tree}
use Rattle.vx_schemes.proofs.integer.zig_zag.tree.zigzags.Goals as goal

pub with_integers-requires-clause-rows : goal.with_integers-requires-clause-rows
with_integers-requires-clause-rows c =
    let parts = c.as_primitive in
    zigzags_long c.args.array.now _ _ parts.result.1.now parts.result.2 parts.ensures.tree parts.ensures.well_formed c.requires.plain _ c.in_ok-zigzagged.ensures.1

pub returns : goal.returns
returns c =
    let parts = c.as_primitive in
    subst (Answers c.with_integers.result) (zigzags_tree c.args.array.now _ _ parts.result.1.now parts.result.2 parts.ensures.tree parts.ensures.well_formed c.requires.plain _ c.in_ok-zigzagged.ensures.1 _ c.in_ok-zigzagged.ensures.0) c.with_integers.ensures
