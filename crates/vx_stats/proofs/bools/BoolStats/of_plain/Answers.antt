use Rattle.std.proofs.Common.{◌∙◌, sym, ap}
use Rattle.vx_array.specs.TreeOf.{tree_of}
use Rattle.vx_model.specs.Nodes.{encoding}
use Rattle.vx_stats.proofs.RootLemmas.{bool-node, encoding-bool, no_bool}
use Rattle.vx_stats.proofs.bools.BoolStats.of_plain.Goals as goal

pub stats_of_bits-requires : goal.stats_of_bits-requires
stats_of_bits-requires c =
    let is = sym c.node.ensures.tree ∙ ap tree_of c.in-Bool.is in
    let known = bool-node c.args.plain.now _ _ _ is c.node.ensures.well_formed c.requires.few in
    record { mask = known.mask; few = known.few }

pub unreachable-requires : goal.unreachable-requires
unreachable-requires c = no_bool c.node.result.now c.in_default.not-Bool (ap encoding c.node.ensures.tree ∙ encoding-bool c.args.plain.now c.requires.bool c.requires.plain)
