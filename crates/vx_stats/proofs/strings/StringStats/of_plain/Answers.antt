use Rattle.std.proofs.Common.{◌∙◌, sym, ap}
use Rattle.vx_array.specs.TreeOf.{tree_of}
use Rattle.vx_model.specs.Nodes.{encoding}
use Rattle.vx_stats.proofs.RootLemmas.{view-node, encoding-view, no_view}
use Rattle.vx_stats.proofs.strings.StringStats.of_plain.Goals as goal

pub stats_of_rows-requires : goal.stats_of_rows-requires
stats_of_rows-requires c =
    let is = sym c.node.ensures.tree ∙ ap tree_of c.in-VarBinView.is in
    let known = view-node c.args.plain.now _ _ _ is c.node.ensures.well_formed c.requires.few in
    record { mask = known.mask; few = known.few; short = known.short }

pub unreachable-requires : goal.unreachable-requires
unreachable-requires c = no_view c.node.result.now c.in_default.not-VarBinView (ap encoding c.node.ensures.tree ∙ encoding-view c.args.plain.now c.requires.byte_type c.requires.plain)
