use Rattle.std.proofs.Common.{◌∙◌, sym, ap}
use Rattle.vx_array.specs.TreeOf.{tree_of}
use Rattle.vx_model.specs.Nodes.{encoding}
use Rattle.vx_stats.proofs.RootLemmas.{encoding-view, no_view}
use Rattle.vx_schemes_text.proofs.ViewParts.{bytes_are, validity_is}
use Rattle.vx_schemes_text.proofs.views.views_of.Goals as goal

pub returns-clause-rows : goal.returns-clause-rows
returns-clause-rows c = bytes_are c.args.plain.now _ _ _ (sym c.node.ensures.tree ∙ ap tree_of c.in-VarBinView.is) c.requires.bytes c.requires.plain

pub returns-clause-valid : goal.returns-clause-valid
returns-clause-valid c = validity_is c.args.plain.now _ _ _ (sym c.node.ensures.tree ∙ ap tree_of c.in-VarBinView.is) c.requires.bytes c.requires.plain

pub unreachable-requires : goal.unreachable-requires
unreachable-requires c = no_view c.node.result.now c.in_default.not-VarBinView (ap encoding c.node.ensures.tree ∙ encoding-view c.args.plain.now c.requires.bytes c.requires.plain)
