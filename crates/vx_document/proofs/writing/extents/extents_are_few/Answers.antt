use Rattle.std.proofs.Common.{◌∙◌, sym}
use Rattle.std.specs.List.{list_all}
use Rattle.vx_array.specs.TreeWays.{by_ways, extent_at}
use Rattle.vx_flat.specs.Ways.{turned}
use Rattle.vx_flat.proofs.FewWayLemmas.{way_of-Here}
use Rattle.vx_document.specs.Writing.{is_few}
use Rattle.vx_document.proofs.Extents.{few-ways}
use Rattle.vx_document.proofs.writing.extents.extents_are_few.Goals as goal

pub returns : goal.returns
returns c =
    c.columns_are_few.ensures ∙ (λ i. list_all is_few (by_ways (c.dtype.ensures i) (λ w. extent_at (turned (way_of-Here i) w) c.args.tree.now)))
    ∙ sym (few-ways c.args.tree.now c.known.ensures)
