use Rattle.std.proofs.Common.{◌∙◌, sym}
use Rattle.std.specs.List.{list_all}
use Rattle.vx_array.specs.TreeWays.{by_ways, extent_at}
use Rattle.vx_flat.specs.Ways.{turned}
use Rattle.vx_flat.proofs.FewWayLemmas.{way_of-Here}
use Rattle.vx_array.proofs.TreeWays.{few, few-ways}
use Rattle.vx_array.proofs.array.ArrayRef.columns_fit.Goals as goal

pub returns : goal.returns
returns c =
    c.columns_fit.ensures ∙ (λ i. list_all few (by_ways (c.dtype.ensures i) (λ w. extent_at (turned (way_of-Here i) w) c.args.self.now)))
    ∙ sym (few-ways c.args.self.now c.known.ensures)
