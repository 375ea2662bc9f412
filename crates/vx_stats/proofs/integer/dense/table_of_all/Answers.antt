use Rattle.std.proofs.Common.{map, ap, arith}
use Rattle.std.proofs.lemmas.List.{drop_all, length-map}
use Rattle.vx_stats.proofs.TableLemmas.{counts-all, item-between, item-counted}
use Rattle.vx_stats.proofs.integer.dense.table_of_all.Goals as goal

pub place_of-requires : goal.place_of-requires
place_of-requires g c = item-between g.T.Integer.whole _ _ c.args.len c.args.items.now c.loop-row.row c.index-items-row.result c.loop-row.table.items (omega arith) c.index-items-row.is c.requires.len c.loop-row.invariant

pub index_mut-requires : goal.index_mut-requires
index_mut-requires g c =
    let counted = item-counted g.T.Integer.whole _ _ c.args.len c.args.items.now c.loop-row.row c.index-items-row.result c.loop-row.table.items (omega arith) c.index-items-row.is c.requires.len c.loop-row.invariant _ c.place_of.ensures in
    omega (arith, counted.place)

pub overflow_add-index_mut : goal.overflow_add-index_mut
overflow_add-index_mut g c =
    let counted = item-counted g.T.Integer.whole _ _ c.args.len c.args.items.now c.loop-row.row c.index-items-row.result c.loop-row.table.items (omega arith) c.index-items-row.is c.requires.len c.loop-row.invariant _ c.place_of.ensures in
    record { fits = omega (arith, (counted.grows c.index_mut.result.now c.index_mut.ensures.value).0, length-map c.args.items.now g.T.Integer.whole) }

pub loop-row-preserved : goal.loop-row-preserved
loop-row-preserved g c =
    let counted = item-counted g.T.Integer.whole _ _ c.args.len c.args.items.now c.loop-row.row c.index-items-row.result c.loop-row.table.items (omega arith) c.index-items-row.is c.requires.len c.loop-row.invariant _ c.place_of.ensures in
    (counted.grows c.index_mut.result.now c.index_mut.ensures.value).1

pub returns-clause-table : goal.returns-clause-table
returns-clause-table g c = counts-all _ _ c.args.len _ _ c.loop-row.table.items (ap (map g.T.Integer.whole) (drop_all c.loop-row.row c.args.items.now (omega arith))) c.loop-row.invariant
