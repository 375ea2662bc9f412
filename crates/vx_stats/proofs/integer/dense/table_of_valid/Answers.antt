use Rattle.std.proofs.Common.{map, drop, sym, ap, ◌∙◌, arith}
use Rattle.std.proofs.lemmas.List.{drop_all, length-map}
use Rattle.vx_base.specs.PlainValue.{int}
use Rattle.vx_model.specs.Rows.{masked_rows}
use Rattle.vx_stats.specs.Stats.{valid_wholes}
use Rattle.vx_stats.proofs.StatsLemmas.{few-values}
use Rattle.vx_stats.proofs.TableLemmas.{counts-all, valid-between, valid-counted}
use Rattle.vx_stats.proofs.integer.dense.table_of_valid.Goals as goal

pub place_of-requires : goal.place_of-requires
place_of-requires g c = valid-between g.T.Integer.whole _ _ c.args.len c.args.items.now c.loop-row.row c.index-items-row.result c.loop-row.table.items (omega arith) c.index-items-row.is c.requires.len c.args.bits.now c.item_or-item.result c.requires.bits c.requires.some c.item_or-item.ensures c.loop-row.invariant

pub index_mut-requires : goal.index_mut-requires
index_mut-requires g c =
    let counted = valid-counted g.T.Integer.whole _ _ c.args.len c.args.items.now c.loop-row.row c.index-items-row.result c.loop-row.table.items (omega arith) c.index-items-row.is c.requires.len c.args.bits.now c.item_or-item.result c.requires.bits c.requires.some c.item_or-item.ensures c.loop-row.invariant _ c.place_of.ensures in
    omega (arith, counted.place)

pub overflow_add-index_mut : goal.overflow_add-index_mut
overflow_add-index_mut g c =
    let counted = valid-counted g.T.Integer.whole _ _ c.args.len c.args.items.now c.loop-row.row c.index-items-row.result c.loop-row.table.items (omega arith) c.index-items-row.is c.requires.len c.args.bits.now c.item_or-item.result c.requires.bits c.requires.some c.item_or-item.ensures c.loop-row.invariant _ c.place_of.ensures in
    let long = length-map c.args.items.now g.T.Integer.whole in
    let few = few-values c.args.bits.now (map g.T.Integer.whole c.args.items.now) (c.requires.bits ∙ sym long) in
    record { fits = omega (arith, (counted.grows c.index_mut.result.now c.index_mut.ensures.value).0, c.from.ensures, few, long) }

pub loop-row-preserved : goal.loop-row-preserved
loop-row-preserved g c =
    let counted = valid-counted g.T.Integer.whole _ _ c.args.len c.args.items.now c.loop-row.row c.index-items-row.result c.loop-row.table.items (omega arith) c.index-items-row.is c.requires.len c.args.bits.now c.item_or-item.result c.requires.bits c.requires.some c.item_or-item.ensures c.loop-row.invariant _ c.place_of.ensures in
    rw c.from.ensures (counted.grows c.index_mut.result.now c.index_mut.ensures.value).1

pub returns-clause-table : goal.returns-clause-table
returns-clause-table g c =
    let rest = map int (map g.T.Integer.whole (drop c.loop-row.row c.args.items.now)) in
    counts-all _ _ c.args.len _ _ c.loop-row.table.items (ap (λ bits. valid_wholes (masked_rows bits rest)) (drop_all c.loop-row.row c.args.bits.now (omega arith))) c.loop-row.invariant
