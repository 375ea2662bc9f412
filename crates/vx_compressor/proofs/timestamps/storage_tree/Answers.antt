use Rattle.vx_scheme.specs.Contexts.{site_of}
use Rattle.vx_compressor.specs.Cascade.{setting}
use Rattle.vx_compressor.proofs.CascadeLemmas.{lawful-map}
use Rattle.vx_compressor.proofs.TimestampTrees.{storage-admitted, no_memory}
use Rattle.vx_compressor.proofs.timestamps.storage_tree.Goals as goal

pub returns-in-Err-clause-answer : goal.returns-in-Err-clause-answer
returns-in-Err-clause-answer g c =
    let meaning = g.S.Scheme.meaning in
    let set = setting meaning c.args.compressor.now c.args.ctx.now in
    let admitted = storage-admitted set (lawful-map meaning g.met.S.Scheme.lawful c.args.compressor.now) c.args.storage c.in_ok-tree.tree (site_of c.args.site.now) c.known.ensures c.requires.flat c.requires.reach c.requires.whole c.in_ok-tree.ensures.answer in
    no_memory _ _ _ _ admitted c.in-Err.ensures
