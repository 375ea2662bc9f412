use Rattle.std.proofs.Common.{arith, ◌≡◌, ◌+◌, ◌*◌, ◌∙◌, pos, map, ap, length, sym, subst}
use Rattle.std.proofs.lemmas.List.{length-map, map-append}
use Rattle.vx_base.specs.Wrapping.{wrap}
use Rattle.vx_blocks.specs.Appended.{AppendsRows}
use Rattle.vx_blocks.proofs.RowsRead.{appends-none, appends-more}
use Rattle.vx_blocks.proofs.Written.{grown-written}
use Rattle.vx_blocks.proofs.unpacking.read_part.Goals as goal

pub returns : goal.returns
returns g c =
    let whole = g.T.Integer.whole in
    let items = c.args.rows.now.items in
    let part = c.read_eights.new.out in
    let start = 8 * c.args.eight in
    let end = 8 * (c.args.eight + c.args.eights) in
    let old = map whole items in
    let Reads = AppendsRows (λ n. wrap g.T.Integer.kind (pos n)) c.args.packed.now g.row.W start end old in
    let long : length part ≡ 8 * c.args.eights = omega (arith, c.read_eights.auto.out ∙ c.slice_mut.ensures.len, c.in_ok-resize.ensures.len, c.len-len.ensures) in
    let written = grown-written items c.resize.new.self.items part _ c.zero.result c.len-len.result (8 * c.args.eights) _ c.resize.new.self.len (omega (arith, c.len-len.ensures)) c.in_ok-resize.ensures.items (omega (arith, c.len-len.ensures)) long (omega (arith, c.in_ok-resize.ensures.len)) in
    subst Reads (sym (ap (map whole) written ∙ map-append whole items part))
    (appends-more (λ n. wrap g.T.Integer.kind (pos n)) c.args.packed.now g.row.W start start end old old (map whole part) (omega arith) (omega arith) (appends-none (λ n. wrap g.T.Integer.kind (pos n)) c.args.packed.now g.row.W start old)
    (omega (arith, long, length-map part whole)) (λ k below. c.read_eights.ensures k (omega (arith, long))))
