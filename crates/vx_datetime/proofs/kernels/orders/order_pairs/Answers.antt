use Rattle.std.proofs.Common.{◌≡◌, ◌∙◌, ℕ, ap, arith, length}
use Rattle.std.specs.declared.cmp.Ordering.{Ordering}
use Rattle.std.specs.declared.cmp.Ordering.TheVariants.{Equal}
use Rattle.std.proofs.lemmas.List.{length-replicate}
use Rattle.vx_model.specs.Rows.{below}
use Rattle.vx_datetime.specs.Moments.{row_parts}
use Rattle.vx_datetime.proofs.Refinings.{all-set}
use Rattle.vx_time.specs.CanonicalParts.{parts_cmp}
use Rattle.vx_values.specs.IntsOf.{wholes_of}
use Rattle.vx_datetime.proofs.kernels.orders.order_pairs.Goals as goal

pub returns : goal.returns
returns c =
    let n = length (wholes_of c.args.rows.now.days.now) in
    let f : ℕ → Ordering = λ i. parts_cmp (row_parts c.args.rows.now i) (row_parts c.args.others.now i) in
    let size : length c.args.orders.now ≡ n = ap length c.requires.equal ∙ length-replicate n Equal in
    let so_far = c.loop-start.invariant.0 in
    let last : c.loop-start.start ≡ length c.args.orders.now = omega (arith, so_far.long, c.loop-start.invariant.1) in
    all-set f c.args.orders.now c.loop-start.orders c.loop-start.start so_far last ∙ ap (below f) size
