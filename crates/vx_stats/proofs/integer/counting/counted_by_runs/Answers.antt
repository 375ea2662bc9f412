use Rattle.std.proofs.Common.{◌∙◌, ◌<◌, ◌^◌, map, sym, ap, subst, arith, ◌≡◌}
use Rattle.vx_base.specs.PlainValue.{int}
use Rattle.vx_model.specs.Rows.{valid_rows}
use Rattle.vx_stats.specs.Runs.{whole_counts, runs}
use Rattle.vx_stats.specs.Seen.{total, merged}
use Rattle.vx_stats.specs.Stats.{valid_wholes}
use Rattle.vx_stats.proofs.SeenLemmas.{made, made-few, made-short, valid-few, run-totals, run-some}
use Rattle.vx_stats.proofs.integer.counting.counted_by_runs.Goals as goal

pub merged-requires : goal.merged-requires
merged-requires g c =
    let whole = g.T.Integer.whole in
    let zs = valid_wholes (valid_rows c.args.valid.now (map int (map whole c.args.items.now))) in
    let before = c.into_vec.result.items in
    let after = c.sorted-counts.result.items in
    let are : whole_counts whole before ≡ runs zs = ap (whole_counts whole) c.into_vec.ensures ∙ c.in_ok-runs.ensures in
    λ z.
    let few = made-few whole before after zs z c.sorted-counts.ensures.same (run-totals whole before zs are) in
    subst (λ l. total whole l z < 2 ^ 32) (sym c.as_slice.ensures.value) (omega (arith, few, valid-few whole c.args.items.now c.args.valid.now c.requires.mask, c.requires.few))

pub new-requires : goal.new-requires
new-requires g c =
    let whole = g.T.Integer.whole in
    let zs = valid_wholes (valid_rows c.args.valid.now (map int (map whole c.args.items.now))) in
    let before = c.into_vec.result.items in
    let after = c.sorted-counts.result.items in
    let are : whole_counts whole before ≡ runs zs = ap (whole_counts whole) c.into_vec.ensures ∙ c.in_ok-runs.ensures in
    let all = made whole before after zs c.sorted-counts.ensures.same c.sorted-counts.ensures.rising (run-some whole before zs are) (run-totals whole before zs are) in
    let short = made-short whole c.in_ok-merged.field-0 zs (c.in_ok-merged.ensures ∙ ap (λ l. merged (whole_counts whole l)) c.as_slice.ensures.value ∙ all) in
    omega (arith, short, valid-few whole c.args.items.now c.args.valid.now c.requires.mask, c.requires.few)

pub returns : goal.returns
returns g c =
    let whole = g.T.Integer.whole in
    let zs = valid_wholes (valid_rows c.args.valid.now (map int (map whole c.args.items.now))) in
    let before = c.into_vec.result.items in
    let after = c.sorted-counts.result.items in
    let are : whole_counts whole before ≡ runs zs = ap (whole_counts whole) c.into_vec.ensures ∙ c.in_ok-runs.ensures in
    let all = made whole before after zs c.sorted-counts.ensures.same c.sorted-counts.ensures.rising (run-some whole before zs are) (run-totals whole before zs are) in
    c.new.ensures ∙ c.in_ok-merged.ensures ∙ ap (λ l. merged (whole_counts whole l)) c.as_slice.ensures.value ∙ all
