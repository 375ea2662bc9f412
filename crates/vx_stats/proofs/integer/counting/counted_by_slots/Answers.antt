use Rattle.std.specs.Prelude.{IfSome}
use Rattle.std.proofs.Common.{◌∙◌, ◌<◌, ◌^◌, map, sym, ap, subst, arith, Option, Some, None, List, ℤ, ◌≡◌}
use Rattle.vx_base.specs.PlainValue.{int}
use Rattle.vx_model.specs.Rows.{valid_rows}
use Rattle.vx_stats.specs.Runs.{whole_counts}
use Rattle.vx_stats.specs.Seen.{total, merged, AreSeen}
use Rattle.vx_stats.specs.declared.integer.seen.Seen.{Seen}
use Rattle.vx_stats.specs.Stats.{valid_wholes}
use Rattle.vx_stats.proofs.SeenLemmas.{made, made-few, made-short, valid-few}
use Rattle.vx_stats.proofs.integer.counting.counted_by_slots.Goals as goal

seen-some : {T : Type 0} (whole : T → ℤ) (zs : List ℤ) (o : Option (Seen T)) (s : Seen T) → o ≡ Some s → IfSome o (AreSeen whole zs) → AreSeen whole zs s
seen-some whole zs (Some t) s e h = subst (AreSeen whole zs) (some-inj e) h
  where
    some-inj : Some t ≡ Some s → t ≡ s
    some-inj q = cc
seen-some whole zs None s e h = absurd cc

pub merged-requires : goal.merged-requires
merged-requires g c =
    let whole = g.T.Integer.whole in
    let zs = valid_wholes (valid_rows c.args.valid.now (map int (map whole c.args.items.now))) in
    let seen = seen-some whole zs _ _ c.in-Some.is c.in_ok-seen.ensures in
    let before = c.in_ok-into_counts.field-0.items in
    let after = c.sorted-counts.result.items in
    λ z.
    let few = made-few whole before after zs z c.sorted-counts.ensures.same (λ z. c.in_ok-into_counts.ensures.totals z ∙ seen.totals z) in
    subst (λ l. total whole l z < 2 ^ 32) (sym c.as_slice.ensures.value) (omega (arith, few, valid-few whole c.args.items.now c.args.valid.now c.requires.mask, c.requires.few))

pub new-requires : goal.new-requires
new-requires g c =
    let whole = g.T.Integer.whole in
    let zs = valid_wholes (valid_rows c.args.valid.now (map int (map whole c.args.items.now))) in
    let seen = seen-some whole zs _ _ c.in-Some.is c.in_ok-seen.ensures in
    let before = c.in_ok-into_counts.field-0.items in
    let after = c.sorted-counts.result.items in
    let all = made whole before after zs c.sorted-counts.ensures.same c.sorted-counts.ensures.rising (c.in_ok-into_counts.ensures.some ∙ seen.some) (λ z. c.in_ok-into_counts.ensures.totals z ∙ seen.totals z) in
    let short = made-short whole c.in_ok-merged.field-0 zs (c.in_ok-merged.ensures ∙ ap (λ l. merged (whole_counts whole l)) c.as_slice.ensures.value ∙ all) in
    omega (arith, short, valid-few whole c.args.items.now c.args.valid.now c.requires.mask, c.requires.few)

pub returns : goal.returns
returns g c =
    let whole = g.T.Integer.whole in
    let zs = valid_wholes (valid_rows c.args.valid.now (map int (map whole c.args.items.now))) in
    let seen = seen-some whole zs _ _ c.in-Some.is c.in_ok-seen.ensures in
    let before = c.in_ok-into_counts.field-0.items in
    let after = c.sorted-counts.result.items in
    let all = made whole before after zs c.sorted-counts.ensures.same c.sorted-counts.ensures.rising (c.in_ok-into_counts.ensures.some ∙ seen.some) (λ z. c.in_ok-into_counts.ensures.totals z ∙ seen.totals z) in
    c.new.ensures ∙ c.in_ok-merged.ensures ∙ ap (λ l. merged (whole_counts whole l)) c.as_slice.ensures.value ∙ all
