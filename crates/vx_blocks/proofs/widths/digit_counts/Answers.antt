use Rattle.std.proofs.Common.{arith, ◌≡◌, ◌+◌, ◌-◌, ◌<◌, ◌≢◌, ◌∙◌, ℕ, length, sum, take, get_or, replicate, refl, sym}
use Rattle.std.proofs.Math.ListN.{length-set}
use Rattle.std.proofs.lemmas.List.Folds.{sum_by-replicate}
use Rattle.std.proofs.lemmas.List.Sums.{sum_by-take-le}
use Rattle.std.proofs.lemmas.List.{get_or-replicate, get_or-set_other, get_or-take, length-take-le, take_all}
use Rattle.vx_blocks.proofs.Counts.{sums-more, histogram-sum, sum-front, take-set_within}
use Rattle.vx_blocks.proofs.Written.{set-more}
use Rattle.vx_blocks.proofs.widths.digit_counts.Goals as goal

pub total-requires : goal.total-requires
total-requires c = omega (arith, c.loop-w.invariant.total, c.requires.most)

pub loop-w-init : goal.loop-w-init
loop-w-init c =
    let none = sum_by-replicate (λ n. n) 65 0 in
    record {
      size = refl;
      each = λ k below. absurd (omega arith);
      later = λ k le lt. get_or-replicate {A = ℕ} 65 k 0 0 lt;
      front = omega (arith, none, sum_by-take-le (λ n. n) (replicate 65 0) (c.args.width + 1));
      total = rw (take_all 65 c.args.first.now (omega arith), take_all 65 c.args.second.now (omega arith)) (omega (arith, none));
    }

pub loop-w-preserved : goal.loop-w-preserved
loop-w-preserved c =
    let counts = c.loop-w.counts in
    let first = c.args.first.now in
    let second = c.args.second.now in
    let w = c.loop-w.w in
    let row = get_or first (64 - w) 0 + get_or second (64 - w) 0 in
    let size = c.loop-w.invariant.size in
    let room : w < length counts = omega (arith, size) in
    let next : 65 - (w + 1) ≡ 64 - w = omega arith in
    record {
      size = length-set counts w row ∙ size;
      each = set-more 0 (λ k. get_or first (64 - k) 0 + get_or second (64 - k) 0) counts w row (w + 1) room refl c.loop-w.invariant.each refl;
      later = λ k le lt. let other : k ≢ w = omega arith in rw get_or-set_other (c.loop-w.invariant.later k (omega arith) lt);
      front = sum-front (c.args.width + 1) counts w row (omega arith) (omega (arith, size)) c.loop-w.invariant.front;
      total = rw next (sums-more counts first second w (65 - w) (64 - w) (sum first + sum second) room (c.loop-w.invariant.later w (omega arith) (omega arith)) (omega arith) (omega arith) (omega arith) c.loop-w.invariant.total);
    }

pub returns : goal.returns
returns c front back h k all =
    let counts = c.loop-w.counts in
    let first = c.args.first.now in
    let second = c.args.second.now in
    let width = c.args.width in
    let kept = take (width + 1) counts in
    let long : length kept ≡ width + 1 = length-take-le (width + 1) counts (omega (arith, c.loop-w.invariant.size)) in
    let end : 65 - c.loop-w.w ≡ 64 - width = omega arith in
    let sums : sum kept ≡ sum first + sum second = omega (arith, c.loop-w.invariant.front, rw end at c.loop-w.invariant.total, h.within, k.within) in
    let total : c.total.result ≡ sum kept = c.total.ensures ∙ sym c.loop-w.invariant.front in
    let here : get_or counts 0 0 ≡ get_or kept 0 0 = sym (get_or-take (width + 1) counts 0 0 (omega arith)) in
    rw (take-set_within (width + 1) counts 0 (get_or counts 0 0 + (c.args.rows - c.total.result)) (omega arith), here, total)
    (histogram-sum width front back first second kept c.args.rows h k c.requires.width long (λ w below. get_or-take (width + 1) counts w 0 below ∙ c.loop-w.invariant.each w (omega arith)) sums all)
