use Rattle.std.proofs.Common.{arith, ℕ, List, length, ◌≡◌, ◌+◌, ◌-◌, ◌/◌, ◌++◌, ap, ◌∙◌, take, drop, subst, sym}
use Rattle.vx_base.specs.Integers.{bits_in, bits_of, bytes_of}
use Rattle.vx_blocks.specs.Cost.{IsBest, cost}
use Rattle.vx_blocks.specs.Histogram.{AreByZeros, IsHistogram}
use Rattle.vx_blocks.proofs.Counts.{by_zeros-none, halves-histogram}
use Rattle.vx_blocks.proofs.Rows.{kept_rows-length}
use Rattle.vx_blocks.proofs.widths.best_width_of.Goals as goal

-- what `digit_counts` says of a width
abbrev Made : ℕ → ℕ → List ℕ → List ℕ → List ℕ → Type 0
Made width n first second counts = (front back : List ℕ) → AreByZeros width front first → AreByZeros width back second → length front + length back ≡ n → IsHistogram width (front ++ back) counts

-- and so of all rows, where the width is the type's bits
counted : (bits width n : ℕ) (rows first second counts : List ℕ) → width ≡ bits → length rows ≡ n → Made width n first second counts → AreByZeros bits (take (n - n / 2) rows) first → AreByZeros bits (drop (n - n / 2) rows) second → IsHistogram bits rows counts
counted bits width n rows first second counts same len made a b = halves-histogram bits n (n - n / 2) rows first second counts (subst (λ w. Made w n first second counts) same made) a b len

pub count_halves-requires-clause-first : goal.count_halves-requires-clause-first
count_halves-requires-clause-first g c = by_zeros-none (bits_of g.T.Integer.kind)

pub count_halves-requires-clause-second : goal.count_halves-requires-clause-second
count_halves-requires-clause-second g c = by_zeros-none (bits_of g.T.Integer.kind)

pub best_width-requires-clause-size : goal.best_width-requires-clause-size
best_width-requires-clause-size g c =
    let len = kept_rows-length (bits_in g.T.Integer.kind) g.T.Integer.whole 64 c.args.values.now c.args.valid.now c.requires.same in
    let width = c.bit_width-width.ensures.width ∙ ap bits_of c.ptype-ptype.ensures in
    (counted (bits_of g.T.Integer.kind) _ _ _ _ _ _ width len c.digit_counts-counts.ensures c.count_halves.ensures.first c.count_halves.ensures.second).size ∙ ap (λ p. bits_of p + 1) (sym c.ptype-ptype.ensures)

pub best_width-requires-clause-room : goal.best_width-requires-clause-room
best_width-requires-clause-room g c =
    let len = kept_rows-length (bits_in g.T.Integer.kind) g.T.Integer.whole 64 c.args.values.now c.args.valid.now c.requires.same in
    let width = c.bit_width-width.ensures.width ∙ ap bits_of c.ptype-ptype.ensures in
    omega (arith, (counted (bits_of g.T.Integer.kind) _ _ _ _ _ _ width len c.digit_counts-counts.ensures c.count_halves.ensures.first c.count_halves.ensures.second).total, len, c.requires.few)

pub returns : goal.returns
returns g c =
    let len = kept_rows-length (bits_in g.T.Integer.kind) g.T.Integer.whole 64 c.args.values.now c.args.valid.now c.requires.same in
    let width = c.bit_width-width.ensures.width ∙ ap bits_of c.ptype-ptype.ensures in
    let counts = take (c.bit_width-width.result + 1) c.digit_counts-counts.result in
    record {
      counts = counts;
      histogram = counted (bits_of g.T.Integer.kind) _ _ _ _ _ _ width len c.digit_counts-counts.ensures c.count_halves.ensures.first c.count_halves.ensures.second;
      best = subst (λ p. IsBest (cost counts (bytes_of p)) (bits_of p) c.best_width.result) c.ptype-ptype.ensures c.best_width.ensures;
    }
