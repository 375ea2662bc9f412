use Rattle.std.proofs.Common.{◌≡◌, ◌<◌, ◌+◌, ◌∙◌, pos, length, map, refl, sym, ap, arith, to_z, of_z}
use Rattle.std.specs.Int.{w128}
use Rattle.std.specs.List.{range_with_len}
use Rattle.std.proofs.lemmas.Int.{to_z-of_z}
use Rattle.std.proofs.lemmas.List.{length-map}
use Rattle.std.proofs.lemmas.List.FromFn.{fill_by_all}
use Rattle.vx_base.specs.declared.ptype.PType.TheVariants.{U64}
use Rattle.vx_base.specs.Wrapping.{low_bits}
use Rattle.vx_blocks.specs.Sequence.{sequence_row}
use Rattle.vx_blocks.proofs.Sequences.{row-first}
use Rattle.vx_blocks.proofs.Written.{written-more}
use Rattle.vx_values.proofs.Steps.{bits-next, bits-row}
use Rattle.vx_values.proofs.ints.sequences.write_steps.Goals as goal

pub loop-row-init : goal.loop-row-init
loop-row-init g c =
    let first : to_z w128 (of_z w128 c.args.first) ≡ c.args.first = to_z-of_z w128 c.args.first c.ranges.first in
    let step : to_z w128 (of_z w128 c.args.step) ≡ c.args.step = to_z-of_z w128 c.args.step c.ranges.step in
    record {
      bits = c.low_word-bits.ensures ∙ ap (low_bits U64) (first ∙ row-first c.args.first c.args.step) ∙ sym (λ k. low_bits U64 (sequence_row (first k) (step k) 0));
      rows = λ j h. absurd (omega arith);
    }

pub loop-row-preserved : goal.loop-row-preserved
loop-row-preserved g c =
    let whole = g.T.Integer.whole in
    let first : to_z w128 (of_z w128 c.args.first) ≡ c.args.first = to_z-of_z w128 c.args.first c.ranges.first in
    let step : to_z w128 (of_z w128 c.args.step) ≡ c.args.step = to_z-of_z w128 c.args.step c.ranges.step in
    let row = c.loop-row.row in
    let below : row < length c.args.items.now = omega arith in
    let bits = c.loop-row.invariant.bits ∙ (λ k. low_bits U64 (sequence_row (first k) (step k) row)) in
    let item = c.from_low_bits.ensures ∙ bits-row c.args.first c.args.step g.T.Integer.kind (length c.args.items.now) row c.loop-row.bits c.requires below bits ∙ sym (λ k. sequence_row (first k) (step k) row) in
    record {
      bits = bits-next c.args.first c.args.step row c.loop-row.bits c.low_word-add.result _ bits (c.low_word-add.ensures ∙ ap (low_bits U64) step) refl ∙ sym (λ k. low_bits U64 (sequence_row (first k) (step k) (row + 1)));
      rows = written-more whole (pos 0) (sequence_row (to_z w128 (of_z w128 c.args.first)) (to_z w128 (of_z w128 c.args.step))) c.loop-row.items row c.from_low_bits.result (row + 1) (omega (arith, c.loop-row.auto.items)) item c.loop-row.invariant.rows (omega arith);
    }

pub returns : goal.returns
returns g c =
    let whole = g.T.Integer.whole in
    let first : to_z w128 (of_z w128 c.args.first) ≡ c.args.first = to_z-of_z w128 c.args.first c.ranges.first in
    let step : to_z w128 (of_z w128 c.args.step) ≡ c.args.step = to_z-of_z w128 c.args.step c.ranges.step in
    let items = c.loop-row.items in
    let size : length (map whole items) ≡ length c.args.items.now = omega (arith, length-map items whole, c.loop-row.auto.items) in
    fill_by_all (sequence_row (to_z w128 (of_z w128 c.args.first)) (to_z w128 (of_z w128 c.args.step))) (map whole items) (length c.args.items.now) (pos 0) size (λ k h. c.loop-row.invariant.rows k (omega arith))
    ∙ (λ k. map (sequence_row (first k) (step k)) (range_with_len 0 (length c.args.items.now)))
