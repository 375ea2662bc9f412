use Rattle.std.proofs.Common.{ℕ, ◌≡◌, ◌+◌, ◌*◌, ◌<◌, ◌++◌, ◌∷◌, [], pos, length, map, min, get_or, ap, sym, arith, ◌∙◌}
use Rattle.std.specs.List.{range_with_len}
use Rattle.std.proofs.lemmas.List.{map-append}
use Rattle.vx_base.specs.Packed.{block_count}
use Rattle.vx_blocks.specs.Deltas.{filled, delta}
use Rattle.vx_blocks.specs.Optional.{optional_rows}
use Rattle.vx_blocks.proofs.OptionalRows.{rows-length}
use Rattle.vx_blocks.proofs.DeltaRows.{length-filled_after, before, deltas-filled, deltas-for-bases}
use Rattle.vx_blocks.proofs.Ranges.{map-range_more}
use Rattle.vx_blocks.proofs.deltas.deltas_of.Goals as goal

pub loop-block-preserved : goal.loop-block-preserved
loop-block-preserved g c =
    let whole = g.T.Integer.whole in
    let kind = g.T.Integer.kind in
    let xs = c.args.values.now in
    let rows = filled (optional_rows (map whole xs) c.args.valid.now) in
    let row = λ (k : ℕ). get_or rows k (pos 0) in
    let block = c.loop-block.block in
    let start = 1024 * block in
    let some : start < length xs = omega (arith, c.loop-block-test.true, c.div_ceil-blocks.ensures) in
    let next : start + c.min.result ≡ min (1024 * (block + 1)) (length xs) = omega (arith, c.min.ensures) in
    record {
      bases = ap (map whole) c.in_ok-push.ensures.items ∙ map-append whole c.loop-block.bases.items (c.in_ok-made.made.0 ∷ []) ∙ ap (λ l. l ++ whole c.in_ok-made.made.0 ∷ []) c.loop-block.invariant.bases
          ∙ sym (map-range_more (λ k. row (1024 * k)) block (whole c.in_ok-made.made.0) c.in_ok-made.ensures.base);
      deltas = c.in_ok-made.ensures.deltas ∙ ap (λ m. map (delta kind rows) (range_with_len 0 m)) next;
      last = c.in_ok-made.ensures.last ∙ ap (before (pos 0) rows) next;
    }

pub returns-clause-bases : goal.returns-clause-bases
returns-clause-bases g c =
    let whole = g.T.Integer.whole in
    let rows = optional_rows (map whole c.args.values.now) c.args.valid.now in
    let end : c.loop-block.block ≡ block_count (length (filled rows)) = omega (arith, rows-length whole c.args.values.now c.args.valid.now c.requires, length-filled_after (pos 0) rows, c.div_ceil-blocks.ensures) in
    c.loop-block.invariant.bases ∙ ap (λ n. map (λ block. get_or (filled rows) (1024 * block) (pos 0)) (range_with_len 0 n)) end

pub returns-clause-deltas : goal.returns-clause-deltas
returns-clause-deltas g c =
    let whole = g.T.Integer.whole in
    let rows = optional_rows (map whole c.args.values.now) c.args.valid.now in
    let len : length (filled rows) ≡ length c.args.values.now = length-filled_after (pos 0) rows ∙ rows-length whole c.args.values.now c.args.valid.now c.requires in
    let end : min (1024 * c.loop-block.block) (length c.args.values.now) ≡ length (filled rows) = omega (arith, len, c.div_ceil-blocks.ensures) in
    let size : c.in-Some.size ≡ 1024 * block_count (length (filled rows)) = omega (arith, len, c.in-Some.ensures.1, c.div_ceil-blocks.ensures) in
    deltas-filled g.T.Integer.kind (filled rows) whole c.loop-block.deltas.items c.resize.new.self.items c.zero.result _ c.in-Some.size c.loop-block.deltas.len end size (omega arith) c.zero.ensures c.loop-block.invariant.deltas c.in_ok-resize.ensures.items

pub returns-clause-size : goal.returns-clause-size
returns-clause-size g c =
    let whole = g.T.Integer.whole in
    deltas-for-bases g.T.Integer.kind (filled (optional_rows (map whole c.args.values.now) c.args.valid.now)) whole _ _ (returns-clause-bases g c) (returns-clause-deltas g c)
