use Rattle.std.proofs.Common.{◌≡◌, ◌∙◌, ◌-◌, ◌*◌, ◌^◌, sym, ap, arith, true, false, None, Some}
use Rattle.std.specs.Prelude.{nat_le}
use Rattle.vx_model.specs.Rows.{rows, row_at, index_of, is_index, block_rows}
use Rattle.vx_model.proofs.PatchLemmas.{ascend-index}
use Rattle.vx_array.proofs.ChunkCounts.{zeros-first, zeros-first_index, zeros-no_index, zeros-none}
use Rattle.vx_array.proofs.patches.chunks.are_zeros.Goals as goal

pub returns-then-len-eq0 : goal.returns-then-len-eq0
returns-then-len-eq0 c = sym (zeros-none (rows c.args.indices.now) (rows c.args.chunks.now) (sym c.len-len.ensures ∙ c.if-len-eq0.true))

pub returns-then-not-is_count : goal.returns-then-not-is_count
returns-then-not-is_count c =
    let is = rows c.args.indices.now in
    let os = rows c.args.chunks.now in
    let fails : is_index (row_at os 0) 0 ≡ false = (λ i. is_index (sym c.integer_at.ensures i) 0) ∙ sym c.is_count.ensures ∙ c.if-not-is_count.true in
    sym (zeros-first is os c.requires.rising c.requires.uniform (omega (arith, c.len-len.ensures, c.if-len-eq0.false)) fails)

pub returns-then-count-eq0 : goal.returns-then-count-eq0
returns-then-count-eq0 c =
    let is = rows c.args.indices.now in
    let os = rows c.args.chunks.now in
    let first : is_index (row_at os 0) 0 ≡ true = (λ i. is_index (sym c.integer_at.ensures i) 0) ∙ sym c.is_count.ensures ∙ c.if-not-is_count.false in
    sym (zeros-no_index is os c.requires.rising c.requires.uniform (omega (arith, c.len-len.ensures, c.if-len-eq0.false)) first (sym c.len-count.ensures ∙ c.if-count-eq0.true))

pub returns : goal.returns
returns c =
    let is = rows c.args.indices.now in
    let os = rows c.args.chunks.now in
    let first : is_index (row_at os 0) 0 ≡ true = (λ i. is_index (sym c.integer_at.ensures i) 0) ∙ sym c.is_count.ensures ∙ c.if-not-is_count.false in
    let found : index_of (row_at is 0) ≡ Some c.in-Some.index = ap index_of (sym c.integer_at-2.ensures) ∙ sym c.in-Some.ensures in
    ap (λ n. nat_le (block_rows * n) c.in-Some.index) c.from.ensures ∙ ap (λ n. nat_le (block_rows * (n - 1)) c.in-Some.index) c.len-len.ensures
    ∙ sym (zeros-first_index is os c.requires.rising c.requires.uniform (omega (arith, c.len-len.ensures, c.if-len-eq0.false)) c.in-Some.index first found)

pub unreachable-requires : goal.unreachable-requires
unreachable-requires c =
    let is = rows c.args.indices.now in
    let none : index_of (row_at is 0) ≡ None = ap index_of (sym c.integer_at-2.ensures) ∙ sym c.in-None.ensures in
    ascend-index 0 (2 ^ 65) is 0 c.requires.rising (omega (arith, c.len-count.ensures, c.if-count-eq0.false)) none
