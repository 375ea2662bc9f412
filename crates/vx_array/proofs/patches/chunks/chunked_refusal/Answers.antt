use Rattle.std.proofs.Common.{◌∙◌, ◌+◌, ◌^◌, sym, arith}
use Rattle.vx_model.specs.Rows.{rows}
use Rattle.vx_array.proofs.ChunkCounts.{ascend-wider}
use Rattle.vx_array.proofs.patches.chunks.chunked_refusal.Goals as goal

pub are_chunk_offsets-requires-clause-rising : goal.are_chunk_offsets-requires-clause-rising
are_chunk_offsets-requires-clause-rising c =
    ascend-wider c.args.offset (c.args.offset + c.args.array_len) 0 (2 ^ 65) (rows c.args.indices.now) (omega arith) (omega arith) (sym c.ascends.ensures ∙ c.if-not-ascends.false)
