-- Roots that stand for many rows by few numbers.
use Rattle.std.specs.Prelude.{Bool, true, false}
use Rattle.vx_model.specs.Tree.{Tree, bit_packed_v2, bit_packed_v2_with, sparse, sparse_chunked, run_end, rle, sequence, delta, datetime_parts, frame_of_reference_v2}

-- whether a tree's root is Sparse, RunEnd, Rle, Sequence or Delta
abbrev pub has_runs : Tree → Bool
has_runs (sparse len offset indices values fill) = true
has_runs (sparse_chunked len offset indices values chunks fill) = true
has_runs (run_end ends values) = true
has_runs (rle values indices offsets len) = true
has_runs (sequence p n first step len) = true
has_runs (delta bases deltas len valid n) = true
has_runs t = false

-- whether a tree's root is BitPackedV2
abbrev pub has_blocks : Tree → Bool
has_blocks (bit_packed_v2 k offsets) = true
has_blocks (bit_packed_v2_with k offsets len offset indices values) = true
has_blocks t = false

-- whether a tree's root is DateTimeParts or FoRV2
abbrev pub has_columns : Tree → Bool
has_columns (datetime_parts k n days seconds subseconds) = true
has_columns (frame_of_reference_v2 encoded references) = true
has_columns t = false
