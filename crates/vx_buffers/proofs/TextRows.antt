-- Offsets of rows of bytes: one more than there are rows.
use Rattle.std.proofs.Common.{◌≡◌, ◌+◌, ℕ, List, length}
use Rattle.vx_model.proofs.JoinedLemmas.{length-offsets_from}
use Rattle.vx_model.specs.Offsets.{offsets_of}

pub offsets_count : (rows : List (List ℕ)) → length (offsets_of rows) ≡ length rows + 1
offsets_count rows = length-offsets_from 0 rows
