-- Nulls alone: their rows, and that they are well formed.
use Rattle.std.proofs.Common.{◌≡◌, ◌<◌, ℕ, length, refl}
use Rattle.std.proofs.lemmas.List.{length-replicate}
use Rattle.vx_base.specs.PlainType as types
use Rattle.vx_base.specs.PlainValue.{null}
use Rattle.vx_model.specs.Rows.{rows, row_at}
use Rattle.vx_model.specs.Tree.{nulls}
use Rattle.vx_model.specs.WellFormed.{WellFormed}
use Rattle.vx_model.proofs.MadeLemmas.{copies_fit}
use Rattle.vx_model.proofs.RowLemmas.{row_at-replicate}

pub nulls_made : (len : ℕ) → WellFormed (nulls len)
nulls_made len = copies_fit types.null_type null len refl

pub length-nulls : (len : ℕ) → length (rows (nulls len)) ≡ len
length-nulls len = length-replicate len null

pub row_at-nulls : (len i : ℕ) → i < len → row_at (rows (nulls len)) i ≡ null
row_at-nulls len i l = row_at-replicate len i null l

pub ruleset nulls_reads = (length-nulls, row_at-nulls)
