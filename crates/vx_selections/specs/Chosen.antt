-- Rows chosen by indices.
use Rattle.std.specs.Prelude.{ℕ, List, map, Option, None, pos}
use Rattle.std.specs.List.{list_all}
use Rattle.vx_base.specs.declared.error.VortexError.{VortexError}
use Rattle.vx_base.specs.declared.error.VortexError.TheVariants.{OutOfBounds}
use Rattle.vx_base.specs.Answers.{unless}
use Rattle.vx_base.specs.PlainValue.{PlainValue, int}
use Rattle.vx_model.specs.Rows.{row_at}
use Rattle.vx_model.specs.WellFormed.{is_place}

-- why integers are refused as indices into `len` rows: OutOfBounds unless each is null or the number of a row
abbrev pub place_refusal : ℕ → List PlainValue → Option VortexError
place_refusal len indices = unless (list_all (is_place len) indices) OutOfBounds None

-- the row with an index, and `item` where the index is null
abbrev pub row_or : PlainValue → List PlainValue → PlainValue → PlainValue
row_or item values (int (pos k)) = row_at values k
row_or item values _ = item

-- for each index its row
abbrev pub rows_or : PlainValue → List PlainValue → List PlainValue → List PlainValue
rows_or item values indices = map (row_or item values) indices
