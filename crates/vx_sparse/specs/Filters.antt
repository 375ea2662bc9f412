-- The filter of a sparse tree: which patches it keeps, and their new indices.
use Rattle.std.specs.Prelude.{ℕ, pos, ◌-◌, Bool, false, List, map, slice_index_or, unwrap_or}
use Rattle.vx_base.specs.Masks.{rank}
use Rattle.vx_base.specs.PlainValue.{PlainValue, int}
use Rattle.vx_model.specs.Rows.{index_of}

-- the row that an index patches
abbrev pub patched_row : ℕ → PlainValue → ℕ
patched_row offset v = unwrap_or (index_of v) 0 - offset

-- whether a mask keeps that row
abbrev pub is_kept_index : List Bool → ℕ → PlainValue → Bool
is_kept_index keep offset v = slice_index_or keep (patched_row offset v) false

-- for each index whether its row is kept
abbrev pub kept_bits : List Bool → ℕ → List PlainValue → List Bool
kept_bits keep offset is = map (is_kept_index keep offset) is

-- the number of kept rows before that row: the index of the row where it is kept
abbrev pub kept_rank : List Bool → ℕ → PlainValue → ℕ
kept_rank keep offset v = rank keep (patched_row offset v)

-- that number of each index, as a value
abbrev pub kept_ranks : List Bool → ℕ → List PlainValue → List PlainValue
kept_ranks keep offset is = map (λ v. int (pos (kept_rank keep offset v))) is
