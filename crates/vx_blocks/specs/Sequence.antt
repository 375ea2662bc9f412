-- Arithmetic sequences.
use Rattle.std.specs.Prelude.{ℕ, ◌-◌, ◌≡◌, ℤ, pos, ◌+ℤ◌, ◌-ℤ◌, ◌*ℤ◌, nat_le, Bool, ◌&&◌, if◌then◌else◌, List, length, slice_index_or, Option, Some, None}
use Rattle.std.specs.List.{list_all, range_with_len}
use Rattle.std.specs.Ordering.{int_eq}
use Rattle.vx_base.specs.declared.ptype.PType.{PType}
use Rattle.vx_base.specs.Integers.{lies_in}
use Rattle.vx_base.specs.Wrapping.{wrap}

-- row i of a sequence: first + i * step
abbrev pub sequence_row : ℤ → ℤ → ℕ → ℤ
sequence_row first step i = first +ℤ pos i *ℤ step

-- whether the rows are the sequence
abbrev pub is_sequence : ℤ → ℤ → List ℤ → Bool
is_sequence first step rows = list_all (λ i. int_eq (slice_index_or rows i (pos 0)) (sequence_row first step i)) (range_with_len 0 (length rows))

-- the difference of the second row from the first
abbrev pub first_step : List ℤ → ℤ
first_step rows = slice_index_or rows 1 (pos 0) -ℤ slice_index_or rows 0 (pos 0)

-- first and step of an arithmetic sequence; None of fewer than two rows, of a step out of the type's range, and of rows that
-- are no sequence
abbrev pub sequence_of : PType → List ℤ → Option (ℤ × ℤ)
sequence_of kind rows =
    if nat_le 2 (length rows) && (lies_in kind (first_step rows) && is_sequence (slice_index_or rows 0 (pos 0)) (first_step rows) rows) then Some (slice_index_or rows 0 (pos 0), first_step rows) else None

-- a row is the row before it plus the step, wrapped
abbrev pub IsWrappedStep : PType → List ℤ → ℤ → ℕ → Type 0
IsWrappedStep kind rows step i = slice_index_or rows i (pos 0) ≡ wrap kind (slice_index_or rows (i - 1) (pos 0) +ℤ step)
