-- Lengths of consecutive lists, and the offsets between the lists.
use Rattle.std.specs.Prelude.{ℕ, ◌+◌, ◌-◌, List, [], ◌∷◌}

-- the differences between offsets, 0 where they fall: one less than there are offsets
abbrev pub lengths_between : List ℕ → List ℕ
lengths_between [] = []
lengths_between (begin ∷ []) = []
lengths_between (begin ∷ end ∷ offsets) = (end - begin) ∷ lengths_between (end ∷ offsets)

-- the prefix sums of lengths, from `here` on: one more than there are lengths
abbrev pub sums_from : ℕ → List ℕ → List ℕ
sums_from here [] = here ∷ []
sums_from here (count ∷ counts) = here ∷ sums_from (here + count) counts
