-- What one pass over whole numbers finds: changes, the least, the greatest and the last.
use Rattle.std.specs.Prelude.{◌≡◌, suc, ◌+◌, ℤ, ◌≤ℤ◌, List, [], ◌∷◌, fold, Option, Some, None}
use Rattle.std.specs.Int.{int_min, int_max}
use Rattle.vx_base.specs.declared.ptype.PType.{PType}
use Rattle.vx_base.specs.Integers as integers
use Rattle.vx_stats.specs.declared.integer.tally.Tally.{Tally}
use Rattle.vx_stats.specs.Stats.{runs_after, run_count}

-- the last of z and the numbers after it
abbrev pub last_from : ℤ → List ℤ → ℤ
last_from z [] = z
last_from z (w ∷ ws) = last_from w ws

-- the tally of one number
abbrev pub tally_of : {T : Type 0} → T → Tally T
tally_of first = record { changes = 0; min = first; max = first; last = first }

-- a tally that goes on over more numbers
pub record IsTallyAfter {T : Type 0} (whole : T → ℤ) (before : Tally T) (zs : List ℤ) (t : Tally T) : Type 0 where
  pub changes : t.changes ≡ before.changes + runs_after (whole before.last) zs
  pub least : whole t.min ≡ fold int_min (whole before.min) zs
  pub greatest : whole t.max ≡ fold int_max (whole before.max) zs
  pub last : whole t.last ≡ last_from (whole before.last) zs

-- the last number is between the least and the greatest, so that counting it again changes neither
pub record SpansLast {T : Type 0} (whole : T → ℤ) (t : Tally T) : Type 0 where
  pub least : whole t.min ≤ℤ whole t.last
  pub greatest : whole t.last ≤ℤ whole t.max

-- the tally of at least one number of a type
pub record IsTally {T : Type 0} (whole : T → ℤ) (p : PType) (zs : List ℤ) (t : Tally T) : Type 0 where
  pub runs : suc t.changes ≡ run_count zs
  pub least : whole t.min ≡ fold int_min (integers.greatest p) zs
  pub greatest : whole t.max ≡ fold int_max (integers.least p) zs

-- the tally of numbers, None exactly where there are none
abbrev pub IsTallyOf : {T : Type 0} → (T → ℤ) → PType → List ℤ → Option (Tally T) → Type 0
IsTallyOf whole p zs None = zs ≡ []
IsTallyOf whole p zs (Some t) = IsTally whole p zs t
