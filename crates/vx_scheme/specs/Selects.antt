-- Which children a rule is for.
use Rattle.std.specs.Prelude.{ℕ, ◌==◌, ◌||◌, Bool, true}
use Rattle.vx_scheme.specs.declared.selection.ChildSelection.{ChildSelection}
use Rattle.vx_scheme.specs.declared.selection.ChildSelection.TheVariants.{All, One, Many}

-- the selection has the child
abbrev pub selects : ChildSelection → ℕ → Bool
selects All child = true
selects (One i) child = i == child
selects (Many i j) child = (i == child) || (j == child)
