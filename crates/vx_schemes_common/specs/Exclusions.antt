-- Rules of exclusion by which schemes keep themselves from sites where they don't pay.
use Rattle.std.specs.Prelude.{List, [], ◌∷◌, codes}
use Rattle.vx_scheme.specs.Rules.{Rule}
use Rattle.vx_scheme.specs.declared.selection.ChildSelection.TheVariants.{One}

-- not below the codes of a dictionary, its child 1
abbrev pub not_in_codes : List Rule
not_in_codes =
    record { scheme = codes "vortex.int.dict"; children = One 1 } ∷ record { scheme = codes "vortex.string.dict"; children = One 1 }
    ∷ record { scheme = codes "vortex.binary.dict"; children = One 1 } ∷ []

-- not below the distinct values of a dictionary, its child 0
abbrev pub not_in_values : List Rule
not_in_values =
    record { scheme = codes "vortex.int.dict"; children = One 0 } ∷ record { scheme = codes "vortex.string.dict"; children = One 0 }
    ∷ record { scheme = codes "vortex.binary.dict"; children = One 0 } ∷ []
