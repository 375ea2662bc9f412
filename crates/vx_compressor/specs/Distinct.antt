-- Which names the schemes of a compressor may have.
use Rattle.std.specs.Prelude.{ℕ, Bool, true, not, ◌&&◌, List, [], ◌∷◌, map, Option, None}
use Rattle.std.specs.List.{list_any}
use Rattle.vx_base.specs.Answers.{unless}
use Rattle.vx_base.specs.declared.error.VortexError.{VortexError}
use Rattle.vx_base.specs.declared.error.VortexError.TheVariants.{DuplicateScheme}
use Rattle.vx_scheme.specs.Excluded.{root_name}
use Rattle.vx_scheme.specs.Meaning.{Meaning}
use Rattle.vx_scheme.specs.Names.{same_name}

-- no name stands twice
abbrev pub are_distinct : List (List ℕ) → Bool
are_distinct [] = true
are_distinct (name ∷ names) = not (list_any (same_name name) names) && are_distinct names

-- the names of the schemes, in their order
abbrev pub names_of : List Meaning → List (List ℕ)
names_of schemes = map (λ m. m.name) schemes

-- the names are distinct, and none is the root's
abbrev pub have_own_names : List Meaning → Bool
have_own_names schemes = are_distinct (root_name ∷ names_of schemes)

-- why schemes make no compressor: a name stands twice, or is the root's
abbrev pub schemes_refusal : List Meaning → Option VortexError
schemes_refusal schemes = unless (have_own_names schemes) DuplicateScheme None
