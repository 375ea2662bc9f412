-- Which schemes may not stand at a site, by the schemes above it.
use Rattle.std.specs.Prelude.{ℕ, ◌==◌, ◌&&◌, ◌||◌, Bool, false, List, [], ◌∷◌, codes}
use Rattle.std.specs.List.{list_any}
use Rattle.vx_scheme.specs.Meaning.{Meaning}
use Rattle.vx_scheme.specs.Names.{same_name}
use Rattle.vx_scheme.specs.Selects.{selects}

-- the name of the compressor itself, which stands above every scheme
abbrev pub root_name : List ℕ
root_name = codes "vortex.compressor.root"

-- the history of a site: the names of the schemes above, each with the number of its child on the way down
abbrev pub History : Type 0
History = List (List ℕ × ℕ)

-- the column holds the offsets of a list: they are child 1 of the root
abbrev pub is_offsets : History → Bool
is_offsets [] = false
is_offsets (e ∷ es) = same_name e.0 root_name && (e.1 == 1)

-- a scheme that stands above has a rule against the name, below the child on the way down
abbrev pub is_barred_by : Meaning → List ℕ → History → Bool
is_barred_by m name history = list_any (λ r. same_name r.scheme name && list_any (λ e. same_name e.0 m.name && selects r.children e.1) history) m.descendants

-- the scheme of this name has a rule against standing below one of the history
abbrev pub bars_itself : Meaning → List ℕ → History → Bool
bars_itself m name history = same_name m.name name && list_any (λ r. list_any (λ e. same_name e.0 r.scheme && selects r.children e.1) history) m.ancestors

-- the scheme of this name stands above already, is a dictionary at the offsets of a list, or is excluded by a rule
abbrev pub excluded : List Meaning → List ℕ → History → Bool
excluded schemes name history =
    list_any (λ e. same_name e.0 name) history || (is_offsets history && same_name name (codes "vortex.int.dict"))
    || list_any (λ m. is_barred_by m name history) schemes || list_any (λ m. bars_itself m name history) schemes
