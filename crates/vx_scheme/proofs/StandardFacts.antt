-- Worked values, so that a wrong rule in the definitions does not check.
use Rattle.std.specs.Prelude.{◌≡◌, ℕ, true, false, List, [], ◌∷◌, map, codes, refl}
use Rattle.vx_model.specs.Plain.{plain}
use Rattle.vx_scheme.specs.Excluded.{History, root_name, excluded}
use Rattle.vx_scheme.specs.Meaning.{Meaning, kept}
use Rattle.vx_stats.specs.Options.{no_options}
use Rattle.vx_scheme.specs.Rules.{Rule}
use Rattle.vx_scheme.specs.Selects.{selects}
use Rattle.vx_scheme.specs.declared.estimate.CompressionEstimate.TheVariants.{Verdict}
use Rattle.vx_scheme.specs.declared.estimate.EstimateVerdict.TheVariants.{Skip}
use Rattle.vx_scheme.specs.declared.selection.ChildSelection.TheVariants.{All, One, Many}

-- of the children 0 to 3
pub selects-All : map (selects All) (0 ∷ 1 ∷ 2 ∷ 3 ∷ []) ≡ true ∷ true ∷ true ∷ true ∷ []
selects-All = refl

pub selects-One : map (selects (One 1)) (0 ∷ 1 ∷ 2 ∷ 3 ∷ []) ≡ false ∷ true ∷ false ∷ false ∷ []
selects-One = refl

-- two children, and not those between
pub selects-Many : map (selects (Many 0 2)) (0 ∷ 1 ∷ 2 ∷ 3 ∷ []) ≡ true ∷ false ∷ true ∷ false ∷ []
selects-Many = refl

-- ---- which schemes are excluded

abbrev ruled : List ℕ → List Rule → List Rule → Meaning
ruled name descendants ancestors = record {
  name = name;
  takes = λ dtype. true;
  children = 2;
  options = no_options;
  produces = λ id. false;
  descendants = descendants;
  ancestors = ancestors;
  estimate = λ c site. Verdict Skip;
  resolve = λ c site. Skip;
  splits = λ c site. kept;
  joined = λ c site trees. plain c;
}

-- b may not stand below a's child 1, and c not below a's child 0
abbrev schemes : List Meaning
schemes =
    ruled (codes "a") (record { scheme = codes "b"; children = One 1 } ∷ []) [] ∷ ruled (codes "b") [] []
    ∷ ruled (codes "c") [] (record { scheme = codes "a"; children = One 0 } ∷ []) ∷ []

abbrev below : List ℕ → ℕ → History
below name child = (name, child) ∷ []

-- where nothing stands above, nothing is excluded
pub excluded-nowhere : map (λ n. excluded schemes n []) (codes "a" ∷ codes "b" ∷ codes "c" ∷ []) ≡ false ∷ false ∷ false ∷ []
excluded-nowhere = refl

-- a doesn't stand below itself; below its child 1 goes c and not b, below its child 0 it is the other way round
pub excluded-below : (map (λ n. excluded schemes n (below (codes "a") 1)) (codes "a" ∷ codes "b" ∷ codes "c" ∷ []) ≡ true ∷ true ∷ false ∷ [])
    × (map (λ n. excluded schemes n (below (codes "a") 0)) (codes "a" ∷ codes "b" ∷ codes "c" ∷ []) ≡ true ∷ false ∷ true ∷ [])
excluded-below = (refl, refl)

-- nor does it matter what stands between
pub excluded-further : excluded schemes (codes "b") ((codes "a", 1) ∷ (codes "d", 0) ∷ []) ≡ true
excluded-further = refl

-- a list's offsets become no dictionary of integers, its sizes may
pub excluded-offsets : (excluded [] (codes "vortex.int.dict") (below root_name 1) ≡ true) × (excluded [] (codes "vortex.int.dict") (below root_name 2) ≡ false)
excluded-offsets = (refl, refl)
