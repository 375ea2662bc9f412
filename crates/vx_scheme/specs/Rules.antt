-- Rules of exclusion as plain data, with schemes by their names.
use Rattle.std.specs.Prelude.{ℕ, List, map}
use Rattle.vx_scheme.specs.Names.{name_of}
use Rattle.vx_scheme.specs.declared.rules.AncestorExclusion.{AncestorExclusion}
use Rattle.vx_scheme.specs.declared.rules.DescendantExclusion.{DescendantExclusion}
use Rattle.vx_scheme.specs.declared.selection.ChildSelection.{ChildSelection}

-- the scheme that a rule names, and the children below which it holds
pub record Rule : Type 0 where
  pub scheme : List ℕ
  pub children : ChildSelection

-- rules against other schemes
abbrev pub descendants_of : List DescendantExclusion → List Rule
descendants_of rules = map (λ r. record { scheme = name_of r.excluded; children = r.children }) rules

-- rules against the scheme itself
abbrev pub ancestors_of : List AncestorExclusion → List Rule
ancestors_of rules = map (λ r. record { scheme = name_of r.ancestor; children = r.children }) rules
