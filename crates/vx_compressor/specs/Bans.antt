-- The rules of a list of schemes, each by what it forbids below what.
use Rattle.std.specs.Prelude.{ℕ, ◌&&◌, ◌||◌, codes, Bool, List, [], ◌∷◌, ◌++◌, map}
use Rattle.std.specs.List.{list_any}
use Rattle.vx_scheme.specs.Excluded.{History, is_offsets}
use Rattle.vx_scheme.specs.Meaning.{Meaning}
use Rattle.vx_scheme.specs.Names.{name_of, same_name}
use Rattle.vx_scheme.specs.Rules.{Rule}
use Rattle.vx_scheme.specs.Selects.{selects}
use Rattle.vx_scheme.specs.declared.selection.ChildSelection.{ChildSelection}
use Rattle.vx_compressor.specs.declared.bans.Ban.{Ban}

-- the banned scheme may not stand anywhere below these children of the one above
pub record PlainBan : Type 0 where
  pub banned : List ℕ
  pub above : List ℕ
  pub children : ChildSelection

-- a ban of the code, with its names as bytes
abbrev pub ban_of : Ban → PlainBan
ban_of b = record { banned = name_of b.banned; above = name_of b.above; children = b.children }

-- a scheme's rules against others, and against itself
abbrev pub against_others : List ℕ → List Rule → List PlainBan
against_others name rules = map (λ r. record { banned = r.scheme; above = name; children = r.children }) rules

-- the rules by which a scheme keeps itself away from below others
abbrev pub against_itself : List ℕ → List Rule → List PlainBan
against_itself name rules = map (λ r. record { banned = name; above = r.scheme; children = r.children }) rules

-- the bans that a scheme declares, against others and against itself
abbrev pub bans_of : Meaning → List PlainBan
bans_of m = against_others m.name m.descendants ++ against_itself m.name m.ancestors

-- the bans of all schemes, in the order of the list
abbrev pub all_bans : List Meaning → List PlainBan
all_bans [] = []
all_bans (m ∷ ms) = bans_of m ++ all_bans ms

-- an entry of the history is one of these children of this scheme
abbrev pub stands_below : List ℕ → ChildSelection → History → Bool
stands_below above children history = list_any (λ e. same_name e.0 above && selects children e.1) history

-- a ban keeps the scheme of this name from a site with this history
abbrev pub is_banned : List ℕ → History → PlainBan → Bool
is_banned name history b = same_name b.banned name && stands_below b.above b.children history

-- the scheme of this name stands above already, or one of these rules forbids it
abbrev pub is_excluded_by : List PlainBan → List ℕ → History → Bool
is_excluded_by bans name history =
    list_any (λ e. same_name e.0 name) history || (is_offsets history && same_name name (codes "vortex.int.dict"))
    || list_any (is_banned name history) bans
