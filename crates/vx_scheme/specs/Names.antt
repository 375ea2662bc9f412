-- The names of schemes: equality, and what they feed a hash.
use Rattle.std.specs.Prelude.{◌≡◌, ℕ, Bool, true, nat_eq, List}
use Rattle.std.proofs.Common.{ap, sym}
use Rattle.std.specs.Cmp.Lexicographic.{pointwise, same_text}
use Rattle.std.specs.Hash as fed
use Rattle.std.specs.Hash.{HashWrites}
use Rattle.vx_scheme.specs.declared.scheme_id.SchemeId.{SchemeId}

-- the name, as bytes
abbrev pub name_of : SchemeId → List ℕ
name_of id = id.name.now

-- equality of names, byte by byte
abbrev pub same_name : List ℕ → List ℕ → Bool
same_name = pointwise nat_eq

-- an id feeds a hash its name
abbrev pub name_writes : SchemeId → HashWrites
name_writes id = fed.str (name_of id)

-- equal ids feed a hash alike
pub names_alike : (a b : SchemeId) → same_name (name_of a) (name_of b) ≡ true → name_writes a ≡ name_writes b
names_alike a b e = ap fed.str (same_text (name_of a) (name_of b) (sym e))
