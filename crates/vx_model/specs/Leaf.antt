-- The tree of a leaf column at a site, over any choice of a scheme's tree.
use Rattle.std.specs.Prelude.{Bool, ◌||◌, ◌==◌, nat_lt, if◌then◌else◌, List, [], ◌∷◌, length, Option, None, Some, option_and_then}
use Rattle.std.specs.List.{list_all, list_any}
use Rattle.vx_base.specs.PlainValue.{PlainValue, null, is_null, same_value}
use Rattle.vx_base.specs.PlainScalar.{scalar}
use Rattle.vx_model.specs.Tree.{Tree, constant, masked}
use Rattle.vx_model.specs.Column.{Column}
use Rattle.vx_model.specs.Plain.{plain, valid_bits}
use Rattle.vx_model.specs.Site.{Site}
use Rattle.vx_model.specs.Size.{size}

-- a choice: the tree that the chosen scheme makes of a column at a site, None where none is chosen
abbrev pub Chooses : Type 0
Chooses = Column → Site → Option Tree

-- the choice without schemes
abbrev pub no_scheme : Chooses
no_scheme c site = None

-- the first value that isn't null
abbrev pub first_valid : List PlainValue → Option PlainValue
first_valid [] = None
first_valid (v ∷ vs) = if is_null v then first_valid vs else Some v

-- whether a value is null or v
abbrev pub null_or : PlainValue → PlainValue → Bool
null_or v w = is_null w || same_value w v

-- whether every value is null or v
abbrev pub each_null_or : PlainValue → List PlainValue → Bool
each_null_or v values = list_all (null_or v) values

-- the one value of all valid rows, None where there are two or no valid row
abbrev pub one_value : List PlainValue → Option PlainValue
one_value values = option_and_then (λ v. if each_null_or v values then Some v else None) (first_valid values)

-- the column whose valid rows are all v: a constant, masked where some row is null
abbrev pub one_value_tree : Column → PlainValue → Tree
one_value_tree c v =
    if list_any is_null c.values then masked (constant (scalar c.dtype v) (length c.values)) (valid_bits c.values)
    else constant (scalar c.dtype v) (length c.values)

-- a tree if it is smaller than the plain one, else the plain one
abbrev pub smaller_or_plain : Column → Tree → Tree
smaller_or_plain c t = if nat_lt (size t) (size (plain c)) then t else plain c

-- the chosen tree if there is one and it is smaller than the plain one, else the plain one
abbrev pub chosen_or_plain : Column → Option Tree → Tree
chosen_or_plain c None = plain c
chosen_or_plain c (Some t) = smaller_or_plain c t

-- a constant where all valid rows have one value, else the choice; each against the plain tree
abbrev pub by_value : Chooses → Column → Site → Option PlainValue → Tree
by_value chooses c site (Some v) = smaller_or_plain c (one_value_tree c v)
by_value chooses c site None = chosen_or_plain c (chooses c site)

-- An empty column stays plain, and a column of nulls is a constant. Where all valid rows are equal, a constant, masked if there
-- are nulls, stands if it is smaller than the plain tree; samples are not tested for that, since a sample of equal rows says
-- nothing of its column. Else the chosen scheme's tree stands if it is smaller than the plain one.
abbrev pub leaf : Chooses → Column → Site → Tree
leaf chooses c site =
    if length c.values == 0 then plain c
    else (if list_all is_null c.values then constant (scalar c.dtype null) (length c.values)
    else by_value chooses c site (if site.sampled then None else one_value c.values))
