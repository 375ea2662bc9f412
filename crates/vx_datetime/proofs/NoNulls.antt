-- Integers of a type without nulls have 0 in place of null already.
use Rattle.std.proofs.Common.{◌≡◌, ◌∙◌, pos, true, false, List, [], ◌∷◌, map, refl, sym, ap}
use Rattle.std.specs.List.{list_all}
use Rattle.std.proofs.lemmas.Bool.{and_parts}
use Rattle.vx_base.specs.declared.dtype.Nullability.{Nullability}
use Rattle.vx_base.specs.declared.dtype.Nullability.TheVariants.{NonNullable, Nullable}
use Rattle.vx_base.specs.declared.ptype.PType.{PType}
use Rattle.vx_base.specs.Defaults.{or_default}
use Rattle.vx_base.specs.Integers.{lies_in}
use Rattle.vx_base.specs.PlainScalar.{fits}
use Rattle.vx_base.specs.PlainType.{PlainType, is_nullable, nullability_of}
use Rattle.vx_base.specs.PlainType as types
use Rattle.vx_base.specs.PlainValue.{PlainValue, int}
use Rattle.vx_model.specs.Column.{column, column_of}
use Rattle.vx_model.specs.Rows.{rows}
use Rattle.vx_model.specs.Tree.{Tree}
use Rattle.vx_model.specs.TreeType.{tree_type}
use Rattle.vx_model.specs.WellFormed.{WellFormed}
use Rattle.vx_model.proofs.MadeLemmas.{rows_fit}

as-they-are : (p : PType) (vs : List PlainValue) → list_all (fits (types.primitive p NonNullable)) vs ≡ true → map (or_default (int (pos 0))) vs ≡ vs
as-they-are p [] h = refl
as-they-are p (int z ∷ vs) h = ap (λ ws. int z ∷ ws) (as-they-are p vs (and_parts (lies_in p z) (list_all (fits (types.primitive p NonNullable)) vs) h).1)
as-they-are p (v ∷ vs) h = absurd cc

without-null : (t : PlainType) (p : PType) (n : Nullability) → t ≡ types.primitive p n → is_nullable t ≡ false → t ≡ types.primitive p NonNullable
without-null t p NonNullable e h = e
without-null t p Nullable e h = absurd (let never : true ≡ false = ap is_nullable (sym e) ∙ h in cc)

pub kept-column : (t : Tree) (p : PType) → WellFormed t → tree_type t ≡ types.primitive p (nullability_of (tree_type t)) → is_nullable (tree_type t) ≡ false → column_of t ≡ column (types.primitive p NonNullable) (map (or_default (int (pos 0))) (rows t))
kept-column t p w e h =
    let typed = without-null (tree_type t) p (nullability_of (tree_type t)) e h in
    let same = as-they-are p (rows t) (ap (λ s. list_all (fits s) (rows t)) (sym typed) ∙ rows_fit t w) in
    λ i. column (typed i) (sym same i)
