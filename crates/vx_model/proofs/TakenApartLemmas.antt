-- A plain tree that is taken apart: what holds of its parts, and that the trees that these become make a well-formed tree, which is
-- the cascade of the column.
use Rattle.std.proofs.Common.{◌≡◌, ◌∙◌, ℕ, List, map, length, All, sym, ap, subst}
use Rattle.std.specs.List.{AllByRecursion}
use Rattle.std.proofs.lemmas.List.Elements.{All-from_recursion}
use Rattle.vx_base.specs.declared.dtype.Nullability.{Nullability}
use Rattle.vx_model.specs.Cascade.{Leaves, cascade, offsets_site}
use Rattle.vx_model.specs.Column.{column_of}
use Rattle.vx_model.specs.Rows.{rows}
use Rattle.vx_model.specs.Tree.{Tree, Validity, nulls, structure, list, fixed_size_list, of_list}
use Rattle.vx_model.specs.WellFormed.{WellFormed}
use Rattle.vx_model.specs.Whole.{IsWhole, ArePlainOffsets, narrowed}
use Rattle.vx_model.proofs.CascadeLemmas.{LeavesStand, cascade-stands}
use Rattle.vx_model.proofs.PlainPartLemmas.{ArePlainFields, structure-parts, ArePlainLists, list-parts, ArePlainFixedLists, fixed_size_list-parts, nulls-stay}
use Rattle.vx_model.proofs.TreesLemmas.{list_of-of_list}

module _ (leaves : Leaves) (stand : LeavesStand leaves) (t : Tree) (whole : IsWhole t) where
  -- what is the column's cascade is well formed
  well_by : (made : Tree) → made ≡ cascade leaves (column_of t) → WellFormed made
  well_by made e = subst WellFormed (sym e) (cascade-stands leaves stand (column_of t) whole.column whole.few).0

  pub nulls-taken : (len : ℕ) → nulls len ≡ t → nulls len ≡ cascade leaves (column_of t)
  nulls-taken len e = nulls-stay leaves (column_of t) len (e ∙ whole.plain)

  -- ---- structs

  module _ (names : List (List ℕ)) (fields : List Tree) (len : ℕ) (valid : Validity) (n : Nullability) (e : structure names (of_list fields) len valid n ≡ t) where
    parts : ArePlainFields leaves (column_of t) names (of_list fields) len valid n
    parts = structure-parts leaves (column_of t) whole.column whole.few names (of_list fields) len valid n (e ∙ whole.plain)

    pub fields-whole : All IsWhole fields
    fields-whole = All-from_recursion IsWhole fields (subst (AllByRecursion IsWhole) (list_of-of_list fields) parts.whole)

    module _ (made : List Tree) (are : made ≡ map (λ field. cascade leaves (column_of field)) fields) where
      pub structure-taken : structure names (of_list made) len valid n ≡ cascade leaves (column_of t)
      structure-taken =
          ap (λ ts. structure names (of_list ts) len valid n) are
          ∙ ap (λ ts. structure names (of_list (map (λ field. cascade leaves (column_of field)) ts)) len valid n) (sym (list_of-of_list fields))
          ∙ parts.cascade

      pub structure-well : WellFormed (structure names (of_list made) len valid n)
      structure-well = well_by (structure names (of_list made) len valid n) structure-taken

  -- ---- lists

  module _ (inside offsets : Tree) (valid : Validity) (n : Nullability) (e : list inside offsets valid n ≡ t) where
    list_parts : ArePlainLists leaves (column_of t) inside offsets valid n
    list_parts = list-parts leaves (column_of t) whole.column whole.few inside offsets valid n (e ∙ whole.plain)

    pub elements-whole : IsWhole inside
    elements-whole = list_parts.whole

    module _ (end : ℕ) (ends : end ≡ length (rows inside)) where
      pub offsets-plain : ArePlainOffsets offsets end
      offsets-plain = subst (ArePlainOffsets offsets) (sym ends) list_parts.between

      module _ (made between : Tree) (is : made ≡ cascade leaves (column_of inside)) (are : between ≡ leaves (narrowed end (rows offsets)) offsets_site) where
        pub list-taken : list made between valid n ≡ cascade leaves (column_of t)
        list-taken = (λ i. list (is i) ((are ∙ ap (λ k. leaves (narrowed k (rows offsets)) offsets_site) ends) i) valid n) ∙ list_parts.cascade

        pub list-well : WellFormed (list made between valid n)
        list-well = well_by (list made between valid n) list-taken

  -- ---- lists of one size

  module _ (inside : Tree) (size len : ℕ) (valid : Validity) (n : Nullability) (e : fixed_size_list inside size len valid n ≡ t) where
    fixed_parts : ArePlainFixedLists leaves (column_of t) inside size len valid n
    fixed_parts = fixed_size_list-parts leaves (column_of t) whole.column whole.few inside size len valid n (e ∙ whole.plain)

    pub fixed_elements-whole : IsWhole inside
    fixed_elements-whole = fixed_parts.whole

    module _ (made : Tree) (is : made ≡ cascade leaves (column_of inside)) where
      pub fixed_size_list-taken : fixed_size_list made size len valid n ≡ cascade leaves (column_of t)
      fixed_size_list-taken = ap (λ inside. fixed_size_list inside size len valid n) is ∙ fixed_parts.cascade

      pub fixed_size_list-well : WellFormed (fixed_size_list made size len valid n)
      fixed_size_list-well = well_by (fixed_size_list made size len valid n) fixed_size_list-taken
