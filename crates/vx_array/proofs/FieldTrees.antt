-- The plain trees of a struct's fields, one after the other.
use Rattle.std.proofs.Common.{◌≡◌, ◌∙◌, ◌<◌, ◌≤◌, ◌+◌, ◌++◌, ℕ, zero, suc, Bool, List, [], ◌∷◌, length, map, drop, get_or, refl, sym, ap, true}
use Rattle.std.specs.Prelude.{◌&&◌}
use Rattle.std.specs.List.{list_all}
use Rattle.std.proofs.lemmas.Bool.{and_parts}
use Rattle.std.proofs.lemmas.List.{append_assoc, append-nil, drop_more, drop_all}
use Rattle.vx_base.specs.declared.dtype.DType.{DType}
use Rattle.vx_base.specs.PlainScalar.{fits, fields_fit}
use Rattle.vx_base.specs.PlainType.{PlainType, PlainFields, of_fields}
use Rattle.vx_base.specs.PlainType as types
use Rattle.vx_base.specs.PlainValue.{PlainValue, PlainValues}
use Rattle.vx_base.specs.TypeOf.{type_of, field_of}
use Rattle.vx_model.specs.Nested.{first_within, rest_within, names_of}
use Rattle.vx_model.specs.Plain.{plain_of, plain_fields}
use Rattle.vx_model.specs.Tree.{Tree, Trees, none, more, of_list, list_of}
use Rattle.vx_flat.specs.Columns.{columns_of}
use Rattle.vx_model.proofs.NestedLemmas.{firsts-fit, rests-fit}

of_list-list_of : (ts : Trees) → of_list (list_of ts) ≡ ts
of_list-list_of none = refl
of_list-list_of (more t ts) = ap (more t) (of_list-list_of ts)

pub names_of-fields : (fs : List (List ℕ × PlainType)) → names_of (of_fields fs) ≡ map (λ f. f.0) fs
names_of-fields [] = refl
names_of-fields (f ∷ fs) = ap (λ ns. f.0 ∷ ns) (names_of-fields fs)

-- the fields from a place on
abbrev pub fields_from : ℕ → List (List ℕ × DType) → PlainFields
fields_from i fs = of_fields (map field_of (drop i fs))

-- of columns, one for each field: each fits its field's type, and their plain trees
abbrev pub columns_fit : PlainFields → List (List PlainValue) → Bool
columns_fit (types.more name t fs) (c ∷ cs) = list_all (fits t) c && columns_fit fs cs
columns_fit fs cs = true

abbrev pub trees_of : PlainFields → List (List PlainValue) → Trees
trees_of (types.more name t fs) (c ∷ cs) = more (plain_of t c) (trees_of fs cs)
trees_of fs cs = none

-- by the fields of structs they are those of the rows
pub columns-fit : (fs : List (List ℕ × PlainType)) (rows : List PlainValues) → list_all (fields_fit (of_fields fs)) rows ≡ true → columns_fit (of_fields fs) (columns_of (length fs) rows) ≡ true
columns-fit [] rows h = refl
columns-fit (f ∷ fs) rows h = rw (firsts-fit f.0 f.1 (of_fields fs) rows h, columns-fit fs (map rest_within rows) (rests-fit f.0 f.1 (of_fields fs) rows h)) refl

pub trees-columns : (fs : List (List ℕ × PlainType)) (rows : List PlainValues) → trees_of (of_fields fs) (columns_of (length fs) rows) ≡ plain_fields (of_fields fs) rows
trees-columns [] rows = refl
trees-columns (f ∷ fs) rows = ap (more (plain_of f.1 (map first_within rows))) (trees-columns fs (map rest_within rows))

pub length-columns : (n : ℕ) (rows : List PlainValues) → length (columns_of n rows) ≡ n
length-columns zero rows = refl
length-columns (suc n) rows = ap suc (length-columns n (map rest_within rows))

module _ (fs : List (List ℕ × DType)) (i : ℕ) (f : List ℕ × DType) (l : i < length fs) (e : f ≡ get_or fs i f) where
  one_less : fields_from i fs ≡ types.more f.0 (type_of f.1) (fields_from (i + 1) fs)
  one_less = ap (λ gs. of_fields (map field_of gs)) (drop_more fs i f l ∙ ap (λ g. g ∷ drop (i + 1) fs) (sym e))

  module _ (column : List PlainValue) (left : List (List PlainValue)) where
    fits-parts : columns_fit (fields_from i fs) (column ∷ left) ≡ true → (list_all (fits (type_of f.1)) column ≡ true) × (columns_fit (fields_from (i + 1) fs) left ≡ true)
    fits-parts h = and_parts _ _ (ap (λ gs. columns_fit gs (column ∷ left)) (sym one_less) ∙ h)

    pub column-fits : columns_fit (fields_from i fs) (column ∷ left) ≡ true → list_all (fits (type_of f.1)) column ≡ true
    column-fits h = (fits-parts h).0

    pub others-fit : columns_fit (fields_from i fs) (column ∷ left) ≡ true → columns_fit (fields_from (i + 1) fs) left ≡ true
    others-fit h = (fits-parts h).1

    -- one tree more
    pub trees-more : (trees : List Tree) (tree : Tree) (whole : List Tree) → tree ≡ plain_of (type_of f.1) column → trees ++ list_of (trees_of (fields_from i fs) (column ∷ left)) ≡ whole
        → (trees ++ tree ∷ []) ++ list_of (trees_of (fields_from (i + 1) fs) left) ≡ whole
    trees-more trees tree whole made h =
        append_assoc trees (tree ∷ []) (list_of (trees_of (fields_from (i + 1) fs) left))
        ∙ ap (λ t. trees ++ t ∷ list_of (trees_of (fields_from (i + 1) fs) left)) made
        ∙ ap (λ gs. trees ++ list_of (trees_of gs (column ∷ left))) (sym one_less) ∙ h

-- and no field is left
pub trees-all : (fs : List (List ℕ × DType)) (i : ℕ) (left : List (List PlainValue)) (trees : List Tree) (whole : Trees) → length fs ≤ i → trees ++ list_of (trees_of (fields_from i fs) left) ≡ list_of whole → of_list trees ≡ whole
trees-all fs i left trees whole l h =
    let ended = ap (λ gs. trees ++ list_of (trees_of (of_fields (map field_of gs)) left)) (drop_all i fs l) in
    ap of_list (sym (append-nil trees) ∙ sym ended ∙ h) ∙ of_list-list_of whole
