-- One step of a loop over values or fields, of which the rest is still to come.
use Rattle.std.proofs.Common.{◌≡◌, ◌∙◌, ◌<◌, ◌+◌, ◌++◌, ◌&&◌, ◌∷◌, ℕ, List, true, length, map, get_or, drop, sym, ap, append_assoc}
use Rattle.std.specs.Prelude.{codes}
use Rattle.std.proofs.lemmas.Bool.{and_parts}
use Rattle.std.proofs.lemmas.List.{at_drop_more}
use Rattle.vx_base.specs.declared.dtype.DType.{DType}
use Rattle.vx_base.specs.declared.value.Value.{Value}
use Rattle.vx_base.specs.PlainScalar.{fits, list_fits, field_list_fits}
use Rattle.vx_base.specs.PlainType.{PlainType, of_fields}
use Rattle.vx_base.specs.PlainValue.{of_list}
use Rattle.vx_base.specs.TypeOf.{type_of, value_of, field_of}
use Rattle.vx_base.specs.TypeText.{type_text, fields_text, value_text, items_text, field_values_text}

-- ---- values that fit

pub item_fits : (t : PlainType) (vs : List Value) (i : ℕ) (v : Value) → i < length vs → v ≡ get_or vs i v → list_fits t (map value_of (drop i vs)) ≡ true → (fits t (value_of v) ≡ true) × (list_fits t (map value_of (drop (i + 1) vs)) ≡ true)
item_fits t vs i v h e fitting =
    let more = at_drop_more (λ ws. list_fits t (map value_of ws)) vs i v h ∙ ap (λ w. fits t (value_of w) && list_fits t (map value_of (drop (i + 1) vs))) (sym e) in
    and_parts (fits t (value_of v)) (list_fits t (map value_of (drop (i + 1) vs))) (sym more ∙ fitting)

pub field_fits : (fs : List (List ℕ × DType)) (vs : List Value) (i : ℕ) (f : List ℕ × DType) (v : Value) → i < length fs → i < length vs → v ≡ get_or vs i v
    → field_list_fits (map field_of (drop i fs)) (map value_of (drop i vs)) ≡ true
    → (fits (type_of (get_or fs i f).1) (value_of v) ≡ true) × (field_list_fits (map field_of (drop (i + 1) fs)) (map value_of (drop (i + 1) vs)) ≡ true)
field_fits fs vs i f v h k e fitting =
    let more =
    at_drop_more (λ gs. field_list_fits (map field_of gs) (map value_of (drop i vs))) fs i f h
    ∙ at_drop_more (λ ws. field_list_fits (field_of (get_or fs i f) ∷ map field_of (drop (i + 1) fs)) (map value_of ws)) vs i v k
    ∙ ap (λ w. fits (type_of (get_or fs i f).1) (value_of w) && field_list_fits (map field_of (drop (i + 1) fs)) (map value_of (drop (i + 1) vs))) (sym e) in
    and_parts (fits (type_of (get_or fs i f).1) (value_of v)) (field_list_fits (map field_of (drop (i + 1) fs)) (map value_of (drop (i + 1) vs))) (sym more ∙ fitting)

-- ---- their texts

pub items_text_more : (before : List ℕ) (t : PlainType) (vs : List Value) (i : ℕ) (v : Value) → i < length vs → v ≡ get_or vs i v
    → items_text before t (of_list (map value_of (drop i vs))) ≡ before ++ value_text t (value_of v) ++ items_text (codes ",") t (of_list (map value_of (drop (i + 1) vs)))
items_text_more before t vs i v h e =
    at_drop_more (λ ws. items_text before t (of_list (map value_of ws))) vs i v h
    ∙ ap (λ w. before ++ value_text t (value_of w) ++ items_text (codes ",") t (of_list (map value_of (drop (i + 1) vs)))) (sym e)

pub field_values_text_more : (before : List ℕ) (fs : List (List ℕ × DType)) (vs : List Value) (i : ℕ) (f : List ℕ × DType) (v : Value) → i < length fs → i < length vs → v ≡ get_or vs i v
    → field_values_text before (of_fields (map field_of (drop i fs))) (of_list (map value_of (drop i vs)))
    ≡ before ++ value_text (type_of (get_or fs i f).1) (value_of v) ++ field_values_text (codes ",") (of_fields (map field_of (drop (i + 1) fs))) (of_list (map value_of (drop (i + 1) vs)))
field_values_text_more before fs vs i f v h k e =
    at_drop_more (λ gs. field_values_text before (of_fields (map field_of gs)) (of_list (map value_of (drop i vs)))) fs i f h
    ∙ at_drop_more (λ ws. field_values_text before (of_fields (field_of (get_or fs i f) ∷ map field_of (drop (i + 1) fs))) (of_list (map value_of ws))) vs i v k
    ∙ ap (λ w. before ++ value_text (type_of (get_or fs i f).1) (value_of w) ++ field_values_text (codes ",") (of_fields (map field_of (drop (i + 1) fs))) (of_list (map value_of (drop (i + 1) vs)))) (sym e)

-- a text to which the first part of the rest has been appended
pub written_more : (new pushed text before part rest left total : List ℕ) → new ≡ pushed ++ part → pushed ≡ text ++ before → left ≡ before ++ part ++ rest → text ++ left ≡ total → new ++ rest ≡ total
written_more new pushed text before part rest left total a b c d =
    let same : text ++ before ++ part ++ rest ≡ text ++ (before ++ part ++ rest) = simp append_assoc in
    ap (λ x. x ++ rest) (a ∙ ap (λ x. x ++ part) b) ∙ same ∙ ap (λ x. text ++ x) (sym c) ∙ d

pub joined_more : (done part rest left total : List ℕ) → left ≡ part ++ rest → done ++ left ≡ total → (done ++ part) ++ rest ≡ total
joined_more done part rest left total c d = append_assoc done part rest ∙ ap (λ x. done ++ x) (sym c) ∙ d

-- ---- the texts of fields

pub fields_text_more : (before : List ℕ) (fs : List (List ℕ × DType)) (i : ℕ) (f : List ℕ × DType) → i < length fs → f ≡ get_or fs i f
    → fields_text before (of_fields (map field_of (drop i fs))) ≡ (before ++ f.0 ++ codes ":" ++ type_text (type_of f.1)) ++ fields_text (codes ",") (of_fields (map field_of (drop (i + 1) fs)))
fields_text_more before fs i f h e =
    at_drop_more (λ gs. fields_text before (of_fields (map field_of gs))) fs i f h
    ∙ ap (λ g. before ++ g.0 ++ codes ":" ++ type_text (type_of g.1) ++ fields_text (codes ",") (of_fields (map field_of (drop (i + 1) fs)))) (sym e)
