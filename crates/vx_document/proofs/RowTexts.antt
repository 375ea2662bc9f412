-- One step of a loop over rows or fields, of which the rest is still to come, and the texts of rows.
use Rattle.std.proofs.Common.{◌≡◌, ◌∙◌, ◌<◌, ◌≤◌, ◌+◌, ◌-◌, ◌++◌, ◌∷◌, [], ℕ, suc, List, length, map, get_or, take, drop, refl, sym, ap, append_assoc, arith}
use Rattle.std.specs.Prelude.{codes}
use Rattle.std.proofs.lemmas.List.{at_drop_more, drop_more, take_all}
use Rattle.json.specs.Print.{quoted}
use Rattle.vx_base.specs.declared.dtype.DType.{DType}
use Rattle.vx_base.specs.Masks.{rows_between}
use Rattle.vx_base.specs.PlainType.{PlainType, of_fields}
use Rattle.vx_base.specs.PlainValue.{PlainValue, null, of_list}
use Rattle.vx_base.specs.TypeOf.{type_of, field_of}
use Rattle.vx_base.specs.TypeText.{value_text, items_text, field_values_text}
use Rattle.vx_model.specs.Rows.{rows, row_at}
use Rattle.vx_model.specs.Tree.{Tree}
use Rattle.vx_model.specs.Tree as trees
use Rattle.vx_model.specs.TreeType.{field_types}
use Rattle.vx_document.specs.RowText.{row_text, rows_text}
use Rattle.vx_document.specs.Writing.{fields_json, type_json}

-- the first row of a part, and those behind it
pub between_more : (xs : List PlainValue) (i end : ℕ) → i < end → end ≤ length xs → rows_between xs i end ≡ row_at xs i ∷ rows_between xs (i + 1) end
between_more xs i end l m =
    let count : end - i ≡ suc (end - (i + 1)) = omega arith in
    ap (λ ys. take (end - i) ys) (drop_more xs i null (omega arith)) ∙ ap (λ n. take n (get_or xs i null ∷ drop (i + 1) xs)) count

pub part_more : (before : List ℕ) (t : PlainType) (xs : List PlainValue) (i end : ℕ) → i < end → end ≤ length xs
    → items_text before t (of_list (rows_between xs i end)) ≡ before ++ value_text t (row_at xs i) ++ items_text (codes ",") t (of_list (rows_between xs (i + 1) end))
part_more before t xs i end l m = ap (λ ys. items_text before t (of_list ys)) (between_more xs i end l m)

pub part_end : (before : List ℕ) (t : PlainType) (xs : List PlainValue) (end : ℕ) → items_text before t (of_list (rows_between xs end end)) ≡ []
part_end before t xs end = let none : end - end ≡ 0 = omega arith in ap (λ n. items_text before t (of_list (take n (drop end xs)))) none

-- all rows are a part
pub whole_part : (xs : List PlainValue) → rows_between xs 0 (length xs) ≡ xs
whole_part xs = take_all (length xs - 0) xs (omega arith)

-- the field's row, and those behind it
pub rows_more : (before : List ℕ) (ts : List Tree) (row i : ℕ) (t : Tree) → i < length ts → t ≡ get_or ts i t
    → rows_text before (drop i ts) row ≡ before ++ row_text t row ++ rows_text (codes ",") (drop (i + 1) ts) row
rows_more before ts row i t l e =
    at_drop_more (λ us. rows_text before us row) ts i t l ∙ ap (λ u. before ++ row_text u row ++ rows_text (codes ",") (drop (i + 1) ts) row) (sym e)

-- the rows of the fields are the struct's value
pub rows_of_fields : (before : List ℕ) (names : List (List ℕ)) (ts : List Tree) (row : ℕ) → length names ≡ length ts
    → rows_text before ts row ≡ field_values_text before (field_types names (trees.of_list ts)) (of_list (map (λ t. row_at (rows t) row) ts))
rows_of_fields before [] [] row e = refl
rows_of_fields before [] (t ∷ ts) row e = absurd (omega arith)
rows_of_fields before (name ∷ names) [] row e = absurd (omega arith)
rows_of_fields before (name ∷ names) (t ∷ ts) row e = ap (λ rest. before ++ row_text t row ++ rest) (rows_of_fields (codes ",") names ts row (omega arith))

-- the fields of a type
pub fields_json_more : (before : List ℕ) (fs : List (List ℕ × DType)) (i : ℕ) (f : List ℕ × DType) → i < length fs → f ≡ get_or fs i f
    → fields_json before (of_fields (map field_of (drop i fs)))
    ≡ before ++ (codes "[" ++ quoted f.0 ++ codes "," ++ type_json (type_of f.1) ++ codes "]") ++ fields_json (codes ",") (of_fields (map field_of (drop (i + 1) fs)))
fields_json_more before fs i f l e =
    at_drop_more (λ gs. fields_json before (of_fields (map field_of gs))) fs i f l
    ∙ ap (λ g. before ++ codes "[" ++ quoted g.0 ++ codes "," ++ type_json (type_of g.1) ++ codes "]" ++ fields_json (codes ",") (of_fields (map field_of (drop (i + 1) fs)))) (sym e)
    ∙ simp append_assoc
