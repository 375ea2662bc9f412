-- The text of a row by the root of its tree.
use Rattle.std.proofs.Common.{◌≡◌, ◌∙◌, ◌<◌, ◌+◌, ◌*◌, ◌-◌, ◌++◌, [], ℕ, List, Bool, true, false, cond, length, map, refl, sym, ap}
use Rattle.std.specs.Prelude.{codes}
use Rattle.vx_base.specs.declared.dtype.Nullability.{Nullability}
use Rattle.vx_base.specs.PlainScalar.{PlainScalar}
use Rattle.vx_base.specs.PlainType.{PlainType}
use Rattle.vx_base.specs.PlainType as types
use Rattle.vx_base.specs.PlainValue.{PlainValue, null, items, of_list}
use Rattle.vx_base.specs.TypeText.{value_text}
use Rattle.vx_model.specs.Rows.{rows, row_at, is_valid_at, offset_at, patched}
use Rattle.vx_model.specs.Tree.{Tree, Validity, PlainPatches, constant, structure, list, fixed_size_list, sparse_of}
use Rattle.vx_model.specs.Tree as trees
use Rattle.vx_model.specs.TreeType.{tree_type, field_types}
use Rattle.vx_model.specs.WellFormed.{WellFormed}
use Rattle.vx_model.proofs.FixedSizeListLemmas.{row_at-fixed_size_list}
use Rattle.vx_model.proofs.ListLemmas.{row_at-list}
use Rattle.vx_model.proofs.RowLemmas.{row_at-replicate}
use Rattle.vx_model.proofs.SparseLemmas.{row_at-sparse_of, type-sparse_of}
use Rattle.vx_model.proofs.StructLemmas.{row_at-structure}
use Rattle.vx_model.proofs.TreesLemmas.{list_of-of_list}
use Rattle.vx_document.specs.RowText.{or_null, part_text, row_text, rows_text}
use Rattle.vx_document.proofs.RowTexts.{rows_of_fields}

null_text : (t : PlainType) → value_text t null ≡ codes "null"
null_text types.null_type = refl
null_text (types.boolean n) = refl
null_text (types.primitive p n) = refl
null_text (types.utf8 n) = refl
null_text (types.binary n) = refl
null_text (types.timestamp k n) = refl
null_text (types.structure fs n) = refl
null_text (types.list t n) = refl
null_text (types.fixed_size_list t size n) = refl

-- a value where it is valid, else null
valid_text : (t : PlainType) (valid : Validity) (row : ℕ) (v : PlainValue) (text : List ℕ) → text ≡ value_text t v → or_null valid row text ≡ value_text t (cond (is_valid_at valid row) v null)
valid_text t valid row v text e = by (is_valid_at valid row)
  where
    by : (b : Bool) → cond b text (codes "null") ≡ value_text t (cond b v null)
    by true = e
    by false = sym (null_text t)

pub text-null : (t : Tree) (row len : ℕ) → t ≡ trees.nulls len → row < len → row_text t row ≡ codes "null"
text-null t row len e l = ap (λ u. row_text u row) e ∙ ap (value_text types.null_type) (row_at-replicate len row null l)

pub text-constant : (t : Tree) (row len : ℕ) (s : PlainScalar) → t ≡ constant s len → row < len → row_text t row ≡ value_text s.dtype s.value
text-constant t row len s e l = ap (λ u. row_text u row) e ∙ ap (value_text s.dtype) (row_at-replicate len row s.value l)

pub text-structure : (names : List (List ℕ)) (fields : List Tree) (len : ℕ) (valid : Validity) (n : Nullability) (row : ℕ) → WellFormed (structure names (trees.of_list fields) len valid n) → row < len
    → or_null valid row (codes "[" ++ rows_text [] fields row ++ codes "]") ≡ row_text (structure names (trees.of_list fields) len valid n) row
text-structure names fields len valid n row w l =
    let t = types.structure (field_types names (trees.of_list fields)) n in
    let all = list_of-of_list fields in
    let vs = map (λ u. row_at (rows u) row) fields in
    let named : length names ≡ length fields = w.1.named ∙ ap length all in
    let own = ap (λ text. codes "[" ++ text ++ codes "]") (rows_of_fields [] names fields row named) in
    let read = row_at-structure names (trees.of_list fields) len valid n w row l ∙ ap (λ us. cond (is_valid_at valid row) (items (of_list (map (λ u. row_at (rows u) row) us))) null) all in
    valid_text t valid row (items (of_list vs)) _ own ∙ sym (ap (value_text t) read)

pub text-list : (elements offsets : Tree) (valid : Validity) (n : Nullability) (row : ℕ) → WellFormed (list elements offsets valid n) → row < length (rows offsets) - 1
    → or_null valid row (part_text elements (offset_at (rows offsets) row) (offset_at (rows offsets) (row + 1))) ≡ row_text (list elements offsets valid n) row
text-list elements offsets valid n row w l =
    let t = types.list (tree_type elements) n in
    valid_text t valid row _ _ refl ∙ sym (ap (value_text t) (row_at-list elements offsets valid n w row l))

pub text-fixed_size_list : (elements : Tree) (size len : ℕ) (valid : Validity) (n : Nullability) (row : ℕ) → WellFormed (fixed_size_list elements size len valid n) → row < len
    → or_null valid row (part_text elements (row * size) (row * size + size)) ≡ row_text (fixed_size_list elements size len valid n) row
text-fixed_size_list elements size len valid n row w l =
    let t = types.fixed_size_list (tree_type elements) size n in
    valid_text t valid row _ _ refl ∙ sym (ap (value_text t) (row_at-fixed_size_list elements size len valid n w row l))

pub text-sparse_of : (p : PlainPatches) (fill : PlainScalar) (row : ℕ) → row < p.array_len
    → value_text fill.dtype (patched (rows p.indices) (rows p.values) fill.value (p.offset + row)) ≡ row_text (sparse_of p fill) row
text-sparse_of p fill row l = λ i. value_text (sym (type-sparse_of p fill) i) (sym (row_at-sparse_of p fill row l) i)
