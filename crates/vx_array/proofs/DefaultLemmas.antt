-- Whether the row of a tree is null or the default of its type, node by node.
use Rattle.std.proofs.Common.{◌≡◌, ◌∙◌, ◌<◌, ◌≤◌, ◌+◌, ◌-◌, ◌*◌, ◌∷◌, ℕ, zero, suc, ℤ, pos, List, [], length, map, take, drop, get_or, refl, sym, ap, subst, arith, Bool, true, false, cond, Some, None}
use Rattle.std.specs.Prelude.{◌==◌, ◌&&◌, ◌||◌, not, replicate, slice_index_or}
use Rattle.std.specs.List.{list_all}
use Rattle.std.proofs.lemmas.Bool.{and_from, eqb-true}
use Rattle.std.specs.Ordering.{int_eq}
use Rattle.std.proofs.lemmas.Bool.Decides.{nat_tests}
use Rattle.std.proofs.lemmas.Int.{ints}
use Rattle.std.proofs.lemmas.List.{length-take-le, length-drop, get_or-take, get_or-drop}
use Rattle.std.proofs.lemmas.List.Folds.{list_all-append}
use Rattle.vx_base.specs.declared.dtype.Nullability.{Nullability}
use Rattle.vx_base.specs.declared.dtype.Nullability.TheVariants.{NonNullable, Nullable}
use Rattle.vx_base.specs.Defaults.{default_of, field_defaults, null_or_default}
use Rattle.vx_base.specs.Masks.{rows_between}
use Rattle.vx_base.specs.PlainScalar.{fits, fields_fit}
use Rattle.vx_base.specs.PlainType.{PlainType, PlainFields, is_flat, is_nullable, allows_null, boolean, primitive, utf8, binary, timestamp}
use Rattle.vx_base.specs.PlainType as types
use Rattle.vx_base.specs.PlainValue.{PlainValue, null, truth, int, bytes, items, of_list, to_all, is_null, same_value, stored_value}
use Rattle.vx_base.specs.Storable.{same_tree, same_from}
use Rattle.vx_base.proofs.WithinLemmas.{eqb_none}
use Rattle.vx_model.specs.Column.{column}
use Rattle.vx_model.specs.Decoded.{zero_beneath}
use Rattle.vx_model.specs.Nested.{first_within, rest_within, struct_rows, names_of, fixed_elements}
use Rattle.vx_model.specs.Plain.{IsPlain, plain_of, plain_fields, validity}
use Rattle.vx_model.specs.Refusals.{validity_length}
use Rattle.vx_model.specs.Rows.{rows, row_at, is_valid_at, offset_at, list_value, parts_of}
use Rattle.vx_model.specs.Tree.{Tree, Trees, Validity, structure, list, fixed_size_list}
use Rattle.vx_model.specs.Tree as trees
use Rattle.vx_model.specs.TreeType.{tree_type, field_types}
use Rattle.vx_model.specs.WellFormed.{WellFormed, IsValidityOf}
use Rattle.vx_model.proofs.FixedSizeListLemmas.{row_at-fixed_size_list}
use Rattle.vx_model.proofs.ListLemmas.{row_at-list}
use Rattle.vx_model.proofs.MadeLemmas.{rows_fit}
use Rattle.vx_model.proofs.NestedLemmas.{struct_rows-fit, firsts-fit, rests-fit, fixed_elements-fit}
use Rattle.vx_model.proofs.PartLemmas.{parts_of-at}
use Rattle.vx_model.proofs.PlainLemmas.{plain_is_plain}
use Rattle.vx_model.proofs.StructLemmas.{row_at-structure}
use Rattle.vx_model.proofs.TreesLemmas.{list_of-of_list}
use Rattle.vx_model.proofs.ZeroLemmas.{zero_beneath-next, zero_beneath-stop}
use Rattle.vx_array.specs.declared.array.Node.{Node}
use Rattle.vx_array.specs.declared.array.Node.TheVariants as nodes
use Rattle.vx_array.specs.Beneath.{ArePlain, is_default, is_zero}
use Rattle.vx_array.specs.TreeOf.{tree_of}
use Rattle.vx_array.proofs.ValueAt.{between_next, no_other}
use Rattle.vx_flat.proofs.Views.{all-stop}

-- ---- a node whose type is flat

true_by : (b : Bool) → (b ≡ false → ⊥) → b ≡ true
true_by true h = refl
true_by false h = absurd (h refl)

pub flat_other : (n : Node) → WellFormed (tree_of n) → ((s : _) (len : _) → n ≡ nodes.Constant s len → ⊥) → ((len : _) → n ≡ nodes.Null len → ⊥)
    → ((names : _) (fields : _) (len : _) (valid : _) (m : _) → n ≡ nodes.Struct names fields len valid m → ⊥) → ((elements : _) (offsets : _) (valid : _) (m : _) → n ≡ nodes.List elements offsets valid m → ⊥)
    → ((elements : _) (size : _) (len : _) (valid : _) (m : _) → n ≡ nodes.FixedSizeList elements size len valid m → ⊥) → ((patches : _) (fill : _) → n ≡ nodes.Sparse patches fill → ⊥) → is_flat (tree_type (tree_of n)) ≡ true
flat_other n w a b c d e g = true_by (is_flat (tree_type (tree_of n))) (λ f. no_other n w f a b c d e g)

-- ---- whether a row is null

pub null-where : (b : Bool) (v : PlainValue) → is_null v ≡ false → not b ≡ is_null (cond b v null)
null-where true v h = sym h
null-where false v h = refl

-- ---- rows one behind the other

pub empty-between : (xs : List PlainValue) (start end : ℕ) → start ≤ end → end ≤ length xs → (start == end) ≡ (length (rows_between xs start end) == 0)
empty-between xs start end l m =
    let left = length-drop start xs in
    let count : length (rows_between xs start end) ≡ end - start = length-take-le (end - start) (drop start xs) (omega arith) in
    rw count (grind (arith, nat_tests))

module _ (test : PlainValue → Bool) (xs : List PlainValue) (start : ℕ) where
  pub between-next : (i : ℕ) → start ≤ i → i < length xs → list_all test (rows_between xs start i) ≡ true → test (row_at xs i) ≡ true → list_all test (rows_between xs start (i + 1)) ≡ true
  between-next i l m h e =
      ap (list_all test) (between_next xs start i (row_at xs i) l m refl) ∙ list_all-append test (rows_between xs start i) (row_at xs i ∷ [])
      ∙ and_from _ _ h (and_from _ _ e refl)

  pub between-stop : (i end : ℕ) → start ≤ i → i < end → end ≤ length xs → test (row_at xs i) ≡ false → list_all test (rows_between xs start end) ≡ false
  between-stop i end l m k e =
      let left = length-drop start xs in
      let count : length (rows_between xs start end) ≡ end - start = length-take-le (end - start) (drop start xs) (omega arith) in
      let place : start + (i - start) ≡ i = omega arith in
      let own : get_or (rows_between xs start end) (i - start) null ≡ row_at xs i =
      get_or-take (end - start) (drop start xs) (i - start) null (omega arith) ∙ get_or-drop start xs (i - start) null ∙ ap (row_at xs) place in
      all-stop test null (rows_between xs start end) (i - start) (omega arith) (ap test own ∙ e)

-- ---- the default of a type without nulls

pub default_without : (t : PlainType) (v : PlainValue) → is_nullable t ≡ false → is_default t v ≡ same_value v (default_of t)
default_without t v k = ap (λ b. same_value v (cond b null (default_of t))) k

int_default : (z : ℤ) → is_zero (int z) ≡ same_value (int z) (int (pos 0))
int_default z = same_from stored_value (int z) (int (pos 0)) (is_zero (int z)) (λ e. ap int (zero_found z e)) (λ e. let own : z ≡ pos 0 = cc in rw own refl)
  where
    zero_found : (x : ℤ) → int_eq x (pos 0) ≡ true → x ≡ pos 0
    zero_found x e = grind (arith, ints)

bytes_default : (bs : List ℕ) → is_zero (bytes bs) ≡ same_value (bytes bs) (bytes [])
bytes_default [] = refl
bytes_default (b ∷ bs) = eqb_none (length (b ∷ bs)) 0 (λ e. omega arith)

zero_default : (t : PlainType) (v : PlainValue) → is_flat t ≡ true → is_nullable t ≡ false → fits t v ≡ true → is_zero v ≡ same_value v (default_of t)
zero_default (boolean n) (truth true) f k h = refl
zero_default (boolean n) (truth false) f k h = refl
zero_default (primitive p n) (int z) f k h = int_default z
zero_default (timestamp s n) (int z) f k h = int_default z
zero_default (utf8 n) (bytes bs) f k h = bytes_default bs
zero_default (binary n) (bytes bs) f k h = bytes_default bs
zero_default t v f k h = absurd cc

pub flat-default : (t : PlainType) (v : PlainValue) → is_flat t ≡ true → is_nullable t ≡ false → fits t v ≡ true → is_zero v ≡ is_default t v
flat-default t v f k h = zero_default t v f k h ∙ sym (default_without t v k)

-- a row of a node without nulls is valid
valid_at : (valid : Validity) (len : ℕ) (n : Nullability) (i : ℕ) → IsValidityOf valid len n → allows_null n ≡ false → is_valid_at valid i ≡ true
valid_at None len n i h k = refl
valid_at (Some bits) len NonNullable i h k = let both : NonNullable ≡ Nullable = h.1 in absurd cc
valid_at (Some bits) len Nullable i h k = absurd cc

-- what such a row is, is the default where its value is
module _ (t : PlainType) (valid : Validity) (len : ℕ) (n : Nullability) (i : ℕ) (h : IsValidityOf valid len n) (k : is_nullable t ≡ false) (m : allows_null n ≡ false) where
  pub default-valid : (row v : PlainValue) → row ≡ cond (is_valid_at valid i) v null → same_value v (default_of t) ≡ is_default t row
  default-valid row v e = sym (ap (is_default t) (e ∙ ap (λ b. cond b v null) (valid_at valid len n i h m)) ∙ default_without t v k)

-- ---- structs

fields_default : (names : List (List ℕ)) (ts : List Tree) (i : ℕ) → length names ≡ length ts
    → list_all (λ t. is_default (tree_type t) (row_at (rows t) i)) ts ≡ same_tree (to_all (of_list (map (λ t. row_at (rows t) i) ts))) (to_all (field_defaults (field_types names (trees.of_list ts))))
fields_default [] [] i e = refl
fields_default [] (t ∷ ts) i e = absurd (omega arith)
fields_default (name ∷ names) [] i e = absurd (omega arith)
fields_default (name ∷ names) (t ∷ ts) i e = ap (λ b. is_default (tree_type t) (row_at (rows t) i) && b) (fields_default names ts i (omega arith))

module _ (names : List (List ℕ)) (ts : List Tree) (len : ℕ) (valid : Validity) (n : Nullability) (w : WellFormed (structure names (trees.of_list ts) len valid n)) where
  pub default-structure : (i : ℕ) → i < len → allows_null n ≡ false
      → list_all (λ t. is_default (tree_type t) (row_at (rows t) i)) ts ≡ is_default (tree_type (structure names (trees.of_list ts) len valid n)) (row_at (rows (structure names (trees.of_list ts) len valid n)) i)
  default-structure i l k =
      let own = row_at-structure names (trees.of_list ts) len valid n w i l ∙ ap (λ us. cond (is_valid_at valid i) (items (of_list (map (λ t. row_at (rows t) i) us))) null) (list_of-of_list ts) in
      fields_default names ts i (w.1.named ∙ ap length (list_of-of_list ts))
      ∙ default-valid (tree_type (structure names (trees.of_list ts) len valid n)) valid len n i w.1.validity k k _ (items (of_list (map (λ t. row_at (rows t) i) ts))) own

-- ---- lists

no_items : (vs : List PlainValue) → (length vs == 0) ≡ same_value (list_value vs) (list_value [])
no_items [] = refl
no_items (v ∷ vs) = eqb_none (length (v ∷ vs)) 0 (λ e. omega arith)

module _ (elements offsets : Tree) (valid : Validity) (n : Nullability) (w : WellFormed (list elements offsets valid n)) where
  pub default-list : (i : ℕ) → i < length (rows offsets) - 1 → allows_null n ≡ false
      → (length (rows_between (rows elements) (offset_at (rows offsets) i) (offset_at (rows offsets) (i + 1))) == 0) ≡ is_default (tree_type (list elements offsets valid n)) (row_at (rows (list elements offsets valid n)) i)
  default-list i l k =
      let part = rows_between (rows elements) (offset_at (rows offsets) i) (offset_at (rows offsets) (i + 1)) in
      no_items part ∙ default-valid (types.list (tree_type elements) n) valid _ n i w.2.validity k k _ (list_value part) (row_at-list elements offsets valid n w i l)

-- ---- lists of fixed size

all_default : (t : PlainType) (vs : List PlainValue) (size : ℕ) → length vs ≡ size → list_all (is_default t) vs ≡ same_tree (to_all (of_list vs)) (to_all (of_list (replicate size (null_or_default t))))
all_default t [] zero e = refl
all_default t [] (suc size) e = absurd (omega arith)
all_default t (v ∷ vs) zero e = absurd (omega arith)
all_default t (v ∷ vs) (suc size) e = ap (λ b. is_default t v && b) (all_default t vs size (omega arith))

module _ (elements : Tree) (size len : ℕ) (valid : Validity) (n : Nullability) (w : WellFormed (fixed_size_list elements size len valid n)) where
  pub default-fixed : (i : ℕ) → i < len → i * size + size ≤ length (rows elements) → allows_null n ≡ false
      → list_all (is_default (tree_type elements)) (rows_between (rows elements) (i * size) (i * size + size)) ≡ is_default (tree_type (fixed_size_list elements size len valid n)) (row_at (rows (fixed_size_list elements size len valid n)) i)
  default-fixed i l m k =
      let part = rows_between (rows elements) (i * size) (i * size + size) in
      let left = length-drop (i * size) (rows elements) in
      let count : length part ≡ size = length-take-le (i * size + size - i * size) (drop (i * size) (rows elements)) (omega arith) ∙ omega arith in
      all_default (tree_type elements) part size count
      ∙ default-valid (types.fixed_size_list (tree_type elements) size n) valid len n i w.1.validity k k _ (list_value part) (row_at-fixed_size_list elements size len valid n w i l)

-- ---- the trees within a plain tree

made_plain : (t : PlainType) (vs : List PlainValue) → list_all (fits t) vs ≡ true → IsPlain (plain_of t vs)
made_plain t vs h = plain_is_plain (column t vs) h

fields_made : (fs : PlainFields) (rs : List _) → list_all (fields_fit fs) rs ≡ true → ArePlain None (plain_fields fs rs)
fields_made types.none rs h = tt
fields_made (types.more name t fs) rs h = ((made_plain t (map first_within rs) (firsts-fit name t fs rs h), refl), fields_made fs (map rest_within rs) (rests-fit name t fs rs h))

pub plain-fields : (names : List (List ℕ)) (fields : Trees) (len : ℕ) (valid : Validity) (n : Nullability) → WellFormed (structure names fields len valid n) → IsPlain (structure names fields len valid n) → ArePlain None fields
plain-fields names fields len valid n w p =
    let tree = structure names fields len valid n in
    let fs = field_types names fields in
    let own : tree ≡ structure (names_of fs) (plain_fields fs (struct_rows fs (rows tree))) (length (rows tree)) (validity (rows tree)) n = p in
    let inside : fields ≡ plain_fields fs (struct_rows fs (rows tree)) = cc in
    subst (ArePlain None) (sym inside) (fields_made fs (struct_rows fs (rows tree)) (struct_rows-fit fs n (rows tree) (rows_fit tree w)))

pub plain-elements : (elements : Tree) (size len : ℕ) (valid : Validity) (n : Nullability) → WellFormed (fixed_size_list elements size len valid n) → IsPlain (fixed_size_list elements size len valid n) → IsPlain elements
plain-elements elements size len valid n w p =
    let tree = fixed_size_list elements size len valid n in
    let t = tree_type elements in
    let own : tree ≡ fixed_size_list (plain_of t (fixed_elements t size (rows tree))) size (length (rows tree)) (validity (rows tree)) n = p in
    let inside : elements ≡ plain_of t (fixed_elements t size (rows tree)) = cc in
    subst IsPlain (sym inside) (made_plain t (fixed_elements t size (rows tree)) (fixed_elements-fit t size n (rows tree) (rows_fit tree w)))

-- ---- a test beneath a mask, one row more

or-true : (b : Bool) → (b || true) ≡ true
or-true true = refl
or-true false = refl

module _ {A : Type 0} (test : A → Bool) (other : A) (bits : List Bool) (xs : List A) (i : ℕ) (l : i < length bits) (m : i < length xs) where
  pub set-next : zero_beneath test (take i bits) xs ≡ true → slice_index_or bits i false ≡ true → zero_beneath test (take (i + 1) bits) xs ≡ true
  set-next h e = zero_beneath-next test other bits xs i l m h (ap (λ b. b || test (slice_index_or xs i other)) e)

  pub passed-next : zero_beneath test (take i bits) xs ≡ true → test (slice_index_or xs i other) ≡ true → zero_beneath test (take (i + 1) bits) xs ≡ true
  passed-next h e = zero_beneath-next test other bits xs i l m h (ap (λ b. slice_index_or bits i false || b) e ∙ or-true (slice_index_or bits i false))

  pub failed-stop : slice_index_or bits i false ≡ false → test (slice_index_or xs i other) ≡ false → zero_beneath test bits xs ≡ false
  failed-stop e f = zero_beneath-stop test other bits xs i l m (λ k. e k || f k)

-- as many bits as rows
pub bits-length : (valid : Validity) (bits : List Bool) (len : ℕ) → valid ≡ Some bits → validity_length valid len ≡ true → length bits ≡ len
bits-length valid bits len e h = eqb-true (length bits) len (rw e at h)

pub part-at : (size len : ℕ) (xs : List PlainValue) (i : ℕ) → i < len → slice_index_or (parts_of size len xs) i [] ≡ rows_between xs (i * size) (i * size + size)
part-at size len xs i l =
    let own : size ≡ i * size + size - i * size = omega arith in
    parts_of-at size len xs i l ∙ ap (λ k. take k (drop (i * size) xs)) own
