-- The trees inside the plain tree of a nested column are the plain trees of the columns within, and what these become makes the
-- column's cascade.
use Rattle.std.proofs.Common.{◌≡◌, ◌≤◌, ◌∙◌, ℕ, true, List, ◌∷◌, map, length, refl, sym, ap, subst, arith}
use Rattle.std.specs.Prelude.{nat_le}
use Rattle.std.specs.List.{AllByRecursion, list_all}
use Rattle.std.proofs.lemmas.Bool.{and_parts}
use Rattle.std.proofs.lemmas.List.{length-map}
use Rattle.std.proofs.lemmas.List.Folds.{list_all-append}
use Rattle.vx_base.specs.declared.dtype.Nullability.{Nullability}
use Rattle.vx_base.specs.PlainScalar.{fits, fields_fit}
use Rattle.vx_base.specs.PlainType.{PlainType, PlainFields}
use Rattle.vx_base.specs.PlainType as types
use Rattle.vx_base.specs.PlainValue.{PlainValue, PlainValues, items_or_empty}
use Rattle.vx_model.specs.Cascade.{Leaves, cascade, cascade_of, cascade_fields, offsets_site}
use Rattle.vx_model.specs.Column.{Column, column, column_of, IsColumn}
use Rattle.vx_model.specs.Extents.{counts, field_counts, row_limit}
use Rattle.vx_model.specs.Nested.{first_within, rest_within, struct_rows, names_of, list_rows, elements, fixed_elements}
use Rattle.vx_model.specs.Plain.{plain_of, plain_fields, plain_offsets, plain, validity}
use Rattle.vx_model.specs.Rows.{rows}
use Rattle.vx_model.specs.Tree.{Tree, Trees, Validity, nulls, structure, list, fixed_size_list, list_of, of_list}
use Rattle.vx_model.specs.Tree as trees
use Rattle.vx_model.specs.Whole.{IsWhole, ArePlainOffsets, narrowed}
use Rattle.vx_model.proofs.CascadeLemmas.{AreFew}
use Rattle.vx_model.proofs.CountLemmas.{rows-few}
use Rattle.vx_model.proofs.NarrowLemmas.{plain_offsets-are, narrowed-is}
use Rattle.vx_model.proofs.NestedLemmas.{struct_rows-fit, firsts-fit, rests-fit, elements-fit, fixed_elements-fit}
use Rattle.vx_model.proofs.PlainLemmas.{column_of-plain, plain_is_plain}

pub whole_plain : (t : PlainType) (vs : List PlainValue) → list_all (fits t) vs ≡ true → AreFew (counts t vs) → IsWhole (plain_of t vs)
whole_plain t vs fit few =
    let same = sym (column_of-plain (column t vs) fit) in
    record { plain = plain_is_plain (column t vs) fit; column = subst IsColumn same fit; few = subst (λ c. AreFew (counts c.dtype c.values)) same few }

-- the counts behind the first
rest_few : (n : ℕ) (ns : List ℕ) → AreFew (n ∷ ns) → AreFew ns
rest_few n ns h = (and_parts (nat_le n row_limit) (list_all (λ count. nat_le count row_limit) ns) h).1

-- ---- structs

fields-whole : (fs : PlainFields) (rs : List PlainValues) → list_all (fields_fit fs) rs ≡ true → AreFew (field_counts fs rs) → AllByRecursion IsWhole (list_of (plain_fields fs rs))
fields-whole types.none rs fit few = tt
fields-whole (types.more name t fs) rs fit few =
    let firsts = counts t (map first_within rs) in
    let rests = field_counts fs (map rest_within rs) in
    let b = and_parts (list_all (λ count. nat_le count row_limit) firsts) (list_all (λ count. nat_le count row_limit) rests) (sym (list_all-append (λ count. nat_le count row_limit) firsts rests) ∙ few) in
    (whole_plain t (map first_within rs) (firsts-fit name t fs rs fit) b.0, fields-whole fs (map rest_within rs) (rests-fit name t fs rs fit) b.1)

-- the trees of the fields, from their plain trees
fields-cascade : (leaves : Leaves) (fs : PlainFields) (rs : List PlainValues) → list_all (fields_fit fs) rs ≡ true
    → of_list (map (λ t. cascade leaves (column_of t)) (list_of (plain_fields fs rs))) ≡ cascade_fields leaves fs rs
fields-cascade leaves types.none rs fit = refl
fields-cascade leaves (types.more name t fs) rs fit =
    let own = column_of-plain (column t (map first_within rs)) (firsts-fit name t fs rs fit) in
    let others = fields-cascade leaves fs (map rest_within rs) (rests-fit name t fs rs fit) in
    λ i. trees.more (cascade leaves (own i)) (others i)

-- what holds of the fields' trees of a plain tree
pub record ArePlainFields (leaves : Leaves) (c : Column) (names : List (List ℕ)) (ts : Trees) (len : ℕ) (valid : Validity) (n : Nullability) : Type 0 where
  pub whole : AllByRecursion IsWhole (list_of ts)
  pub cascade : structure names (of_list (map (λ t. cascade leaves (column_of t)) (list_of ts))) len valid n ≡ cascade leaves c

pub structure-parts : (leaves : Leaves) (c : Column) → IsColumn c → AreFew (counts c.dtype c.values)
    → (names : List (List ℕ)) (ts : Trees) (len : ℕ) (valid : Validity) (n : Nullability) → structure names ts len valid n ≡ plain c → ArePlainFields leaves c names ts len valid n
structure-parts leaves c = of_type c.dtype
  where
    of_type : (t : PlainType) → list_all (fits t) c.values ≡ true → AreFew (counts t c.values)
        → (names : List (List ℕ)) (ts : Trees) (len : ℕ) (valid : Validity) (n : Nullability) → structure names ts len valid n ≡ plain_of t c.values → ArePlainFields leaves (column t c.values) names ts len valid n
    of_type (types.structure fs m) fit few names ts len valid n e =
        let rs = struct_rows fs c.values in
        let inner = struct_rows-fit fs m c.values fit in
        let named : names ≡ names_of fs = cc in
        let inside : ts ≡ plain_fields fs rs = cc in
        let count : len ≡ length c.values = cc in
        let bits : valid ≡ validity c.values = cc in
        let nullable : n ≡ m = cc in
        record {
          whole = subst (λ us. AllByRecursion IsWhole (list_of us)) (sym inside) (fields-whole fs rs inner (rest_few (length c.values) (field_counts fs rs) few));
          cascade =
              (λ i. structure (named i) (of_list (map (λ t. cascade leaves (column_of t)) (list_of (inside i)))) (count i) (bits i) (nullable i))
              ∙ ap (λ us. structure (names_of fs) us (length c.values) (validity c.values) m) (fields-cascade leaves fs rs inner);
        }
    of_type t fit few names ts len valid n e = absurd cc

-- ---- lists

pub record ArePlainLists (leaves : Leaves) (c : Column) (inside offsets : Tree) (valid : Validity) (n : Nullability) : Type 0 where
  pub whole : IsWhole inside
  pub between : ArePlainOffsets offsets (length (rows inside))
  pub cascade : list (cascade leaves (column_of inside)) (leaves (narrowed (length (rows inside)) (rows offsets)) offsets_site) valid n ≡ cascade leaves c

pub list-parts : (leaves : Leaves) (c : Column) → IsColumn c → AreFew (counts c.dtype c.values)
    → (inside offsets : Tree) (valid : Validity) (n : Nullability) → list inside offsets valid n ≡ plain c → ArePlainLists leaves c inside offsets valid n
list-parts leaves c = of_type c.dtype
  where
    of_type : (t : PlainType) → list_all (fits t) c.values ≡ true → AreFew (counts t c.values)
        → (inside offsets : Tree) (valid : Validity) (n : Nullability) → list inside offsets valid n ≡ plain_of t c.values → ArePlainLists leaves (column t c.values) inside offsets valid n
    of_type (types.list t m) fit few inside offsets valid n e =
        let inner = elements-fit t m c.values fit in
        let of_elements : inside ≡ plain_of t (elements c.values) = cc in
        let between : offsets ≡ plain_offsets (list_rows c.values) = cc in
        let bits : valid ≡ validity c.values = cc in
        let nullable : n ≡ m = cc in
        let own = ap column_of of_elements ∙ column_of-plain (column t (elements c.values)) inner in
        let end : length (rows inside) ≡ length (elements c.values) = ap (λ d. length d.values) own in
        let most = length-map c.values items_or_empty ∙ refl in
        let count : length (list_rows c.values) ≤ row_limit = let few = rows-few (types.list t m) c.values row_limit few in omega (arith, most) in
        record {
          whole = subst IsWhole (sym of_elements) (whole_plain t (elements c.values) inner (rest_few (length c.values) (counts t (elements c.values)) few));
          between = subst (λ o. ArePlainOffsets o (length (rows inside))) (sym between) (plain_offsets-are (list_rows c.values) (length (rows inside)) end count);
          cascade =
              (λ i. list (cascade leaves (own i)) (leaves (narrowed (length (rows inside)) (rows (between i))) offsets_site) (bits i) (nullable i))
              ∙ ap (λ d. list (cascade_of leaves t (elements c.values)) (leaves d offsets_site) (validity c.values) m) (narrowed-is (list_rows c.values) (length (rows inside)) end);
        }
    of_type t fit few inside offsets valid n e = absurd cc

-- ---- lists of fixed size

pub record ArePlainFixedLists (leaves : Leaves) (c : Column) (inside : Tree) (size len : ℕ) (valid : Validity) (n : Nullability) : Type 0 where
  pub whole : IsWhole inside
  pub cascade : fixed_size_list (cascade leaves (column_of inside)) size len valid n ≡ cascade leaves c

pub fixed_size_list-parts : (leaves : Leaves) (c : Column) → IsColumn c → AreFew (counts c.dtype c.values)
    → (inside : Tree) (size len : ℕ) (valid : Validity) (n : Nullability) → fixed_size_list inside size len valid n ≡ plain c → ArePlainFixedLists leaves c inside size len valid n
fixed_size_list-parts leaves c = of_type c.dtype
  where
    of_type : (t : PlainType) → list_all (fits t) c.values ≡ true → AreFew (counts t c.values)
        → (inside : Tree) (size len : ℕ) (valid : Validity) (n : Nullability) → fixed_size_list inside size len valid n ≡ plain_of t c.values → ArePlainFixedLists leaves (column t c.values) inside size len valid n
    of_type (types.fixed_size_list t count m) fit few inside size len valid n e =
        let inner = fixed_elements-fit t count m c.values fit in
        let of_elements : inside ≡ plain_of t (fixed_elements t count c.values) = cc in
        let sized : size ≡ count = cc in
        let rows : len ≡ length c.values = cc in
        let bits : valid ≡ validity c.values = cc in
        let nullable : n ≡ m = cc in
        let own = ap column_of of_elements ∙ column_of-plain (column t (fixed_elements t count c.values)) inner in
        record {
          whole = subst IsWhole (sym of_elements) (whole_plain t (fixed_elements t count c.values) inner (rest_few (length c.values) (counts t (fixed_elements t count c.values)) few));
          cascade = λ i. fixed_size_list (cascade leaves (own i)) (sized i) (rows i) (bits i) (nullable i);
        }
    of_type t fit few inside size len valid n e = absurd cc

-- ---- nulls alone stay as they are

pub nulls-stay : (leaves : Leaves) (c : Column) (len : ℕ) → nulls len ≡ plain c → nulls len ≡ cascade leaves c
nulls-stay leaves c = of_type c.dtype
  where
    of_type : (t : PlainType) (len : ℕ) → nulls len ≡ plain_of t c.values → nulls len ≡ cascade_of leaves t c.values
    of_type types.null_type len e = e
    of_type t len e = absurd cc
