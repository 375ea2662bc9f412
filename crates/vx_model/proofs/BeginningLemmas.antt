-- The columns within a column that are judged: what holds of each, and that the cascade depends on no others.
use Rattle.std.proofs.Common.{◌≡◌, ◌≤◌, ◌+◌, ◌++◌, ◌∙◌, true, List, [], ◌∷◌, map, length, refl, sym, ap, arith}
use Rattle.std.specs.Prelude.{nat_le}
use Rattle.std.specs.List.{AllByRecursion, list_all}
use Rattle.std.proofs.lemmas.Bool.{and_parts}
use Rattle.std.proofs.lemmas.List.{length-map}
use Rattle.std.proofs.lemmas.List.Folds.{list_all-append}
use Rattle.vx_base.specs.declared.ptype.PType.TheVariants.{I64}
use Rattle.vx_base.specs.PlainScalar.{fits, fields_fit}
use Rattle.vx_base.specs.PlainType.{PlainType, PlainFields, boolean, primitive, utf8, binary, is_flat, is_integer}
use Rattle.vx_base.specs.PlainType as types
use Rattle.vx_base.specs.PlainValue.{PlainValue, PlainValues, items_or_empty}
use Rattle.vx_model.specs.Cascade.{Leaves, cascade, cascade_of, cascade_fields, site_or_storage, narrow_offsets, offsets_site, beginnings, field_beginnings}
use Rattle.vx_model.specs.Column.{Column, column, IsColumn}
use Rattle.vx_model.specs.Extents.{counts, field_counts, row_limit}
use Rattle.vx_model.specs.Nested.{first_within, rest_within, struct_rows, names_of, list_rows, elements, fixed_elements}
use Rattle.vx_model.specs.Plain.{validity}
use Rattle.vx_model.specs.Site.{Site, fresh}
use Rattle.vx_model.specs.Tree.{Tree, timestamp, structure, list, fixed_size_list}
use Rattle.vx_model.specs.Tree as trees
use Rattle.vx_model.proofs.CascadeLemmas.{AreFew, narrow_offsets-fit}
use Rattle.vx_model.proofs.CountLemmas.{rows-few}
use Rattle.vx_model.proofs.JoinedLemmas.{length-offset_values}
use Rattle.vx_model.proofs.NestedLemmas.{struct_rows-fit, firsts-fit, rests-fit, elements-fit, fixed_elements-fit}
use Rattle.vx_model.proofs.PlainLemmas.{stamps_fit}

all-append : {X : Type 0} (P : X → Type 0) (xs ys : List X) → AllByRecursion P xs → AllByRecursion P ys → AllByRecursion P (xs ++ ys)
all-append P [] ys h k = k
all-append P (x ∷ xs) ys h k = (h.0, all-append P xs ys h.1 k)

append-all : {X : Type 0} (P : X → Type 0) (xs ys : List X) → AllByRecursion P (xs ++ ys) → AllByRecursion P xs × AllByRecursion P ys
append-all P [] ys h = (tt, h)
append-all P (x ∷ xs) ys h = let rest = append-all P xs ys h.1 in ((h.0, rest.0), rest.1)

-- ---- what holds of columns that begin at the fresh site, and of offsets, holds of each

module _ (P : Column × Site → Type 0) (at_fresh : (c : Column) → is_flat c.dtype ≡ true → IsColumn c → length c.values ≤ row_limit → P (c, fresh))
    (at_offsets : (c : Column) → is_integer c.dtype ≡ true → IsColumn c → length c.values ≤ row_limit + 1 → P (c, offsets_site)) where
  mutual
    begin : (t : PlainType) (vs : List PlainValue) → list_all (fits t) vs ≡ true → AreFew (counts t vs) → AllByRecursion P (beginnings t vs)
    begin types.null_type vs fit few = tt
    begin (boolean n) vs fit few = (at_fresh (column (boolean n) vs) refl fit (rows-few (boolean n) vs row_limit few), tt)
    begin (primitive p n) vs fit few = (at_fresh (column (primitive p n) vs) refl fit (rows-few (primitive p n) vs row_limit few), tt)
    begin (utf8 n) vs fit few = (at_fresh (column (utf8 n) vs) refl fit (rows-few (utf8 n) vs row_limit few), tt)
    begin (binary n) vs fit few = (at_fresh (column (binary n) vs) refl fit (rows-few (binary n) vs row_limit few), tt)
    begin (types.timestamp k n) vs fit few =
        let least = rows-few (types.timestamp k n) vs row_limit few in
        (at_fresh (column (types.timestamp k n) vs) refl fit least, (at_fresh (column (primitive I64 n) vs) refl (stamps_fit k n vs fit) least, tt))
    begin (types.structure fs n) vs fit few =
        begin_fields fs (struct_rows fs vs) (struct_rows-fit fs n vs fit) (and_parts (nat_le (length vs) row_limit) (list_all (λ count. nat_le count row_limit) (field_counts fs (struct_rows fs vs))) few).1
    begin (types.list t n) vs fit few =
        let b = and_parts (nat_le (length vs) row_limit) (list_all (λ count. nat_le count row_limit) (counts t (elements vs))) few in
        let inside = rows-few t (elements vs) row_limit b.1 in
        let most = rows-few (types.list t n) vs row_limit few in
        let count = length-offset_values (list_rows vs) in
        let own = length-map vs items_or_empty in
        (at_offsets (narrow_offsets (list_rows vs)) refl (narrow_offsets-fit (list_rows vs) (omega arith)) (omega arith), begin t (elements vs) (elements-fit t n vs fit) b.1)
    begin (types.fixed_size_list t size n) vs fit few =
        begin t (fixed_elements t size vs) (fixed_elements-fit t size n vs fit) (and_parts (nat_le (length vs) row_limit) (list_all (λ count. nat_le count row_limit) (counts t (fixed_elements t size vs))) few).1

    begin_fields : (fs : PlainFields) (rs : List PlainValues) → list_all (fields_fit fs) rs ≡ true → AreFew (field_counts fs rs) → AllByRecursion P (field_beginnings fs rs)
    begin_fields types.none rs fit few = tt
    begin_fields (types.more name t fs) rs fit few =
        let firsts = counts t (map first_within rs) in
        let rests = field_counts fs (map rest_within rs) in
        let b = and_parts (list_all (λ count. nat_le count row_limit) firsts) (list_all (λ count. nat_le count row_limit) rests) (sym (list_all-append (λ count. nat_le count row_limit) firsts rests) ∙ few) in
        all-append P (beginnings t (map first_within rs)) (field_beginnings fs (map rest_within rs)) (begin t (map first_within rs) (firsts-fit name t fs rs fit) b.0) (begin_fields fs (map rest_within rs) (rests-fit name t fs rs fit) b.1)

  pub beginnings-all : (c : Column) → IsColumn c → AreFew (counts c.dtype c.values) → AllByRecursion P (beginnings c.dtype c.values)
  beginnings-all c fit few = begin c.dtype c.values fit few

-- ---- the cascade is determined by the trees of these columns

module _ (f g : Leaves) where
  abbrev Agree : Column × Site → Type 0
  Agree b = f b.0 b.1 ≡ g b.0 b.1

  mutual
    same : (t : PlainType) (vs : List PlainValue) → AllByRecursion Agree (beginnings t vs) → cascade_of f t vs ≡ cascade_of g t vs
    same types.null_type vs h = refl
    same (boolean n) vs h = h.0
    same (primitive p n) vs h = h.0
    same (utf8 n) vs h = h.0
    same (binary n) vs h = h.0
    same (types.timestamp k n) vs h = λ i. site_or_storage (column (types.timestamp k n) vs) (h.0 i) (timestamp (h.1.0 i) k)
    same (types.structure fs n) vs h = ap (λ ts. structure (names_of fs) ts (length vs) (validity vs) n) (same_fields fs (struct_rows fs vs) h)
    same (types.list t n) vs h = λ i. list (same t (elements vs) h.1 i) (h.0 i) (validity vs) n
    same (types.fixed_size_list t size n) vs h = ap (λ inside. fixed_size_list inside size (length vs) (validity vs) n) (same t (fixed_elements t size vs) h)

    same_fields : (fs : PlainFields) (rs : List PlainValues) → AllByRecursion Agree (field_beginnings fs rs) → cascade_fields f fs rs ≡ cascade_fields g fs rs
    same_fields types.none rs h = refl
    same_fields (types.more name t fs) rs h =
        let b = append-all Agree (beginnings t (map first_within rs)) (field_beginnings fs (map rest_within rs)) h in
        λ i. trees.more (same t (map first_within rs) b.0 i) (same_fields fs (map rest_within rs) b.1 i)

  pub cascade-same : (c : Column) → AllByRecursion Agree (beginnings c.dtype c.values) → cascade f c ≡ cascade g c
  cascade-same c h = same c.dtype c.values h
