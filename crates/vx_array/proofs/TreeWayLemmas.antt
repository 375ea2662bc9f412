-- The extents of a tree are the rows of the columns that the ways within it lead to.
use Rattle.std.proofs.Common.{◌≡◌, ◌+◌, ◌*◌, ◌++◌, ◌∙◌, ℕ, suc, List, [], ◌∷◌, length, map, true, refl, sym, ap, arith, Some}
use Rattle.std.proofs.lemmas.List.{length-append, map-append}
use Rattle.vx_base.specs.PlainScalar.{PlainScalar}
use Rattle.vx_base.specs.PlainType.{PlainType, PlainFields, boolean, primitive, utf8, binary, is_flat}
use Rattle.vx_base.specs.PlainType as types
use Rattle.vx_base.specs.PlainValue.{PlainValue, PlainValues}
use Rattle.vx_model.specs.Extents.{counts, field_counts, both, repeated, extents}
use Rattle.vx_model.specs.Nested.{first_within, rest_within, struct_rows, elements, fixed_elements}
use Rattle.vx_model.specs.Rows.{rows}
use Rattle.vx_model.specs.Tree.{Tree, chunked, constant, structure, list, fixed_size_list, sparse, sparse_chunked}
use Rattle.vx_model.specs.TreeType.{tree_type}
use Rattle.vx_model.specs.WellFormed.{WellFormed}
use Rattle.vx_model.proofs.FixedSizeListLemmas.{length-fixed_size_list}
use Rattle.vx_model.proofs.ListLemmas.{length-list}
use Rattle.vx_model.proofs.RowLemmas.{length-constant}
use Rattle.vx_model.proofs.SparseCountLemmas.{ascend-few}
use Rattle.vx_model.proofs.SparseLemmas.{length-sparse, length-sparse_of}
use Rattle.vx_model.proofs.StructLemmas.{length-structure}
use Rattle.vx_array.specs.TreeWays.{by_ways, by_fields, extent_at}
use Rattle.vx_flat.specs.Ways.{PlainWay, here, field, inside, field_in, reached, count_at}

-- ---- numbers for the columns within a type's

pub flat-ways : (t : PlainType) (f : PlainWay → ℕ) → is_flat t ≡ true → by_ways t f ≡ f here ∷ []
flat-ways (boolean n) f h = refl
flat-ways (primitive p n) f h = refl
flat-ways (utf8 n) f h = refl
flat-ways (binary n) f h = refl
flat-ways (types.timestamp k n) f h = refl
flat-ways t f h = absurd cc

mutual
  width : (t : PlainType) (f g : PlainWay → ℕ) → length (by_ways t f) ≡ length (by_ways t g)
  width types.null_type f g = refl
  width (boolean n) f g = refl
  width (primitive p n) f g = refl
  width (utf8 n) f g = refl
  width (binary n) f g = refl
  width (types.timestamp k n) f g = refl
  width (types.structure fs n) f g = ap suc (fields-width fs (λ i w. f (field i w)) (λ i w. g (field i w)))
  width (types.list t n) f g = ap suc (width t (λ w. f (inside w)) (λ w. g (inside w)))
  width (types.fixed_size_list t size n) f g = ap suc (width t (λ w. f (inside w)) (λ w. g (inside w)))

  fields-width : (fs : PlainFields) (f g : ℕ → PlainWay → ℕ) → length (by_fields fs f) ≡ length (by_fields fs g)
  fields-width types.none f g = refl
  fields-width (types.more name t fs) f g =
      let first = width t (f 0) (g 0) in
      let rest = fields-width fs (λ i. f (suc i)) (λ i. g (suc i)) in
      omega (arith, length-append {A = ℕ})

both-append : (ks ms ls ns : List ℕ) → length ks ≡ length ms → both (ks ++ ls) (ms ++ ns) ≡ both ks ms ++ both ls ns
both-append [] [] ls ns e = refl
both-append [] (m ∷ ms) ls ns e = absurd (omega arith)
both-append (k ∷ ks) [] ls ns e = absurd (omega arith)
both-append (k ∷ ks) (m ∷ ms) ls ns e = ap (λ rest. (k + m) ∷ rest) (both-append ks ms ls ns (omega arith))

-- two numbers for each column, summed
mutual
  pub both-ways : (t : PlainType) (f g : PlainWay → ℕ) → both (by_ways t f) (by_ways t g) ≡ by_ways t (λ w. f w + g w)
  both-ways types.null_type f g = refl
  both-ways (boolean n) f g = refl
  both-ways (primitive p n) f g = refl
  both-ways (utf8 n) f g = refl
  both-ways (binary n) f g = refl
  both-ways (types.timestamp k n) f g = refl
  both-ways (types.structure fs n) f g = ap (λ rest. (f here + g here) ∷ rest) (both-fields fs (λ i w. f (field i w)) (λ i w. g (field i w)))
  both-ways (types.list t n) f g = ap (λ rest. (f here + g here) ∷ rest) (both-ways t (λ w. f (inside w)) (λ w. g (inside w)))
  both-ways (types.fixed_size_list t size n) f g = ap (λ rest. (f here + g here) ∷ rest) (both-ways t (λ w. f (inside w)) (λ w. g (inside w)))

  both-fields : (fs : PlainFields) (f g : ℕ → PlainWay → ℕ) → both (by_fields fs f) (by_fields fs g) ≡ by_fields fs (λ i w. f i w + g i w)
  both-fields types.none f g = refl
  both-fields (types.more name t fs) f g =
      both-append (by_ways t (f 0)) (by_ways t (g 0)) (by_fields fs (λ i. f (suc i))) (by_fields fs (λ i. g (suc i))) (width t (f 0) (g 0))
      ∙ (λ i. both-ways t (f 0) (g 0) i ++ both-fields fs (λ k. f (suc k)) (λ k. g (suc k)) i)

-- another number from each
mutual
  map-ways : (h : ℕ → ℕ) (t : PlainType) (f : PlainWay → ℕ) → map h (by_ways t f) ≡ by_ways t (λ w. h (f w))
  map-ways h types.null_type f = refl
  map-ways h (boolean n) f = refl
  map-ways h (primitive p n) f = refl
  map-ways h (utf8 n) f = refl
  map-ways h (binary n) f = refl
  map-ways h (types.timestamp k n) f = refl
  map-ways h (types.structure fs n) f = ap (λ rest. h (f here) ∷ rest) (map-fields h fs (λ i w. f (field i w)))
  map-ways h (types.list t n) f = ap (λ rest. h (f here) ∷ rest) (map-ways h t (λ w. f (inside w)))
  map-ways h (types.fixed_size_list t size n) f = ap (λ rest. h (f here) ∷ rest) (map-ways h t (λ w. f (inside w)))

  map-fields : (h : ℕ → ℕ) (fs : PlainFields) (f : ℕ → PlainWay → ℕ) → map h (by_fields fs f) ≡ by_fields fs (λ i w. h (f i w))
  map-fields h types.none f = refl
  map-fields h (types.more name t fs) f =
      map-append h (by_ways t (f 0)) (by_fields fs (λ i. f (suc i))) ∙ (λ i. map-ways h t (f 0) i ++ map-fields h fs (λ k. f (suc k)) i)

-- the counts of a column are the rows of the columns within
mutual
  counts-ways : (t : PlainType) (vs : List PlainValue) → counts t vs ≡ by_ways t (λ w. count_at w t vs)
  counts-ways types.null_type vs = refl
  counts-ways (boolean n) vs = refl
  counts-ways (primitive p n) vs = refl
  counts-ways (utf8 n) vs = refl
  counts-ways (binary n) vs = refl
  counts-ways (types.timestamp k n) vs = refl
  counts-ways (types.structure fs n) vs = ap (λ rest. length vs ∷ rest) (field_counts-ways fs (struct_rows fs vs))
  counts-ways (types.list t n) vs = ap (λ rest. length vs ∷ rest) (counts-ways t (elements vs))
  counts-ways (types.fixed_size_list t size n) vs = ap (λ rest. length vs ∷ rest) (counts-ways t (fixed_elements t size vs))

  field_counts-ways : (fs : PlainFields) (rs : List PlainValues) → field_counts fs rs ≡ by_fields fs (λ i w. length (reached w (field_in i fs rs)).values)
  field_counts-ways types.none rs = refl
  field_counts-ways (types.more name t fs) rs = λ i. counts-ways t (map first_within rs) i ++ field_counts-ways fs (map rest_within rs) i

-- ---- the extents of a tree

-- a tree's own column has its rows
pub extent-here : (t : Tree) → WellFormed t → extent_at here t ≡ length (rows t)
extent-here (constant s len) w = omega (arith, length-constant s len)
extent-here (sparse len offset indices values fill) w =
    let own = extent-here values w.1 in
    let most = ascend-few offset (offset + len) (rows indices) w.2.ascending (omega arith) in
    let same = w.2.lengths in
    omega (arith, length-sparse len offset indices values fill)
extent-here (sparse_chunked len offset indices values chunks fill) w =
    let own = extent-here values w.1 in
    let most = ascend-few offset (offset + len) (rows indices) w.3.ascending (omega arith) in
    let same = w.3.lengths in
    omega (arith, length-sparse_of (chunked len offset indices values (Some chunks)) fill)
extent-here (structure names fields len valid n) w = sym (length-structure names fields len valid n w)
extent-here (list elements offsets valid n) w = sym (length-list elements offsets valid n w)
extent-here (fixed_size_list elements size len valid n) w = sym (length-fixed_size_list elements size len valid n w)
extent-here t w = refl

-- a flat column is its own extent
pub of_flat : (t : Tree) (n : ℕ) → WellFormed t → is_flat (tree_type t) ≡ true → length (rows t) ≡ n → n ∷ [] ≡ by_ways (tree_type t) (λ w. extent_at w t)
of_flat t n w f e = ap (λ k. k ∷ []) (sym e ∙ sym (extent-here t w)) ∙ sym (flat-ways (tree_type t) (λ w. extent_at w t) f)

-- and that of a flat tree of as many rows is too
pub of_other : (t u : Tree) → WellFormed t → WellFormed u → is_flat (tree_type t) ≡ true → is_flat (tree_type u) ≡ true → length (rows t) ≡ length (rows u) → extents u ≡ by_ways (tree_type u) (λ w. extent_at w u)
    → extents u ≡ by_ways (tree_type t) (λ w. extent_at w t)
of_other t u w v f g e h = h ∙ flat-ways (tree_type u) (λ w. extent_at w u) g ∙ ap (λ k. k ∷ []) (extent-here u v) ∙ of_flat t (length (rows u)) w f e

-- a fill's counts times the number of its rows
pub repeated-ways : (len : ℕ) (s : PlainScalar) → repeated len s ≡ by_ways s.dtype (λ w. len * count_at w s.dtype (s.value ∷ []))
repeated-ways len s = ap (map (λ count. len * count)) (counts-ways s.dtype (s.value ∷ [])) ∙ map-ways (λ count. len * count) s.dtype (λ w. count_at w s.dtype (s.value ∷ []))
