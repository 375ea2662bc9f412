-- A fill and patches: their rows, and that a constructor's tree is well formed.
use Rattle.std.proofs.Common.{◌≡◌, ◌<◌, ◌≤◌, ◌+◌, ◌-◌, ◌∙◌, ℕ, List, length, refl, ap, sym, subst, arith, true, Option, Some, None}
use Rattle.std.proofs.lemmas.Option.{same_Some}
use Rattle.std.specs.List.{list_all}
use Rattle.vx_base.specs.declared.array_id.ArrayId.TheVariants as ids
use Rattle.vx_base.specs.PlainScalar.{PlainScalar, fits}
use Rattle.vx_base.specs.PlainType.{stored_type}
use Rattle.vx_base.specs.PlainValue.{PlainValue}
use Rattle.vx_base.specs.Storable.{same_path}
use Rattle.vx_model.specs.Refusals.{sparse_refusal}
use Rattle.vx_model.specs.Extents.{extents, both, repeated}
use Rattle.vx_model.specs.Nodes.{encoding}
use Rattle.vx_model.specs.Rows.{rows, row_at, index_of, below, patched, place_of}
use Rattle.vx_model.specs.Size.{size, payload, chunks_size}
use Rattle.vx_model.specs.Tree.{Tree, PlainPatches, chunked, sparse, sparse_chunked, sparse_of}
use Rattle.vx_model.specs.TreeType.{tree_type}
use Rattle.vx_model.specs.WellFormed.{WellFormed, WellFormedPatches, IsSparse, ascend}
use Rattle.vx_model.proofs.MadeLemmas.{rows_fit}
use Rattle.vx_model.proofs.PackedLemmas.{length-below, row_at-below, below-passes, patched_passes, passed}
use Rattle.vx_model.proofs.PatchLemmas.{ascend-within, place-found, place-none, NoneBelow, NoneFrom}
use Rattle.vx_model.proofs.PatchedLemmas.{patched-place, patched-fill}

-- ---- the value of a row, where indices ascend

-- where the index at a place is the row's, the patch there
pub patched-found : (low high : ℕ) (is vs : List PlainValue) (fill : PlainValue) (n place : ℕ) → ascend low high is ≡ true → length is ≡ length vs → place < length is → index_of (row_at is place) ≡ Some n → patched is vs fill n ≡ row_at vs place
patched-found low high is vs fill n place e same l f = patched-place is vs fill n place same (place-found low high is n place e l f)

-- where neither the indices before a place nor those from it on are, the fill
pub patched-none : (is vs : List PlainValue) (fill : PlainValue) (n place : ℕ) → NoneBelow is n place → NoneFrom is n place → patched is vs fill n ≡ fill
patched-none is vs fill n place b f = patched-fill is vs fill n (place-none is n place b f)

-- ---- the rows of a node

module _ (len offset : ℕ) (indices values : Tree) (fill : PlainScalar) where
  abbrev row_of : ℕ → PlainValue
  row_of i = patched (rows indices) (rows values) fill.value (offset + i)

  pub length-sparse : length (rows (sparse len offset indices values fill)) ≡ len
  length-sparse = length-below row_of len

  pub row_at-sparse : (i : ℕ) → i < len → row_at (rows (sparse len offset indices values fill)) i ≡ patched (rows indices) (rows values) fill.value (offset + i)
  row_at-sparse i l = row_at-below row_of len i l

  -- ---- by the position of a patch

  module _ (h : WellFormed (sparse len offset indices values fill)) where
    -- where the search for a row's patch ends at a place
    pub row_at-sparse_patch : (i place : ℕ) → i < len → place_of (rows indices) (offset + i) ≡ Some place → row_at (rows (sparse len offset indices values fill)) i ≡ row_at (rows values) place
    row_at-sparse_patch i place l e = row_at-sparse i l ∙ patched-place (rows indices) (rows values) fill.value (offset + i) place h.2.lengths e

    -- where it finds none
    pub row_at-sparse_fill : (i : ℕ) → i < len → place_of (rows indices) (offset + i) ≡ None → row_at (rows (sparse len offset indices values fill)) i ≡ fill.value
    row_at-sparse_fill i l e = row_at-sparse i l ∙ patched-fill (rows indices) (rows values) fill.value (offset + i) e

    -- the index at each place is that of a row, and the row is the patch there
    pub row_at-sparse_index : (place n : ℕ) → place < length (rows indices) → index_of (row_at (rows indices) place) ≡ Some n
        → (offset ≤ n) × (n - offset < len) × (row_at (rows (sparse len offset indices values fill)) (n - offset) ≡ row_at (rows values) place)
    row_at-sparse_index place n l e =
        let within = ascend-within offset (offset + len) (rows indices) place n h.2.ascending l e in
        let own : offset + (n - offset) ≡ n = omega arith in
        let found = patched-found offset (offset + len) (rows indices) (rows values) fill.value n place h.2.ascending h.2.lengths l e in
        (within.0, omega arith, row_at-sparse (n - offset) (omega arith) ∙ ap (patched (rows indices) (rows values) fill.value) own ∙ found)

pub ruleset sparse_reads = (length-sparse, row_at-sparse)

-- ---- with chunk offsets, or without

module _ (len offset : ℕ) (indices values : Tree) (fill : PlainScalar) where
  rows-either : (o : Option Tree) → rows (sparse_of (chunked len offset indices values o) fill) ≡ below (λ i. patched (rows indices) (rows values) fill.value (offset + i)) len
  rows-either None = refl
  rows-either (Some chunks) = refl

  type-either : (o : Option Tree) → tree_type (sparse_of (chunked len offset indices values o) fill) ≡ fill.dtype
  type-either None = refl
  type-either (Some chunks) = refl

  encoding-either : (o : Option Tree) → encoding (sparse_of (chunked len offset indices values o) fill) ≡ ids.Sparse
  encoding-either None = refl
  encoding-either (Some chunks) = refl

  size-either : (o : Option Tree) → size (sparse_of (chunked len offset indices values o) fill) ≡ size indices + size values + chunks_size o + (1 + payload fill.dtype fill.value)
  size-either None = omega arith
  size-either (Some chunks) = refl

  extents-either : (o : Option Tree) → extents (sparse_of (chunked len offset indices values o) fill) ≡ both (extents values) (repeated (len - length (rows values)) fill)
  extents-either None = refl
  extents-either (Some chunks) = refl

  parts-either : (o : Option Tree) → WellFormed (sparse_of (chunked len offset indices values o) fill) → WellFormedPatches (chunked len offset indices values o) × IsSparse values fill
  parts-either None h = ((h.0, h.1, h.2, tt), h.3)
  parts-either (Some chunks) h = ((h.0, h.1, h.3, (h.2, h.4)), h.5)

  made-either : (o : Option Tree) → WellFormedPatches (chunked len offset indices values o) → IsSparse values fill → list_all (fits fill.dtype) (below (λ i. patched (rows indices) (rows values) fill.value (offset + i)) len) ≡ true
      → WellFormed (sparse_of (chunked len offset indices values o) fill)
  made-either None w s fit = (w.0, w.1, w.2, s, fit)
  made-either (Some chunks) w s fit = (w.0, w.1, w.3.0, w.2, w.3.1, s, fit)

module _ (p : PlainPatches) (fill : PlainScalar) where
  abbrev row_of_patches : ℕ → PlainValue
  row_of_patches i = patched (rows p.indices) (rows p.values) fill.value (p.offset + i)

  pub rows-sparse_of : rows (sparse_of p fill) ≡ below (λ i. patched (rows p.indices) (rows p.values) fill.value (p.offset + i)) p.array_len
  rows-sparse_of = rows-either p.array_len p.offset p.indices p.values fill p.chunks

  pub length-sparse_of : length (rows (sparse_of p fill)) ≡ p.array_len
  length-sparse_of = ap length rows-sparse_of ∙ length-below row_of_patches p.array_len

  pub row_at-sparse_of : (i : ℕ) → i < p.array_len → row_at (rows (sparse_of p fill)) i ≡ patched (rows p.indices) (rows p.values) fill.value (p.offset + i)
  row_at-sparse_of i l = ap (λ rs. row_at rs i) rows-sparse_of ∙ row_at-below row_of_patches p.array_len i l

  pub type-sparse_of : tree_type (sparse_of p fill) ≡ fill.dtype
  type-sparse_of = type-either p.array_len p.offset p.indices p.values fill p.chunks

  pub encoding-sparse_of : encoding (sparse_of p fill) ≡ ids.Sparse
  encoding-sparse_of = encoding-either p.array_len p.offset p.indices p.values fill p.chunks

  pub size-sparse_of : size (sparse_of p fill) ≡ size p.indices + size p.values + chunks_size p.chunks + (1 + payload fill.dtype fill.value)
  size-sparse_of = size-either p.array_len p.offset p.indices p.values fill p.chunks

  pub extents-sparse_of : extents (sparse_of p fill) ≡ both (extents p.values) (repeated (p.array_len - length (rows p.values)) fill)
  extents-sparse_of = extents-either p.array_len p.offset p.indices p.values fill p.chunks

  pub parts-sparse_of : WellFormed (sparse_of p fill) → WellFormedPatches p × IsSparse p.values fill
  parts-sparse_of h = parts-either p.array_len p.offset p.indices p.values fill p.chunks h

  -- ---- by the position of a patch

  module _ (h : WellFormed (sparse_of p fill)) where
    -- where the search for a row's patch ends at a place
    pub row_at-sparse_of_patch : (i place : ℕ) → i < p.array_len → place_of (rows p.indices) (p.offset + i) ≡ Some place → row_at (rows (sparse_of p fill)) i ≡ row_at (rows p.values) place
    row_at-sparse_of_patch i place l e = row_at-sparse_of i l ∙ patched-place (rows p.indices) (rows p.values) fill.value (p.offset + i) place (parts-sparse_of h).0.2.lengths e

    -- where it finds none
    pub row_at-sparse_of_fill : (i : ℕ) → i < p.array_len → place_of (rows p.indices) (p.offset + i) ≡ None → row_at (rows (sparse_of p fill)) i ≡ fill.value
    row_at-sparse_of_fill i l e = row_at-sparse_of i l ∙ patched-fill (rows p.indices) (rows p.values) fill.value (p.offset + i) e

    -- the index at each place is that of a row, and the row is the patch there
    pub row_at-sparse_of_index : (place n : ℕ) → place < length (rows p.indices) → index_of (row_at (rows p.indices) place) ≡ Some n
        → (p.offset ≤ n) × (n - p.offset < p.array_len) × (row_at (rows (sparse_of p fill)) (n - p.offset) ≡ row_at (rows p.values) place)
    row_at-sparse_of_index place n l e =
        let parts = (parts-sparse_of h).0.2 in
        let within = ascend-within p.offset (p.offset + p.array_len) (rows p.indices) place n parts.ascending l e in
        let own : p.offset + (n - p.offset) ≡ n = omega arith in
        let found = patched-found p.offset (p.offset + p.array_len) (rows p.indices) (rows p.values) fill.value n place parts.ascending parts.lengths l e in
        (within.0, omega arith, row_at-sparse_of (n - p.offset) (omega arith) ∙ ap (patched (rows p.indices) (rows p.values) fill.value) own ∙ found)

-- ---- from the tree

abbrev parts_in : Tree → Option PlainPatches
parts_in (sparse len offset indices values fill) = Some (chunked len offset indices values None)
parts_in (sparse_chunked len offset indices values chunks fill) = Some (chunked len offset indices values (Some chunks))
parts_in t = None

abbrev fill_in : Tree → Option PlainScalar
fill_in (sparse len offset indices values fill) = Some fill
fill_in (sparse_chunked len offset indices values chunks fill) = Some fill
fill_in t = None

module _ (len offset : ℕ) (indices values : Tree) (fill : PlainScalar) where
  parts_in-either : (o : Option Tree) → parts_in (sparse_of (chunked len offset indices values o) fill) ≡ Some (chunked len offset indices values o)
  parts_in-either None = refl
  parts_in-either (Some chunks) = refl

  fill_in-either : (o : Option Tree) → fill_in (sparse_of (chunked len offset indices values o) fill) ≡ Some fill
  fill_in-either None = refl
  fill_in-either (Some chunks) = refl

-- equal trees have equal patches and fills
pub sparse_of-alike : (p q : PlainPatches) (f g : PlainScalar) → sparse_of p f ≡ sparse_of q g → (p ≡ q) × (f ≡ g)
sparse_of-alike p q f g e = (
  same_Some p q (sym (parts_in-either p.array_len p.offset p.indices p.values f p.chunks) ∙ ap parts_in e ∙ parts_in-either q.array_len q.offset q.indices q.values g q.chunks),
  same_Some f g (sym (fill_in-either p.array_len p.offset p.indices p.values f p.chunks) ∙ ap fill_in e ∙ fill_in-either q.array_len q.offset q.indices q.values g q.chunks),
)

pub ruleset sparse_of_reads = (length-sparse_of, row_at-sparse_of, type-sparse_of, encoding-sparse_of, size-sparse_of, extents-sparse_of)

-- a constructor's tree is well formed, where nothing is refused
pub sparse_accepted : (p : PlainPatches) (fill : PlainScalar) → sparse_refusal p fill ≡ None → fits fill.dtype fill.value ≡ true → WellFormedPatches p → WellFormed (sparse_of p fill)
sparse_accepted p fill h fitting w =
    let typed : tree_type p.values ≡ fill.dtype = same_path stored_type _ _ (passed _ _ _ h).0 in
    let those : list_all (fits fill.dtype) (rows p.values) ≡ true = subst (λ t. list_all (fits t) (rows p.values) ≡ true) typed (rows_fit p.values w.1) in
    made-either p.array_len p.offset p.indices p.values fill p.chunks w (record { values_type = typed; fitting = fitting })
    (below-passes (fits fill.dtype) (row_of p.array_len p.offset p.indices p.values fill) p.array_len (λ i l. patched_passes (fits fill.dtype) (rows p.indices) (rows p.values) fill.value (p.offset + i) those fitting))
