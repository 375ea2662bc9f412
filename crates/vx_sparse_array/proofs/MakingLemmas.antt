-- Over the plain trees of a column's patches the sparse tree is made.
use Rattle.std.proofs.Common.{◌≡◌, ◌<◌, ◌≤◌, ◌+◌, ◌^◌, ◌∙◌, ℕ, zero, suc, pos, Bool, true, false, cond, List, [], ◌∷◌, length, map, None, Some, refl, sym, ap, arith}
use Rattle.std.specs.Prelude.{◌==◌, filter, nat_lt}
use Rattle.std.specs.List.{list_all, list_any, range_with_len}
use Rattle.std.proofs.lemmas.Bool.{and_from, and_parts, cond-false, eq-eqb, ltb-true, lt-ltb}
use Rattle.std.proofs.lemmas.List.{length-map}
use Rattle.vx_base.specs.declared.dtype.Nullability.TheVariants.{NonNullable}
use Rattle.vx_base.specs.declared.ptype.PType.{PType}
use Rattle.vx_base.specs.declared.ptype.PType.TheVariants.{U32}
use Rattle.vx_base.specs.Integers.{lies_in}
use Rattle.vx_base.specs.PlainScalar.{PlainScalar, scalar}
use Rattle.vx_base.specs.PlainType.{stored_type}
use Rattle.vx_base.specs.PlainValue.{PlainValue, int, is_null}
use Rattle.vx_base.specs.Storable.{same_refl}
use Rattle.vx_model.specs.Column.{Column, column, column_of}
use Rattle.vx_model.specs.Plain.{plain, validity, valid_bits}
use Rattle.vx_model.specs.Refusals.{patches_refusal}
use Rattle.vx_model.specs.Rows.{rows, row_at}
use Rattle.vx_model.specs.Tree.{Tree, constant, patches, primitive, sparse}
use Rattle.vx_model.specs.TreeType.{tree_type}
use Rattle.vx_model.specs.WellFormed.{WellFormed, IsPatches}
use Rattle.vx_model.proofs.DecodeLemmas.{wholes-map-int, no_null-map-int}
use Rattle.vx_model.proofs.PlainLemmas.{column_of-plain}
use Rattle.vx_sparse_array.specs.Filling.{Filling, patched_rows, patch_indices, patch_values, filled_tree}
use Rattle.vx_sparse_array.specs.Refused.{parts_refusal}
use Rattle.vx_sparse_array.proofs.FillingLemmas.{ArePatches, patches-fit}
use Rattle.vx_sparse_array.proofs.RowsAt.{at-fit}

-- patches are admitted
pub patches-admitted : (len offset : ℕ) (indices values : Tree) → IsPatches len offset indices values → patches_refusal (patches len offset indices values) ≡ None
patches-admitted len offset indices values h = rw (h.indices_type, h.not_null, eq-eqb _ _ h.lengths, h.ascending) refl

-- so is a fill of their type
pub are-admitted : (f : Filling) (c : Column) (indices values : Tree) → ArePatches f c indices values → (fill : PlainScalar) → fill ≡ scalar c.dtype f.fill → (len : ℕ) → len ≡ length c.values → parts_refusal len indices values fill ≡ None
are-admitted f c indices values h fill e len l =
    let typed = ap (λ d. d.dtype) h.patch_column ∙ sym (ap (λ s. s.dtype) e) in
    ap (λ n. parts_refusal n indices values fill) l ∙ rw (same_refl stored_type (tree_type values) fill.dtype typed, patches-admitted (length c.values) 0 indices values (patches-fit f c indices values h)) refl

-- ---- the numbers of patched rows

filtered-below : (p : ℕ → Bool) (start n high : ℕ) → start + n ≤ high → list_all (λ k. nat_lt k high) (filter p (range_with_len start n)) ≡ true
filtered-below p start zero high h = refl
filtered-below p start (suc n) high h = pick (p start) (filtered-below p (start + 1) n high (omega arith))
  where
    pick : (b : Bool) → list_all (λ k. nat_lt k high) (filter p (range_with_len (start + 1) n)) ≡ true → list_all (λ k. nat_lt k high) (cond b (start ∷ filter p (range_with_len (start + 1) n)) (filter p (range_with_len (start + 1) n))) ≡ true
    pick true rest = and_from _ _ (lt-ltb start high (omega arith)) rest
    pick false rest = rest

pub patched-within : (f : Filling) (vs : List PlainValue) → list_all (λ k. nat_lt k (length vs)) (patched_rows f vs) ≡ true
patched-within f vs = filtered-below (λ i. f.patched (row_at vs i)) 0 (length vs) (length vs) (omega arith)

words-held : (n : ℕ) (ns : List ℕ) → n ≤ 2 ^ 32 → list_all (λ k. nat_lt k n) ns ≡ true → list_all (lies_in U32) (map pos ns) ≡ true
words-held n [] few h = refl
words-held n (k ∷ ns) few h = let b = and_parts (nat_lt k n) (list_all (λ j. nat_lt j n) ns) h in and_from _ _ (lt-ltb _ _ (omega (arith, ltb-true k n b.0))) (words-held n ns few b.1)

pub patched-held : (f : Filling) (vs : List PlainValue) → length vs < 2 ^ 32 → list_all (lies_in U32) (map pos (patched_rows f vs)) ≡ true
patched-held f vs few = words-held (length vs) (patched_rows f vs) (omega arith) (patched-within f vs)

-- ---- the trees

module _ (p : PType) (f : Filling) (t : Tree) (w : WellFormed t) where
  abbrev numbers : List ℕ
  numbers = patched_rows f (rows t)

  abbrev indices : Tree
  indices = primitive p (map pos numbers) None NonNullable

  indices-plain : indices ≡ plain (patch_indices p f (column_of t))
  indices-plain = λ i. primitive p (sym (wholes-map-int (map pos numbers)) i) (sym none i) NonNullable
    where
      none : validity (map int (map pos numbers)) ≡ None
      none = cond-false (list_any is_null (map int (map pos numbers))) (Some (valid_bits (map int (map pos numbers)))) None (no_null-map-int (map pos numbers))

  module _ (values : Tree) (v : values ≡ plain (patch_values f (column_of t))) (fill : PlainScalar) (e : fill ≡ scalar (tree_type t) f.fill) (len : ℕ) (l : len ≡ length (rows t)) where
    values-column : column_of values ≡ patch_values f (column_of t)
    values-column = ap column_of v ∙ column_of-plain (patch_values f (column_of t)) (at-fit t numbers w (patched-within f (rows t)))

    are : ArePatches f (column_of t) indices values
    are = record { indices_type = refl; not_null = refl; row_numbers = refl; patch_column = values-column }

    -- a sparse array is made of them
    pub parts-admitted : parts_refusal len indices values fill ≡ None
    parts-admitted = are-admitted f (column_of t) indices values are fill e len l

    -- and it, or the fill alone, is the tree of the column
    pub filled-is : cond (length (rows indices) == 0) (constant fill len) (sparse len 0 indices values fill) ≡ filled_tree p f (column_of t)
    filled-is =
        let long = length-map (map pos numbers) int ∙ length-map numbers pos in
        λ i. cond (long i == 0) (constant (e i) (l i)) (sparse (l i) 0 (indices-plain i) (v i) (e i))

-- ---- as calls find them

module _ (p : PType) (f : Filling) (t : Tree) (w : WellFormed t) (ns slice : List ℕ) (n : ns ≡ patched_rows f (rows t)) (s : slice ≡ ns) (made : Tree) (m : made ≡ primitive p (map pos ns) None NonNullable) (values : Tree)
    (v : values ≡ plain (column (tree_type t) (map (row_at (rows t)) slice))) (fill : PlainScalar) (e : fill ≡ scalar (tree_type t) f.fill) (len : ℕ) (l : len ≡ length (rows t))
  where
    made-indices : made ≡ primitive p (map pos (patched_rows f (rows t))) None NonNullable
    made-indices = m ∙ ap (λ ks. primitive p (map pos ks) None NonNullable) n

    made-values : values ≡ plain (patch_values f (column_of t))
    made-values = v ∙ ap (λ ks. plain (column (tree_type t) (map (row_at (rows t)) ks))) (s ∙ n)

    pub made-admitted : parts_refusal len made values fill ≡ None
    made-admitted = ap (λ x. parts_refusal len x values fill) made-indices ∙ parts-admitted p f t w values made-values fill e len l

    pub made-is : cond (length (rows made) == 0) (constant fill len) (sparse len 0 made values fill) ≡ filled_tree p f (column_of t)
    made-is = ap (λ x. cond (length (rows x) == 0) (constant fill len) (sparse len 0 x values fill)) made-indices ∙ filled-is p f t w values made-values fill e len l

    pub slice-within : list_all (λ k. nat_lt k (length (rows t))) slice ≡ true
    slice-within = ap (list_all (λ k. nat_lt k (length (rows t)))) (s ∙ n) ∙ patched-within f (rows t)
