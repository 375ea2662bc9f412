-- Over patches of a fill the rows of a column come back.
use Rattle.std.proofs.Common.{◌≡◌, ◌<◌, ◌≤◌, ◌+◌, ◌∙◌, ℕ, zero, suc, pos, Bool, true, false, List, [], ◌∷◌, length, map, refl, sym, ap, subst, cond, arith, inl, inr}
use Rattle.std.specs.Prelude.{◌==◌, ◌||◌, filter, not, None}
use Rattle.std.specs.List.{list_any, range_with_len}
use Rattle.std.proofs.lemmas.Bool.{cond_both, eq-eqb, eqb-true, ne_eqb, or_parts, cases_lt}
use Rattle.std.proofs.lemmas.List.{length-map}
use Rattle.vx_base.specs.PlainScalar.{fits, scalar}
use Rattle.vx_base.specs.PlainType.{is_integer, is_nullable, stored_type}
use Rattle.vx_base.specs.PlainValue.{PlainValue, int, is_null, same_value, stored_value}
use Rattle.vx_base.specs.Storable.{same_path, same_refl}
use Rattle.vx_base.proofs.NullLemmas.{null-is}
use Rattle.vx_model.specs.Column.{Column, column, column_of}
use Rattle.vx_model.specs.Refusals.{sparse_refusal}
use Rattle.vx_model.specs.Rows.{rows, row_at, below, patched}
use Rattle.vx_model.specs.Tree.{Tree, patches}
use Rattle.vx_model.specs.TreeType.{tree_type}
use Rattle.vx_model.specs.WellFormed.{WellFormed, IsPatches, ascend}
use Rattle.vx_model.proofs.SparseLemmas.{sparse_accepted}
use Rattle.vx_model.proofs.RisingLemmas.{filter-ascends}
use Rattle.vx_sparse_array.specs.Filling.{Filling, null_filling, value_filling, patched_rows, patch_values, filled_over}

-- ---- every row that isn't patched is the fill

-- a value that isn't patched is the fill
abbrev pub Stands : Filling → Type 0
Stands f = (v : PlainValue) → f.patched v ≡ false → v ≡ f.fill

pub null-stands : Stands null_filling
null-stands v h = sym (null-is v (is v h))
  where
    is : (v : PlainValue) → not (is_null v) ≡ false → is_null v ≡ true
    is v h = grind arith

pub value-stands : (fill : PlainValue) → Stands (value_filling fill)
value-stands fill v h = same_path stored_value v fill (kept (same_value v fill) (or_parts (is_null v) (not (same_value v fill)) h).1)
  where
    kept : (b : Bool) → not b ≡ false → b ≡ true
    kept true e = refl
    kept false e = absurd cc

-- ---- row by row

-- whether a number is among others
abbrev pub is_among : List ℕ → ℕ → Bool
is_among ns i = list_any (λ n. n == i) ns

among-before : (q : ℕ → Bool) (start n i : ℕ) → i < start → is_among (filter q (range_with_len start n)) i ≡ false
among-before q start zero i h = refl
among-before q start (suc n) i h = pick (q start) (among-before q (start + 1) n i (omega arith))
  where
    others : List ℕ
    others = filter q (range_with_len (start + 1) n)

    pick : (b : Bool) → is_among (filter q (range_with_len (start + 1) n)) i ≡ false → is_among (cond b (start ∷ filter q (range_with_len (start + 1) n)) (filter q (range_with_len (start + 1) n))) i ≡ false
    pick true rest = rw (ne_eqb start i (λ e. omega arith)) rest
    pick false rest = rest

pub among-filter : (q : ℕ → Bool) (start n i : ℕ) → start ≤ i → i < start + n → is_among (filter q (range_with_len start n)) i ≡ q i
among-filter q start zero i low high = absurd (omega arith)
among-filter q start (suc n) i low high =
    elim (cases_lt start i) [
      | inl less ↦ later (q start) (among-filter q (start + 1) n i (omega arith) (omega arith)) (ne_eqb start i (λ e. omega arith))
      | inr more ↦ let same : start ≡ i = omega arith in subst (λ k. is_among (filter q (range_with_len start (suc n))) k ≡ q k) same (here (q start) refl (among-before q (start + 1) n start (omega arith)))
    ]
  where
    later : (b : Bool) → is_among (filter q (range_with_len (start + 1) n)) i ≡ q i → (start == i) ≡ false
        → is_among (cond b (start ∷ filter q (range_with_len (start + 1) n)) (filter q (range_with_len (start + 1) n))) i ≡ q i
    later true rest other = rw other rest
    later false rest other = rest

    here : (b : Bool) → q start ≡ b → is_among (filter q (range_with_len (start + 1) n)) start ≡ false
        → is_among (cond (q start) (start ∷ filter q (range_with_len (start + 1) n)) (filter q (range_with_len (start + 1) n))) start ≡ q start
    here true e none = rw (e, eq-eqb start start refl) refl
    here false e none = rw e none

-- a row of a fill with patches at the given rows
patched-among : (g : ℕ → PlainValue) (fill : PlainValue) (n : ℕ) (is : List ℕ) → patched (map int (map pos is)) (map g is) fill n ≡ cond (is_among is n) (g n) fill
patched-among g fill n [] = refl
patched-among g fill n (i ∷ is) = by_test (i == n) refl (patched-among g fill n is)
  where
    by_test : (b : Bool) → (i == n) ≡ b → patched (map int (map pos is)) (map g is) fill n ≡ cond (is_among is n) (g n) fill
        → cond (i == n) (g i) (patched (map int (map pos is)) (map g is) fill n) ≡ cond ((i == n) || is_among is n) (g n) fill
    by_test true e rest = rw e (ap g (eqb-true i n e))
    by_test false e rest = rw e rest

-- a list from its rows one by one
by_rows : (g : ℕ → PlainValue) (start : ℕ) (vs : List PlainValue) → ((i k : ℕ) → start + k ≡ i → k < length vs → g i ≡ row_at vs k) → map g (range_with_len start (length vs)) ≡ vs
by_rows g start [] h = refl
by_rows g start (v ∷ vs) h = λ i. h start 0 (omega arith) (omega arith) i ∷ by_rows g (start + 1) vs (λ j k e l. h j (suc k) (omega arith) (omega arith)) i

module _ (f : Filling) (stands : Stands f) (vs : List PlainValue) where
  row-back : (i : ℕ) → i < length vs → patched (map int (map pos (patched_rows f vs))) (map (row_at vs) (patched_rows f vs)) f.fill (0 + i) ≡ row_at vs i
  row-back i l =
      let same : 0 + i ≡ i = omega arith in
      ap (patched (map int (map pos (patched_rows f vs))) (map (row_at vs) (patched_rows f vs)) f.fill) same ∙ patched-among (row_at vs) f.fill i (patched_rows f vs)
      ∙ ap (λ b. cond b (row_at vs i) f.fill) (among-filter (λ k. f.patched (row_at vs k)) 0 (length vs) i (omega arith) (omega arith))
      ∙ cond_both (f.patched (row_at vs i)) (row_at vs i) f.fill (λ v. v ≡ row_at vs i) (λ e. refl) (λ e. sym (stands (row_at vs i) e))

  pub rows-back : below (λ i. patched (map int (map pos (patched_rows f vs))) (map (row_at vs) (patched_rows f vs)) f.fill (0 + i)) (length vs) ≡ vs
  rows-back = by_rows _ 0 vs (λ i k e l. let same : i ≡ k = omega arith in row-back i (omega arith) ∙ ap (row_at vs) same)

-- ---- the patches are admitted

pub patched_rows-ascend : (f : Filling) (vs : List PlainValue) → ascend 0 (0 + length vs) (map int (map pos (patched_rows f vs))) ≡ true
patched_rows-ascend f vs = filter-ascends (λ i. f.patched (row_at vs i)) 0 (length vs) (0 + length vs) (omega arith)

pub patched_rows-under : (f : Filling) (vs : List PlainValue) (high : ℕ) → length vs ≤ high → ascend 0 high (map int (map pos (patched_rows f vs))) ≡ true
patched_rows-under f vs high few = filter-ascends (λ i. f.patched (row_at vs i)) 0 (length vs) high (omega arith)

-- ---- the sparse tree stands for the column

-- trees of the patches of a column
pub record ArePatches (f : Filling) (c : Column) (indices values : Tree) : Type 0 where
  pub indices_type : is_integer (tree_type indices) ≡ true
  pub not_null : is_nullable (tree_type indices) ≡ false
  pub row_numbers : rows indices ≡ map int (map pos (patched_rows f c.values))
  pub patch_column : column_of values ≡ patch_values f c

module _ (f : Filling) (c : Column) (indices values : Tree) (h : ArePatches f c indices values) where
  value_rows : rows values ≡ map (row_at c.values) (patched_rows f c.values)
  value_rows = ap (λ d. d.values) h.patch_column

  pub patches-fit : IsPatches (length c.values) 0 indices values
  patches-fit = record {
    indices_type = h.indices_type;
    not_null = h.not_null;
    lengths = (λ i. length (h.row_numbers i)) ∙ length-map (map pos (patched_rows f c.values)) int ∙ length-map (patched_rows f c.values) pos ∙ sym (length-map (patched_rows f c.values) (row_at c.values)) ∙ sym (ap length value_rows);
    ascending = ap (ascend 0 (0 + length c.values)) h.row_numbers ∙ patched_rows-ascend f c.values;
  }

  pub filled-admitted : sparse_refusal (patches (length c.values) 0 indices values) (scalar c.dtype f.fill) ≡ None
  filled-admitted = let t : tree_type values ≡ c.dtype = ap (λ d. d.dtype) h.patch_column in rw (same_refl stored_type (tree_type values) c.dtype t) refl

  pub filled-column : Stands f → column_of (filled_over f c indices values) ≡ c
  filled-column stands = λ i. column c.dtype (((λ j. below (λ k. patched (h.row_numbers j) (value_rows j) f.fill (0 + k)) (length c.values)) ∙ rows-back f stands c.values) i)

  pub filled-well : fits c.dtype f.fill ≡ true → WellFormed indices → WellFormed values → WellFormed (filled_over f c indices values)
  filled-well fitting wi wv = sparse_accepted (patches (length c.values) 0 indices values) (scalar c.dtype f.fill) filled-admitted fitting (wi, wv, patches-fit, tt)
