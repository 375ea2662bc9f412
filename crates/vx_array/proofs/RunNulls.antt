-- Which rows are null in sparse nodes and runs in blocks.
use Rattle.std.proofs.Common.{◌≡◌, ◌<◌, ◌+◌, ◌-◌, ◌∙◌, ℕ, List, length, refl, ap, sym, arith, Bool, true, false, cond, Option, Some, None}
use Rattle.std.specs.Prelude.{nat_lt, position, ◌&&◌, ◌||◌}
use Rattle.std.specs.List.{list_any, position_or_len}
use Rattle.std.proofs.lemmas.Bool.{lt-ltb, ltb-true, true≢false}
use Rattle.vx_base.specs.PlainScalar.{PlainScalar}
use Rattle.vx_base.specs.PlainValue.{PlainValue, is_null}
use Rattle.vx_model.specs.Rows.{rows, row_at, index_of, is_index, place_of, patched}
use Rattle.vx_model.specs.Tree.{Tree, PlainPatches, sparse_of, rle}
use Rattle.vx_model.specs.WellFormed.{WellFormed, IsPatches}
use Rattle.vx_model.proofs.PatchLemmas.{ascend-within, ascend-index}
use Rattle.vx_model.proofs.PatchedLemmas.{patched-place, patched-fill}
use Rattle.vx_model.proofs.RleLemmas.{length-rle, row_at-rle, rle-some}
use Rattle.vx_model.proofs.SparseLemmas.{patched-found, length-sparse_of, row_at-sparse_of}
use Rattle.vx_array.proofs.Holes.{hole-few, unpatched, few-hole}
use Rattle.vx_array.proofs.RunTests.{row-found, row-some, both_ways}

position-within : (test : PlainValue → Bool) (vs : List PlainValue) (place : ℕ) → position test vs ≡ Some place → place < length vs
position-within test vs place e = pick (nat_lt (position_or_len test vs) (length vs)) refl e
  where
    pick : (b : Bool) → nat_lt (position_or_len test vs) (length vs) ≡ b → cond b (Some (position_or_len test vs)) None ≡ Some place → place < length vs
    pick true f e = let same : position_or_len test vs ≡ place = cc in let l = ltb-true _ _ f in omega arith
    pick false f e = absurd cc

-- ---- node by node

module _ (p : PlainPatches) (fill : PlainScalar) (h : IsPatches p.array_len p.offset p.indices p.values) where
  abbrev row_of : ℕ → PlainValue
  row_of i = patched (rows p.indices) (rows p.values) fill.value (p.offset + i)

  abbrev some_null : Bool
  some_null = list_any is_null (rows p.values) || (is_null fill.value && nat_lt 0 (p.array_len - length (rows p.values)))

  length-own : length (rows (sparse_of p fill)) ≡ p.array_len
  length-own = length-sparse_of p fill

  row-own : (i : ℕ) → i < p.array_len → row_at (rows (sparse_of p fill)) i ≡ row_of i
  row-own i l = row_at-sparse_of p fill i l

  last : (b : Bool) → (b || true) ≡ true
  last true = refl
  last false = refl

  by_row : (i : ℕ) → i < p.array_len → is_null (row_of i) ≡ true → some_null ≡ true
  by_row i l e = pick (place_of (rows p.indices) (p.offset + i)) refl
    where
      pick : (o : Option ℕ) → place_of (rows p.indices) (p.offset + i) ≡ o → some_null ≡ true
      pick (Some place) f =
          let own = patched-place (rows p.indices) (rows p.values) fill.value (p.offset + i) place h.lengths f in
          let within = position-within (λ v. is_index v (p.offset + i)) (rows p.indices) place f in
          let any = row-found is_null (rows p.values) place (let same = h.lengths in omega arith) (sym (ap is_null own) ∙ e) in
          rw any refl
      pick None f =
          let own = patched-fill (rows p.indices) (rows p.values) fill.value (p.offset + i) f in
          let null_fill = sym (ap is_null own) ∙ e in
          let few = hole-few p.offset (p.offset + p.array_len) (rows p.indices) (p.offset + i) h.ascending (omega arith) (omega arith) (unpatched p.offset (p.offset + p.array_len) (rows p.indices) (p.offset + i) h.ascending f) in
          let left = lt-ltb 0 (p.array_len - length (rows p.values)) (let same = h.lengths in omega arith) in
          rw (null_fill, left) (last (list_any is_null (rows p.values)))

  of_patch : (j : ℕ) → j < length (rows p.values) → is_null (row_at (rows p.values) j) ≡ true → list_any is_null (rows (sparse_of p fill)) ≡ true
  of_patch j l e = pick (index_of (row_at (rows p.indices) j)) refl
    where
      here : j < length (rows p.indices)
      here = let same = h.lengths in omega arith

      pick : (o : Option ℕ) → index_of (row_at (rows p.indices) j) ≡ o → list_any is_null (rows (sparse_of p fill)) ≡ true
      pick None f = absurd (ascend-index p.offset (p.offset + p.array_len) (rows p.indices) j h.ascending here f)
      pick (Some n) f =
          let b = ascend-within p.offset (p.offset + p.array_len) (rows p.indices) j n h.ascending here f in
          let from = b.0 in
          let before = b.1 in
          let same : p.offset + (n - p.offset) ≡ n = omega arith in
          let own = patched-found p.offset (p.offset + p.array_len) (rows p.indices) (rows p.values) fill.value n j h.ascending h.lengths here f in
          row-found is_null (rows (sparse_of p fill)) (n - p.offset) (let len = length-own in omega arith) (ap is_null (row-own (n - p.offset) (omega arith) ∙ ap (patched (rows p.indices) (rows p.values) fill.value) same ∙ own) ∙ e)

  of_fill : is_null fill.value ≡ true → 0 < p.array_len - length (rows p.values) → list_any is_null (rows (sparse_of p fill)) ≡ true
  of_fill e l =
      let hole = few-hole p.offset (p.offset + p.array_len) (rows p.indices) h.ascending (let same = h.lengths in omega arith) in
      let from = hole.from in
      let before = hole.before in
      let same : p.offset + (hole.number - p.offset) ≡ hole.number = omega arith in
      row-found is_null (rows (sparse_of p fill)) (hole.number - p.offset) (let len = length-own in omega arith)
      (ap is_null (row-own (hole.number - p.offset) (omega arith) ∙ ap (patched (rows p.indices) (rows p.values) fill.value) same ∙ hole.filled (rows p.values) fill.value) ∙ e)

  pub any_null-sparse : list_any is_null (rows (sparse_of p fill)) ≡ some_null
  any_null-sparse = both_ways _ _ there back
    where
      there : list_any is_null (rows (sparse_of p fill)) ≡ true → some_null ≡ true
      there e =
          let s = row-some is_null (rows (sparse_of p fill)) e in
          let l : s.place < p.array_len = let own = length-own in let w = s.within in omega arith in
          by_row s.place l (sym (ap is_null (row-own s.place l)) ∙ s.is_so)

      back : some_null ≡ true → list_any is_null (rows (sparse_of p fill)) ≡ true
      back e = pick (list_any is_null (rows p.values)) (is_null fill.value) (nat_lt 0 (p.array_len - length (rows p.values))) refl refl refl e
        where
          pick : (a b c : Bool) → list_any is_null (rows p.values) ≡ a → is_null fill.value ≡ b → nat_lt 0 (p.array_len - length (rows p.values)) ≡ c → (a || (b && c)) ≡ true → list_any is_null (rows (sparse_of p fill)) ≡ true
          pick true b c f g k q = let s = row-some is_null (rows p.values) f in of_patch s.place s.within s.is_so
          pick false true true f g k q = of_fill g (ltb-true 0 _ k)
          pick false true false f g k q = absurd cc
          pick false false c f g k q = absurd cc

-- a row is null only where a value is
pub no_null-rle : (values indices offsets : Tree) (len : ℕ) → WellFormed (rle values indices offsets len) → list_any is_null (rows values) ≡ false → list_any is_null (rows (rle values indices offsets len)) ≡ false
no_null-rle values indices offsets len h none = pick (list_any is_null (rows (rle values indices offsets len))) refl
  where
    pick : (b : Bool) → list_any is_null (rows (rle values indices offsets len)) ≡ b → list_any is_null (rows (rle values indices offsets len)) ≡ false
    pick false e = e
    pick true e =
        let s = row-some is_null (rows (rle values indices offsets len)) e in
        let l : s.place < len = let own = length-rle values indices offsets len in let w = s.within in omega arith in
        let v = rle-some (rows values) (rows offsets) (rows indices) len s.place h.3.places l in
        absurd (true≢false (sym (row-found is_null (rows values) v.place v.within (sym (ap is_null (row_at-rle values indices offsets len s.place l ∙ v.is)) ∙ s.is_so)) ∙ none))
