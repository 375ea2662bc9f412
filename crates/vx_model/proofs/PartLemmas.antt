-- Parts of a list, cut at offsets or of one size: each passes a test that the list passes, and concatenated they are the list.
use Rattle.std.proofs.Common.{◌≡◌, ◌<◌, ◌≤◌, ◌+◌, ◌-◌, ◌*◌, ◌++◌, ◌∙◌, ℕ, zero, suc, List, [], ◌∷◌, length, map, take, drop, refl, sym, ap, true, arith, zero-add, Bool}
use Rattle.std.specs.Prelude.{slice_index_or, ◌==◌}
use Rattle.std.specs.List.{list_all, range_with_len}
use Rattle.std.proofs.Math.Seq.{take-add}
use Rattle.std.proofs.Math.Nat.{suc-mul, zero-mul}
use Rattle.std.proofs.lemmas.Bool.{and_parts, and_from, eq-eqb}
use Rattle.std.proofs.lemmas.List.{drop-drop, length-take-le, length-drop, take-append-drop, take_all}
use Rattle.vx_base.specs.Masks.{rows_between}
use Rattle.vx_base.specs.PlainValue.{PlainValue}
use Rattle.vx_model.specs.Nested.{concatenated}
use Rattle.vx_model.specs.Rows.{offset_at, cut_at, parts_of}
use Rattle.vx_model.specs.WellFormed.{are_offsets}
use Rattle.vx_model.proofs.OffsetLemmas.{offset_step, ends_of}
use Rattle.vx_model.proofs.VarBinLemmas.{piece}

-- ---- what each item passes

module _ {A : Type 0} (p : A → Bool) where
  take-passes : (n : ℕ) (xs : List A) → list_all p xs ≡ true → list_all p (take n xs) ≡ true
  take-passes zero xs h = refl
  take-passes (suc n) [] h = refl
  take-passes (suc n) (x ∷ xs) h = let b = and_parts (p x) (list_all p xs) h in and_from _ _ b.0 (take-passes n xs b.1)

  drop-passes : (n : ℕ) (xs : List A) → list_all p xs ≡ true → list_all p (drop n xs) ≡ true
  drop-passes zero xs h = h
  drop-passes (suc n) [] h = refl
  drop-passes (suc n) (x ∷ xs) h = drop-passes n xs (and_parts (p x) (list_all p xs) h).1

  each_passes : {B : Type 0} (q : B → Bool) (f : ℕ → B) (start n : ℕ) → ((i : ℕ) → q (f i) ≡ true) → list_all q (map f (range_with_len start n)) ≡ true
  each_passes q f start zero h = refl
  each_passes q f start (suc n) h = and_from _ _ (h start) (each_passes q f (start + 1) n h)

  pub cut_at-passes : (offsets : List PlainValue) (all : List A) → list_all p all ≡ true → list_all (list_all p) (cut_at offsets all) ≡ true
  cut_at-passes offsets all h =
      each_passes (list_all p) (piece offsets all) 0 (length offsets - 1)
      (λ i. take-passes (offset_at offsets (i + 1) - offset_at offsets i) (drop (offset_at offsets i) all) (drop-passes (offset_at offsets i) all h))

  pub parts_of-passes : (size len : ℕ) (xs : List A) → list_all p xs ≡ true → list_all (list_all p) (parts_of size len xs) ≡ true
  parts_of-passes size zero xs h = refl
  parts_of-passes size (suc len) xs h = and_from _ _ (take-passes size xs h) (parts_of-passes size len (drop size xs) (drop-passes size xs h))

-- ---- parts of one size

pub length-parts_of : {A : Type 0} (size len : ℕ) (xs : List A) → length (parts_of size len xs) ≡ len
length-parts_of size zero xs = refl
length-parts_of size (suc len) xs = let rest = length-parts_of size len (drop size xs) in omega arith

pub parts_of-at : {A : Type 0} (size len : ℕ) (xs : List A) (i : ℕ) → i < len → slice_index_or (parts_of size len xs) i [] ≡ take size (drop (i * size) xs)
parts_of-at size zero xs i l = absurd (omega arith)
parts_of-at size (suc len) xs zero l = ap (λ k. take size (drop k xs)) (sym (zero-mul size))
parts_of-at size (suc len) xs (suc i) l =
    let place : size + i * size ≡ suc i * size = omega (arith, suc-mul i size) in
    parts_of-at size len (drop size xs) i (omega arith) ∙ ap (take size) (drop-drop (i * size) size xs ∙ ap (λ k. drop k xs) place)

pub parts_of-sized : {A : Type 0} (size len : ℕ) (xs : List A) → length xs ≡ len * size → list_all (λ part. length part == size) (parts_of size len xs) ≡ true
parts_of-sized size zero xs e = refl
parts_of-sized size (suc len) xs e =
    let both = suc-mul len size in
    let left = length-drop size xs in
    and_from _ _ (eq-eqb _ _ (length-take-le size xs (omega arith))) (parts_of-sized size len (drop size xs) (omega arith))

pub concatenated-parts_of : {A : Type 0} (size len : ℕ) (xs : List A) → length xs ≡ len * size → concatenated (parts_of size len xs) ≡ xs
concatenated-parts_of size zero [] e = refl
concatenated-parts_of size zero (x ∷ xs) e = absurd (omega arith)
concatenated-parts_of size (suc len) xs e =
    let both = suc-mul len size in
    let left = length-drop size xs in
    ap (λ ys. take size xs ++ ys) (concatenated-parts_of size len (drop size xs) (omega arith)) ∙ take-append-drop size xs

-- ---- parts cut by offsets

next_between : {A : Type 0} (xs : List A) (a b c : ℕ) → a ≤ b → b ≤ c → rows_between xs a b ++ rows_between xs b c ≡ rows_between xs a c
next_between xs a b c l m =
    let whole : (b - a) + (c - b) ≡ c - a = omega arith in
    let behind : a + (b - a) ≡ b = omega arith in
    ap (λ ys. rows_between xs a b ++ take (c - b) ys) (sym (drop-drop (b - a) a xs ∙ ap (λ k. drop k xs) behind))
    ∙ sym (take-add (b - a) (c - b) (drop a xs)) ∙ ap (λ k. take k (drop a xs)) whole

module _ {A : Type 0} (offsets : List PlainValue) (all : List A) (h : are_offsets (length all) offsets ≡ true) where
  rises_to : (start n : ℕ) → start + n < length offsets → offset_at offsets start ≤ offset_at offsets (start + n)
  rises_to start zero l = let same : start + 0 ≡ start = omega arith in omega (arith, ap (offset_at offsets) same)
  rises_to start (suc n) l =
      let one = offset_step (length all) offsets start h (omega arith) in
      let rest = rises_to (start + 1) n (omega arith) in
      let same : start + 1 + n ≡ start + suc n = omega arith in
      omega (arith, one.rising, ap (offset_at offsets) same)

  joined_from : (start n : ℕ) → start + n < length offsets → concatenated (map (piece offsets all) (range_with_len start n)) ≡ rows_between all (offset_at offsets start) (offset_at offsets (start + n))
  joined_from start zero l =
      let none : offset_at offsets (start + 0) - offset_at offsets start ≡ 0 = let same : start + 0 ≡ start = omega arith in omega (arith, ap (offset_at offsets) same) in
      ap (λ k. take k (drop (offset_at offsets start) all)) (sym none)
  joined_from start (suc n) l =
      let one = offset_step (length all) offsets start h (omega arith) in
      let same : start + 1 + n ≡ start + suc n = omega arith in
      ap (λ ys. piece offsets all start ++ ys) (joined_from (start + 1) n (omega arith))
      ∙ next_between all (offset_at offsets start) (offset_at offsets (start + 1)) (offset_at offsets (start + 1 + n)) one.rising (rises_to (start + 1) n (omega arith))
      ∙ ap (λ k. rows_between all (offset_at offsets start) (offset_at offsets k)) same

  pub concatenated-cut_at : 1 ≤ length offsets → concatenated (cut_at offsets all) ≡ all
  concatenated-cut_at some =
      let ends = ends_of (length all) offsets h in
      let whole : length all - 0 ≡ length all = omega arith in
      joined_from 0 (length offsets - 1) (omega arith) ∙ (λ i. rows_between all (ends.0 i) (offset_at offsets (zero-add (length offsets - 1) i)))
      ∙ ap (λ k. rows_between all 0 k) ends.1 ∙ ap (λ k. take k all) whole ∙ take_all (length all) all (omega arith)
