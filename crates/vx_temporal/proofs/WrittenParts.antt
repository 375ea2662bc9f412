-- Lists that are written over row by row, and appended block by block.
use Rattle.std.proofs.Common.{◌≡◌, ◌∙◌, ◌<◌, ◌≤◌, ◌+◌, ◌-◌, ℕ, zero, suc, ℤ, pos, min, Bool, true, false, List, [], ◌∷◌, ◌++◌, length, map, take, drop, set, get_or, refl, sym, ap, subst, None, Ok, arith, if◌then◌else◌}
use Rattle.std.specs.Prelude.{int_lt, ◌&&◌}
use Rattle.std.specs.List.{list_all}
use Rattle.std.proofs.lemmas.Bool.{and_from, and_parts}
use Rattle.std.proofs.lemmas.List.{length-drop, length-take-le, map_more, map-append, take_all, take-append-drop, take_min, take_more_set}
use Rattle.std.proofs.lemmas.List.Folds.{list_all-append, list_all_more}
use Rattle.std.proofs.Math.Seq.{take-add}
use Rattle.vx_base.specs.Answers.{SurelyDecided, unless}
use Rattle.vx_base.specs.declared.error.VortexError.{VortexError}
use Rattle.vx_temporal.specs.SplitRows.{finer}

-- ---- row by row

-- a row more is written
pub written-next : (f : ℤ → ℤ) (ts xs : List ℤ) (i : ℕ) (x : ℤ) → i < length ts → length ts ≤ length xs → x ≡ f (get_or ts i (pos 0)) → take i xs ≡ map f (take i ts) → take (i + 1) (set xs i x) ≡ map f (take (i + 1) ts)
written-next f ts xs i x lt room made before =
    take_more_set xs i x (omega arith) ∙ (λ j. before j ++ made j ∷ []) ∙ sym (map_more f ts i (pos 0) lt)

-- a row more passes
pub passes-next : (p : ℤ → Bool) (ts : List ℤ) (i : ℕ) → i < length ts → p (get_or ts i (pos 0)) ≡ true → list_all p (take i ts) ≡ true → list_all p (take (i + 1) ts) ≡ true
passes-next p ts i lt held before = list_all_more p ts i (pos 0) lt ∙ and_from _ _ before held

-- a row of those that pass
pub holds-at : (p : ℤ → Bool) (ts : List ℤ) (i : ℕ) → list_all p ts ≡ true → i < length ts → p (get_or ts i (pos 0)) ≡ true
holds-at p [] i h lt = absurd (omega arith)
holds-at p (t ∷ ts) zero h lt = (and_parts (p t) (list_all p ts) h).0
holds-at p (t ∷ ts) (suc i) h lt = holds-at p ts i (and_parts (p t) (list_all p ts) h).1 (omega arith)

-- all rows are written, and pass
pub written-all : (f : ℤ → ℤ) (ts xs : List ℤ) (i : ℕ) → i ≡ length ts → take i xs ≡ map f (take i ts) → take (length ts) xs ≡ map f ts
written-all f ts xs i end e = subst (λ n. take n xs ≡ map f (take n ts)) end e ∙ ap (map f) (take_all (length ts) ts (omega arith))

pub passes-all : (p : ℤ → Bool) (ts : List ℤ) (i : ℕ) → length ts ≤ i → list_all p (take i ts) ≡ true → list_all p ts ≡ true
passes-all p ts i end e = sym (ap (list_all p) (take_all i ts end)) ∙ e

-- what an answer tells of its test
pub decided-ok : {A : Type 0} (b : Bool) (e : VortexError) (P : A → Type 0) (x : A) → SurelyDecided (unless b e None) P (Ok x) → (b ≡ true) × P x
decided-ok true e P x h = (refl, h)
decided-ok false e P x h = absurd h

-- ---- block by block: n rows from a on, up to k

module _ (ts : List ℤ) (a n k : ℕ) (few : n ≡ min (length ts - a) 1024) (on : k ≡ a + 1024) (before : a ≤ length ts) where
  abbrev pub block : List ℤ
  block = take (a + n - a) (drop a ts)

  block-rows : take a ts ++ block ≡ take k ts
  block-rows =
      let own : a + n - a ≡ n = omega arith in
      let end : a + n ≡ min k (length ts) = omega (arith, few) in
      ap (λ m. take a ts ++ take m (drop a ts)) own ∙ sym (take-add a n ts) ∙ ap (λ m. take m ts) end ∙ take_min k ts

  -- the parts of a block more
  pub parts-next : (f : ℤ → ℤ) (done part : List ℤ) → done ≡ map f (take a ts) → part ≡ map f block → done ++ part ≡ map f (take k ts)
  parts-next f done part is more = (λ i. is i ++ more i) ∙ sym (map-append f (take a ts) block) ∙ ap (map f) block-rows

  pub finer-next : (d : ℤ) (f : ℤ → ℤ) (done part : List ℤ) → done ≡ finer d (map f (take a ts)) → part ≡ map f block → done ++ finer d part ≡ finer d (map f (take k ts))
  finer-next d f done part is more = ap (λ xs. xs ++ finer d part) is ∙ joined (int_lt (pos 1) d) (map f (take a ts)) part ∙ ap (finer d) (parts-next f (map f (take a ts)) part refl more)
    where
      joined : (b : Bool) (xs ys : List ℤ) → (if b then xs else []) ++ (if b then ys else []) ≡ (if b then xs ++ ys else [])
      joined true xs ys = refl
      joined false xs ys = refl

  pub block-passes : (p : ℤ → Bool) → list_all p (take a ts) ≡ true → list_all p block ≡ true → list_all p (take k ts) ≡ true
  block-passes p is more = sym (ap (list_all p) block-rows) ∙ list_all-append p (take a ts) block ∙ and_from _ _ is more

  block-long : length block ≡ n
  block-long = let own : a + n - a ≡ n = omega arith in ap (λ m. length (take m (drop a ts))) own ∙ length-take-le n (drop a ts) (omega (arith, few, length-drop a ts))

  -- the parts of a block stand in front
  pub block-written : (f : ℤ → ℤ) (xs : List ℤ) → take (length block) xs ≡ map f block → take n xs ≡ map f block
  block-written f xs is = ap (λ m. take m xs) (sym block-long) ∙ is

  -- what passes in all rows passes in a block
  pub block-all : (p : ℤ → Bool) → list_all p ts ≡ true → list_all p block ≡ true
  block-all p held =
      let first = (and_parts _ _ (sym (list_all-append p (take k ts) (drop k ts)) ∙ ap (list_all p) (take-append-drop k ts) ∙ held)).0 in
      (and_parts _ _ (sym (list_all-append p (take a ts) block) ∙ ap (list_all p) block-rows ∙ first)).1

  -- a block that fails
  pub block-fails : (p : ℤ → Bool) → list_all p block ≡ false → list_all p (take k ts) ≡ false
  block-fails p fails = sym (ap (list_all p) block-rows) ∙ list_all-append p (take a ts) block ∙ fails-right (list_all p (take a ts)) (list_all p block) fails
    where
      fails-right : (b c : Bool) → c ≡ false → (b && c) ≡ false
      fails-right true c e = e
      fails-right false c e = refl

-- where the first rows fail, all do
pub fails-all : (p : ℤ → Bool) (ts : List ℤ) (k : ℕ) → list_all p (take k ts) ≡ false → list_all p ts ≡ false
fails-all p ts k fails = sym (ap (list_all p) (take-append-drop k ts)) ∙ list_all-append p (take k ts) (drop k ts) ∙ ap (λ b. b && list_all p (drop k ts)) fails
