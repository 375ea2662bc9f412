-- Answers on the items of lists, which grow by a block of 1,024 rows at a time.
use Rattle.std.proofs.Common.{◌≡◌, ◌∙◌, ℕ, ◌+◌, ◌-◌, ◌≤◌, min, List, [], ◌∷◌, ◌++◌, length, map, take, drop, replicate, refl, sym, ap, arith}
use Rattle.std.proofs.lemmas.List.{append-nil, drop_all, length-append, length-drop, length-map, length-replicate, length-take-le, map-append, take_all, take_min}
use Rattle.std.proofs.Math.Seq.{drop-append_seam, take-add, take-append_seam}
use Rattle.vx_rows.specs.Pairs.{each_pair}
use Rattle.vx_rows.proofs.PairLemmas.{length-each_pair}

-- a vector that grows by a block, which is written over
pub block-written : {B : Type 0} (done grown part rest : List B) (zero : B) (start n more all : ℕ) → start ≡ length done → grown ≡ take (start + n) done ++ replicate more zero → more ≡ n → length part ≡ n → all ≡ start + n
    → take all ((take start grown ++ (part ++ drop (length part) (drop start grown))) ++ rest) ≡ done ++ part
block-written done grown part rest zero start n more all at is few same end =
    let fill = replicate more zero in
    let size : length fill ≡ more = length-replicate more zero in
    let whole : grown ≡ done ++ fill = is ∙ ap (λ xs. xs ++ fill) (take_all (start + n) done (omega arith)) in
    let none : drop (length part) fill ≡ [] = drop_all (length part) fill (omega arith) in
    let long : all ≡ length (done ++ part) = omega (arith, length-append done part) in
    rw (whole, at, take-append_seam done fill, drop-append_seam done fill, none, append-nil part, long) (take-append_seam (done ++ part) rest)

-- the rows of a block: n from a on, up to k
abbrev pub block_of : {X : Type 0} → ℕ → ℕ → List X → List X
block_of a n xs = take (a + n - a) (drop a xs)

module _ {X : Type 0} (xs : List X) (a n k : ℕ) (few : n ≡ min (length xs - a) 1024) (on : k ≡ a + 1024) (before : a ≤ length xs) where
  pub block-rows : take a xs ++ block_of a n xs ≡ take k xs
  block-rows =
      let own : a + n - a ≡ n = omega arith in
      let end : a + n ≡ min k (length xs) = omega (arith, few) in
      ap (λ m. take a xs ++ take m (drop a xs)) own ∙ sym (take-add a n xs) ∙ ap (λ m. take m xs) end ∙ take_min k xs

  pub block-long : length (block_of a n xs) ≡ n
  block-long = let own : a + n - a ≡ n = omega arith in ap (λ m. length (take m (drop a xs))) own ∙ length-take-le n (drop a xs) (omega (arith, few, length-drop a xs))

-- f of h of each item
module _ {X A B : Type 0} (f : A → B) (h : X → A) where
  pub answers-long : (xs : List X) (made : List B) → made ≡ map f (map h xs) → length made ≡ length xs
  answers-long xs made is = ap length is ∙ length-map (map h xs) f ∙ length-map xs h

  -- the answers on some items more
  pub answers-next : (xs ys zs : List X) (done part : List B) → xs ++ ys ≡ zs → done ≡ map f (map h xs) → part ≡ map f (map h ys) → done ++ part ≡ map f (map h zs)
  answers-next xs ys zs done part all is more = (λ i. is i ++ more i) ∙ sym (map-append f (map h xs) (map h ys)) ∙ ap (map f) (sym (map-append h xs ys)) ∙ ap (λ l. map f (map h l)) all

-- f of h of the items of two lists
pairs-append : {A C B : Type 0} (f : A → C → B) (xs more : List A) (ys others : List C) → length xs ≡ length ys → each_pair f (xs ++ more) (ys ++ others) ≡ each_pair f xs ys ++ each_pair f more others
pairs-append f [] more [] others e = refl
pairs-append f [] more (y ∷ ys) others e = absurd (omega arith)
pairs-append f (x ∷ xs) more [] others e = absurd (omega arith)
pairs-append f (x ∷ xs) more (y ∷ ys) others e = ap (λ zs. f x y ∷ zs) (pairs-append f xs more ys others (omega arith))

module _ {X A B : Type 0} (f : A → A → B) (h : X → A) where
  pub pairs-long : (xs ys : List X) (made : List B) → length xs ≡ length ys → made ≡ each_pair f (map h xs) (map h ys) → length made ≡ length xs
  pairs-long xs ys made same is = ap length is ∙ length-each_pair f (map h xs) (map h ys) (length-map xs h ∙ same ∙ sym (length-map ys h)) ∙ length-map xs h

  -- the answers on some rows more
  pub pairs-next : (xs more all ys others whole : List X) (done part : List B) → length xs ≡ length ys → xs ++ more ≡ all → ys ++ others ≡ whole
      → done ≡ each_pair f (map h xs) (map h ys) → part ≡ each_pair f (map h more) (map h others) → done ++ part ≡ each_pair f (map h all) (map h whole)
  pairs-next xs more all ys others whole done part same left right is next =
      (λ i. is i ++ next i) ∙ sym (pairs-append f (map h xs) (map h more) (map h ys) (map h others) (length-map xs h ∙ same ∙ sym (length-map ys h)))
      ∙ (λ i. each_pair f (sym (map-append h xs more) i) (sym (map-append h ys others) i)) ∙ (λ i. each_pair f (map h (left i)) (map h (right i)))
