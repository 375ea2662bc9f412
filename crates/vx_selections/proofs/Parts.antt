-- The rows of a range: under a function, with masks, their number, and as one gathered range.
use Rattle.std.proofs.Common.{◌≡◌, ◌-◌, ◌++◌, ℕ, zero, suc, Bool, true, List, [], ◌∷◌, map, length, take, drop, refl, sym, ap, arith, ◌∙◌}
use Rattle.std.specs.List.{list_all}
use Rattle.std.proofs.lemmas.Bool.{and_parts}
use Rattle.std.proofs.lemmas.List.{append-nil, take-map, drop-map, length-take, length-drop}
use Rattle.std.proofs.lemmas.List.Folds.{list_all-append}
use Rattle.vx_base.specs.Gathered.{gathered}
use Rattle.vx_base.specs.Masks.{rows_between}
use Rattle.vx_base.specs.PlainValue.{PlainValue}
use Rattle.vx_model.specs.Rows.{masked_rows}
use Rattle.vx_model.proofs.GatheredLemmas.{all-gathered}

pub one_range : {A : Type 0} (start end : ℕ) (xs : List A) → gathered ((start, end) ∷ []) xs ≡ rows_between xs start end
one_range start end xs = append-nil (rows_between xs start end)

pub map-between : {A B : Type 0} (f : A → B) (start end : ℕ) (xs : List A) → map f (rows_between xs start end) ≡ rows_between (map f xs) start end
map-between f start end xs = simp (take-map, drop-map)

take-masked : (n : ℕ) (own : List Bool) (rs : List PlainValue) → take n (masked_rows own rs) ≡ masked_rows (take n own) (take n rs)
take-masked zero own rs = refl
take-masked (suc n) [] rs = refl
take-masked (suc n) (o ∷ own) [] = refl
take-masked (suc n) (o ∷ own) (r ∷ rs) = ap (λ ys. masked_rows (o ∷ []) (r ∷ []) ++ ys) (take-masked n own rs)

drop-masked : (n : ℕ) (own : List Bool) (rs : List PlainValue) → length own ≡ length rs → drop n (masked_rows own rs) ≡ masked_rows (drop n own) (drop n rs)
drop-masked zero own rs l = refl
drop-masked (suc n) [] [] l = refl
drop-masked (suc n) [] (r ∷ rs) l = absurd (omega arith)
drop-masked (suc n) (o ∷ own) [] l = absurd (omega arith)
drop-masked (suc n) (o ∷ own) (r ∷ rs) l = drop-masked n own rs (omega arith)

pub between-masked : (start end : ℕ) (own : List Bool) (rs : List PlainValue) → length own ≡ length rs → rows_between (masked_rows own rs) start end ≡ masked_rows (rows_between own start end) (rows_between rs start end)
between-masked start end own rs l = ap (take (end - start)) (drop-masked start own rs l) ∙ take-masked (end - start) (drop start own) (drop start rs)

pub between-lengths : {A B : Type 0} (start end : ℕ) (xs : List A) (ys : List B) → length xs ≡ length ys → length (rows_between xs start end) ≡ length (rows_between ys start end)
between-lengths start end xs ys l =
    let a = length-take (end - start) (drop start xs) in
    let b = length-take (end - start) (drop start ys) in
    let c = length-drop start xs in
    let d = length-drop start ys in
    omega (arith, a, b, c, d)

pub all-between : {A : Type 0} (test : A → Bool) (start end : ℕ) (xs : List A) → list_all test xs ≡ true → list_all test (rows_between xs start end) ≡ true
all-between test start end xs h =
    let one = all-gathered test ((start, end) ∷ []) xs h in
    (and_parts (list_all test (rows_between xs start end)) true (sym (list_all-append test (rows_between xs start end) []) ∙ one)).0
