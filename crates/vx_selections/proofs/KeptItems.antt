-- The items whose bit is true: under a function, with masks, their number, and item by item.
use Rattle.std.proofs.Common.{◌≡◌, ◌<◌, ◌≤◌, ◌+◌, ◌++◌, ℕ, zero, suc, Bool, true, false, cond, List, [], ◌∷◌, map, length, take, refl, sym, ap, arith, ◌∙◌}
use Rattle.std.specs.Prelude.{slice_index_or}
use Rattle.std.specs.List.{list_all}
use Rattle.std.proofs.lemmas.Bool.{and_parts, and_from}
use Rattle.std.proofs.lemmas.List.{take_all}
use Rattle.vx_base.specs.PlainValue.{PlainValue}
use Rattle.vx_model.specs.Rows.{masked_rows}
use Rattle.vx_pieces.specs.Kept as pieces
use Rattle.vx_rules.specs.Selections.{kept_items}

-- the two words for them are one
pub same_items : {A : Type 0} (keep : List Bool) (xs : List A) → pieces.kept_items keep xs ≡ kept_items keep xs
same_items [] xs = refl
same_items (b ∷ keep) [] = refl
same_items (b ∷ keep) (x ∷ xs) = ap (λ ys. cond b (x ∷ ys) ys) (same_items keep xs)

pub map-kept : {A B : Type 0} (f : A → B) (keep : List Bool) (xs : List A) → map f (kept_items keep xs) ≡ kept_items keep (map f xs)
map-kept f [] xs = refl
map-kept f (b ∷ keep) [] = refl
map-kept f (true ∷ keep) (x ∷ xs) = ap (λ ys. f x ∷ ys) (map-kept f keep xs)
map-kept f (false ∷ keep) (x ∷ xs) = map-kept f keep xs

pub kept-masked : (keep own : List Bool) (rs : List PlainValue) → length own ≡ length rs → kept_items keep (masked_rows own rs) ≡ masked_rows (kept_items keep own) (kept_items keep rs)
kept-masked [] own rs l = refl
kept-masked (b ∷ keep) [] [] l = refl
kept-masked (b ∷ keep) [] (r ∷ rs) l = absurd (omega arith)
kept-masked (b ∷ keep) (o ∷ own) [] l = absurd (omega arith)
kept-masked (true ∷ keep) (o ∷ own) (r ∷ rs) l = ap (λ ys. masked_rows (o ∷ []) (r ∷ []) ++ ys) (kept-masked keep own rs (omega arith))
kept-masked (false ∷ keep) (o ∷ own) (r ∷ rs) l = kept-masked keep own rs (omega arith)

pub kept-lengths : {A B : Type 0} (keep : List Bool) (xs : List A) (ys : List B) → length xs ≡ length ys → length (kept_items keep xs) ≡ length (kept_items keep ys)
kept-lengths [] xs ys l = refl
kept-lengths (b ∷ keep) [] [] l = refl
kept-lengths (b ∷ keep) [] (y ∷ ys) l = absurd (omega arith)
kept-lengths (b ∷ keep) (x ∷ xs) [] l = absurd (omega arith)
kept-lengths (true ∷ keep) (x ∷ xs) (y ∷ ys) l = ap suc (kept-lengths keep xs ys (omega arith))
kept-lengths (false ∷ keep) (x ∷ xs) (y ∷ ys) l = kept-lengths keep xs ys (omega arith)

pub all-kept : {A : Type 0} (p : A → Bool) (keep : List Bool) (xs : List A) → list_all p xs ≡ true → list_all p (kept_items keep xs) ≡ true
all-kept p [] xs h = refl
all-kept p (b ∷ keep) [] h = refl
all-kept p (true ∷ keep) (x ∷ xs) h = let a = and_parts (p x) (list_all p xs) h in and_from _ _ a.0 (all-kept p keep xs a.1)
all-kept p (false ∷ keep) (x ∷ xs) h = all-kept p keep xs (and_parts (p x) (list_all p xs) h).1

-- ---- item by item

kept-step : {A : Type 0} (keep : List Bool) (xs : List A) (row : ℕ) (other : A) → row < length keep → length keep ≡ length xs
    → kept_items (take (suc row) keep) xs ≡ cond (slice_index_or keep row false) (kept_items (take row keep) xs ++ slice_index_or xs row other ∷ []) (kept_items (take row keep) xs)
kept-step [] xs row other l e = absurd (omega arith)
kept-step (b ∷ keep) [] row other l e = absurd (omega arith)
kept-step (true ∷ keep) (x ∷ xs) zero other l e = refl
kept-step (false ∷ keep) (x ∷ xs) zero other l e = refl
kept-step {A} (true ∷ keep) (x ∷ xs) (suc row) other l e = ap (λ ys. x ∷ ys) (kept-step keep xs row other (omega arith) (omega arith)) ∙ inside (slice_index_or keep row false)
  where
    inside : (c : Bool) → x ∷ cond c (kept_items (take row keep) xs ++ slice_index_or xs row other ∷ []) (kept_items (take row keep) xs) ≡ cond c (x ∷ kept_items (take row keep) xs ++ slice_index_or xs row other ∷ []) (x ∷ kept_items (take row keep) xs)
    inside true = refl
    inside false = refl
kept-step (false ∷ keep) (x ∷ xs) (suc row) other l e = kept-step keep xs row other (omega arith) (omega arith)

-- the next item is kept where its bit is true
pub kept-next : {A : Type 0} (keep : List Bool) (xs : List A) (row : ℕ) (x : A) → row < length keep → length keep ≡ length xs → x ≡ slice_index_or xs row x
    → kept_items (take (row + 1) keep) xs ≡ cond (slice_index_or keep row false) (kept_items (take row keep) xs ++ x ∷ []) (kept_items (take row keep) xs)
kept-next keep xs row x l e h =
    let next : row + 1 ≡ suc row = omega arith in
    ap (λ n. kept_items (take n keep) xs) next ∙ kept-step keep xs row x l e
    ∙ ap (λ y. cond (slice_index_or keep row false) (kept_items (take row keep) xs ++ y ∷ []) (kept_items (take row keep) xs)) (sym h)

-- past the last row
pub kept-end : {A : Type 0} (keep : List Bool) (xs : List A) (row : ℕ) → length keep ≤ row → kept_items (take row keep) xs ≡ kept_items keep xs
kept-end keep xs row l = ap (λ bits. kept_items bits xs) (take_all row keep l)

-- none of none
pub kept-none : {A : Type 0} (keep : List Bool) (xs : List A) → length xs ≡ 0 → kept_items keep xs ≡ []
kept-none [] xs e = refl
kept-none (b ∷ keep) [] e = refl
kept-none (b ∷ keep) (x ∷ xs) e = absurd (omega arith)

pub ruleset keeping = (kept-next, kept-end, kept-none)
