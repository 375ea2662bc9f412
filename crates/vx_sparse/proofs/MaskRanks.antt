-- The true bits before a row of a mask, and the items that a mask keeps, by their number.
use Rattle.std.proofs.Common.{◌≡◌, ◌<◌, ◌≤◌, ◌+◌, ◌-◌, ◌∙◌, ℕ, zero, suc, Bool, true, false, cond, List, [], ◌∷◌, length, take, drop, get_or, refl, sym, ap, arith, inl, inr}
use Rattle.std.proofs.lemmas.Bool.{cases_lt}
use Rattle.std.proofs.lemmas.List.{drop-take}
use Rattle.std.proofs.lemmas.List.Sums.{sum_by-cons, sum_by-take-le, sum_by-take-drop, count_by_more_yes}
use Rattle.vx_base.specs.Masks.{rank, true_count, rows_between}
use Rattle.vx_base.specs.PlainValue.{PlainValue, null}
use Rattle.vx_model.specs.Rows.{row_at}
use Rattle.vx_rules.specs.Selections.{kept_items}

-- ---- the true bits before a row

true-cons : (b : Bool) (bits : List Bool) → true_count (b ∷ bits) ≡ cond b 1 0 + true_count bits
true-cons b bits = sum_by-cons (λ x. cond x 1 0) b bits

-- the true rows before a row, and those from there on up to another one
pub rank-between : (keep : List Bool) (from row : ℕ) → from ≤ row → rank keep row ≡ rank keep from + true_count (rows_between keep from row)
rank-between keep from row l =
    let whole : from + (row - from) ≡ row = omega arith in
    let cut = sum_by-take-drop (λ x. cond x 1 0) (take row keep) from in
    let behind : drop from (take row keep) ≡ take (row - from) (drop from keep) = ap (λ n. drop from (take n keep)) (sym whole) ∙ drop-take from (row - from) keep in
    let before : take from (take row keep) ≡ take from keep = take-shorter from row keep l in
    let parts : true_count (take from keep) + true_count (take (row - from) (drop from keep)) ≡ true_count (take row keep) = (λ i. true_count (sym before i) + true_count (sym behind i)) ∙ cut in
    sym parts
  where
    take-shorter : (n m : ℕ) (xs : List Bool) → n ≤ m → take n (take m xs) ≡ take n xs
    take-shorter zero m xs l = refl
    take-shorter (suc n) zero xs l = absurd (omega arith)
    take-shorter (suc n) (suc m) [] l = refl
    take-shorter (suc n) (suc m) (x ∷ xs) l = ap (λ ys. x ∷ ys) (take-shorter n m xs (omega arith))

pub rank-rises : (keep : List Bool) (from row : ℕ) → from ≤ row → rank keep from ≤ rank keep row
rank-rises keep from row l = let e = rank-between keep from row l in omega arith

pub rank-most : (keep : List Bool) (row : ℕ) → rank keep row ≤ true_count keep
rank-most keep row = sum_by-take-le (λ x. cond x 1 0) keep row

-- past a kept row there is one more
pub rank-next : (keep : List Bool) (row : ℕ) → row < length keep → get_or keep row false ≡ true → rank keep (row + 1) ≡ rank keep row + 1
rank-next keep row l e = count_by_more_yes (λ b. b) keep row false l e

pub kept-below : (keep : List Bool) (row : ℕ) → get_or keep row false ≡ true → row < length keep
kept-below [] zero e = absurd cc
kept-below [] (suc row) e = absurd cc
kept-below (b ∷ keep) zero e = omega arith
kept-below (b ∷ keep) (suc row) e = let less = kept-below keep row e in omega arith

-- two kept rows with one rank are one row
pub rank-alone : (keep : List Bool) (row other : ℕ) → get_or keep row false ≡ true → get_or keep other false ≡ true → rank keep row ≡ rank keep other → row ≡ other
rank-alone keep row other h k e =
    elim (cases_lt row other) [
      | inl less ↦ let next = rank-next keep row (kept-below keep row h) h in let more = rank-rises keep (row + 1) other (omega arith) in absurd (omega arith)
      | inr least ↦
          elim (cases_lt other row) [
            | inl less ↦ let next = rank-next keep other (kept-below keep other k) k in let more = rank-rises keep (other + 1) row (omega arith) in absurd (omega arith)
            | inr most ↦ omega arith
          ]
    ]

-- ---- the kept row with a number

pub record Selected (keep : List Bool) (j : ℕ) : Type 0 where
  pub row : ℕ
  pub kept : get_or keep row false ≡ true
  pub ranked : rank keep row ≡ j
  pub item : (vs : List PlainValue) → row_at (kept_items keep vs) j ≡ row_at vs row

pub selected : (keep : List Bool) (j : ℕ) → j < true_count keep → Selected keep j
selected [] j l = absurd (omega arith)
selected (true ∷ keep) zero l = record { row = 0; kept = refl; ranked = refl; item = first }
  where
    first : (vs : List PlainValue) → row_at (kept_items (true ∷ keep) vs) 0 ≡ row_at vs 0
    first [] = refl
    first (v ∷ vs) = refl
selected (true ∷ keep) (suc j) l =
    let s = selected keep j (let more = true-cons true keep in omega arith) in
    record {
      row = suc s.row;
      kept = s.kept;
      ranked = let more = true-cons true (take s.row keep) in let own = s.ranked in omega arith;
      item = next s;
    }
  where
    next : (s : Selected keep j) (vs : List PlainValue) → row_at (kept_items (true ∷ keep) vs) (suc j) ≡ row_at vs (suc s.row)
    next s [] = refl
    next s (v ∷ vs) = s.item vs
selected (false ∷ keep) j l =
    let s = selected keep j (let more = true-cons false keep in omega arith) in
    record {
      row = suc s.row;
      kept = s.kept;
      ranked = let more = true-cons false (take s.row keep) in let own = s.ranked in omega arith;
      item = next s;
    }
  where
    nothing : (n : ℕ) → row_at [] n ≡ null
    nothing zero = refl
    nothing (suc n) = refl

    next : (s : Selected keep j) (vs : List PlainValue) → row_at (kept_items (false ∷ keep) vs) j ≡ row_at vs (suc s.row)
    next s [] = nothing j
    next s (v ∷ vs) = s.item vs

-- ---- how many a mask keeps

pub length-kept : {A : Type 0} (keep : List Bool) (xs : List A) → length keep ≡ length xs → length (kept_items keep xs) ≡ true_count keep
length-kept [] xs e = refl
length-kept (b ∷ keep) [] e = absurd (omega arith)
length-kept (true ∷ keep) (x ∷ xs) e = let rest = length-kept keep xs (omega arith) in let more = true-cons true keep in omega arith
length-kept (false ∷ keep) (x ∷ xs) e = let rest = length-kept keep xs (omega arith) in let more = true-cons false keep in omega arith

-- none, without a true bit
pub kept-nothing : {A : Type 0} (keep : List Bool) (xs : List A) → length keep ≡ length xs → true_count keep ≡ 0 → kept_items keep xs ≡ []
kept-nothing {A} keep xs e none = empty (kept_items keep xs) (let n = length-kept keep xs e in omega arith)
  where
    empty : (ys : List A) → length ys ≡ 0 → ys ≡ []
    empty [] h = refl
    empty (y ∷ ys) h = absurd (omega arith)
