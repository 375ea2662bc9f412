-- The loops that gather the numbers of rows that pass a test.
use Rattle.std.proofs.Common.{◌≡◌, ◌+◌, ◌∙◌, ℕ, zero, suc, Bool, true, false, cond, List, [], ◌∷◌, ◌++◌, refl, sym, ap, arith}
use Rattle.std.specs.Prelude.{filter}
use Rattle.std.specs.List.{range_with_len}
use Rattle.vx_blocks.proofs.WideRows.{filter-range_more}

append_nil : (ys : List ℕ) → ys ++ [] ≡ ys
append_nil [] = refl
append_nil (y ∷ ys) = ap (λ l. y ∷ l) (append_nil ys)

-- a row that passes is added
pub filter-push : (p : ℕ → Bool) (n : ℕ) → p n ≡ true → filter p (range_with_len 0 n) ++ n ∷ [] ≡ filter p (range_with_len 0 (n + 1))
filter-push p n e = sym (filter-range_more p n ∙ ap (λ b. filter p (range_with_len 0 n) ++ cond b (n ∷ []) []) e)

-- one that doesn't isn't
pub filter-skip : (p : ℕ → Bool) (n : ℕ) → p n ≡ false → filter p (range_with_len 0 n) ≡ filter p (range_with_len 0 (n + 1))
filter-skip p n e = sym (filter-range_more p n ∙ ap (λ b. filter p (range_with_len 0 n) ++ cond b (n ∷ []) []) e ∙ append_nil (filter p (range_with_len 0 n)))

last : (start n j : ℕ) → start + n ≡ j → range_with_len start (suc n) ≡ range_with_len start n ++ j ∷ []
last start zero j e = let same : start ≡ j = omega arith in ap (λ k. k ∷ []) same
last start (suc n) j e = ap (λ l. start ∷ l) (last (start + 1) n j (omega arith))

pub range-more : (n : ℕ) → range_with_len 0 n ++ n ∷ [] ≡ range_with_len 0 (n + 1)
range-more n = let on : suc n ≡ n + 1 = omega arith in sym (last 0 n n (omega arith)) ∙ ap (range_with_len 0) on

pub ruleset row_loops = (filter-range_more, range-more)
