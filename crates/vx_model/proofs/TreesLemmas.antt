-- Trees inside a tree, as lists.
use Rattle.std.proofs.Common.{◌≡◌, ◌<◌, ◌+◌, ℕ, zero, suc, List, [], ◌∷◌, ◌++◌, length, take, get_or, slice_get, Some, refl, ap, ◌∙◌, arith}
use Rattle.std.specs.Prelude.{◌==◌, ◌&&◌, nat_le, sum_by}
use Rattle.std.specs.List.{list_all}
use Rattle.std.proofs.lemmas.List.{take_more}
use Rattle.std.proofs.lemmas.List.Folds.{list_all-append}
use Rattle.std.proofs.lemmas.List.Sums.{sum_by-cons}
use Rattle.vx_model.specs.Extents.{extents, all_extents, row_limit}
use Rattle.vx_model.specs.Rows.{rows}
use Rattle.vx_model.specs.Size.{size, sizes}
use Rattle.vx_model.specs.Tree.{Tree, of_list, list_of, node_count, list_count}
use Rattle.vx_model.specs.WellFormed.{WellFormed, AllWellFormed, all_have_rows}

pub list_of-of_list : (ts : List Tree) → list_of (of_list ts) ≡ ts
list_of-of_list [] = refl
list_of-of_list (t ∷ ts) = ap (λ r. t ∷ r) (list_of-of_list ts)

pub ruleset trees = (list_of-of_list)

-- ---- a tree inside is smaller

pub item_falls : (ts : List Tree) (i : ℕ) (t : Tree) → slice_get ts i ≡ Some t → node_count t < list_count ts
item_falls [] i t e = absurd cc
item_falls (s ∷ ts) zero t e = let same : s ≡ t = cc in rw (← same) (omega arith)
item_falls (s ∷ ts) (suc i) t e = let h = item_falls ts i t e in omega (arith, h)

pub item_falls_at : (ts : List Tree) (i : ℕ) (t : Tree) → i < length ts → t ≡ get_or ts i t → node_count t < list_count ts
item_falls_at [] i t h e = absurd (omega arith)
item_falls_at (s ∷ ts) zero t h e = rw e (omega arith)
item_falls_at (s ∷ ts) (suc i) t h e = let k = item_falls_at ts i t (omega arith) e in omega (arith, k)

pub ruleset falls = (item_falls, item_falls_at)

-- ---- one tree more

pub all_more : (ts : List Tree) (t : Tree) → AllWellFormed (of_list ts) → WellFormed t → AllWellFormed (of_list (ts ++ t ∷ []))
all_more [] t a w = (w, tt)
all_more (s ∷ ts) t a w = (a.0, all_more ts t a.1 w)

pub all_next : (ts : List Tree) (i : ℕ) (t : Tree) → i < length ts → AllWellFormed (of_list (take i ts)) → t ≡ get_or ts i t → WellFormed t → AllWellFormed (of_list (take (i + 1) ts))
all_next ts i t h a e w = rw (take_more ts i t h, ← e) (all_more (take i ts) t a w)

-- what is known of all is known of each
pub all_at : (ts : List Tree) (i : ℕ) (t : Tree) → i < length ts → AllWellFormed (of_list ts) → t ≡ get_or ts i t → WellFormed t
all_at [] i t h a e = absurd (omega arith)
all_at (s ∷ ts) zero t h a e = rw e a.0
all_at (s ∷ ts) (suc i) t h a e = all_at ts i t (omega arith) a.1 e

pub ruleset growing = (all_more, all_next)

-- ---- tests and sums over them

pub all_have_rows-of_list : (len : ℕ) (ts : List Tree) → all_have_rows len (of_list ts) ≡ list_all (λ t. length (rows t) == len) ts
all_have_rows-of_list len [] = refl
all_have_rows-of_list len (t ∷ ts) = ap (λ r. (length (rows t) == len) && r) (all_have_rows-of_list len ts)

pub sizes-of_list : (ts : List Tree) → sizes (of_list ts) ≡ sum_by size ts
sizes-of_list [] = refl
sizes-of_list (t ∷ ts) = rw (sum_by-cons size t ts) (ap (λ n. size t + n) (sizes-of_list ts))

-- the extents of several trees are within the row limit where those of each are
pub few-of_list : (ts : List Tree) → list_all (λ extent. nat_le extent row_limit) (all_extents (of_list ts)) ≡ list_all (λ t. list_all (λ extent. nat_le extent row_limit) (extents t)) ts
few-of_list [] = refl
few-of_list (t ∷ ts) = list_all-append (λ extent. nat_le extent row_limit) (extents t) (all_extents (of_list ts)) ∙ ap (λ r. list_all (λ extent. nat_le extent row_limit) (extents t) && r) (few-of_list ts)

pub ruleset lists = (all_have_rows-of_list, sizes-of_list, few-of_list)
