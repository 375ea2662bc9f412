-- Patches of a part of the rows: those whose indices lie in it, from one place to another.
use Rattle.std.proofs.Common.{◌≡◌, ◌<◌, ◌≤◌, ◌+◌, ◌-◌, ◌∙◌, ℕ, zero, suc, pos, true, false, cond, List, [], ◌∷◌, length, take, drop, get_or, refl, sym, ap, arith, Some, inl, inr}
use Rattle.std.proofs.lemmas.Bool.{true≢false, cases_lt}
use Rattle.vx_base.specs.Masks.{rows_between}
use Rattle.vx_base.specs.PlainValue.{PlainValue, int, null}
use Rattle.vx_model.specs.Rows.{patched, row_at, is_index, index_of}
use Rattle.vx_model.specs.WellFormed.{ascend}
use Rattle.vx_model.proofs.PatchLemmas.{NoneBelow, NoneFrom, ascend_parts, ascend_from, is_index-of, none_below-start}
use Rattle.vx_model.proofs.SparseLemmas.{patched-none}

-- patches that aren't at a row in front of the others, and behind them
patched-drop : (lo : ℕ) (is vs : List PlainValue) (fill : PlainValue) (n : ℕ) → NoneBelow is n lo → patched (drop lo is) (drop lo vs) fill n ≡ patched is vs fill n
patched-drop zero is vs fill n h = refl
patched-drop (suc lo) [] vs fill n h = refl
patched-drop (suc lo) (i ∷ is) [] fill n h = nothing (drop lo is)
  where
    nothing : (js : List PlainValue) → patched js [] fill n ≡ fill
    nothing [] = refl
    nothing (j ∷ js) = refl
patched-drop (suc lo) (i ∷ is) (v ∷ vs) fill n h =
    let first : is_index i n ≡ false = h 0 (omega arith) in
    patched-drop lo is vs fill n (λ j l. h (suc j) (omega arith)) ∙ sym (ap (λ b. cond b v (patched is vs fill n)) first)

patched-take : (hi : ℕ) (is vs : List PlainValue) (fill : PlainValue) (n : ℕ) → NoneFrom is n hi → patched (take hi is) (take hi vs) fill n ≡ patched is vs fill n
patched-take zero is vs fill n h = sym (patched-none is vs fill n 0 (none_below-start is n) h)
patched-take (suc hi) [] vs fill n h = refl
patched-take (suc hi) (i ∷ is) [] fill n h = refl
patched-take (suc hi) (i ∷ is) (v ∷ vs) fill n h = ap (cond (is_index i n) v) (patched-take hi is vs fill n (λ j l. h (suc j) (omega arith)))

-- places of the first index from a bound on
pub record IsCut (is : List PlainValue) (bound place : ℕ) : Type 0 where
  pub within : place ≤ length is
  pub before : (n : ℕ) → bound ≤ n → NoneBelow is n place
  pub behind : (n : ℕ) → n < bound → NoneFrom is n place

get_or-behind : (vs : List PlainValue) (s i : ℕ) → get_or (drop s vs) i null ≡ get_or vs (s + i) null
get_or-behind vs zero i = let same : i ≡ 0 + i = omega arith in ap (λ k. get_or vs k null) same
get_or-behind [] (suc s) i = refl
get_or-behind (v ∷ vs) (suc s) i = let same : suc (s + i) ≡ suc s + i = omega arith in get_or-behind vs s i ∙ ap (λ k. get_or (v ∷ vs) k null) same

module _ (is vs : List PlainValue) (fill : PlainValue) (a b lo hi : ℕ) (low : IsCut is a lo) (high : IsCut is b hi) where
  -- a row in the part
  pub patched-between : (n : ℕ) → a ≤ n → n < b → lo ≤ hi → patched (rows_between is lo hi) (rows_between vs lo hi) fill n ≡ patched is vs fill n
  patched-between n l m o =
      patched-take (hi - lo) (drop lo is) (drop lo vs) fill n (λ j k. ap (λ v. is_index v n) (get_or-behind is lo j) ∙ high.behind n m (lo + j) (omega arith))
      ∙ patched-drop lo is vs fill n (low.before n l)

-- ---- what ascends still does

ascend-drop : (lo low high a : ℕ) (is : List PlainValue) → ascend low high is ≡ true → ((k m : ℕ) → lo ≤ k → index_of (row_at is k) ≡ Some m → a ≤ m) → ascend a high (drop lo is) ≡ true
ascend-drop zero low high a [] e h = refl
ascend-drop zero low high a (int (pos x) ∷ is) e h = let p = ascend_parts low high x is e in ascend_from a high x is (h 0 x (omega arith) refl) p.1 p.2
ascend-drop zero low high a (v ∷ is) e h = absurd cc
ascend-drop (suc lo) low high a [] e h = refl
ascend-drop (suc lo) low high a (int (pos x) ∷ is) e h = ascend-drop lo (x + 1) high a is (ascend_parts low high x is e).2 (λ k m l f. h (suc k) m (omega arith) f)
ascend-drop (suc lo) low high a (v ∷ is) e h = absurd cc

ascend-take : (hi low high b : ℕ) (is : List PlainValue) → ascend low high is ≡ true → ((k m : ℕ) → k < hi → index_of (row_at is k) ≡ Some m → m < b) → ascend low b (take hi is) ≡ true
ascend-take zero low high b is e h = refl
ascend-take (suc hi) low high b [] e h = refl
ascend-take (suc hi) low high b (int (pos x) ∷ is) e h =
    let p = ascend_parts low high x is e in ascend_from low b x (take hi is) p.0 (h 0 x (omega arith) refl) (ascend-take hi (x + 1) high b is p.2 (λ k m l f. h (suc k) m (omega arith) f))
ascend-take (suc hi) low high b (v ∷ is) e h = absurd cc

module _ (is : List PlainValue) (first last a b lo hi : ℕ) (e : ascend first last is ≡ true) (low : IsCut is a lo) (high : IsCut is b hi) where
  not_below : (k m : ℕ) → lo ≤ k → index_of (row_at is k) ≡ Some m → a ≤ m
  not_below k m l f = elim (cases_lt m a) [
    | inl less ↦ absurd (true≢false (sym (is_index-of (row_at is k) m f) ∙ low.behind m less k l))
    | inr more ↦ omega arith
  ]

  not_above : (k m : ℕ) → k < hi → index_of (row_at is k) ≡ Some m → m < b
  not_above k m l f = elim (cases_lt m b) [
    | inl less ↦ less
    | inr more ↦ absurd (true≢false (sym (is_index-of (row_at is k) m f) ∙ high.before m (omega arith) k l))
  ]

  pub ascend-between : lo ≤ hi → ascend a b (rows_between is lo hi) ≡ true
  ascend-between o =
      ascend-take (hi - lo) a last b (drop lo is) (ascend-drop lo first last a is e not_below) (λ k m l f. not_above (lo + k) m (omega arith) (ap index_of (sym (get_or-behind is lo k)) ∙ f))
