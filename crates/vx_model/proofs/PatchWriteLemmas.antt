-- The loop that writes patches into the numbers that they patch, one after another.
use Rattle.std.proofs.Common.{◌≡◌, ◌≢◌, ◌<◌, ◌≤◌, ◌+◌, ◌-◌, ◌∙◌, ℕ, zero, suc, ℤ, pos, List, [], ◌∷◌, length, take, set, get_or, refl, sym, ap, subst, arith, add-one, ⊎_elim, true, false, cond, Some}
use Rattle.std.proofs.lemmas.Bool.{cond-true, cond-false, cases_eq}
use Rattle.std.proofs.lemmas.List.{get_or-set_same, get_or-set_other, length-set, take_all}
use Rattle.std.proofs.lemmas.List.FromFn.{fill_by_all, length-map-range_with_len, get_or-map-range_with_len}
use Rattle.vx_base.specs.PlainValue.{PlainValue, int, whole_or_zero}
use Rattle.vx_model.specs.Rows.{row_at, below, patched, is_index, index_of}
use Rattle.vx_model.specs.WellFormed.{ascend}
use Rattle.vx_model.proofs.PatchLemmas.{NoneBelow, earlier, is_index-of, not_index-of, ascend-within}

-- ---- one patch more

patched-take_same : (is rs : List PlainValue) (fill : PlainValue) (n j : ℕ) → length is ≡ length rs → j < length is → NoneBelow is n j → is_index (row_at is j) n ≡ true → patched (take (suc j) is) (take (suc j) rs) fill n ≡ row_at rs j
patched-take_same [] rs fill n j l h b e = absurd (omega arith)
patched-take_same (i ∷ is) [] fill n j l h b e = absurd (omega arith)
patched-take_same (i ∷ is) (r ∷ rs) fill n zero l h b e = cond-true _ _ _ e
patched-take_same (i ∷ is) (r ∷ rs) fill n (suc j) l h b e =
    cond-false _ _ _ (b 0 (omega arith)) ∙ patched-take_same is rs fill n j (omega arith) (omega arith) (λ k m. b (suc k) (omega arith)) e

patched-take_other : (is rs : List PlainValue) (fill : PlainValue) (n j : ℕ) → length is ≡ length rs → j < length is → is_index (row_at is j) n ≡ false → patched (take (suc j) is) (take (suc j) rs) fill n ≡ patched (take j is) (take j rs) fill n
patched-take_other [] rs fill n j l h e = absurd (omega arith)
patched-take_other (i ∷ is) [] fill n j l h e = absurd (omega arith)
patched-take_other (i ∷ is) (r ∷ rs) fill n zero l h e = cond-false _ _ _ e
patched-take_other (i ∷ is) (r ∷ rs) fill n (suc j) l h e = ap (λ v. cond (is_index i n) r v) (patched-take_other is rs fill n j (omega arith) (omega arith) e)

-- the numbers f with the first j patches
module _ (is rs : List PlainValue) (f : ℕ → ℤ) (offset len : ℕ) where
  abbrev pub patched_to : ℕ → List ℤ
  patched_to j = below (λ i. whole_or_zero (patched (take j is) (take j rs) (int (f i)) (offset + i))) len

  pub patched_to-start : patched_to 0 ≡ below f len
  patched_to-start = refl

  pub patched_to-end : (j : ℕ) → length is ≡ length rs → length is ≤ j → patched_to j ≡ below (λ i. whole_or_zero (patched is rs (int (f i)) (offset + i))) len
  patched_to-end j l h = λ q. below (λ i. whole_or_zero (patched (take_all j is h q) (take_all j rs (omega arith) q) (int (f i)) (offset + i))) len

  length-patched_to : (j : ℕ) → length (patched_to j) ≡ len
  length-patched_to j = length-map-range_with_len _ 0 len

  module _ (j k : ℕ) (v : ℤ) (l : length is ≡ length rs) (a : ascend offset (offset + len) is ≡ true) (h : j < length is) (e : index_of (row_at is j) ≡ Some k) (w : v ≡ whole_or_zero (row_at rs j)) where
    -- the row is one of those that are patched
    pub patched_row-lt : (offset ≤ k) × (k - offset < len)
    patched_row-lt = let b = ascend-within offset (offset + len) is j k a h e in (b.0, omega arith)

    at_patch : (i : ℕ) → i ≡ k - offset → v ≡ whole_or_zero (patched (take (suc j) is) (take (suc j) rs) (int (f i)) (offset + i))
    at_patch i s =
        let b = patched_row-lt in
        let same : k ≡ offset + i = omega arith in
        w ∙ ap whole_or_zero (sym (patched-take_same is rs (int (f i)) (offset + i) j l h (earlier offset (offset + len) is (offset + i) j k a h e (omega arith)) (is_index-of (row_at is j) (offset + i) (e ∙ ap Some same))))

    elsewhere : (i : ℕ) → i ≢ k - offset
        → whole_or_zero (patched (take j is) (take j rs) (int (f i)) (offset + i)) ≡ whole_or_zero (patched (take (suc j) is) (take (suc j) rs) (int (f i)) (offset + i))
    elsewhere i s =
        let b = patched_row-lt in
        ap whole_or_zero (sym (patched-take_other is rs (int (f i)) (offset + i) j l h (not_index-of (row_at is j) (offset + i) k e (λ q. s (omega arith)))))

    each : (i : ℕ) → i < len → get_or (set (patched_to j) (k - offset) v) i (pos 0) ≡ whole_or_zero (patched (take (suc j) is) (take (suc j) rs) (int (f i)) (offset + i))
    each i m =
        ⊎_elim
        (λ s. subst (λ q. get_or (set (patched_to j) (k - offset) v) q (pos 0) ≡ v) (sym s) (get_or-set_same (patched_to j) (k - offset) v (pos 0) (omega (arith, patched_row-lt.1, length-patched_to j))) ∙ at_patch i s)
        (λ s. get_or-set_other (patched_to j) (k - offset) i v (pos 0) s ∙ get_or-map-range_with_len _ 0 len i i (pos 0) m (omega arith) ∙ elsewhere i s)
        (cases_eq i (k - offset))

    pub patched_to-next : patched_to (j + 1) ≡ set (patched_to j) (k - offset) v
    patched_to-next = ap patched_to (add-one j) ∙ sym (fill_by_all _ (set (patched_to j) (k - offset) v) len (pos 0) (length-set (patched_to j) (k - offset) v ∙ length-patched_to j) each)

pub ruleset patch_writes = (patched_row-lt, patched_to-next, patched_to-end)
