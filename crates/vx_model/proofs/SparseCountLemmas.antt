-- The counts of the rows of a sparse node: those of its patches, and of the fill in every other row.
use Rattle.std.proofs.Common.{◌≡◌, ◌<◌, ◌≤◌, ◌+◌, ◌-◌, ◌++◌, ◌∙◌, ℕ, zero, suc, pos, List, [], ◌∷◌, length, map, true, inl, inr, refl, sym, ap, subst, arith}
use Rattle.std.specs.Prelude.{replicate}
use Rattle.std.specs.List.{range_with_len}
use Rattle.std.proofs.lemmas.Bool.{cond-true, cond-false, eq-eqb, ne_eqb, cases_lt}
use Rattle.vx_base.specs.PlainScalar.{PlainScalar}
use Rattle.vx_base.specs.PlainType.{PlainType}
use Rattle.vx_base.specs.PlainValue.{PlainValue, int}
use Rattle.vx_model.specs.Extents.{counts, both, repeated}
use Rattle.vx_model.specs.Laws.{AreWithin}
use Rattle.vx_model.specs.Rows.{patched, below}
use Rattle.vx_model.specs.WellFormed.{ascend}
use Rattle.vx_model.proofs.AscentLemmas.{by_ascent}
use Rattle.vx_model.proofs.CountLemmas.{sums, counts-append, within-sums}
use Rattle.vx_model.proofs.LeastLemmas.{copies-within}
use Rattle.vx_model.proofs.PatchLemmas.{ascend_parts, ascend_from, none_below-start, above_all}
use Rattle.vx_model.proofs.SparseLemmas.{patched-none}

-- ---- sums in any order

sums-swap : (ks ms ns : List ℕ) → sums ks (sums ms ns) ≡ sums ms (sums ks ns)
sums-swap [] [] ns = refl
sums-swap [] (m ∷ ms) [] = refl
sums-swap [] (m ∷ ms) (n ∷ ns) = refl
sums-swap (k ∷ ks) [] [] = refl
sums-swap (k ∷ ks) [] (n ∷ ns) = refl
sums-swap (k ∷ ks) (m ∷ ms) [] = refl
sums-swap (k ∷ ks) (m ∷ ms) (n ∷ ns) = let here : k + (m + n) ≡ m + (k + n) = omega arith in λ i. here i ∷ sums-swap ks ms ns i

both-sums : (ms ns : List ℕ) → both ms ns ≡ sums ms ns
both-sums [] ns = refl
both-sums (m ∷ ms) [] = refl
both-sums (m ∷ ms) (n ∷ ns) = ap (λ rest. (m + n) ∷ rest) (both-sums ms ns)

-- counts with one more row in front
counts-next : (t : PlainType) (v : PlainValue) (vs ws : List PlainValue) → counts t vs ≡ counts t ws → counts t (v ∷ vs) ≡ counts t (v ∷ ws)
counts-next t v vs ws e = counts-append t (v ∷ []) vs ∙ ap (sums (counts t (v ∷ []))) e ∙ sym (counts-append t (v ∷ []) ws)

-- a row counts as much after others as in front of them
counts-later : (t : PlainType) (v : PlainValue) (vs ws : List PlainValue) → counts t (v ∷ vs ++ ws) ≡ counts t (vs ++ v ∷ ws)
counts-later t v vs ws =
    counts-append t (v ∷ []) (vs ++ ws) ∙ ap (sums (counts t (v ∷ []))) (counts-append t vs ws) ∙ sums-swap (counts t (v ∷ [])) (counts t vs) (counts t ws)
    ∙ ap (sums (counts t vs)) (sym (counts-append t (v ∷ []) ws)) ∙ sym (counts-append t vs (v ∷ ws))

-- ---- what ascends

-- there are at most as many numbers as the range has
pub ascend-few : (low high : ℕ) (is : List PlainValue) → ascend low high is ≡ true → low ≤ high → length is + low ≤ high
ascend-few low high is e = by_ascent high (λ low is. low ≤ high → length is + low ≤ high) (λ low l. omega arith) (λ low n is a b c rest l. let few = rest (omega arith) in omega arith) low is e

-- below the first index there is the fill
patched-before : (low high : ℕ) (is vs : List PlainValue) (fill : PlainValue) (n : ℕ) → ascend low high is ≡ true → n < low → patched is vs fill n ≡ fill
patched-before low high is vs fill n e l = patched-none is vs fill n 0 (none_below-start is n) (above_all low high is n e l)

-- ---- the rows

module _ (t : PlainType) (fill : PlainValue) (offset high : ℕ) where
  -- from a row on, whose patches are left
  counts-from : (g : ℕ → PlainValue) (start n low : ℕ) (is vs : List PlainValue) → low ≡ offset + start → high ≡ low + n → ascend low high is ≡ true → length is ≡ length vs
      → ((i : ℕ) → start ≤ i → g i ≡ patched is vs fill (offset + i)) → counts t (map g (range_with_len start n)) ≡ counts t (vs ++ replicate (n - length vs) fill)
  counts-from g start n low [] (v ∷ vs) here end e l same = absurd (omega arith)
  counts-from g start n low (i ∷ is) [] here end e l same = absurd (omega arith)
  counts-from g start zero low [] [] here end e l same = refl
  counts-from g start zero low (i ∷ is) (v ∷ vs) here end e l same = absurd (let few = ascend-few low high (i ∷ is) e (omega arith) in omega arith)
  counts-from g start (suc n) low [] [] here end e l same =
      let one_more : suc (n - 0) ≡ suc n - 0 = omega arith in
      let rest = counts-from g (start + 1) n (low + 1) [] [] (omega arith) (omega arith) refl refl (λ i m. same i (omega arith)) in
      ap (λ v. counts t (v ∷ map g (range_with_len (start + 1) n))) (same start (omega arith)) ∙ counts-next t fill (map g (range_with_len (start + 1) n)) (replicate (n - 0) fill) rest
      ∙ ap (λ k. counts t (replicate k fill)) one_more
  counts-from g start (suc n) low (int (pos x) ∷ is) (v ∷ vs) here end e l same =
      let later = map g (range_with_len (start + 1) n) in
      let p = ascend_parts low high x is e in
      elim (cases_lt low x) [
        | inl less ↦
            let next = ascend_from (low + 1) high x is (omega arith) p.1 p.2 in
            let few = ascend-few (low + 1) high (int (pos x) ∷ is) next (omega arith) in
            let rest = counts-from g (start + 1) n (low + 1) (int (pos x) ∷ is) (v ∷ vs) (omega arith) (omega arith) next l (λ i m. same i (omega arith)) in
            let unpatched : g start ≡ fill = same start (omega arith) ∙ patched-before (low + 1) high (int (pos x) ∷ is) (v ∷ vs) fill (offset + start) next (omega arith) in
            let one_more : suc (n - length (v ∷ vs)) ≡ suc n - length (v ∷ vs) = omega arith in
            ap (λ w. counts t (w ∷ later)) unpatched ∙ counts-next t fill later (v ∷ vs ++ replicate (n - length (v ∷ vs)) fill) rest
            ∙ counts-later t fill (v ∷ vs) (replicate (n - length (v ∷ vs)) fill) ∙ ap (λ k. counts t (v ∷ vs ++ replicate k fill)) one_more
        | inr more ↦
            let at : x ≡ low = omega arith in
            let left : n - length vs ≡ suc n - length (v ∷ vs) = omega arith in
            let own : g start ≡ v = same start (omega arith) ∙ cond-true _ _ _ (eq-eqb x (offset + start) (omega arith)) in
            let rest = counts-from g (start + 1) n (low + 1) is vs (omega arith) (omega arith) (subst (λ k. ascend (k + 1) high is ≡ true) at p.2) (omega arith) (λ i m. same i (omega arith) ∙ cond-false _ _ _ (ne_eqb x (offset + i) (λ r. omega arith))) in
            ap (λ w. counts t (w ∷ later)) own ∙ counts-next t v later (vs ++ replicate (n - length vs) fill) rest ∙ ap (λ k. counts t (v ∷ vs ++ replicate k fill)) left
      ]
  counts-from g start (suc n) low (i ∷ is) (v ∷ vs) here end e l same = absurd cc

counts-sparse : (t : PlainType) (is vs : List PlainValue) (fill : PlainValue) (len offset : ℕ) → ascend offset (offset + len) is ≡ true → length is ≡ length vs
    → counts t (below (λ i. patched is vs fill (offset + i)) len) ≡ counts t (vs ++ replicate (len - length vs) fill)
counts-sparse t is vs fill len offset e l = counts-from t fill offset (offset + len) (λ i. patched is vs fill (offset + i)) 0 len offset is vs (omega arith) refl e l (λ i m. refl)

-- they are within the extents of the patches and the fill's, once for each row that has no patch
pub sparse-within : (is vs : List PlainValue) (fill : PlainScalar) (len offset : ℕ) (extents : List ℕ) → ascend offset (offset + len) is ≡ true → length is ≡ length vs → AreWithin (counts fill.dtype vs) extents
    → AreWithin (counts fill.dtype (below (λ i. patched is vs fill.value (offset + i)) len)) (both extents (repeated (len - length vs) fill))
sparse-within is vs fill len offset extents e l h =
    let t = fill.dtype in
    let count = len - length vs in
    let own : counts t (below (λ i. patched is vs fill.value (offset + i)) len) ≡ sums (counts t vs) (counts t (replicate count fill.value)) =
    counts-sparse t is vs fill.value len offset e l ∙ counts-append t vs (replicate count fill.value) in
    subst (λ ns. AreWithin ns (both extents (repeated count fill))) (sym own)
    (subst (AreWithin (sums (counts t vs) (counts t (replicate count fill.value)))) (sym (both-sums extents (repeated count fill)))
    (within-sums (counts t vs) extents (counts t (replicate count fill.value)) (repeated count fill) h (copies-within t fill.value count)))
