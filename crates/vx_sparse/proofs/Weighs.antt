-- What weighs values in any order weighs the rows of a sparse node as its patches and the fill once for each row without one.
use Rattle.std.proofs.Common.{◌≡◌, ◌<◌, ◌≤◌, ◌+◌, ◌-◌, ◌++◌, ◌∙◌, ℕ, zero, suc, pos, List, [], ◌∷◌, length, map, true, inl, inr, refl, ap, subst, arith}
use Rattle.std.specs.Prelude.{replicate}
use Rattle.std.specs.List.{range_with_len}
use Rattle.std.proofs.lemmas.Bool.{cond-true, cond-false, eq-eqb, ne_eqb, cases_lt}
use Rattle.vx_base.specs.PlainScalar.{PlainScalar}
use Rattle.vx_base.specs.PlainValue.{PlainValue, int}
use Rattle.vx_model.specs.Rows.{rows, patched, below}
use Rattle.vx_model.specs.Tree.{PlainPatches, sparse_of}
use Rattle.vx_model.specs.WellFormed.{WellFormedPatches, ascend}
use Rattle.vx_model.proofs.PatchLemmas.{ascend_parts, ascend_from, none_below-start, above_all}
use Rattle.vx_model.proofs.SparseLemmas.{patched-none, rows-sparse_of}
use Rattle.vx_model.proofs.SparseCountLemmas.{ascend-few}
use Rattle.vx_sparse.specs.Kernels.{unpatched}

-- below the first index there is the fill
patched-before : (low high : ℕ) (is vs : List PlainValue) (fill : PlainValue) (n : ℕ) → ascend low high is ≡ true → n < low → patched is vs fill n ≡ fill
patched-before low high is vs fill n e l = patched-none is vs fill n 0 (none_below-start is n) (above_all low high is n e l)

module _ {X : Type 0} (weigh : List PlainValue → X) (next : (v : PlainValue) (vs ws : List PlainValue) → weigh vs ≡ weigh ws → weigh (v ∷ vs) ≡ weigh (v ∷ ws))
    (later : (v : PlainValue) (vs ws : List PlainValue) → weigh (v ∷ vs ++ ws) ≡ weigh (vs ++ v ∷ ws)) (fill : PlainValue) (offset high : ℕ) where
  -- from a row on, whose patches are left
  weigh-from : (g : ℕ → PlainValue) (start n low : ℕ) (is vs : List PlainValue) → low ≡ offset + start → high ≡ low + n → ascend low high is ≡ true → length is ≡ length vs
      → ((i : ℕ) → start ≤ i → g i ≡ patched is vs fill (offset + i)) → weigh (map g (range_with_len start n)) ≡ weigh (vs ++ replicate (n - length vs) fill)
  weigh-from g start n low [] (v ∷ vs) here end e l same = absurd (omega arith)
  weigh-from g start n low (i ∷ is) [] here end e l same = absurd (omega arith)
  weigh-from g start zero low [] [] here end e l same = refl
  weigh-from g start zero low (i ∷ is) (v ∷ vs) here end e l same = absurd (let few = ascend-few low high (i ∷ is) e (omega arith) in omega arith)
  weigh-from g start (suc n) low [] [] here end e l same =
      let one_more : suc (n - 0) ≡ suc n - 0 = omega arith in
      let rest = weigh-from g (start + 1) n (low + 1) [] [] (omega arith) (omega arith) refl refl (λ i m. same i (omega arith)) in
      ap (λ v. weigh (v ∷ map g (range_with_len (start + 1) n))) (same start (omega arith)) ∙ next fill (map g (range_with_len (start + 1) n)) (replicate (n - 0) fill) rest
      ∙ ap (λ k. weigh (replicate k fill)) one_more
  weigh-from g start (suc n) low (int (pos x) ∷ is) (v ∷ vs) here end e l same =
      let rest_of = map g (range_with_len (start + 1) n) in
      let p = ascend_parts low high x is e in
      elim (cases_lt low x) [
        | inl less ↦
            let above = ascend_from (low + 1) high x is (omega arith) p.1 p.2 in
            let few = ascend-few (low + 1) high (int (pos x) ∷ is) above (omega arith) in
            let rest = weigh-from g (start + 1) n (low + 1) (int (pos x) ∷ is) (v ∷ vs) (omega arith) (omega arith) above l (λ i m. same i (omega arith)) in
            let unpatched : g start ≡ fill = same start (omega arith) ∙ patched-before (low + 1) high (int (pos x) ∷ is) (v ∷ vs) fill (offset + start) above (omega arith) in
            let one_more : suc (n - length (v ∷ vs)) ≡ suc n - length (v ∷ vs) = omega arith in
            ap (λ w. weigh (w ∷ rest_of)) unpatched ∙ next fill rest_of (v ∷ vs ++ replicate (n - length (v ∷ vs)) fill) rest
            ∙ later fill (v ∷ vs) (replicate (n - length (v ∷ vs)) fill) ∙ ap (λ k. weigh (v ∷ vs ++ replicate k fill)) one_more
        | inr more ↦
            let at : x ≡ low = omega arith in
            let left : n - length vs ≡ suc n - length (v ∷ vs) = omega arith in
            let own : g start ≡ v = same start (omega arith) ∙ cond-true _ _ _ (eq-eqb x (offset + start) (omega arith)) in
            let rest = weigh-from g (start + 1) n (low + 1) is vs (omega arith) (omega arith) (subst (λ k. ascend (k + 1) high is ≡ true) at p.2) (omega arith) (λ i m. same i (omega arith) ∙ cond-false _ _ _ (ne_eqb x (offset + i) (λ r. omega arith))) in
            ap (λ w. weigh (w ∷ rest_of)) own ∙ next v rest_of (vs ++ replicate (n - length vs) fill) rest ∙ ap (λ k. weigh (v ∷ vs ++ replicate k fill)) left
      ]
  weigh-from g start (suc n) low (i ∷ is) (v ∷ vs) here end e l same = absurd cc

  pub weigh-sparse : (is vs : List PlainValue) (len : ℕ) → high ≡ offset + len → ascend offset (offset + len) is ≡ true → length is ≡ length vs
      → weigh (below (λ i. patched is vs fill (offset + i)) len) ≡ weigh (vs ++ replicate (len - length vs) fill)
  weigh-sparse is vs len same e l = weigh-from (λ i. patched is vs fill (offset + i)) 0 len offset is vs (omega arith) same (ap (λ h. ascend offset h is) same ∙ e) l (λ i m. refl)

-- of the tree of patches and a fill
pub rows-weighed : {X : Type 0} (weigh : List PlainValue → X) (next : (v : PlainValue) (vs ws : List PlainValue) → weigh vs ≡ weigh ws → weigh (v ∷ vs) ≡ weigh (v ∷ ws))
    (later : (v : PlainValue) (vs ws : List PlainValue) → weigh (v ∷ vs ++ ws) ≡ weigh (vs ++ v ∷ ws)) (p : PlainPatches) (fill : PlainScalar) → WellFormedPatches p
    → weigh (rows (sparse_of p fill)) ≡ weigh (rows p.values ++ replicate (unpatched p) fill.value)
rows-weighed weigh next later p fill w =
    ap weigh (rows-sparse_of p fill)
    ∙ weigh-sparse weigh next later fill.value p.offset (p.offset + p.array_len) (rows p.indices) (rows p.values) p.array_len refl w.2.ascending w.2.lengths

-- there are no more patches than rows
pub few_patches : (p : PlainPatches) → WellFormedPatches p → length (rows p.values) ≤ p.array_len
few_patches p w =
    let few = ascend-few p.offset (p.offset + p.array_len) (rows p.indices) w.2.ascending (omega arith) in
    let lengths = w.2.lengths in
    omega arith
