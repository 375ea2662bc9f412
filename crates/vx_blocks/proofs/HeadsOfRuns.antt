-- The loop that gathers the runs in blocks.
use Rattle.std.proofs.Common.{◌≡◌, ◌≢◌, ℕ, ◌+◌, ◌-◌, ◌*◌, ◌/◌, ◌%◌, ◌<◌, ◌≤◌, ℤ, true, false, cond, List, [], ◌∷◌, ◌++◌, length, map, take, replicate, refl, sym, ap, ◌∙◌, arith, length-append}
use Rattle.std.specs.Prelude.{◌||◌, nat_lt, Option}
use Rattle.std.specs.List.{range_with_len}
use Rattle.std.proofs.lemmas.Bool.{cond-true, cond-false, ne_eqb, eq-eqb, lt-ltb, le-ltb}
use Rattle.std.proofs.lemmas.List.{append-nil, map-id}
use Rattle.vx_base.specs.Packed.{block_count}
use Rattle.vx_blocks.specs.Optional.{differs}
use Rattle.vx_blocks.specs.Runs.{begins_run, heads_before, runs_before, run_number, run_numbers}
use Rattle.vx_blocks.proofs.Ranges.{filter-range_more, resized}

module _ (rows : List (Option ℤ)) where
  heads-more : (i : ℕ) → heads_before rows (i + 1) ≡ heads_before rows i ++ cond (begins_run rows i) (i ∷ []) []
  heads-more i = filter-range_more (begins_run rows) 0 i i (omega arith)

  pub heads-push : (i : ℕ) → begins_run rows i ≡ true → heads_before rows (i + 1) ≡ heads_before rows i ++ i ∷ []
  heads-push i e = heads-more i ∙ rw e refl

  pub heads-skip : (i : ℕ) → begins_run rows i ≡ false → heads_before rows (i + 1) ≡ heads_before rows i
  heads-skip i e = heads-more i ∙ rw e (append-nil (heads_before rows i))

  pub begins-first : (i : ℕ) → i % 1024 ≡ 0 → begins_run rows i ≡ true
  begins-first i h = ap (λ b. b || differs rows i) (eq-eqb (i % 1024) 0 h)

  pub begins-later : (i : ℕ) → i % 1024 ≢ 0 → begins_run rows i ≡ differs rows i
  begins-later i h = ap (λ b. b || differs rows i) (ne_eqb (i % 1024) 0 h)

  -- how many runs begin before the row after one
  pub runs-push : (i : ℕ) → begins_run rows i ≡ true → runs_before rows (i + 1) ≡ runs_before rows i + 1
  runs-push i e = ap length (heads-push i e) ∙ length-append (heads_before rows i) (i ∷ [])

  pub runs-skip : (i : ℕ) → begins_run rows i ≡ false → runs_before rows (i + 1) ≡ runs_before rows i
  runs-skip i e = ap length (heads-skip i e)

  -- ---- the numbers of rows

  pub number-row : (start k run : ℕ) → start % 1024 ≡ 0 → k < 1024 → start + k < length rows → run + runs_before rows (start + 1) ≡ runs_before rows (start + k + 1) → run ≡ run_number rows (start + k)
  number-row start k run first few h is =
      let same : 1024 * ((start + k) / 1024) + 1 ≡ start + 1 = omega arith in
      let made : run ≡ runs_before rows (start + k + 1) - runs_before rows (1024 * ((start + k) / 1024) + 1) = omega (arith, is, ap (runs_before rows) same) in
      made ∙ sym (cond-true _ _ _ (lt-ltb (start + k) (length rows) h))

  pub number-first : (start : ℕ) → start % 1024 ≡ 0 → start < length rows → 0 ≡ run_number rows (start + 0)
  number-first start first h = let at : start + 1 ≡ start + 0 + 1 = omega arith in number-row start 0 0 first (omega arith) (omega arith) (omega (arith, ap (runs_before rows) at))

  pub numbers-filled : (items made : List ℕ) (n size len : ℕ) → n ≡ length rows → size ≡ 1024 * block_count (length rows) → len ≡ length items → items ≡ map (run_number rows) (range_with_len 0 n) → made ≡ take size items ++ replicate (size - len) 0
      → made ≡ run_numbers rows
  numbers-filled items made n size len all room long so_far is =
      let none = λ (k : ℕ) (h : n ≤ k). cond-false (nat_lt k (length rows)) (runs_before rows (k + 1) - runs_before rows (1024 * (k / 1024) + 1)) 0 (le-ltb k (length rows) (omega arith)) in
      sym (map-id made) ∙ resized (run_number rows) 0 (λ n. n) items made 0 n size len (omega arith) none long refl (map-id items ∙ so_far) is ∙ ap (λ m. map (run_number rows) (range_with_len 0 m)) room
