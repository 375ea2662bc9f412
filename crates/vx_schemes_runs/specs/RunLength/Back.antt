-- The runs of rows in blocks give the rows back.
use Rattle.std.proofs.Common.{◌≡◌, ◌<◌, ◌≤◌, ◌+◌, ◌-◌, ◌*◌, ◌/◌, ◌%◌, ◌∙◌, ℕ, zero, suc, ℤ, pos, Bool, true, false, cond, List, [], ◌∷◌, ◌++◌, length, map, get_or, Option, refl, sym, ap, arith, append_assoc}
use Rattle.std.specs.Prelude.{◌+ℤ◌, ◌==◌}
use Rattle.std.specs.List.{range_with_len}
use Rattle.std.proofs.Math.Seq.{get_or-append_seam}
use Rattle.std.proofs.lemmas.Bool.{cond-true, or_parts, lt-ltb}
use Rattle.std.proofs.lemmas.List.{append-nil, get_or-map, length-map, length-append}
use Rattle.std.proofs.lemmas.List.FromFn.{get_or-map-range_with_len, length-map-range_with_len}
use Rattle.vx_base.specs.Packed.{block_count}
use Rattle.vx_base.specs.PlainValue.{PlainValue, null, int, whole_or_zero}
use Rattle.vx_blocks.specs.Optional.{differs}
use Rattle.vx_blocks.specs.Runs.{begins_run, heads_before, heads, runs_before, offsets, run_number, run_numbers}
use Rattle.vx_blocks.proofs.HeadsOfRuns.{heads-push, heads-skip, begins-first, runs-push}
use Rattle.vx_blocks.proofs.Ranges.{filter-range_more}
use Rattle.vx_model.specs.Rows.{row_at, looked_up, rle_place}
use Rattle.vx_schemes_common.specs.Narrowed.{number_rows}
use Rattle.vx_schemes_runs.specs.RowsAtLaws.{RowsFollow}

-- ---- numbers as rows

number-at : (numbers : List ℕ) (i : ℕ) → i < length numbers → whole_or_zero (row_at (number_rows numbers) i) ≡ pos (get_or numbers i 0)
number-at numbers i l =
    ap whole_or_zero (get_or-map int (map pos numbers) i (pos 0) null (omega (arith, length-map numbers pos)) ∙ ap int (get_or-map pos numbers i 0 (pos 0) l))

ranged-at : (f : ℕ → ℕ) (n i : ℕ) → i < n → whole_or_zero (row_at (number_rows (map f (range_with_len 0 n))) i) ≡ pos (f i)
ranged-at f n i l = number-at (map f (range_with_len 0 n)) i (omega (arith, length-map-range_with_len f 0 n)) ∙ ap pos (get_or-map-range_with_len f 0 n i i 0 l (omega arith))

-- ---- heads before a row

module _ (os : List (Option ℤ)) where
  -- the heads that come later
  pub record HasLater (i n : ℕ) : Type 0 where
    pub later : List ℕ
    pub is : heads_before os n ≡ heads_before os i ++ later

  pub heads-later : (i more : ℕ) → HasLater i (i + more)
  heads-later i zero = let same : i + 0 ≡ i = omega arith in record { later = []; is = ap (heads_before os) same ∙ sym (append-nil (heads_before os i)) }
  heads-later i (suc more) =
      let next : i + suc more ≡ i + more + 1 = omega arith in
      let rest = heads-later i more in
      let last = cond (begins_run os (i + more)) ((i + more) ∷ []) [] in
      record {
        later = rest.later ++ last;
        is = ap (heads_before os) next ∙ filter-range_more (begins_run os) 0 (i + more) (i + more) (omega arith) ∙ ap (λ l. l ++ last) rest.is ∙ append_assoc (heads_before os i) rest.later last;
      }

  -- more rows have no fewer runs
  pub runs-more : (i n : ℕ) → i ≤ n → runs_before os i ≤ runs_before os n
  runs-more i n l =
      let end : i + (n - i) ≡ n = omega arith in
      let rest = heads-later i (n - i) in
      omega (arith, ap (runs_before os) end, ap length rest.is, length-append (heads_before os i) rest.later)

  -- the first row of a block begins a run
  pub runs-block : (block : ℕ) → runs_before os (1024 * block + 1) ≡ runs_before os (1024 * block) + 1
  runs-block block = runs-push os (1024 * block) (begins-first os (1024 * block) (omega arith))

module _ (os : List (Option ℤ)) (vs : List PlainValue) (follow : RowsFollow os vs) where
  -- the last run that begins up to a row has its value
  pub record IsLast (i : ℕ) : Type 0 where
    pub before : List ℕ
    pub head : ℕ
    pub is : heads_before os (i + 1) ≡ before ++ head ∷ []
    pub row : row_at vs head ≡ row_at vs i

  pub last-head : (i : ℕ) → IsLast i
  last-head zero = record { before = heads_before os 0; head = 0; is = heads-push os 0 (begins-first os 0 refl); row = refl }
  last-head (suc i) = pick (begins_run os (suc i)) refl (last-head i)
    where
      next : suc i ≡ i + 1
      next = omega arith

      pick : (b : Bool) → begins_run os (suc i) ≡ b → IsLast i → IsLast (suc i)
      pick true t rest = record { before = heads_before os (suc i); head = suc i; is = heads-push os (suc i) t; row = refl }
      pick false t rest =
          let both = or_parts (suc i % 1024 == 0) (differs os (suc i)) t in
          let one : suc i - 1 ≡ i = omega arith in
          record { before = rest.before; head = rest.head; is = heads-skip os (suc i) t ∙ ap (heads_before os) next ∙ rest.is; row = rest.row ∙ ap (row_at vs) (sym one) ∙ follow (suc i) both.1 }

  module _ (i : ℕ) (l : i < length os) where
    abbrev pub last : IsLast i
    last = last-head i

    count : runs_before os (i + 1) ≡ length last.before + 1
    count = ap length last.is ∙ length-append last.before (last.head ∷ [])

    all : HasLater os (i + 1) (i + 1 + (length os - (i + 1)))
    all = heads-later os (i + 1) (length os - (i + 1))

    heads-are : heads os ≡ last.before ++ last.head ∷ all.later
    heads-are =
        let end : length os ≡ i + 1 + (length os - (i + 1)) = omega arith in
        ap (heads_before os) end ∙ all.is ∙ ap (λ h. h ++ all.later) last.is ∙ append_assoc last.before (last.head ∷ []) all.later

    -- its place is there
    pub head-within : length last.before < length (heads os)
    head-within = omega (arith, ap length heads-are, length-append last.before (last.head ∷ all.later))

    -- and the row there is the row
    head-row : row_at (map (row_at vs) (heads os)) (length last.before) ≡ row_at vs i
    head-row =
        get_or-map (row_at vs) (heads os) (length last.before) 0 null head-within
        ∙ ap (row_at vs) (ap (λ h. get_or h (length last.before) 0) heads-are ∙ get_or-append_seam last.before last.head all.later 0) ∙ last.row

    block-within : (i / 1024 < block_count (length os)) × (i < 1024 * block_count (length os))
    block-within = (omega arith, omega arith)

    -- a row's number and its block's offset are that place
    pub place-is : rle_place (number_rows (offsets os)) (number_rows (run_numbers os)) i ≡ int (pos (length last.before))
    place-is =
        let offset = ranged-at (λ block. runs_before os (1024 * block)) (block_count (length os)) (i / 1024) block-within.0 in
        let number = ranged-at (run_number os) (1024 * block_count (length os)) i block-within.1 in
        let told : run_number os i ≡ runs_before os (i + 1) - runs_before os (1024 * (i / 1024) + 1) = cond-true _ _ _ (lt-ltb i (length os) l) in
        let sum : runs_before os (1024 * (i / 1024)) + run_number os i ≡ length last.before =
        omega (arith, told, count, runs-block os (i / 1024), runs-more os (1024 * (i / 1024) + 1) (i + 1) (omega arith)) in
        (λ k. int (offset k +ℤ number k)) ∙ ap (λ n. int (pos n)) sum

    pub blocks-back : looked_up (map (row_at vs) (heads os)) (rle_place (number_rows (offsets os)) (number_rows (run_numbers os)) i) ≡ row_at vs i
    blocks-back = ap (looked_up (map (row_at vs) (heads os))) place-is ∙ head-row
