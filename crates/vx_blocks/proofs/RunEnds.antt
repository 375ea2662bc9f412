-- The loop that gathers the ends of runs.
use Rattle.std.proofs.Common.{◌≡◌, ℕ, ◌+◌, ◌-◌, ◌<◌, ℤ, true, false, cond, List, [], ◌∷◌, ◌++◌, length, refl, ap, ◌∙◌, arith}
use Rattle.std.specs.Prelude.{◌||◌, filter, Option}
use Rattle.std.specs.List.{range_with_len}
use Rattle.std.proofs.lemmas.Bool.{ne_eqb, eq-eqb}
use Rattle.std.proofs.lemmas.List.{append-nil}
use Rattle.vx_blocks.specs.Optional.{differs}
use Rattle.vx_blocks.specs.Runs.{ends_run, run_ends}
use Rattle.vx_blocks.proofs.Ranges.{filter-range_more}

module _ (rows : List (Option ℤ)) where
  -- the ends up to one
  abbrev pub ends_to : ℕ → List ℕ
  ends_to n = filter (ends_run rows) (range_with_len 1 n)

  ends_to-more : (i : ℕ) → 0 < i → ends_to i ≡ ends_to (i - 1) ++ cond (ends_run rows i) (i ∷ []) []
  ends_to-more i some = let next : i ≡ i - 1 + 1 = omega arith in ap ends_to next ∙ filter-range_more (ends_run rows) 1 (i - 1) i (omega arith)

  module _ (i : ℕ) (some : 0 < i) (within : i < length rows) where
    inner : ends_run rows i ≡ differs rows i
    inner = ap (λ b. b || differs rows i) (ne_eqb i (length rows) (omega arith))

    pub ends-push : differs rows i ≡ true → ends_to i ≡ ends_to (i - 1) ++ i ∷ []
    ends-push e = ends_to-more i some ∙ rw (inner ∙ e) refl

    pub ends-skip : differs rows i ≡ false → ends_to i ≡ ends_to (i - 1)
    ends-skip e = ends_to-more i some ∙ rw (inner ∙ e) (append-nil (ends_to (i - 1)))

  pub ends-all : 0 < length rows → run_ends rows ≡ ends_to (length rows - 1) ++ length rows ∷ []
  ends-all some = ends_to-more (length rows) some ∙ rw (ap (λ b. b || differs rows (length rows)) (eq-eqb (length rows) (length rows) refl)) refl
