-- The best widths of the blocks so far.
use Rattle.std.proofs.Common.{◌≡◌, ◌∙◌, ℕ, ◌+◌, ◌<◌, ◌≤◌, List, [], ◌∷◌, ◌++◌, length, get_or, arith, sym, subst, inl, inr}
use Rattle.std.proofs.lemmas.Bool.{cases_lt}
use Rattle.std.proofs.lemmas.List.{length_push, get_or_push, get_or_append_left}
use Rattle.vx_base.specs.declared.ptype.PType.{PType}
use Rattle.vx_base.specs.PackedBlocks.{block_of}
use Rattle.vx_base.specs.Integers.{bits_of}
use Rattle.vx_blocks.specs.InBlocks.{AreBestWidths, IsBestOf}

pub record BestSoFar (kind : PType) (rows : List ℕ) (blocks : ℕ) (widths : List ℕ) : Type 0 where
  pub size : length widths ≡ blocks
  pub each : (block : ℕ) → block < blocks → IsBestOf kind (block_of rows block) (get_or widths block 0)

pub best-more : (kind : PType) (rows : List ℕ) (blocks : ℕ) (widths : List ℕ) (width : ℕ) → BestSoFar kind rows blocks widths → IsBestOf kind (block_of rows blocks) width → BestSoFar kind rows (blocks + 1) (widths ++ width ∷ [])
best-more kind rows blocks widths width h best =
    record {
      size = length_push widths width ∙ omega (arith, h.size);
      each = λ block below. elim (cases_lt block blocks) [
        | inl lt ↦ subst (IsBestOf kind (block_of rows block)) (sym (get_or_append_left widths (width ∷ []) 0 block (omega (arith, h.size)))) (h.each block lt)
        | inr far ↦
            let here : blocks ≡ block = omega arith in
            subst (λ b. IsBestOf kind (block_of rows b) (get_or (widths ++ width ∷ []) b 0)) here (subst (IsBestOf kind (block_of rows blocks)) (sym (get_or_push widths width 0 blocks h.size)) best)
      ];
    }

-- for callers: no best width is wider than the type
pub best_within : (kind : PType) (rows widths : List ℕ) → AreBestWidths kind rows widths → (block : ℕ) → block < length widths → get_or widths block 0 ≤ bits_of kind
best_within kind rows widths h block below = (h.each block below).best.within
