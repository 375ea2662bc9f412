-- Optional whole numbers, row by row.
use Rattle.std.proofs.Common.{◌≡◌, ℕ, zero, suc, ◌-◌, ◌<◌, ℤ, pos, Bool, false, List, [], ◌∷◌, length, map, get_or, refl, sym, ap, ◌∙◌, arith}
use Rattle.std.specs.Prelude.{not, None}
use Rattle.std.proofs.lemmas.List.{length-map}
use Rattle.vx_blocks.specs.Optional.{optional_row, optional_rows, same_row, differs}
use Rattle.vx_blocks.proofs.Sequences.{whole-at}

pub length-optional_rows : (zs : List ℤ) (valid : List Bool) → length valid ≡ length zs → length (optional_rows zs valid) ≡ length zs
length-optional_rows [] valid e = refl
length-optional_rows (z ∷ zs) [] e = absurd (omega arith)
length-optional_rows (z ∷ zs) (v ∷ valid) e = let ih = length-optional_rows zs valid (omega arith) in omega arith

pub optional_rows-get : (zs : List ℤ) (valid : List Bool) (i : ℕ) → length valid ≡ length zs → i < length zs → get_or (optional_rows zs valid) i None ≡ optional_row (get_or zs i (pos 0)) (get_or valid i false)
optional_rows-get [] valid i e h = absurd (omega arith)
optional_rows-get (z ∷ zs) [] i e h = absurd (omega arith)
optional_rows-get (z ∷ zs) (v ∷ valid) zero e h = refl
optional_rows-get (z ∷ zs) (v ∷ valid) (suc i) e h = optional_rows-get zs valid i (omega arith) (omega arith)

-- the rows of a slice whose items are whole numbers by g
module _ {X : Type 0} (g : X → ℤ) (xs : List X) (valid : List Bool) (same : length valid ≡ length xs) where
  pub rows-length : length (optional_rows (map g xs) valid) ≡ length xs
  rows-length = length-optional_rows (map g xs) valid (omega (arith, length-map xs g)) ∙ length-map xs g

  pub rows-at : (i : ℕ) (x : X) → i < length xs → x ≡ get_or xs i x → optional_row (g x) (get_or valid i false) ≡ get_or (optional_rows (map g xs) valid) i None
  rows-at i x h at =
      ap (λ z. optional_row z (get_or valid i false)) (whole-at g xs i x h at) ∙ sym (optional_rows-get (map g xs) valid i (omega (arith, length-map xs g)) (omega (arith, length-map xs g)))

  -- two rows, one after the other
  pub differs-at : (i : ℕ) (a b : X) → 0 < i → i < length xs → a ≡ get_or xs (i - 1) a → b ≡ get_or xs i b
      → not (same_row (optional_row (g a) (get_or valid (i - 1) false)) (optional_row (g b) (get_or valid i false))) ≡ differs (optional_rows (map g xs) valid) i
  differs-at i a b some h before at =
      let p = rows-at (i - 1) a (omega arith) before in
      let q = rows-at i b h at in
      λ k. not (same_row (p k) (q k))
