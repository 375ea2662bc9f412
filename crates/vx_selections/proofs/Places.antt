-- Indices under a mask, one by one.
use Rattle.std.proofs.Common.{◌≡◌, ◌<◌, ◌∙◌, ℕ, ℤ, pos, Bool, true, false, cond, List, [], ◌∷◌, length, map, ap, refl, sym, subst}
use Rattle.std.specs.Prelude.{◌&&◌, ◌||◌, not, slice_index_or}
use Rattle.std.specs.List.{list_all, list_any}
use Rattle.std.proofs.lemmas.List.{get_or-map, length-map}
use Rattle.vx_base.specs.PlainValue.{null, int}
use Rattle.vx_model.specs.Rows.{masked_rows, row_at}
use Rattle.vx_model.specs.WellFormed.{is_place}
use Rattle.vx_model.proofs.RowLemmas.{row_at-masked_rows}

-- ---- a masked index is null

pub masked_index-at : (bits : List Bool) (zs : List ℤ) (row : ℕ) → length bits ≡ length zs → row < length bits → row_at (masked_rows bits (map int zs)) row ≡ cond (slice_index_or bits row false) (int (slice_index_or zs row (pos 0))) null
masked_index-at bits zs row l h =
    row_at-masked_rows bits (map int zs) row (l ∙ sym (length-map zs int)) ∙ ap (λ v. cond (slice_index_or bits row false) v null) (get_or-map int zs row (pos 0) null (subst (λ n. row < n) l h))

pub place-where : (len : ℕ) (bits : List Bool) (zs : List ℤ) (row : ℕ) → length bits ≡ length zs → row < length bits → slice_index_or bits row false ≡ true → is_place len (row_at (masked_rows bits (map int zs)) row) ≡ is_place len (int (slice_index_or zs row (pos 0)))
place-where len bits zs row l h e = ap (is_place len) (masked_index-at bits zs row l h ∙ ap (λ b. cond b (int (slice_index_or zs row (pos 0))) null) e)

pub place-beneath : (len : ℕ) (bits : List Bool) (zs : List ℤ) (row : ℕ) → length bits ≡ length zs → row < length bits → slice_index_or bits row false ≡ false → is_place len (row_at (masked_rows bits (map int zs)) row) ≡ true
place-beneath len bits zs row l h e = ap (is_place len) (masked_index-at bits zs row l h ∙ ap (λ b. cond b (int (slice_index_or zs row (pos 0))) null) e)

-- ---- all are places where none is outside

pub none-outside : (len : ℕ) (zs : List ℤ) → not (list_any (λ z. not (is_place len (int z))) zs) ≡ list_all (is_place len) (map int zs)
none-outside len [] = refl
none-outside len (z ∷ zs) = joined (is_place len (int z)) (list_any (λ z. not (is_place len (int z))) zs) _ (none-outside len zs)
  where
    joined : (b c d : Bool) → not c ≡ d → not (not b || c) ≡ (b && d)
    joined true c d e = e
    joined false c d e = refl

pub ruleset places = (place-where, place-beneath)
