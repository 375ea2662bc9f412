-- Items of the first rows, the default where a row isn't valid, and what all of them are.
use Rattle.std.proofs.Common.{◌≡◌, ◌∙◌, ℕ, zero, suc, List, [], ◌∷◌, length, Bool, true, false, cond, refl, sym, ap, arith, Some, None}
use Rattle.std.specs.Prelude.{slice_index_or}
use Rattle.std.proofs.lemmas.Bool.{eqb-true}
use Rattle.std.proofs.lemmas.List.FromFn.{fill_by_all}
use Rattle.vx_model.specs.Decoded.{zeroed, zeroed_by}
use Rattle.vx_model.specs.Refusals.{validity_length}
use Rattle.vx_model.specs.Rows.{is_valid_at, below}
use Rattle.vx_model.specs.Tree.{Validity}

-- the bytes of a row, none where it isn't valid
abbrev pub kept_at : List (List ℕ) → Validity → ℕ → List ℕ
kept_at rows valid i = cond (is_valid_at valid i) (slice_index_or rows i []) []

abbrev pub kept_to : List (List ℕ) → Validity → ℕ → List (List ℕ)
kept_to rows valid n = below (kept_at rows valid) n

length-zeroed : (bits : List Bool) (rows : List (List ℕ)) → length bits ≡ length rows → length (zeroed [] bits rows) ≡ length rows
length-zeroed [] rows e = refl
length-zeroed (b ∷ bits) [] e = refl
length-zeroed (b ∷ bits) (x ∷ rows) e = ap suc (length-zeroed bits rows (omega arith))

at-zeroed : (bits : List Bool) (rows : List (List ℕ)) (i : ℕ) → length bits ≡ length rows → slice_index_or (zeroed [] bits rows) i [] ≡ cond (slice_index_or bits i false) (slice_index_or rows i []) []
at-zeroed [] [] i e = refl
at-zeroed [] (x ∷ rows) i e = absurd (omega arith)
at-zeroed (b ∷ bits) [] i e = absurd (omega arith)
at-zeroed (b ∷ bits) (x ∷ rows) zero e = refl
at-zeroed (b ∷ bits) (x ∷ rows) (suc i) e = at-zeroed bits rows i (omega arith)

pub zeroed_by-kept : (rows : List (List ℕ)) (valid : Validity) (n : ℕ) → validity_length valid (length rows) ≡ true → n ≡ length rows → kept_to rows valid n ≡ zeroed_by [] valid rows
zeroed_by-kept rows None n h e = sym (fill_by_all (kept_at rows None) rows n [] (sym e) (λ k l. refl))
zeroed_by-kept rows (Some bits) n h e =
    let same = eqb-true (length bits) (length rows) h in
    sym (fill_by_all (kept_at rows (Some bits)) (zeroed [] bits rows) n [] (length-zeroed bits rows same ∙ sym e) (λ k l. at-zeroed bits rows k same))

pub ruleset keeping = (zeroed_by-kept)
