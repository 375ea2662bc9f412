-- Integers that a type holds, as a tree of it.
use Rattle.std.proofs.Common.{◌≡◌, ◌∙◌, ℤ, Bool, true, false, cond, List, [], ◌∷◌, length, map, Some, Option, None, refl, sym, ap, arith}
use Rattle.std.specs.List.{list_all}
use Rattle.std.proofs.lemmas.Bool.{and_parts, cond_both, eqb-true}
use Rattle.std.proofs.lemmas.List.{length-map}
use Rattle.vx_base.specs.declared.dtype.Nullability.{Nullability}
use Rattle.vx_base.specs.declared.error.VortexError.{VortexError}
use Rattle.vx_base.specs.declared.ptype.PType.{PType}
use Rattle.vx_base.specs.Answers.{unless}
use Rattle.vx_base.specs.PlainScalar.{fits}
use Rattle.vx_base.specs.PlainType as types
use Rattle.vx_base.specs.PlainValue.{PlainValue, int, null}
use Rattle.vx_model.specs.Column.{column, column_of}
use Rattle.vx_model.specs.Refusals.{kept, primitive_refusal, validity_allowed, validity_length}
use Rattle.vx_model.specs.Rows.{masked_rows, valid_rows}
use Rattle.vx_model.specs.Tree.{Validity, primitive}
use Rattle.vx_model.specs.WellFormed.{WellFormed}
use Rattle.vx_model.proofs.MadeLemmas.{has_length}
use Rattle.vx_rows.specs.Conversions.{all_valid_in, whole_or_zero_in}
use Rattle.vx_rows.proofs.ConvertLemmas.{converted-rows, fit-rows}

-- a mask that is true throughout changes no row
all_masked : (bits : List Bool) (rs : List PlainValue) → list_all (λ bit. bit) bits ≡ true → length bits ≡ length rs → masked_rows bits rs ≡ rs
all_masked [] [] a l = refl
all_masked [] (r ∷ rs) a l = absurd (omega arith)
all_masked (b ∷ bits) [] a l = absurd (omega arith)
all_masked (b ∷ bits) (r ∷ rs) a l = let h = and_parts b (list_all (λ bit. bit) bits) a in λ i. cond (h.0 i) r null ∷ all_masked bits rs h.1 (omega arith) i

-- validity in its one form stands for the same rows
pub kept-rows : (valid : Validity) (rs : List PlainValue) → validity_length valid (length rs) ≡ true → valid_rows (kept valid) rs ≡ valid_rows valid rs
kept-rows None rs l = refl
kept-rows (Some bits) rs l =
    cond_both (list_all (λ bit. bit) bits) None (Some bits) (λ valid. valid_rows valid rs ≡ masked_rows bits rs)
    (λ all. sym (all_masked bits rs all (eqb-true _ _ l))) (λ some. refl)

pub pass : (b : Bool) (e : VortexError) (o : Option VortexError) → b ≡ true → o ≡ None → unless b e o ≡ None
pass true e o h n = n
pass false e o h n = absurd cc

module _ (p : PType) (n : Nullability) (valid : Validity) (zs : List ℤ) (whole : validity_length valid (length zs) ≡ true) (held : list_all (fits (types.primitive p n)) (valid_rows valid (map int zs)) ≡ true) where
  tests : (validity_allowed valid n ≡ true) × (all_valid_in p valid zs ≡ true)
  tests = and_parts (validity_allowed valid n) (all_valid_in p valid zs) (sym (fit-rows p valid n zs whole) ∙ held)

  -- the numbers in the type, with 0 for those that it doesn't hold, which stand beneath nulls
  module _ (q : PType) (ws : List ℤ) (bits : Validity) (of : q ≡ p) (converted : ws ≡ map (whole_or_zero_in p) zs) (same : bits ≡ valid) where
    long : length ws ≡ length zs
    long = ap length converted ∙ length-map zs (whole_or_zero_in p)

    fitted : validity_length bits (length ws) ≡ true
    fitted = (λ i. validity_length (same i) (long i)) ∙ whole

    pub held-accepted : primitive_refusal (length ws) bits n ≡ None
    held-accepted = pass _ _ _ fitted (pass _ _ _ (ap (λ v. validity_allowed v n) same ∙ tests.0) refl)

    pub held-made : column_of (primitive q ws (kept bits) n) ≡ column (types.primitive p n) (valid_rows valid (map int zs))
    held-made =
        ap (column (types.primitive q n)) (kept-rows bits (map int ws) (ap (validity_length bits) (length-map ws int) ∙ fitted))
        ∙ (λ i. column (types.primitive (of i) n) (valid_rows (same i) (map int (converted i))))
        ∙ ap (column (types.primitive p n)) (converted-rows p valid zs tests.1)

-- a node of integers has a validity bit for each, where it has validity bits
pub primitive-whole : (p : PType) (zs : List ℤ) (valid : Validity) (n : Nullability) → WellFormed (primitive p zs valid n) → validity_length valid (length zs) ≡ true
primitive-whole p zs valid n w = has_length valid (length zs) n w.0.validity

pub ruleset whole_roots = (primitive-whole)
