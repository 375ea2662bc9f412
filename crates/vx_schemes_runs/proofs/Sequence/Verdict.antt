-- The verdict on a sequence, and the sequence of a plain tree.
use Rattle.std.proofs.Common.{◌≡◌, ◌∙◌, ℕ, ℤ, List, Bool, true, false, cond, length, map, Option, Some, None, refl, sym, ap, subst}
use Rattle.std.specs.Prelude.{is_some, Err}
use Rattle.std.specs.List.{list_any}
use Rattle.vx_base.specs.Answers.{SurelyDecided}
use Rattle.vx_base.specs.declared.error.VortexError.{VortexError}
use Rattle.vx_base.specs.declared.ptype.PType.{PType}
use Rattle.vx_base.specs.declared.dtype.Nullability.{Nullability}
use Rattle.vx_base.specs.declared.fraction.Fraction.{Fraction}
use Rattle.vx_base.specs.Fractions.{numerator, divisor}
use Rattle.vx_base.specs.PlainType.{is_integer, integer_of}
use Rattle.vx_base.specs.PlainType as types
use Rattle.vx_base.specs.PlainValue.{is_null, whole_or_zero}
use Rattle.vx_base.proofs.IntegerLemmas.{by_integer}
use Rattle.vx_blocks.specs.Sequence.{sequence_of}
use Rattle.vx_model.specs.Column.{Column, IsColumn, column, column_of}
use Rattle.vx_model.specs.Plain.{IsPlain, valid_bits}
use Rattle.vx_model.specs.Refusals.{sequence_refusal}
use Rattle.vx_model.specs.Rows.{rows}
use Rattle.vx_model.specs.Tree.{Tree, Validity, primitive}
use Rattle.vx_model.specs.TreeType.{tree_type}
use Rattle.vx_model.specs.WellFormed.{WellFormed}
use Rattle.vx_model.proofs.PlainLemmas.{wholes_lie_in}
use Rattle.vx_scheme.specs.declared.estimate.EstimateVerdict.TheVariants.{Skip, Ratio}
use Rattle.vx_scheme.proofs.RatioLemmas.{Ratio-parts}
use Rattle.vx_schemes_common.proofs.ColumnLemmas.{wholes_are, validity_is}
use Rattle.vx_schemes_runs.specs.Sequence.Laws.{found-is, found-admitted}
use Rattle.vx_schemes_runs.specs.Sequence.Meaning.{sequence_verdict}
use Rattle.vx_schemes_runs.specs.Sequence.Tree.{sequence_in}
use Rattle.vx_schemes_runs.specs.Thresholds.{is_beaten, above}
use Rattle.vx_schemes_runs.proofs.ThresholdLemmas.{beaten, passing}
use Rattle.std.proofs.lemmas.List.{length-map}

-- ---- verdicts

pub half-beaten : (t : Option Fraction) (len : ℕ) (o : Option (ℤ × ℤ)) (x : Fraction) → is_beaten x t ≡ true → numerator x ≡ len → divisor x ≡ 2 → Skip ≡ above t (sequence_verdict len o)
half-beaten t len None x b num den = refl
half-beaten t len (Some found) x b num den = beaten t x (sequence_verdict len (Some found)) b (Ratio-parts x len 2 num den)

pub half-passing : (t : Option Fraction) (len : ℕ) (o : Option (ℤ × ℤ)) (found : ℤ × ℤ) (x : Fraction) → Some found ≡ o → is_beaten x t ≡ false → numerator x ≡ len → divisor x ≡ 2 → Ratio x ≡ above t (sequence_verdict len o)
half-passing t len o found x e b num den =
    subst (λ p. Ratio x ≡ above t (sequence_verdict len p)) e (passing t x (sequence_verdict len (Some found)) b (Ratio-parts x len 2 num den))

pub none-skipped : (t : Option Fraction) (len : ℕ) (o : Option (ℤ × ℤ)) → None ≡ o → Skip ≡ above t (sequence_verdict len o)
none-skipped t len o e = subst (λ p. Skip ≡ above t (sequence_verdict len p)) e refl

-- ---- the sequence of a plain tree

module _ (t : Tree) (p : PType) (xs : List ℤ) (valid : Validity) (n : Nullability) (w : WellFormed t) (at : t ≡ primitive p xs valid n) (is_plain : IsPlain t) where
  pub null_is : is_some valid ≡ list_any is_null (rows t)
  null_is = ap is_some (validity_is t p xs valid n w at is_plain) ∙ by_any (list_any is_null (rows t))
    where
      by_any : (b : Bool) → is_some (cond b (Some (valid_bits (rows t))) None) ≡ b
      by_any true = refl
      by_any false = refl

  pub sequence_is : list_any is_null (rows t) ≡ false → sequence_of p xs ≡ sequence_in (column_of t)
  sequence_is none = rw (none, wholes_are t p xs valid n w at is_plain, ap tree_type at) refl

-- what is found is admitted
pub sequence-admitted : (c : Column) (found : ℤ × ℤ) → is_integer c.dtype ≡ true → IsColumn c → Some found ≡ sequence_in c → sequence_refusal (integer_of c.dtype) found.0 found.1 (length c.values) ≡ None
sequence-admitted c found j h e =
    by_integer (λ s. fitted s → Some found ≡ sequence_in (column s c.values) → sequence_refusal (integer_of s) found.0 found.1 (length c.values) ≡ None) of_type c.dtype j h e
  where
    fitted : types.PlainType → Type 0
    fitted s = IsColumn (column s c.values)

    of_type : (p : PType) (n : Nullability) → fitted (types.primitive p n) → Some found ≡ sequence_in (column (types.primitive p n) c.values) → sequence_refusal p found.0 found.1 (length c.values) ≡ None
    of_type p n k q = by_null (list_any is_null c.values) q
      where
        zs : List ℤ
        zs = map whole_or_zero c.values

        by_null : (b : Bool) → Some found ≡ cond b None (sequence_of p zs) → sequence_refusal p found.0 found.1 (length c.values) ≡ None
        by_null true r = absurd cc
        by_null false r =
            subst (λ len. sequence_refusal p found.0 found.1 len ≡ None) (length-map c.values whole_or_zero) (found-admitted p zs found (found-is p zs found (sym r)) (wholes_lie_in p n c.values k))

-- what isn't refused is no error
pub surely_err : {A : Type 0} (refusal : Option VortexError) (P : A → Type 0) (e : VortexError) → refusal ≡ None → SurelyDecided refusal P (Err e) → ⊥
surely_err None P e none h = h
surely_err (Some x) P e none h = absurd cc
