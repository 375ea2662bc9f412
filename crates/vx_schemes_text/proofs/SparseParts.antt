-- Sparse texts over null, as calls find them: the test, the estimate, and the only part.
use Rattle.std.proofs.Common.{◌≡◌, ◌≤◌, ◌*◌, ◌-◌, ◌∙◌, ℕ, Bool, true, false, List, [], ◌∷◌, length, refl, sym, ap, arith}
use Rattle.std.specs.Prelude.{◌&&◌, nat_lt}
use Rattle.std.proofs.lemmas.Bool.{cond-true, cond-false}
use Rattle.vx_base.specs.declared.fraction.Fraction.{Fraction}
use Rattle.vx_base.specs.Fractions.{numerator, divisor}
use Rattle.vx_base.specs.PlainValue.{PlainValue}
use Rattle.vx_model.specs.Column.{Column, column_of}
use Rattle.vx_model.specs.Plain.{plain}
use Rattle.vx_model.specs.Tree.{Tree}
use Rattle.vx_scheme.specs.Asked.{FitParts}
use Rattle.vx_scheme.specs.Meaning.{split_of}
use Rattle.vx_scheme.specs.Scores.{ratio_of}
use Rattle.vx_scheme.specs.declared.estimate.EstimateVerdict.TheVariants.{Skip, Ratio}
use Rattle.vx_scheme.specs.declared.split.Split.TheVariants.{Kept, Parts}
use Rattle.vx_scheme.proofs.RatioLemmas.{Ratio-parts}
use Rattle.vx_stats.specs.Rows.{valid_count}
use Rattle.vx_stats.specs.Stats.{null_count}
use Rattle.vx_schemes_common.specs.OnePart.{part_where}
use Rattle.vx_schemes_text.specs.NullSparse.Meaning.{null_dominated_estimate}
use Rattle.vx_schemes_text.specs.NullSparse.Tree.{is_null_dominated}
use Rattle.vx_schemes_text.proofs.ViewParts.{counts-all}

-- the test by the numbers of rows and of values
pub dominated-told : (vs : List PlainValue) (len values : ℕ) → len ≡ length vs → values ≡ valid_count vs → (nat_lt 0 values && nat_lt (9 * len) (10 * (len - values))) ≡ is_null_dominated vs
dominated-told vs len values l v =
    let nulls : len - values ≡ null_count vs = omega (arith, l, v, counts-all vs) in
    λ i. nat_lt 0 (v i) && nat_lt (9 * l i) (10 * nulls i)

pub ratio-told : (c : Column) (x : Fraction) → is_null_dominated c.values ≡ true → numerator x ≡ length c.values → divisor x ≡ valid_count c.values → Ratio x ≡ null_dominated_estimate c
ratio-told c x e num den = Ratio-parts x (length c.values) (valid_count c.values) num den ∙ sym (cond-true (is_null_dominated c.values) (ratio_of (length c.values) (valid_count c.values)) Skip e)

pub skip-told : (c : Column) → is_null_dominated c.values ≡ false → Skip ≡ null_dominated_estimate c
skip-told c e = sym (cond-false (is_null_dominated c.values) (ratio_of (length c.values) (valid_count c.values)) Skip e)

-- ---- the only part

-- at most one tree fits
pub few-trees : (test : Bool) (part : Column) (trees : List Tree) → FitParts (part_where test part) trees → length trees ≤ 1
few-trees true part [] fit = omega arith
few-trees true part (tree ∷ []) fit = omega arith
few-trees true part (tree ∷ other ∷ trees) fit = absurd cc
few-trees false part [] fit = omega arith
few-trees false part (tree ∷ trees) fit = absurd cc

-- one tree is that of the part
pub tree-fits : (test : Bool) (part : Column) (tree : Tree) → FitParts (part_where test part) (tree ∷ []) → (test ≡ true) × (column_of tree ≡ part)
tree-fits true part tree fit = (refl, cc)
tree-fits false part tree fit = absurd cc

pub parts-split : (test : Bool) (part : Column) (tree : Tree) → test ≡ true → tree ≡ plain part → Parts (tree ∷ []) ≡ split_of (part_where test part)
parts-split test part tree e same = ap (λ t. Parts (t ∷ [])) same ∙ ap (λ b. split_of (part_where b part)) (sym e)

pub kept-split : (test : Bool) (part : Column) → test ≡ false → Kept ≡ split_of (part_where test part)
kept-split test part e = ap (λ b. split_of (part_where b part)) (sym e)
