-- The cases of a leaf, over any choice of a scheme's tree and at any site.
use Rattle.std.proofs.Common.{◌≡◌, ◌≢◌, ◌∙◌, Bool, true, false, List, [], ◌∷◌, length, Some, None, cond, refl, ap, arith}
use Rattle.std.specs.Prelude.{if◌then◌else◌, option_and_then}
use Rattle.std.proofs.lemmas.Bool.{cond-true, cond-false, eq-eqb, ne_eqb}
use Rattle.vx_base.specs.PlainScalar.{scalar}
use Rattle.vx_base.specs.PlainValue.{PlainValue, null}
use Rattle.vx_model.specs.Tree.{constant}
use Rattle.vx_model.specs.Column.{Column}
use Rattle.vx_model.specs.Leaf.{Chooses, first_valid, each_null_or, one_value, one_value_tree, smaller_or_plain, chosen_or_plain, by_value, leaf}
use Rattle.vx_model.specs.Plain.{plain}
use Rattle.vx_model.specs.Site.{Site}
use Rattle.vx_model.proofs.OneValueLemmas.{first_valid-none, first_valid-some}

pub length-first_valid : (vs : List PlainValue) (v : PlainValue) → first_valid vs ≡ Some v → length vs ≢ 0
length-first_valid [] v e none = absurd cc
length-first_valid (w ∷ vs) v e none = omega arith

one_value-first : (vs : List PlainValue) (v : PlainValue) → first_valid vs ≡ Some v → one_value vs ≡ cond (each_null_or v vs) (Some v) None
one_value-first vs v e = ap (option_and_then (λ w. if each_null_or w vs then Some w else None)) e

module _ (chooses : Chooses) (c : Column) (site : Site) where
  pub leaf-empty : length c.values ≡ 0 → leaf chooses c site ≡ plain c
  leaf-empty empty = cond-true _ _ _ (eq-eqb _ _ empty)

  pub leaf-nulls : length c.values ≢ 0 → first_valid c.values ≡ None → leaf chooses c site ≡ constant (scalar c.dtype null) (length c.values)
  leaf-nulls full e = cond-false _ _ _ (ne_eqb _ _ full) ∙ cond-true _ _ _ (first_valid-none c.values e)

  module _ (v : PlainValue) (e : first_valid c.values ≡ Some v) where
    -- where some row is valid, it is chosen by the value
    leaf-valid : leaf chooses c site ≡ by_value chooses c site (if site.sampled then None else one_value c.values)
    leaf-valid = cond-false _ _ _ (ne_eqb _ _ (length-first_valid c.values v e)) ∙ cond-false _ _ _ (first_valid-some c.values v e)

    pub leaf-sampled : site.sampled ≡ true → leaf chooses c site ≡ chosen_or_plain c (chooses c site)
    leaf-sampled sampled = leaf-valid ∙ ap (by_value chooses c site) (cond-true _ _ _ sampled)

    pub leaf-one : site.sampled ≡ false → each_null_or v c.values ≡ true → leaf chooses c site ≡ smaller_or_plain c (one_value_tree c v)
    leaf-one whole each = leaf-valid ∙ ap (by_value chooses c site) (cond-false _ _ _ whole ∙ one_value-first c.values v e ∙ cond-true _ _ _ each)

    pub leaf-many : each_null_or v c.values ≡ false → leaf chooses c site ≡ chosen_or_plain c (chooses c site)
    leaf-many each = leaf-valid ∙ ap (by_value chooses c site) (either site.sampled)
      where
        either : (b : Bool) → (if b then None else one_value c.values) ≡ None
        either true = refl
        either false = one_value-first c.values v e ∙ cond-false _ _ _ each
