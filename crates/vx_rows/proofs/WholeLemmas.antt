-- Answers on integers that a call was handed as machine words: a word's number is the number that it was made of.
use Rattle.std.proofs.Common.{◌≡◌, ◌∙◌, ℤ, Bool, List, map, of_z, sym, to_z}
use Rattle.std.specs.Int.{w128}
use Rattle.std.specs.Prelude.{FitsSigned, Result, Ok, Err}
use Rattle.std.proofs.lemmas.Int.{to_z-of_z}
use Rattle.vx_base.specs.declared.error.VortexError.{VortexError}
use Rattle.vx_base.specs.Answers.{Answers}
use Rattle.vx_base.specs.PlainValue.{PlainValue, truth}
use Rattle.vx_model.specs.Rows.{valid_rows}
use Rattle.vx_model.specs.Tree.{Validity}
use Rattle.vx_rules.specs.declared.options.BetweenOptions.{BetweenOptions}
use Rattle.vx_rules.specs.declared.options.CompareOperator.{CompareOperator}
use Rattle.vx_rows.specs.Pairs.{whole_holds, whole_within}

pub whole-held : (r : Result (List Bool) VortexError) (op : CompareOperator) (w : ℤ) (zs ws : List ℤ) → FitsSigned w128 w → zs ≡ ws
    → Answers r (map (whole_holds op (to_z w128 (of_z w128 w))) zs) → Answers r (map (whole_holds op w) ws)
whole-held (Ok bits) op w zs ws h e a = a ∙ (λ i. map (whole_holds op (to_z-of_z w128 w h i)) (e i))
whole-held (Err x) op w zs ws h e a = a

pub wholes-within : (r : Result (List Bool) VortexError) (options : BetweenOptions) (low high : ℤ) (zs ws : List ℤ) → FitsSigned w128 low → FitsSigned w128 high → zs ≡ ws
    → Answers r (map (whole_within options (to_z w128 (of_z w128 low)) (to_z w128 (of_z w128 high))) zs) → Answers r (map (whole_within options low high) ws)
wholes-within (Ok bits) options low high zs ws h k e a = a ∙ (λ i. map (whole_within options (to_z-of_z w128 low h i) (to_z-of_z w128 high k i)) (e i))
wholes-within (Err x) options low high zs ws h k e a = a

pub rows-held : (r : Result (List PlainValue) VortexError) (op : CompareOperator) (w : ℤ) (valid : Validity) (zs : List ℤ) (rows : List PlainValue) → FitsSigned w128 w → rows ≡ valid_rows valid (map truth (map (whole_holds op w) zs))
    → Answers r (valid_rows valid (map truth (map (whole_holds op (to_z w128 (of_z w128 w))) zs))) → Answers r rows
rows-held (Ok found) op w valid zs rows h e a = a ∙ (λ i. valid_rows valid (map truth (map (whole_holds op (to_z-of_z w128 w h i)) zs))) ∙ sym e
rows-held (Err x) op w valid zs rows h e a = a

pub within-held : (r : Result (List PlainValue) VortexError) (options : BetweenOptions) (low high : ℤ) (valid : Validity) (zs : List ℤ) (rows : List PlainValue) → FitsSigned w128 low → FitsSigned w128 high
    → rows ≡ valid_rows valid (map truth (map (whole_within options low high) zs)) → Answers r (valid_rows valid (map truth (map (whole_within options (to_z w128 (of_z w128 low)) (to_z w128 (of_z w128 high))) zs))) → Answers r rows
within-held (Ok found) options low high valid zs rows h k e a = a ∙ (λ i. valid_rows valid (map truth (map (whole_within options (to_z-of_z w128 low h i) (to_z-of_z w128 high k i)) zs))) ∙ sym e
within-held (Err x) options low high valid zs rows h k e a = a
