-- Answers for one timestamp in every row of another column, as the rules give them.
use Rattle.std.proofs.Common.{◌≡◌, ◌∙◌, ℤ, length, map, refl, sym, ap}
use Rattle.std.specs.Prelude.{replicate, zip}
use Rattle.vx_base.specs.declared.dtype.Nullability.{Nullability}
use Rattle.vx_base.specs.PlainType.{nullability_of, or_nullable}
use Rattle.vx_base.specs.PlainType as types
use Rattle.vx_base.specs.PlainValue.{int}
use Rattle.vx_base.specs.Timestamps.{PlainTimestamp}
use Rattle.vx_model.specs.Column.{column, column_of}
use Rattle.vx_model.specs.Rows.{rows}
use Rattle.vx_model.specs.Tree.{Tree, datetime_parts}
use Rattle.vx_model.specs.TreeType.{tree_type}
use Rattle.vx_rows.specs.Pairs.{each_pair}
use Rattle.vx_rows.proofs.ValidLemmas.{pair-replicate, triple-replicate}
use Rattle.vx_rules.specs.declared.options.BetweenOptions.{BetweenOptions}
use Rattle.vx_rules.specs.declared.options.CompareOperator.{CompareOperator}
use Rattle.vx_rules.specs.Comparisons.{between, compared, comparison, within_bounds}

module _ (k : PlainTimestamp) (n : Nullability) (days seconds subseconds tree : Tree) (is : tree ≡ datetime_parts k n days seconds subseconds) where
  -- a column with one value in every row, and as many rows
  same-rows : (other : Tree) (t : ℤ) → length (rows tree) ≡ length (rows other) → rows other ≡ replicate (length (rows other)) (int t) → rows other ≡ replicate (length (rows (datetime_parts k n days seconds subseconds))) (int t)
  same-rows other t l e = e ∙ ap (λ len. replicate len (int t)) (sym l ∙ ap (λ x. length (rows x)) is)

  pub compared-same : (op : CompareOperator) (other : Tree) (t : ℤ) (m : Nullability) → length (rows tree) ≡ length (rows other) → rows other ≡ replicate (length (rows other)) (int t) → m ≡ nullability_of (tree_type other)
      → column (types.boolean (or_nullable n m)) (map (λ v. compared op v (int t)) (rows (datetime_parts k n days seconds subseconds))) ≡ comparison op (column_of tree) (column_of other)
  compared-same op other t m l e f =
      let vs = rows (datetime_parts k n days seconds subseconds) in
      (λ i. column (types.boolean (or_nullable n (f i))) ((sym (pair-replicate (compared op) vs (int t) (length vs) refl) ∙ ap (each_pair (compared op) vs) (sym (same-rows other t l e))) i))
      ∙ sym (ap (λ x. comparison op (column_of x) (column_of other)) is)

  pub within-same : (options : BetweenOptions) (lower upper : Tree) (a b : ℤ) (m : Nullability) → length (rows tree) ≡ length (rows lower) → length (rows tree) ≡ length (rows upper)
      → rows lower ≡ replicate (length (rows lower)) (int a) → rows upper ≡ replicate (length (rows upper)) (int b) → m ≡ or_nullable (nullability_of (tree_type lower)) (nullability_of (tree_type upper))
      → column (types.boolean (or_nullable n m)) (map (λ v. within_bounds options v (int a) (int b)) (rows (datetime_parts k n days seconds subseconds))) ≡ between options (column_of tree) (column_of lower) (column_of upper)
  within-same options lower upper a b m l o e g f =
      let vs = rows (datetime_parts k n days seconds subseconds) in
      (λ i. column (types.boolean (or_nullable n (f i))) ((sym (triple-replicate (within_bounds options) vs (int a) (int b) (length vs) refl)
      ∙ (λ j. map (λ p. within_bounds options p.0 p.1.0 p.1.1) (zip vs (zip (sym (same-rows lower a l e) j) (sym (same-rows upper b o g) j))))) i))
      ∙ sym (ap (λ x. between options (column_of x) (column_of lower) (column_of upper)) is)
