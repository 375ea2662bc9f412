-- Two columns exchanged: the turned operator holds of them.
use Rattle.std.proofs.Common.{◌≡◌, ◌∙◌, Bool, true, false, cond, List, [], ◌∷◌, refl, ap}
use Rattle.std.specs.Prelude.{◌||◌}
use Rattle.std.specs.declared.cmp.Ordering.{Ordering}
use Rattle.std.specs.declared.cmp.Ordering.TheVariants.{Less, Equal, Greater}
use Rattle.std.specs.Ordering.{ordering_reverse}
use Rattle.std.proofs.lemmas.Cmp.{int_cmp_total, nat_list_cmp_total}
use Rattle.vx_base.specs.PlainValue.{PlainValue, bytes, int, is_null, items, null, truth}
use Rattle.vx_rules.specs.declared.options.CompareOperator.{CompareOperator}
use Rattle.vx_rules.specs.declared.options.CompareOperator.TheVariants as ops
use Rattle.vx_rules.specs.Comparisons.{compared, holds}
use Rattle.vx_rules.specs.ValueOrder.{value_cmp}
use Rattle.vx_rows.specs.Pairs.{compared_rows, turned}

-- an operator holds of two values where the turned one holds of them exchanged
turned-is : (op : CompareOperator) (o : Ordering) → holds op (ordering_reverse o) ≡ holds (turned op) o
turned-is ops.Eq Less = refl
turned-is ops.Eq Equal = refl
turned-is ops.Eq Greater = refl
turned-is ops.NotEq Less = refl
turned-is ops.NotEq Equal = refl
turned-is ops.NotEq Greater = refl
turned-is ops.Gt Less = refl
turned-is ops.Gt Equal = refl
turned-is ops.Gt Greater = refl
turned-is ops.Gte Less = refl
turned-is ops.Gte Equal = refl
turned-is ops.Gte Greater = refl
turned-is ops.Lt Less = refl
turned-is ops.Lt Equal = refl
turned-is ops.Lt Greater = refl
turned-is ops.Lte Less = refl
turned-is ops.Lte Equal = refl
turned-is ops.Lte Greater = refl

value-turned : (v w : PlainValue) → value_cmp v w ≡ ordering_reverse (value_cmp w v)
value-turned null null = refl
value-turned null (truth b) = refl
value-turned null (int z) = refl
value-turned null (bytes cs) = refl
value-turned null (items vs) = refl
value-turned (truth a) null = refl
value-turned (truth true) (truth true) = refl
value-turned (truth true) (truth false) = refl
value-turned (truth false) (truth true) = refl
value-turned (truth false) (truth false) = refl
value-turned (truth a) (int z) = refl
value-turned (truth a) (bytes cs) = refl
value-turned (truth a) (items vs) = refl
value-turned (int y) null = refl
value-turned (int y) (truth b) = refl
value-turned (int y) (int z) = int_cmp_total.antisymm y z
value-turned (int y) (bytes cs) = refl
value-turned (int y) (items vs) = refl
value-turned (bytes bs) null = refl
value-turned (bytes bs) (truth b) = refl
value-turned (bytes bs) (int z) = refl
value-turned (bytes bs) (bytes cs) = nat_list_cmp_total.antisymm bs cs
value-turned (bytes bs) (items vs) = refl
value-turned (items us) null = refl
value-turned (items us) (truth b) = refl
value-turned (items us) (int z) = refl
value-turned (items us) (bytes cs) = refl
value-turned (items us) (items vs) = refl

compared-turned : (op : CompareOperator) (v w : PlainValue) → compared op v w ≡ compared (turned op) w v
compared-turned op v w = (λ i. cond (or-turned (is_null v) (is_null w) i) null (truth ((ap (holds op) (value-turned v w) ∙ turned-is op (value_cmp w v)) i)))
  where
    or-turned : (a b : Bool) → (a || b) ≡ (b || a)
    or-turned true true = refl
    or-turned true false = refl
    or-turned false true = refl
    or-turned false false = refl

pub rows-turned : (op : CompareOperator) (vs ws : List PlainValue) → compared_rows op vs ws ≡ compared_rows (turned op) ws vs
rows-turned op [] [] = refl
rows-turned op [] (w ∷ ws) = refl
rows-turned op (v ∷ vs) [] = refl
rows-turned op (v ∷ vs) (w ∷ ws) = λ i. compared-turned op v w i ∷ rows-turned op vs ws i
