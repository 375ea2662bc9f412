-- An operator between canonical parts and the parts of one timestamp holds where it does between the timestamps.
use Rattle.std.proofs.Common.{◌≡◌, ◌∙◌, ℤ, true, refl, sym, ap, Bool, false}
use Rattle.std.specs.Prelude.{◌&&◌}
use Rattle.std.specs.declared.cmp.Ordering.{Ordering}
use Rattle.std.specs.declared.cmp.Ordering.TheVariants.{Less, Equal, Greater}
use Rattle.std.specs.Ordering.{int_cmp, ordering_reverse}
use Rattle.std.proofs.lemmas.Cmp.{int_cmp_total}
use Rattle.vx_base.specs.declared.ptype.PType.TheVariants.{I64}
use Rattle.vx_base.specs.Integers.{lies_in}
use Rattle.vx_base.specs.PlainValue.{truth, int}
use Rattle.vx_rules.specs.declared.options.BetweenOptions.{BetweenOptions}
use Rattle.vx_rules.specs.declared.options.CompareOperator.{CompareOperator}
use Rattle.vx_rules.specs.Comparisons.{bound_operator, compared, holds, within_bounds}
use Rattle.vx_time.specs.CanonicalParts.{is_canonical, parts_cmp}
use Rattle.vx_time.specs.declared.parts.TimestampParts.{TimestampParts}
use Rattle.vx_time.specs.PartsOf.{parts_of, sum_of}
use Rattle.vx_time.proofs.Canonicals.{canonical_out, canonical_positive, parts_cmp-sum_of}
use Rattle.vx_time.proofs.Splits.{canonical_of, sum_of-split}
use Rattle.vx_datetime.specs.Moments.{floor_operator}

-- canonical parts are ordered as their sums
ordered : (d t : ℤ) (p : TimestampParts) → lies_in I64 t ≡ true → is_canonical d p ≡ true → parts_cmp p (parts_of d t) ≡ int_cmp (sum_of d p) t
ordered d t p held e =
    let h = canonical_out d p e in
    let some = canonical_positive d p h in
    let q = canonical_out d (parts_of d t) (canonical_of d t some held) in
    parts_cmp-sum_of d p (parts_of d t) h q ∙ ap (int_cmp (sum_of d p)) (sum_of-split d t some)

pub compared-moment : (op : CompareOperator) (d t : ℤ) (m p : TimestampParts) → lies_in I64 t ≡ true → m ≡ parts_of d t → is_canonical d p ≡ true → truth (holds op (parts_cmp p m)) ≡ compared op (int (sum_of d p)) (int t)
compared-moment op d t m p held e h = ap (λ o. truth (holds op o)) (ap (parts_cmp p) e ∙ ordered d t p held h)

-- ---- bounds

floor-turned : (strict : Bool) (o : Ordering) → holds (floor_operator strict) o ≡ holds (bound_operator strict) (ordering_reverse o)
floor-turned true Less = refl
floor-turned true Equal = refl
floor-turned true Greater = refl
floor-turned false Less = refl
floor-turned false Equal = refl
floor-turned false Greater = refl

pub within-moments : (options : BetweenOptions) (d a b : ℤ) (low high p : TimestampParts) → lies_in I64 a ≡ true → lies_in I64 b ≡ true → low ≡ parts_of d a → high ≡ parts_of d b → is_canonical d p ≡ true
    → truth (holds (floor_operator options.lower_strict) (parts_cmp p low) && holds (bound_operator options.upper_strict) (parts_cmp p high)) ≡ within_bounds options (int (sum_of d p)) (int a) (int b)
within-moments options d a b low high p f g e h i =
    let below : holds (floor_operator options.lower_strict) (parts_cmp p low) ≡ holds (bound_operator options.lower_strict) (int_cmp a (sum_of d p)) =
    ap (λ o. holds (floor_operator options.lower_strict) o) (ap (parts_cmp p) e ∙ ordered d a p f i) ∙ floor-turned options.lower_strict (int_cmp (sum_of d p) a) ∙ ap (holds (bound_operator options.lower_strict)) (sym (turned a (sum_of d p)))
    in
    let above : holds (bound_operator options.upper_strict) (parts_cmp p high) ≡ holds (bound_operator options.upper_strict) (int_cmp (sum_of d p) b) =
    ap (holds (bound_operator options.upper_strict)) (ap (parts_cmp p) h ∙ ordered d b p g i)
    in
    λ j. truth (below j && above j)
  where
    turned : (x y : ℤ) → int_cmp x y ≡ ordering_reverse (int_cmp y x)
    turned x y = int_cmp_total.antisymm x y
