-- The lesser and the greater of two integers of a type.
use Rattle.std.proofs.Common.{◌≡◌, Ordering, ℤ, Bool, true, false, cond, refl, ap, ◌∙◌, arith}
use Rattle.std.specs.Prelude.{int_lt}
use Rattle.std.specs.Int.{int_min, int_max}
use Rattle.std.specs.Ordering.{int_cmp, is_lt, ord_min, ord_max}

is_lt-int_cmp : (x y : ℤ) → is_lt (int_cmp x y) ≡ int_lt x y
is_lt-int_cmp x y = grind arith

ap-cond : {A B : Type 0} (f : A → B) (t : Bool) (x y : A) → f (cond t x y) ≡ cond t (f x) (f y)
ap-cond f true x y = refl
ap-cond f false x y = refl

-- ---- the order of an integer type is that of the whole numbers

module _ {T : Type 0} (whole : T → ℤ) (cmp : T → T → Ordering) (ordered : (a b : T) → cmp a b ≡ int_cmp (whole a) (whole b)) where
  pub less : (a b : T) → is_lt (cmp a b) ≡ int_lt (whole a) (whole b)
  less a b = ap is_lt (ordered a b) ∙ is_lt-int_cmp (whole a) (whole b)

  pub whole-min : (a b : T) → whole (ord_min cmp a b) ≡ int_min (whole a) (whole b)
  whole-min a b = ap-cond whole (is_lt (cmp b a)) b a ∙ ap (λ t. cond t (whole b) (whole a)) (less b a)

  pub whole-max : (a b : T) → whole (ord_max cmp a b) ≡ int_max (whole a) (whole b)
  whole-max a b = ap-cond whole (is_lt (cmp b a)) a b ∙ ap (λ t. cond t (whole a) (whole b)) (less b a)
