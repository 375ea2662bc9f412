-- The least and the greatest of the values of a flat column are two of them, and each of them lies between.
use Rattle.std.proofs.Common.{◌≡◌, ℕ, Bool, true, false, cond, List, [], ◌∷◌, ◌∙◌, refl, sym, ap, subst, inl, inr}
use Rattle.std.specs.Prelude.{◌⊎◌, ◌&&◌, ◌||◌, ◌==◌, not, fold, Some, unwrap_or}
use Rattle.std.specs.List.{list_all, reduce}
use Rattle.std.specs.declared.cmp.Ordering.{Ordering}
use Rattle.std.specs.declared.cmp.Ordering.TheVariants.{Less, Equal, Greater}
use Rattle.std.specs.Ordering.{is_le, is_lt, ord_min, ord_max}
use Rattle.std.proofs.lemmas.Bool.{and_parts, and_from, or_left, or_right, eqb-true, eq-eqb}
use Rattle.vx_base.specs.PlainScalar.{fits}
use Rattle.vx_base.specs.PlainType.{PlainType, is_flat}
use Rattle.vx_base.specs.PlainValue.{PlainValue, is_null, same_value, stored_value}
use Rattle.vx_base.specs.Storable.{same_refl}
use Rattle.vx_rules.specs.Aggregates.{valid_values}
use Rattle.vx_rules.specs.Laws.{is_among, ExtremesAreBounds}
use Rattle.vx_rules.specs.ValueOrder.{value_cmp}
use Rattle.vx_rules.proofs.OrderLemmas.{kind_of, type_kind, fit-kind, total_cmp, value_cmp-total, le, le-itself, le-chain, le-less, le-not_less}

-- ---- a choice between two, again and again

-- what a fold over a choice ends with is related to all that it saw
module _ (below : PlainValue → PlainValue → Bool) (choose : PlainValue → PlainValue → PlainValue) (itself : (v : PlainValue) → below v v ≡ true)
    (chain : (u v w : PlainValue) → below u v ≡ true → below v w ≡ true → below u w ≡ true)
    (first : (v w : PlainValue) → below (choose v w) v ≡ true) (second : (v w : PlainValue) → below (choose v w) w ≡ true) where
  below-fold : (v : PlainValue) (vs : List PlainValue) → list_all (below (fold choose v vs)) (v ∷ vs) ≡ true
  below-fold v [] = and_from _ _ (itself v) refl
  below-fold v (w ∷ vs) =
      let m : PlainValue = fold choose (choose v w) vs in
      let b = and_parts (below m (choose v w)) (list_all (below m) vs) (below-fold (choose v w) vs) in
      and_from _ _ (chain m (choose v w) v b.0 (first v w)) (and_from _ _ (chain m (choose v w) w b.0 (second v w)) b.1)

all_of : ℕ → List PlainValue → Bool
all_of kind vs = list_all (λ v. kind_of v == kind) vs

-- a choice by the order of two values
module _ (pick : Ordering → PlainValue → PlainValue → PlainValue) (either : (o : Ordering) (v w : PlainValue) → (pick o v w ≡ v) ⊎ (pick o v w ≡ w)) where
  -- it is one of those that the fold saw
  among-fold : (cmp : PlainValue → PlainValue → Ordering) (v : PlainValue) (vs : List PlainValue) → is_among (fold (λ v w. pick (cmp w v) v w) v vs) (v ∷ vs) ≡ true
  among-fold cmp v [] = or_left _ _ (same_refl stored_value v v refl)
  among-fold cmp v (w ∷ vs) = by (fold (λ v w. pick (cmp w v) v w) (pick (cmp w v) v w) vs) (either (cmp w v) v w) (among-fold cmp (pick (cmp w v) v w) vs)
    where
      skip : (a b c : Bool) → (a || c) ≡ true → (a || (b || c)) ≡ true
      skip true b c h = refl
      skip false b c h = or_right b c h

      by : (m : PlainValue) → (pick (cmp w v) v w ≡ v) ⊎ (pick (cmp w v) v w ≡ w) → is_among m (pick (cmp w v) v w ∷ vs) ≡ true → is_among m (v ∷ w ∷ vs) ≡ true
      by m (inl e) h = skip (same_value m v) (same_value m w) (is_among m vs) (subst (λ x. is_among m (x ∷ vs) ≡ true) e h)
      by m (inr e) h = or_right (same_value m v) (is_among m (w ∷ vs)) (subst (λ x. is_among m (x ∷ vs) ≡ true) e h)

  kind-pick : (o : Ordering) (v w : PlainValue) (kind : ℕ) → kind_of v ≡ kind → kind_of w ≡ kind → kind_of (pick o v w) ≡ kind
  kind-pick o v w kind e f = by (either o v w)
    where
      by : (pick o v w ≡ v) ⊎ (pick o v w ≡ w) → kind_of (pick o v w) ≡ kind
      by (inl h) = ap kind_of h ∙ e
      by (inr h) = ap kind_of h ∙ f

  -- of values of one kind the total order chooses the same
  fold-total : (kind : ℕ) (v : PlainValue) (vs : List PlainValue) → kind_of v ≡ kind → all_of kind vs ≡ true
      → (fold (λ v w. pick (value_cmp w v) v w) v vs ≡ fold (λ v w. pick (total_cmp w v) v w) v vs) × (kind_of (fold (λ v w. pick (total_cmp w v) v w) v vs) ≡ kind)
  unfolding all_of
  fold-total kind v [] e h = (refl, e)
  fold-total kind v (w ∷ vs) e h =
      let b = and_parts (kind_of w == kind) (all_of kind vs) h in
      let f = eqb-true (kind_of w) kind b.0 in
      let one : pick (value_cmp w v) v w ≡ pick (total_cmp w v) v w = ap (λ o. pick o v w) (value_cmp-total w v (f ∙ sym e)) in
      let rest = fold-total kind (pick (total_cmp w v) v w) vs (kind-pick (total_cmp w v) v w kind e f) b.1 in
      (ap (λ x. fold (λ v w. pick (value_cmp w v) v w) x vs) one ∙ rest.0, rest.1)

-- ---- least and greatest

lesser : Ordering → PlainValue → PlainValue → PlainValue
lesser o v w = cond (is_lt o) w v

greater : Ordering → PlainValue → PlainValue → PlainValue
greater o v w = cond (is_lt o) v w

lesser-either : (o : Ordering) (v w : PlainValue) → (lesser o v w ≡ v) ⊎ (lesser o v w ≡ w)
unfolding lesser
lesser-either Less v w = inr refl
lesser-either Equal v w = inl refl
lesser-either Greater v w = inl refl

greater-either : (o : Ordering) (v w : PlainValue) → (greater o v w ≡ v) ⊎ (greater o v w ≡ w)
unfolding greater
greater-either Less v w = inl refl
greater-either Equal v w = inr refl
greater-either Greater v w = inr refl

least-bound : (v : PlainValue) (vs : List PlainValue) → list_all (le (fold (ord_min total_cmp) v vs)) (v ∷ vs) ≡ true
least-bound = below-fold le (ord_min total_cmp) le-itself le-chain first second
  where
    first : (v w : PlainValue) → le (ord_min total_cmp v w) v ≡ true
    first v w = by (is_lt (total_cmp w v)) refl
      where
        by : (b : Bool) → is_lt (total_cmp w v) ≡ b → le (cond b w v) v ≡ true
        by true e = le-less w v e
        by false e = le-itself v

    second : (v w : PlainValue) → le (ord_min total_cmp v w) w ≡ true
    second v w = by (is_lt (total_cmp w v)) refl
      where
        by : (b : Bool) → is_lt (total_cmp w v) ≡ b → le (cond b w v) w ≡ true
        by true e = le-itself w
        by false e = le-not_less v w e

greatest-bound : (v : PlainValue) (vs : List PlainValue) → list_all (λ u. le u (fold (ord_max total_cmp) v vs)) (v ∷ vs) ≡ true
greatest-bound = below-fold (λ m u. le u m) (ord_max total_cmp) le-itself (λ u v w h k. le-chain w v u k h) first second
  where
    first : (v w : PlainValue) → le v (ord_max total_cmp v w) ≡ true
    first v w = by (is_lt (total_cmp w v)) refl
      where
        by : (b : Bool) → is_lt (total_cmp w v) ≡ b → le v (cond b v w) ≡ true
        by true e = le-itself v
        by false e = le-not_less v w e

    second : (v w : PlainValue) → le w (ord_max total_cmp v w) ≡ true
    second v w = by (is_lt (total_cmp w v)) refl
      where
        by : (b : Bool) → is_lt (total_cmp w v) ≡ b → le w (cond b v w) ≡ true
        by true e = le-less w v e
        by false e = le-itself w

-- ---- of a column

-- the orders of a kind are one
between-from : (kind : ℕ) (m n : PlainValue) → kind_of m ≡ kind → kind_of n ≡ kind → (vs : List PlainValue) → all_of kind vs ≡ true
    → list_all (le m) vs ≡ true → list_all (λ u. le u n) vs ≡ true → list_all (λ u. is_le (value_cmp m u) && is_le (value_cmp u n)) vs ≡ true
unfolding all_of
between-from kind m n e f [] h low high = refl
between-from kind m n e f (v ∷ vs) h low high =
    let k = and_parts (kind_of v == kind) (all_of kind vs) h in
    let g = eqb-true (kind_of v) kind k.0 in
    let a = and_parts (le m v) (list_all (le m) vs) low in
    let b = and_parts (le v n) (list_all (λ u. le u n) vs) high in
    and_from _ _ (and_from _ _ (ap is_le (value_cmp-total m v (e ∙ sym g)) ∙ a.0) (ap is_le (value_cmp-total v n (g ∙ sym f)) ∙ b.0))
    (between-from kind m n e f vs k.1 a.1 b.1)

valid_kind : (t : PlainType) (vs : List PlainValue) → is_flat t ≡ true → list_all (fits t) vs ≡ true → all_of (type_kind t) (valid_values vs) ≡ true
unfolding all_of
valid_kind t [] flat h = refl
valid_kind t (v ∷ vs) flat h =
    let b = and_parts (fits t v) (list_all (fits t) vs) h in
    by (is_null v) refl b.0 (valid_kind t vs flat b.1)
  where
    by : (null : Bool) → is_null v ≡ null → fits t v ≡ true → all_of (type_kind t) (valid_values vs) ≡ true → all_of (type_kind t) (cond (not null) (v ∷ valid_values vs) (valid_values vs)) ≡ true
    by true e f rest = rest
    by false e f rest = and_from _ _ (eq-eqb _ _ (fit-kind t v flat f e)) rest

-- the first and the last of an order are two of the values and bound all
bounds : (kind : ℕ) (vs : List PlainValue) (v w : PlainValue) → all_of kind vs ≡ true → reduce (ord_min value_cmp) vs ≡ Some v → reduce (ord_max value_cmp) vs ≡ Some w
    → (is_among v vs ≡ true) × (is_among w vs ≡ true) × (list_all (λ u. is_le (value_cmp v u) && is_le (value_cmp u w)) vs ≡ true)
unfolding all_of lesser greater
bounds kind [] v w h low high = absurd cc
bounds kind (x ∷ vs) v w h low high =
    let k = and_parts (kind_of x == kind) (all_of kind vs) h in
    let e = eqb-true (kind_of x) kind k.0 in
    let f = fold-total lesser lesser-either kind x vs e k.1 in
    let g = fold-total greater greater-either kind x vs e k.1 in
    let is_v : fold (ord_min value_cmp) x vs ≡ v = ap (λ o. unwrap_or o v) low in
    let is_w : fold (ord_max value_cmp) x vs ≡ w = ap (λ o. unwrap_or o w) high in
    let least_is : fold (ord_min total_cmp) x vs ≡ v = sym f.0 ∙ is_v in
    let greatest_is : fold (ord_max total_cmp) x vs ≡ w = sym g.0 ∙ is_w in (
      subst (λ m. is_among m (x ∷ vs) ≡ true) is_v (among-fold lesser lesser-either value_cmp x vs),
      subst (λ m. is_among m (x ∷ vs) ≡ true) is_w (among-fold greater greater-either value_cmp x vs),
      between-from kind v w (ap kind_of (sym least_is) ∙ f.1) (ap kind_of (sym greatest_is) ∙ g.1) (x ∷ vs) h
          (subst (λ m. list_all (le m) (x ∷ vs) ≡ true) least_is (least-bound x vs)) (subst (λ m. list_all (λ u. le u m) (x ∷ vs) ≡ true) greatest_is (greatest-bound x vs)),
    )

pub extremes_are_bounds : ExtremesAreBounds
extremes_are_bounds c v w flat fit low high = bounds (type_kind c.dtype) (valid_values c.values) v w (valid_kind c.dtype c.values flat fit) low high
