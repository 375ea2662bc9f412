-- Values that pass the same tests have the same least and the same greatest value.
use Rattle.std.proofs.Common.{◌≡◌, ◌<◌, ◌∙◌, ℕ, Bool, true, false, cond, List, [], ◌∷◌, refl, sym, ap, subst, inl, inr, arith, Some}
use Rattle.std.specs.Prelude.{◌&&◌, ◌||◌, not}
use Rattle.std.specs.List.{list_all}
use Rattle.std.specs.declared.cmp.Ordering.{Ordering}
use Rattle.std.specs.declared.cmp.Ordering.TheVariants.{Less, Equal, Greater}
use Rattle.std.specs.Cmp.Lexicographic.{slice_cmp}
use Rattle.std.specs.Ordering.{is_le, nat_cmp, int_cmp, ordering_then, ordering_reverse}
use Rattle.std.proofs.lemmas.Bool.{and_parts, or_cases, not-true, false≢true}
use Rattle.std.proofs.lemmas.Cmp.{ranked, int_ranked, int_cmp_total, nat_list_cmp_total}
use Rattle.vx_base.specs.PlainScalar.{fits}
use Rattle.vx_base.specs.PlainType.{PlainType, is_flat}
use Rattle.vx_base.specs.PlainType as types
use Rattle.vx_base.specs.PlainValue.{PlainValue, null, truth, int, bytes, items, is_null, same_value, stored_value}
use Rattle.vx_base.specs.Storable.{same_path}
use Rattle.vx_model.specs.Column.{column}
use Rattle.vx_rules.specs.Aggregates.{valid_values, least, greatest}
use Rattle.vx_rules.specs.Laws.{is_among}
use Rattle.vx_rules.specs.ValueOrder.{value_cmp}
use Rattle.vx_rules.proofs.ExtremeLaws.{extremes_are_bounds}
use Rattle.vx_rules.proofs.OrderLemmas.{kind_of, type_kind, fit-kind}

-- two lists pass the same tests
abbrev pub PassAlike : List PlainValue → List PlainValue → Type 0
PassAlike vs ws = (test : PlainValue → Bool) → list_all test vs ≡ list_all test ws

-- ---- two values of a flat type of which each is at most the other are equal

both_le : (o p : Ordering) → o ≡ ordering_reverse p → is_le o ≡ true → is_le p ≡ true → o ≡ Equal
both_le Less Greater e h k = absurd cc
both_le Equal p e h k = refl
both_le Greater p e h k = absurd cc
both_le o p e h k = absurd cc

then_equal : (o p : Ordering) → ordering_then o p ≡ Equal → (o ≡ Equal) × (p ≡ Equal)
then_equal Less p e = absurd cc
then_equal Equal p e = (refl, e)
then_equal Greater p e = absurd cc

bytes_equal : (a b : List ℕ) → slice_cmp nat_cmp a b ≡ Equal → a ≡ b
bytes_equal [] [] e = refl
bytes_equal [] (y ∷ ys) e = absurd cc
bytes_equal (x ∷ xs) [] e = absurd cc
bytes_equal (x ∷ xs) (y ∷ ys) e =
    let parts = then_equal (nat_cmp x y) (slice_cmp nat_cmp xs ys) e in
    let first : x ≡ y = ranked x y Equal (sym parts.0) in
    let rest = bytes_equal xs ys parts.1 in
    λ i. first i ∷ rest i

tied : (v w : PlainValue) → kind_of v ≡ kind_of w → kind_of v < 4 → is_null v ≡ false → is_le (value_cmp v w) ≡ true → is_le (value_cmp w v) ≡ true → v ≡ w
tied null null e l n h k = absurd cc
tied (truth false) (truth false) e l n h k = refl
tied (truth false) (truth true) e l n h k = absurd cc
tied (truth true) (truth false) e l n h k = absurd cc
tied (truth true) (truth true) e l n h k = refl
tied (int a) (int b) e l n h k = ap int (int_ranked a b Equal (sym (both_le (int_cmp a b) (int_cmp b a) (int_cmp_total.antisymm a b) h k)))
tied (bytes a) (bytes b) e l n h k =
    ap bytes (bytes_equal a b (both_le (slice_cmp nat_cmp a b) (slice_cmp nat_cmp b a) (nat_list_cmp_total.antisymm a b) h k))
tied (items a) (items b) e l n h k = absurd (omega arith)
tied _ _ e l n h k = absurd (omega (arith, e))

kind-below : (t : PlainType) → type_kind t < 4
kind-below types.null_type = omega arith
kind-below (types.boolean n) = omega arith
kind-below (types.primitive p n) = omega arith
kind-below (types.utf8 n) = omega arith
kind-below (types.binary n) = omega arith
kind-below (types.timestamp k n) = omega arith
kind-below (types.structure fs n) = omega arith
kind-below (types.list t n) = omega arith
kind-below (types.fixed_size_list t size n) = omega arith

-- ---- valid values

all-valid : (test : PlainValue → Bool) (vs : List PlainValue) → list_all test (valid_values vs) ≡ list_all (λ v. is_null v || test v) vs
all-valid test [] = refl
all-valid test (v ∷ vs) = by (is_null v) (all-valid test vs)
  where
    by : (b : Bool) → list_all test (valid_values vs) ≡ list_all (λ w. is_null w || test w) vs
        → list_all test (cond (not b) (v ∷ valid_values vs) (valid_values vs)) ≡ ((b || test v) && list_all (λ w. is_null w || test w) vs)
    by true rest = rest
    by false rest = ap (λ b. test v && b) rest

valid-alike : (vs ws : List PlainValue) → PassAlike vs ws → PassAlike (valid_values vs) (valid_values ws)
valid-alike vs ws e test = all-valid test vs ∙ e (λ v. is_null v || test v) ∙ sym (all-valid test ws)

none-null : (vs : List PlainValue) → list_all (λ v. not (is_null v)) (valid_values vs) ≡ true
none-null [] = refl
none-null (v ∷ vs) = by (is_null v) refl (none-null vs)
  where
    by : (b : Bool) → is_null v ≡ b → list_all (λ w. not (is_null w)) (valid_values vs) ≡ true → list_all (λ w. not (is_null w)) (cond (not b) (v ∷ valid_values vs) (valid_values vs)) ≡ true
    by true e rest = rest
    by false e rest = ap (λ b. not b && list_all (λ w. not (is_null w)) (valid_values vs)) e ∙ rest

pub fit-valid : (test : PlainValue → Bool) (vs : List PlainValue) → list_all test vs ≡ true → list_all test (valid_values vs) ≡ true
fit-valid test [] h = refl
fit-valid test (v ∷ vs) h = let p = and_parts (test v) (list_all test vs) h in by (is_null v) p.0 (fit-valid test vs p.1)
  where
    by : (b : Bool) → test v ≡ true → list_all test (valid_values vs) ≡ true → list_all test (cond (not b) (v ∷ valid_values vs) (valid_values vs)) ≡ true
    by true e rest = rest
    by false e rest = ap (λ b. b && list_all test (valid_values vs)) e ∙ rest

pub among-passes : (test : PlainValue → Bool) (v : PlainValue) (vs : List PlainValue) → is_among v vs ≡ true → list_all test vs ≡ true → test v ≡ true
among-passes test v [] h k = absurd cc
among-passes test v (w ∷ ws) h k =
    let b = and_parts (test w) (list_all test ws) k in
    elim (or_cases (same_value v w) (is_among v ws) h) [
      | inl e ↦ ap test (same_path stored_value v w e) ∙ b.0
      | inr r ↦ among-passes test v ws r b.1
    ]

-- ---- values that pass the same tests have the same extremes

no_null : (w : PlainValue) (ws : List PlainValue) → is_among w (valid_values ws) ≡ true → is_null w ≡ false
no_null w ws m = not-true (is_null w) (among-passes (λ x. not (is_null x)) w (valid_values ws) m (none-null ws))

module _ (t : PlainType) (flat : is_flat t ≡ true) where
  equal : (u v : PlainValue) (us vs : List PlainValue) → list_all (fits t) us ≡ true → list_all (fits t) vs ≡ true → is_among u (valid_values us) ≡ true → is_among v (valid_values vs) ≡ true
      → is_le (value_cmp u v) ≡ true → is_le (value_cmp v u) ≡ true → u ≡ v
  equal u v us vs f g a b h k =
      let kind_u = fit-kind t u flat (among-passes (fits t) u (valid_values us) a (fit-valid (fits t) us f)) (no_null u us a) in
      let kind_v = fit-kind t v flat (among-passes (fits t) v (valid_values vs) b (fit-valid (fits t) vs g)) (no_null v vs b) in
      tied u v (kind_u ∙ sym kind_v) (subst (λ k. k < 4) (sym kind_u) (kind-below t)) (no_null u us a) h k

  between : PlainValue → PlainValue → PlainValue → Bool
  between v w u = is_le (value_cmp v u) && is_le (value_cmp u w)

  same-bounds : (us vs : List PlainValue) (a b c d : PlainValue) → list_all (fits t) us ≡ true → list_all (fits t) vs ≡ true → PassAlike us vs
      → least (valid_values us) ≡ Some a → greatest (valid_values us) ≡ Some b → least (valid_values vs) ≡ Some c → greatest (valid_values vs) ≡ Some d → (a ≡ c) × (b ≡ d)
  unfolding between
  same-bounds us vs a b c d f g e la gb lc gd =
      let p = extremes_are_bounds (column t us) a b flat f la gb in
      let q = extremes_are_bounds (column t vs) c d flat g lc gd in
      let same = valid-alike us vs e in
      let split : (v w u : PlainValue) → between v w u ≡ true → (is_le (value_cmp v u) ≡ true) × (is_le (value_cmp u w) ≡ true) =
      λ v w u h. and_parts (is_le (value_cmp v u)) (is_le (value_cmp u w)) h in
      let c_in = split a b c (among-passes (between a b) c (valid_values vs) q.0 (sym (same (between a b)) ∙ p.2)) in
      let d_in = split a b d (among-passes (between a b) d (valid_values vs) q.1 (sym (same (between a b)) ∙ p.2)) in
      let a_in = split c d a (among-passes (between c d) a (valid_values us) p.0 (same (between c d) ∙ q.2)) in
      let b_in = split c d b (among-passes (between c d) b (valid_values us) p.1 (same (between c d) ∙ q.2)) in
      (equal a c us vs f g p.0 q.0 c_in.0 a_in.0, equal b d us vs f g p.1 q.1 b_in.1 d_in.1)

  pub alike_extremes : (us vs : List PlainValue) → list_all (fits t) us ≡ true → list_all (fits t) vs ≡ true → PassAlike us vs
      → (least (valid_values us) ≡ least (valid_values vs)) × (greatest (valid_values us) ≡ greatest (valid_values vs))
  alike_extremes us vs f g e = by (valid_values us) (valid_values vs) refl refl
    where
      by : (xs ys : List PlainValue) → valid_values us ≡ xs → valid_values vs ≡ ys → (least xs ≡ least ys) × (greatest xs ≡ greatest ys)
      by [] [] h k = (refl, refl)
      by [] (y ∷ ys) h k = absurd (false≢true (sym (ap (list_all (λ _. false)) (sym h) ∙ valid-alike us vs e (λ _. false) ∙ ap (list_all (λ _. false)) k)))
      by (x ∷ xs) [] h k = absurd (false≢true (ap (list_all (λ _. false)) (sym h) ∙ valid-alike us vs e (λ _. false) ∙ ap (list_all (λ _. false)) k))
      by (x ∷ xs) (y ∷ ys) h k =
          let s = same-bounds us vs _ _ _ _ f g e (ap least h) (ap greatest h) (ap least k) (ap greatest k) in
          (ap Some s.0, ap Some s.1)
