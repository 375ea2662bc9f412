-- Distinct values by first appearance: there are no more of them than rows, and each value of a column is one of them.
use Rattle.std.proofs.Common.{◌≡◌, ◌<◌, ◌≤◌, ◌+◌, ◌∙◌, ℕ, suc, Bool, true, false, cond, not, List, [], ◌∷◌, length, refl, sym, ap, subst, arith}
use Rattle.std.specs.Prelude.{◌||◌, filter}
use Rattle.std.specs.List.{list_all, list_any, position_or_len}
use Rattle.std.proofs.lemmas.Bool.{and_from, and_parts}
use Rattle.std.proofs.lemmas.List.Sums.{length-filter, count_by-le-length}
use Rattle.vx_base.specs.PlainValue.{PlainValue, is_null, same_value, stored_value}
use Rattle.vx_base.specs.Storable.{same_path, same_refl, same_symm}
use Rattle.vx_model.specs.Rows.{row_at}
use Rattle.vx_schemes_text.specs.Dictionary.Tree.{by_appearance, appearing}

-- whether a value is among others
abbrev pub among : List PlainValue → PlainValue → Bool
among ds v = list_any (same_value v) ds

-- ---- what holds of each value of a list holds of each distinct one, and of each that isn't null

pub all-filtered : (p q : PlainValue → Bool) (vs : List PlainValue) → list_all p vs ≡ true → list_all p (filter q vs) ≡ true
all-filtered p q [] h = refl
all-filtered p q (v ∷ vs) h = let b = and_parts (p v) (list_all p vs) h in pick (q v) b.0 (all-filtered p q vs b.1)
  where
    pick : (b : Bool) → p v ≡ true → list_all p (filter q vs) ≡ true → list_all p (cond b (v ∷ filter q vs) (filter q vs)) ≡ true
    pick true here rest = and_from _ _ here rest
    pick false here rest = rest

pub all-appearing : (p : PlainValue → Bool) (vs : List PlainValue) → list_all p vs ≡ true → list_all p (by_appearance vs) ≡ true
all-appearing p [] h = refl
all-appearing p (v ∷ vs) h =
    let b = and_parts (p v) (list_all p vs) h in
    and_from _ _ b.0 (all-filtered p (λ w. not (same_value v w)) (by_appearance vs) (all-appearing p vs b.1))

-- ---- there are no more distinct values than rows

few-filtered : (q : PlainValue → Bool) (vs : List PlainValue) → length (filter q vs) ≤ length vs
few-filtered q vs = omega (arith, length-filter q vs, count_by-le-length q vs)

few-by_appearance : (vs : List PlainValue) → length (by_appearance vs) ≤ length vs
few-by_appearance [] = omega arith
few-by_appearance (v ∷ vs) = omega (arith, few-filtered (λ w. not (same_value v w)) (by_appearance vs), few-by_appearance vs)

pub few-appearing : (vs : List PlainValue) → length (appearing vs) ≤ length vs
few-appearing vs = omega (arith, few-by_appearance (filter (λ v. not (is_null v)) vs), few-filtered (λ v. not (is_null v)) vs)

-- ---- each value is among the distinct ones

among-first : (v w : PlainValue) (ws : List PlainValue) → same_value v w ≡ true → among (w ∷ ws) v ≡ true
among-first v w ws e = rw e refl

pub among-filtered : (q : PlainValue → Bool) (v : PlainValue) (vs : List PlainValue) → q v ≡ true → among vs v ≡ true → among (filter q vs) v ≡ true
among-filtered q v [] keeps h = absurd cc
among-filtered q v (w ∷ vs) keeps h = by_test (same_value v w) refl h (among-filtered q v vs keeps)
  where
    kept : (b : Bool) → q w ≡ b → same_value v w ≡ true → among (cond b (w ∷ filter q vs) (filter q vs)) v ≡ true
    kept true e same = among-first v w (filter q vs) same
    kept false e same = absurd (let x : q v ≡ false = ap q (same_path stored_value v w same) ∙ e in let y : true ≡ false = sym keeps ∙ x in cc)

    later : (b : Bool) → same_value v w ≡ false → among (filter q vs) v ≡ true → among (cond b (w ∷ filter q vs) (filter q vs)) v ≡ true
    later true other rest = rw other rest
    later false other rest = rest

    by_test : (b : Bool) → same_value v w ≡ b → (same_value v w || among vs v) ≡ true → (among vs v ≡ true → among (filter q vs) v ≡ true) → among (filter q (w ∷ vs)) v ≡ true
    by_test true e k rest = kept (q w) refl e
    by_test false e k rest = later (q w) e (rest (let same = ap (λ b. b || among vs v) e in sym same ∙ k))

pub unlike : (v w : PlainValue) → same_value v w ≡ false → same_value w v ≡ false
unlike v w e = same_symm stored_value w v ∙ e

among-appearing : (v : PlainValue) (vs : List PlainValue) → among vs v ≡ true → among (by_appearance vs) v ≡ true
among-appearing v [] h = absurd cc
among-appearing v (w ∷ vs) h = by_test (same_value v w) refl h (among-appearing v vs)
  where
    rest_of : List PlainValue
    rest_of = filter (λ x. not (same_value w x)) (by_appearance vs)

    by_test : (b : Bool) → same_value v w ≡ b → (same_value v w || among vs v) ≡ true → (among vs v ≡ true → among (by_appearance vs) v ≡ true) → among (w ∷ rest_of) v ≡ true
    by_test true e k rest = among-first v w rest_of e
    by_test false e k rest =
        let later : among vs v ≡ true = sym (ap (λ b. b || among vs v) e) ∙ k in
        let other : not (same_value w v) ≡ true = ap not (unlike v w e) in
        rw e (among-filtered (λ x. not (same_value w x)) v (by_appearance vs) other (rest later))

-- ---- a value that is among others is found at its place

-- what the place of a value promises
pub record IsHeldAt (ds : List PlainValue) (v : PlainValue) (place : ℕ) : Type 0 where
  pub within : place < length ds
  pub is : row_at ds place ≡ v

pub place-holds : (v : PlainValue) (ds : List PlainValue) → among ds v ≡ true → IsHeldAt ds v (position_or_len (same_value v) ds)
place-holds v [] h = absurd cc
place-holds v (w ∷ ws) h = by_test (same_value v w) refl h (place-holds v ws)
  where
    here : same_value v w ≡ true → IsHeldAt (w ∷ ws) v 0
    here e = record { within = omega arith; is = sym (same_path stored_value v w e) }

    later : (k : ℕ) → IsHeldAt ws v k → IsHeldAt (w ∷ ws) v (suc k)
    later k a = record { within = omega (arith, a.within); is = a.is }

    next : (k : ℕ) → suc k ≡ 1 + k
    next k = omega arith

    by_test : (b : Bool) → same_value v w ≡ b → (same_value v w || among ws v) ≡ true → (among ws v ≡ true → IsHeldAt ws v (position_or_len (same_value v) ws)) → IsHeldAt (w ∷ ws) v (position_or_len (same_value v) (w ∷ ws))
    by_test true e k rest = subst (IsHeldAt (w ∷ ws) v) (ap (λ b. cond (not b) (1 + position_or_len (same_value v) ws) 0) (sym e)) (here e)
    by_test false e k rest =
        let there = rest (sym (ap (λ b. b || among ws v) e) ∙ k) in
        subst (IsHeldAt (w ∷ ws) v) (next (position_or_len (same_value v) ws) ∙ ap (λ b. cond (not b) (1 + position_or_len (same_value v) ws) 0) (sym e)) (later (position_or_len (same_value v) ws) there)

-- each value is null or among others
abbrev pub all_among : List PlainValue → List PlainValue → Bool
all_among ds vs = list_all (λ v. is_null v || among ds v) vs

-- ---- the values of a column are among its distinct ones

-- the values that are not null
abbrev pub with_values : List PlainValue → List PlainValue
with_values vs = filter (λ v. not (is_null v)) vs

-- each of some values, if all of them are among others
each-among : (ds vs : List PlainValue) → ((v : PlainValue) → among vs v ≡ true → is_null v ≡ false → among ds v ≡ true) → all_among ds vs ≡ true
each-among ds [] h = refl
each-among ds (v ∷ vs) h = and_from _ _ (pick (is_null v) refl) (each-among ds vs (λ w k n. h w (later w k) n))
  where
    later : (w : PlainValue) → among vs w ≡ true → among (v ∷ vs) w ≡ true
    later w k = either (same_value w v)
      where
        either : (b : Bool) → (b || among vs w) ≡ true
        either true = refl
        either false = k

    pick : (b : Bool) → is_null v ≡ b → (is_null v || among ds v) ≡ true
    pick true e = ap (λ b. b || among ds v) e
    pick false e = ap (λ b. b || among ds v) e ∙ h v (among-first v v vs (same_refl stored_value v v refl)) e

pub rows-among : (vs : List PlainValue) → all_among (appearing vs) vs ≡ true
rows-among vs = each-among (appearing vs) vs (λ v k n. among-appearing v (with_values vs) (among-filtered (λ w. not (is_null w)) v vs (ap not n) k))
