-- Distinct values by first appearance, with one value more: a new one comes last, and the codes of the others stay.
use Rattle.std.proofs.Common.{◌≡◌, ◌+◌, ◌∙◌, pos, Bool, true, false, cond, not, List, [], ◌∷◌, ◌++◌, length, refl, sym, ap, arith}
use Rattle.std.specs.Prelude.{◌||◌, filter}
use Rattle.std.specs.List.{position_or_len}
use Rattle.std.proofs.lemmas.Bool.{cond_both, or_parts}
use Rattle.vx_base.specs.PlainValue.{PlainValue, null, truth, int, bytes, items, is_null, same_value, stored_value}
use Rattle.vx_base.specs.Storable.{same_path, same_refl}
use Rattle.vx_schemes_text.specs.Dictionary.Distinct.{among, among-filtered, unlike}
use Rattle.vx_schemes_text.specs.Dictionary.Tree.{by_appearance, appearing, code_in}

-- ---- filters

pub filter-more : (q : PlainValue → Bool) (vs : List PlainValue) (v : PlainValue) → filter q (vs ++ v ∷ []) ≡ filter q vs ++ cond (q v) (v ∷ []) []
filter-more q [] v = refl
filter-more q (w ∷ vs) v = pick (q w) (filter-more q vs v)
  where
    pick : (b : Bool) → filter q (vs ++ v ∷ []) ≡ filter q vs ++ cond (q v) (v ∷ []) [] → cond b (w ∷ filter q (vs ++ v ∷ [])) (filter q (vs ++ v ∷ [])) ≡ cond b (w ∷ filter q vs) (filter q vs) ++ cond (q v) (v ∷ []) []
    pick true rest = ap (λ ws. w ∷ ws) rest
    pick false rest = rest

append-none : (vs : List PlainValue) → vs ++ [] ≡ vs
append-none [] = refl
append-none (v ∷ vs) = ap (λ ws. v ∷ ws) (append-none vs)

-- what isn't among values isn't among some of them
not-among-filtered : (q : PlainValue → Bool) (v : PlainValue) (vs : List PlainValue) → among vs v ≡ false → among (filter q vs) v ≡ false
not-among-filtered q v [] h = refl
not-among-filtered q v (w ∷ vs) h = let p = or_parts (same_value v w) (among vs v) h in pick (q w) p.0 (not-among-filtered q v vs p.1)
  where
    pick : (b : Bool) → same_value v w ≡ false → among (filter q vs) v ≡ false → among (cond b (w ∷ filter q vs) (filter q vs)) v ≡ false
    pick true other rest = ap (λ b. b || among (filter q vs) v) other ∙ rest
    pick false other rest = rest

-- ---- distinct values with one value more

-- a value that is new comes last
abbrev pub with_value : List PlainValue → PlainValue → List PlainValue
with_value ds v = cond (among ds v) ds (ds ++ v ∷ [])

filter-with : (w : PlainValue) (ds : List PlainValue) (v : PlainValue) → w ∷ filter (λ x. not (same_value w x)) (with_value ds v) ≡ with_value (w ∷ filter (λ x. not (same_value w x)) ds) v
filter-with w ds v = by_tests (among ds v) (same_value v w) refl refl
  where
    by_tests : (a e : Bool) → among ds v ≡ a → same_value v w ≡ e
        → w ∷ filter (λ x. not (same_value w x)) (cond (among ds v) ds (ds ++ v ∷ [])) ≡ cond (same_value v w || among (filter (λ x. not (same_value w x)) ds) v) (w ∷ filter (λ x. not (same_value w x)) ds) (w ∷ (filter (λ x. not (same_value w x)) ds ++ v ∷ []))
    by_tests true true x y = rw (x, y) refl
    by_tests true false x y = let held : among (filter (λ x. not (same_value w x)) ds) v ≡ true = among-filtered (λ x. not (same_value w x)) v ds (ap not (unlike v w y)) x in rw (x, y, held) refl
    by_tests false true x y =
        let same : same_value w v ≡ true = same_refl stored_value w v (sym (same_path stored_value v w y)) in
        let none = filter-more (λ x. not (same_value w x)) ds v ∙ ap (λ b. filter (λ x. not (same_value w x)) ds ++ cond (not b) (v ∷ []) []) same ∙ append-none (filter (λ x. not (same_value w x)) ds) in
        rw (x, y) (ap (λ ws. w ∷ ws) none)
    by_tests false false x y =
        let one = filter-more (λ x. not (same_value w x)) ds v ∙ ap (λ b. filter (λ x. not (same_value w x)) ds ++ cond (not b) (v ∷ []) []) (unlike v w y) in
        let new : among (filter (λ x. not (same_value w x)) ds) v ≡ false = not-among-filtered (λ x. not (same_value w x)) v ds x in
        rw (x, y, new) (ap (λ ws. w ∷ ws) one)

pub by_appearance-more : (vs : List PlainValue) (v : PlainValue) → by_appearance (vs ++ v ∷ []) ≡ with_value (by_appearance vs) v
by_appearance-more [] v = refl
by_appearance-more (w ∷ vs) v = ap (λ ds. w ∷ filter (λ x. not (same_value w x)) ds) (by_appearance-more vs v) ∙ filter-with w (by_appearance vs) v

-- a null adds nothing
pub appearing-more : (vs : List PlainValue) (v : PlainValue) → appearing (vs ++ v ∷ []) ≡ cond (is_null v) (appearing vs) (with_value (appearing vs) v)
appearing-more vs v = ap by_appearance (filter-more (λ w. not (is_null w)) vs v) ∙ pick (is_null v)
  where
    pick : (b : Bool) → by_appearance (filter (λ w. not (is_null w)) vs ++ cond (not b) (v ∷ []) []) ≡ cond b (by_appearance (filter (λ w. not (is_null w)) vs)) (with_value (by_appearance (filter (λ w. not (is_null w)) vs)) v)
    pick true = ap by_appearance (append-none (filter (λ w. not (is_null w)) vs))
    pick false = by_appearance-more (filter (λ w. not (is_null w)) vs) v

-- ---- codes

pub place-stays : (v w : PlainValue) (ds : List PlainValue) → among ds v ≡ true → position_or_len (same_value v) (ds ++ w ∷ []) ≡ position_or_len (same_value v) ds
place-stays v w [] h = absurd cc
place-stays v w (d ∷ ds) h = by_test (same_value v d) refl h (place-stays v w ds)
  where
    by_test : (b : Bool) → same_value v d ≡ b → (same_value v d || among ds v) ≡ true → (among ds v ≡ true → position_or_len (same_value v) (ds ++ w ∷ []) ≡ position_or_len (same_value v) ds)
        → cond (not (same_value v d)) (1 + position_or_len (same_value v) (ds ++ w ∷ [])) 0 ≡ cond (not (same_value v d)) (1 + position_or_len (same_value v) ds) 0
    by_test true e k rest = rw e refl
    by_test false e k rest = let there = rest (sym (ap (λ b. b || among ds v) e) ∙ k) in rw e (ap (λ n. 1 + n) there)

-- the place of a value stays as others come
pub place-with : (ds : List PlainValue) (v w : PlainValue) → among ds v ≡ true → position_or_len (same_value v) (with_value ds w) ≡ position_or_len (same_value v) ds
place-with ds v w h = cond_both (among ds w) ds (ds ++ w ∷ []) (λ l. position_or_len (same_value v) l ≡ position_or_len (same_value v) ds) (λ e. refl) (λ e. place-stays v w ds h)

-- so does its code
pub code-stays : (ds : List PlainValue) (v w : PlainValue) → (is_null v || among ds v) ≡ true → code_in (with_value ds w) v ≡ code_in ds v
code-stays ds null w h = refl
code-stays ds (truth b) w h = ap (λ k. int (pos k)) (place-with ds (truth b) w h)
code-stays ds (int z) w h = ap (λ k. int (pos k)) (place-with ds (int z) w h)
code-stays ds (bytes bs) w h = ap (λ k. int (pos k)) (place-with ds (bytes bs) w h)
code-stays ds (items vs) w h = ap (λ k. int (pos k)) (place-with ds (items vs) w h)

-- a new value has the next place
pub place-new : (v : PlainValue) (ds : List PlainValue) → among ds v ≡ false → position_or_len (same_value v) (ds ++ v ∷ []) ≡ length ds
place-new v [] h = let same : same_value v v ≡ true = same_refl stored_value v v refl in rw same refl
place-new v (d ∷ ds) h =
    let p = or_parts (same_value v d) (among ds v) h in
    let rest = place-new v ds p.1 in
    rw p.0 (omega (arith, rest))
