-- A codebook with one value more, as plain data: what it finds, and the code that it gives.
use Rattle.std.proofs.Common.{◌≡◌, ◌∙◌, ℕ, Bool, true, false, cond, List, [], ◌∷◌, ◌++◌, length, map, Option, Some, None, unwrap_or, bytes_eq, refl, sym, ap, arith}
use Rattle.std.specs.Prelude.{◌||◌}
use Rattle.std.specs.List.{position_or_len}
use Rattle.std.specs.Cmp.Lexicographic.{bytes_decides}
use Rattle.vx_base.specs.PlainValue.{PlainValue, bytes, bytes_or_empty, same_value, stored_value}
use Rattle.vx_base.specs.Storable.{same_path, same_refl}
use Rattle.vx_schemes_text.specs.Dictionary.Codebook.{place_in}
use Rattle.vx_schemes_text.specs.Dictionary.Distinct.{among, place-holds}
use Rattle.vx_schemes_text.proofs.AppearanceLemmas.{place-new, place-stays, with_value}

-- whether a value is among values of which one more is the last
among-more : (ds : List PlainValue) (v w : PlainValue) → among (ds ++ w ∷ []) v ≡ (among ds v || same_value v w)
among-more [] v w = last (same_value v w)
  where
    last : (b : Bool) → (b || false) ≡ b
    last true = refl
    last false = refl
among-more (d ∷ ds) v w = pick (same_value v d) (among-more ds v w)
  where
    pick : (b : Bool) → among (ds ++ w ∷ []) v ≡ (among ds v || same_value v w) → (b || among (ds ++ w ∷ []) v) ≡ ((b || among ds v) || same_value v w)
    pick true rest = refl
    pick false rest = rest

-- the place of a value once a new one is the last
place_in-more : (ds : List PlainValue) (v w : PlainValue) → among ds w ≡ false → place_in (ds ++ w ∷ []) v ≡ cond (same_value v w) (Some (length ds)) (place_in ds v)
place_in-more ds v w new = by_tests (among ds v) (same_value v w) refl refl
  where
    by_tests : (a e : Bool) → among ds v ≡ a → same_value v w ≡ e → cond (among (ds ++ w ∷ []) v) (Some (position_or_len (same_value v) (ds ++ w ∷ []))) None ≡ cond (same_value v w) (Some (length ds)) (cond (among ds v) (Some (position_or_len (same_value v) ds)) None)
    by_tests true true x y = absurd (let same : v ≡ w = same_path stored_value v w y in let clash : true ≡ false = sym x ∙ ap (among ds) same ∙ new in cc)
    by_tests true false x y = let there = place-stays v w ds x in let held : among (ds ++ w ∷ []) v ≡ true = among-more ds v w ∙ ap (λ b. b || same_value v w) x in rw (held, x, y) (ap Some there)
    by_tests false true x y =
        let held : among (ds ++ w ∷ []) v ≡ true = among-more ds v w ∙ ap (λ b. b || same_value v w) x ∙ y in
        let same : v ≡ w = same_path stored_value v w y in
        let place : position_or_len (same_value v) (ds ++ w ∷ []) ≡ length ds = ap (λ z. position_or_len (same_value v) (ds ++ z ∷ [])) (sym same) ∙ place-new v ds x in
        rw (held, x, y) (ap Some place)
    by_tests false false x y = let out : among (ds ++ w ∷ []) v ≡ false = among-more ds v w ∙ ap (λ b. b || same_value v w) x ∙ y in rw (out, x, y) refl

pub map-last : (f : ℕ → PlainValue) (xs : List ℕ) (x : ℕ) → map f (xs ++ x ∷ []) ≡ map f xs ++ f x ∷ []
map-last f [] x = refl
map-last f (y ∷ xs) x = ap (λ vs. f y ∷ vs) (map-last f xs x)

-- bytes and their values are equal alike
pub same-bytes : (a b : List ℕ) → bytes_eq a b ≡ same_value (bytes b) (bytes a)
same-bytes a b = by_bytes (bytes_eq a b) refl
  where
    by_value : (e : Bool) → bytes_eq a b ≡ false → same_value (bytes b) (bytes a) ≡ e → false ≡ e
    by_value true x y = absurd (let same : b ≡ a = ap bytes_or_empty (same_path stored_value (bytes b) (bytes a) y) in let clash : false ≡ true = sym x ∙ (bytes_decides a b).1 (sym same) in cc)
    by_value false x y = refl

    by_bytes : (e : Bool) → bytes_eq a b ≡ e → bytes_eq a b ≡ same_value (bytes b) (bytes a)
    by_bytes true x = x ∙ sym (same_refl stored_value (bytes b) (bytes a) (ap bytes (sym ((bytes_decides a b).0 x))))
    by_bytes false x = x ∙ by_value (same_value (bytes b) (bytes a)) x refl

module _ (ds : List PlainValue) (before after : List ℕ → Option ℕ) (value : List ℕ) (next code : ℕ)
    (finds : (q : List ℕ) → before q ≡ place_in ds (bytes q)) (next-is : next ≡ length ds) (code-is : code ≡ unwrap_or (before value) next)
    (writes : (q : List ℕ) → after q ≡ cond (same_value (bytes q) (bytes value)) (Some code) (before q))
  where
    found : among ds (bytes value) ≡ true → code ≡ position_or_len (same_value (bytes value)) ds
    found e = code-is ∙ ap (λ o. unwrap_or o next) (finds value ∙ ap (λ b. cond b (Some (position_or_len (same_value (bytes value)) ds)) None) e)

    not_found : among ds (bytes value) ≡ false → code ≡ length ds
    not_found e = code-is ∙ ap (λ o. unwrap_or o next) (finds value ∙ ap (λ b. cond b (Some (position_or_len (same_value (bytes value)) ds)) None) e) ∙ next-is

    -- it is new exactly where it gets the next code
    pub is-new : code ≡ length ds → among ds (bytes value) ≡ false
    is-new h = by_test (among ds (bytes value)) refl
      where
        by_test : (b : Bool) → among ds (bytes value) ≡ b → among ds (bytes value) ≡ false
        by_test true e = absurd (omega (arith, h, found e, (place-holds (bytes value) ds e).within))
        by_test false e = e

    pub is-known : (code ≡ length ds → ⊥) → among ds (bytes value) ≡ true
    is-known other = by_test (among ds (bytes value)) refl
      where
        by_test : (b : Bool) → among ds (bytes value) ≡ b → among ds (bytes value) ≡ true
        by_test true e = e
        by_test false e = absurd (other (not_found e))

    -- the code that it gives is the value's place
    pub code-placed : code ≡ position_or_len (same_value (bytes value)) (with_value ds (bytes value))
    code-placed = by_test (among ds (bytes value)) refl
      where
        by_test : (b : Bool) → among ds (bytes value) ≡ b → code ≡ position_or_len (same_value (bytes value)) (cond (among ds (bytes value)) ds (ds ++ bytes value ∷ []))
        by_test true e = found e ∙ ap (λ b. position_or_len (same_value (bytes value)) (cond b ds (ds ++ bytes value ∷ []))) (sym e)
        by_test false e = not_found e ∙ sym (place-new (bytes value) ds e) ∙ ap (λ b. position_or_len (same_value (bytes value)) (cond b ds (ds ++ bytes value ∷ []))) (sym e)

    -- afterwards it finds the value and the others
    pub finds-more : (q : List ℕ) → after q ≡ place_in (with_value ds (bytes value)) (bytes q)
    finds-more q = by_test (among ds (bytes value)) refl
      where
        known : among ds (bytes value) ≡ true → (e : Bool) → same_value (bytes q) (bytes value) ≡ e → cond e (Some code) (before q) ≡ place_in ds (bytes q)
        known x true y =
            let same : bytes q ≡ bytes value = same_path stored_value (bytes q) (bytes value) y in
            let place : place_in ds (bytes value) ≡ Some code = ap (λ b. cond b (Some (position_or_len (same_value (bytes value)) ds)) None) x ∙ ap Some (sym (found x)) in
            sym place ∙ ap (place_in ds) (sym same)
        known x false y = finds q

        by_test : (b : Bool) → among ds (bytes value) ≡ b → after q ≡ place_in (cond (among ds (bytes value)) ds (ds ++ bytes value ∷ [])) (bytes q)
        by_test true x = writes q ∙ known x (same_value (bytes q) (bytes value)) refl ∙ ap (λ b. place_in (cond b ds (ds ++ bytes value ∷ [])) (bytes q)) (sym x)
        by_test false x =
            let both : cond (same_value (bytes q) (bytes value)) (Some code) (before q) ≡ cond (same_value (bytes q) (bytes value)) (Some (length ds)) (place_in ds (bytes q)) =
            (λ i. cond (same_value (bytes q) (bytes value)) (Some (not_found x i)) (finds q i))
            in
            writes q ∙ both ∙ sym (place_in-more ds (bytes q) (bytes value) x) ∙ ap (λ b. place_in (cond b ds (ds ++ bytes value ∷ [])) (bytes q)) (sym x)
