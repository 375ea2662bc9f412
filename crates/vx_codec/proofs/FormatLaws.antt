-- The laws of joined formats, and the steps by which laws are proved.
use Rattle.std.proofs.Common.{◌≡◌, ℕ, Bool, true, false, IsTrue, cond, List, ◌++◌, Option, Some, None, refl, sym, ap, subst, ◌∙◌, append_assoc, inl, inr, ◌⊎◌}
use Rattle.vx_codec.specs.Format.{◌>>=◌, Parse, Format, IsLawful, pair, both, tested, made_at, keyed_at, keyed, mapped}

-- the value of a step that was not refused
pub bind_ok : {A B : Type 0} (r : Option A) (f : A → Option B) (y : B) → (r >>= f) ≡ Some y → (x : A) × (r ≡ Some x) × (f x ≡ Some y)
bind_ok (Some x) f y e = (x, refl, e)
bind_ok None f y e = absurd cc

pub some_is : {A : Type 0} (x y : A) → Some x ≡ Some y → x ≡ y
some_is x y e = cc

pub test_ok : {A : Type 0} (b : Bool) (x : Option A) (y : A) → cond b x None ≡ Some y → (b ≡ true) × (x ≡ Some y)
test_ok true x y e = (refl, e)
test_ok false x y e = absurd cc

pub untest_ok : {A : Type 0} (b : Bool) (x : Option A) (y : A) → cond b None x ≡ Some y → (b ≡ false) × (x ≡ Some y)
untest_ok true x y e = absurd cc
untest_ok false x y e = (refl, e)

-- a test whose two sides go on
pub either : {A : Type 0} (b : Bool) (x y z : A) → cond b x y ≡ z → ((b ≡ true) × (x ≡ z)) ⊎ ((b ≡ false) × (y ≡ z))
either true x y z e = inl (refl, e)
either false x y z e = inr (refl, e)

-- no spelling begins another
pub one_reading : {A : Type 0} (f : Format A) → IsLawful f → (a b : A) (x y : List ℕ) → f.Fits a → f.Fits b → f.spell a ++ x ≡ f.spell b ++ y → (a ≡ b) × (x ≡ y)
one_reading f law a b x y h k e =
    let same : Some (a, x) ≡ Some (b, y) = sym (law.round_trip a x h) ∙ ap f.parse e ∙ law.round_trip b y k in
    let p = some_is (a, x) (b, y) same in
    (ap (λ (z : _ × List ℕ). z.0) p, ap (λ (z : _ × List ℕ). z.1) p)

pub pair_lawful : {A B : Type 0} (f : Format A) (g : A → Format B) → IsLawful f → ((a : A) → f.Fits a → IsLawful (g a)) → IsLawful (pair f g)
pair_lawful {A} {B} f g first second = record {
  round_trip = λ x rest h.
      let regroup : (f.spell x.0 ++ (g x.0).spell x.1) ++ rest ≡ f.spell x.0 ++ ((g x.0).spell x.1 ++ rest) = append_assoc (f.spell x.0) ((g x.0).spell x.1) rest in
      ap (pair f g).parse regroup ∙ rw (first.round_trip x.0 ((g x.0).spell x.1 ++ rest) h.0, (second x.0 h.0).round_trip x.1 rest h.1) refl;
  canonical = λ bytes x e.
      let a = bind_ok (f.parse bytes) (λ y. ((g y.0).parse y.1 >>= λ z. Some ((y.0, z.0), z.1))) x e in
      let b = bind_ok ((g a.0.0).parse a.0.1) (λ z. Some ((a.0.0, z.0), z.1)) x a.2 in
      let t = first.canonical bytes a.0 a.1 in
      let u = (second a.0.0 t.1).canonical a.0.1 b.0 b.1 in
      let parts : bytes ≡ (f.spell a.0.0 ++ (g a.0.0).spell b.0.0) ++ b.0.1 = t.0 ∙ ap (λ (r : List ℕ). f.spell a.0.0 ++ r) u.0 ∙ sym (append_assoc (f.spell a.0.0) ((g a.0.0).spell b.0.0) b.0.1) in
      let made : (A × B) × List ℕ = ((a.0.0, b.0.0), b.0.1) in
      subst (λ (y : (A × B) × List ℕ). (bytes ≡ (pair f g).spell y.0 ++ y.1) × (pair f g).Fits y.0) (some_is made x b.2) (parts, (t.1, u.1));
}

pub both_lawful : {A B : Type 0} (f : Format A) (g : Format B) → IsLawful f → IsLawful g → IsLawful (both f g)
both_lawful f g first second = pair_lawful f (λ _. g) first (λ _ _. second)

pub tested_lawful : {A : Type 0} (ok : A → Bool) (f : Format A) → IsLawful f → IsLawful (tested ok f)
tested_lawful {A} ok f law = record {
  round_trip = λ x rest h. rw (law.round_trip x rest h.0, h.1) refl;
  canonical = λ bytes x e.
      let a = bind_ok (f.parse bytes) (λ y. cond (ok y.0) (Some y) None) x e in
      let g = test_ok (ok a.0.0) (Some a.0) x a.2 in
      let t = law.canonical bytes a.0 a.1 in
      subst (λ (y : A × List ℕ). (bytes ≡ f.spell y.0 ++ y.1) × (f.Fits y.0 × IsTrue (ok y.0))) (some_is a.0 x g.1) (t.0, (t.1, g.0));
}

pub keyed_lawful : {K A : Type 0} (f : Format K) (key : A → K) (g : K → Format A) → IsLawful f → ((k : K) → IsLawful (g k)) → ((k : K) (a : A) → (g k).Fits a → key a ≡ k) → IsLawful (keyed f key g)
keyed_lawful {K} {A} f key g first second of_key = record {
  round_trip = λ a rest h.
      let regroup : (f.spell (key a) ++ (g (key a)).spell a) ++ rest ≡ f.spell (key a) ++ ((g (key a)).spell a ++ rest) = append_assoc (f.spell (key a)) ((g (key a)).spell a) rest in
      ap (keyed f key g).parse regroup ∙ rw (first.round_trip (key a) ((g (key a)).spell a ++ rest) h.0, (second (key a)).round_trip a rest h.1) refl;
  canonical = λ bytes x e.
      let k = bind_ok (f.parse bytes) (λ y. (g y.0).parse y.1) x e in
      let t = first.canonical bytes k.0 k.1 in
      let u = (second k.0.0).canonical k.0.1 x k.2 in
      let parts : bytes ≡ (f.spell k.0.0 ++ (g k.0.0).spell x.0) ++ x.1 = t.0 ∙ ap (λ (r : List ℕ). f.spell k.0.0 ++ r) u.0 ∙ sym (append_assoc (f.spell k.0.0) ((g k.0.0).spell x.0) x.1) in
      subst (λ (y : K). (bytes ≡ (f.spell y ++ (g y).spell x.0) ++ x.1) × (f.Fits y × (g y).Fits x.0)) (sym (of_key k.0.0 x.0 u.1)) (parts, (t.1, u.1));
}

pub mapped_lawful : {A B : Type 0} (to : B → A) (back : A → Option B) (f : Format A) → IsLawful f → ((a : A) (b : B) → f.Fits a → back a ≡ Some b → to b ≡ a) → IsLawful (mapped to back f)
mapped_lawful {A} {B} to back f law sure = record {
  round_trip = λ b rest h. rw (law.round_trip (to b) rest h.0, h.1) refl;
  canonical = λ bytes x e.
      let a = bind_ok (f.parse bytes) (λ y. (back y.0 >>= λ b. Some (b, y.1))) x e in
      let b = bind_ok (back a.0.0) (λ b. Some (b, a.0.1)) x a.2 in
      let t = law.canonical bytes a.0 a.1 in
      let is : to b.0 ≡ a.0.0 = sure a.0.0 b.0 t.1 b.1 in
      let made : B × List ℕ = (b.0, a.0.1) in
      subst (λ (y : B × List ℕ). (bytes ≡ f.spell (to y.0) ++ y.1) × (f.Fits (to y.0) × (back (to y.0) ≡ Some y.0))) (some_is made x b.2)
      (t.0 ∙ ap (λ (z : A). f.spell z ++ a.0.1) (sym is), (subst f.Fits (sym is) t.1, ap back is ∙ b.1));
}

-- a format of parts that are made into one thing
pub made_round_trip : {P A : Type 0} (f : Format P) (make : P → A) → IsLawful f → (p : P) (rest : List ℕ) → f.Fits p → made_at make f.parse (f.spell p ++ rest) ≡ Some (make p, rest)
made_round_trip f make law p rest h = rw (law.round_trip p rest h) refl

pub made_canonical : {P A : Type 0} (f : Format P) (make : P → A) → IsLawful f → (bytes : List ℕ) (R : A × List ℕ → Type 0) → ((p : P) (rest : List ℕ) → f.Fits p → bytes ≡ f.spell p ++ rest → R (make p, rest)) → (x : A × List ℕ) → made_at make f.parse bytes ≡ Some x → R x
made_canonical {P} {A} f make law bytes R into x e =
    let p = bind_ok (f.parse bytes) (λ y. Some (make y.0, y.1)) x e in
    let t = law.canonical bytes p.0 p.1 in
    let made : A × List ℕ = (make p.0.0, p.0.1) in
    subst R (some_is made x p.2) (into p.0.0 p.0.1 t.1 t.0)

-- ---- a sum of kinds: a key, and what the key says
pub sum_lawful : {K A : Type 0} (f : Format K) (key : A → K) (body : A → List ℕ) (p : K → Parse A) (Fits : A → Type 0) → IsLawful f
    → ((a : A) → Fits a → f.Fits (key a))
    → ((a : A) (rest : List ℕ) → Fits a → p (key a) (body a ++ rest) ≡ Some (a, rest))
    → ((k : K) (bytes : List ℕ) (x : A × List ℕ) → p k bytes ≡ Some x → (bytes ≡ body x.0 ++ x.1) × (key x.0 ≡ k) × Fits x.0)
    → IsLawful (record { spell = λ a. f.spell (key a) ++ body a; parse = keyed_at f.parse p; Fits = Fits })
sum_lawful {K} {A} f key body p Fits law keys again canonical = record {
  round_trip = λ a rest h.
      let regroup : (f.spell (key a) ++ body a) ++ rest ≡ f.spell (key a) ++ (body a ++ rest) = append_assoc (f.spell (key a)) (body a) rest in
      ap (keyed_at f.parse p) regroup ∙ rw (law.round_trip (key a) (body a ++ rest) (keys a h), again a rest h) refl;
  canonical = λ bytes x e.
      let k = bind_ok (f.parse bytes) (λ y. p y.0 y.1) x e in
      let t = law.canonical bytes k.0 k.1 in
      let u = canonical k.0.0 k.0.1 x k.2 in
      let parts : bytes ≡ (f.spell k.0.0 ++ body x.0) ++ x.1 = t.0 ∙ ap (λ (r : List ℕ). f.spell k.0.0 ++ r) u.0 ∙ sym (append_assoc (f.spell k.0.0) (body x.0) x.1) in
      (subst (λ (y : K). bytes ≡ (f.spell y ++ body x.0) ++ x.1) (sym u.1) parts, u.2);
}

-- where the text and the thing made are spelled another way
pub made_round_trip_as : {P A : Type 0} (f : Format P) (make : P → A) → IsLawful f → (p : P) (a : A) (text rest : List ℕ) → f.Fits p → text ≡ f.spell p → make p ≡ a → made_at make f.parse (text ++ rest) ≡ Some (a, rest)
made_round_trip_as f make law p a text rest h spelled is =
    rw (spelled, ← is) (made_round_trip f make law p rest h)

-- what was put after what was put
pub then_put : {A : Type 0} (old x y mid new whole : List A) → mid ≡ old ++ x → new ≡ mid ++ y → whole ≡ x ++ y → new ≡ old ++ whole
then_put old x y mid new whole a b w = rw (b, a, w) (append_assoc old x y)
