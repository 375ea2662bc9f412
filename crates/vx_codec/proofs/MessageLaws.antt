-- The laws of messages.
use Rattle.std.proofs.Common.{◌≡◌, ℕ, zero, suc, ◌<◌, Bool, true, false, IsTrue, cond, eqb, List, [], ◌∷◌, ◌++◌, Some, None, refl, sym, ap, subst, ◌∙◌, arith, inl, inr, eq-eqb}
use Rattle.std.proofs.lemmas.Bool.{eqb-true, ne_eqb}
use Rattle.std.proofs.Math.Dec.{eqb-suc-zero}
use Rattle.vx_codec.specs.Format.{◌>>=◌}
use Rattle.vx_codec.specs.Lists.{delimited}
use Rattle.vx_codec.specs.Message.{Whole, IsWhole, Above, end_at, ended, number_key, message_key, number_at, number_spell, number_field_at, number_field, content_at, message_field_at, message_field, tested_whole}
use Rattle.vx_codec.specs.Varint.{varint}
use Rattle.vx_codec.proofs.FormatLaws.{bind_ok, some_is, test_ok, untest_ok, either}
use Rattle.vx_codec.proofs.ListLaws.{delimited_lawful}
use Rattle.vx_codec.proofs.NumberLaws.{varint_lawful}

end_canonical : (bytes : List ℕ) (a : Unit {0}) → end_at bytes ≡ Some a → (bytes ≡ []) × Unit {0}
end_canonical [] a e = (refl, tt)
end_canonical (b ∷ bytes) a e = absurd cc

pub ended_whole : (low : ℕ) → IsWhole low ended
ended_whole low = record { round_trip = λ a h. refl; canonical = end_canonical; above = λ a. tt }

above_more : (low high : ℕ) (bytes : List ℕ) → low < high → Above high bytes → Above low bytes
above_more low high [] lt h = tt
above_more low high (b ∷ bytes) lt h = omega arith

-- bytes that begin above a key don't begin with its field
left_out : (key : ℕ) (bytes : List ℕ) → Above key bytes → number_at key bytes ≡ Some (0, bytes)
left_out key [] h = refl
left_out key (b ∷ bytes) h = let other : eqb b key ≡ false = ne_eqb b key (λ e. absurd (omega arith)) in rw other refl

abbrev IsNumber : ℕ → List ℕ → ℕ × List ℕ → Type 0
IsNumber key bytes x = (bytes ≡ number_spell key x.0 ++ x.1) × varint.Fits x.0

number_canonical : (key : ℕ) (bytes : List ℕ) (x : ℕ × List ℕ) → number_at key bytes ≡ Some x → IsNumber key bytes x
number_canonical key [] x e = let made : ℕ × List ℕ = (0, []) in subst (IsNumber key []) (some_is made x e) (refl, (omega arith, refl))
number_canonical key (b ∷ bytes) x e =
    let none : ℕ × List ℕ = (0, b ∷ bytes) in
    elim (either (eqb b key) (varint.parse bytes >>= λ n. cond (eqb n.0 0) None (Some n)) (Some none) (Some x) e) [
      | inl q ↦
          let n = bind_ok (varint.parse bytes) (λ y. cond (eqb y.0 0) None (Some y)) x q.1 in
          let u = untest_ok (eqb n.0.0 0) (Some n.0) x n.2 in
          let t = varint_lawful.canonical bytes n.0 n.1 in
          let spelled : number_spell key n.0.0 ≡ key ∷ varint.spell n.0.0 = ap (λ (c : Bool). cond c [] (key ∷ varint.spell n.0.0)) u.0 in
          subst (IsNumber key (b ∷ bytes)) (some_is n.0 x u.1)
          (ap (λ (c : ℕ). c ∷ bytes) (eqb-true b key q.0) ∙ ap (λ (z : List ℕ). key ∷ z) t.0 ∙ ap (λ (z : List ℕ). z ++ n.0.1) (sym spelled), t.1)
      | inr q ↦ subst (IsNumber key (b ∷ bytes)) (some_is none x q.1) (refl, (omega arith, refl))
    ]

module _ {A : Type 0} (low number : ℕ) (g : Whole A) (lt : low < number_key number) (law : IsWhole (number_key number) g) where
  field_round_trip : (x : ℕ × A) → (number_field number g).Fits x → number_field_at (number_key number) g.parse ((number_field number g).spell x) ≡ Some x
  field_round_trip (zero, a) h = rw (left_out (number_key number) (g.spell a) (law.above a), law.round_trip a h.1) refl
  field_round_trip (suc m, a) h =
      let same : eqb (number_key number) (number_key number) ≡ true = eq-eqb (number_key number) (number_key number) refl in
      let some = eqb-suc-zero m in
      rw (some, same, varint_lawful.round_trip (suc m) (g.spell a) h.0, some, law.round_trip a h.1) refl

  field_canonical : (bytes : List ℕ) (x : ℕ × A) → number_field_at (number_key number) g.parse bytes ≡ Some x → (bytes ≡ (number_field number g).spell x) × (number_field number g).Fits x
  field_canonical bytes x e =
      let n = bind_ok (number_at (number_key number) bytes) (λ y. (g.parse y.1 >>= λ a. Some (y.0, a))) x e in
      let a = bind_ok (g.parse n.0.1) (λ y. Some (n.0.0, y)) x n.2 in
      let t = number_canonical (number_key number) bytes n.0 n.1 in
      let r = law.canonical n.0.1 a.0 a.1 in
      let made : ℕ × A = (n.0.0, a.0) in
      subst (λ (y : ℕ × A). (bytes ≡ (number_field number g).spell y) × (number_field number g).Fits y) (some_is made x a.2)
      (t.0 ∙ ap (λ (z : List ℕ). number_spell (number_key number) n.0.0 ++ z) r.0, (t.1, r.1))

  field_above : (x : ℕ × A) → Above low ((number_field number g).spell x)
  field_above (zero, a) = above_more low (number_key number) (g.spell a) lt (law.above a)
  field_above (suc m, a) = rw (eqb-suc-zero m) lt

  pub number_field_whole : IsWhole low (number_field number g)
  number_field_whole = record { round_trip = field_round_trip; canonical = field_canonical; above = field_above }

content_canonical : (key : ℕ) (bytes : List ℕ) (x : List ℕ × List ℕ) → content_at key bytes ≡ Some x → (bytes ≡ key ∷ (delimited.spell x.0 ++ x.1)) × delimited.Fits x.0
content_canonical key [] x e = absurd cc
content_canonical key (b ∷ bytes) x e =
    let g = test_ok (eqb b key) (delimited.parse bytes) x e in
    let t = delimited_lawful.canonical bytes x g.1 in
    (ap (λ (c : ℕ). c ∷ bytes) (eqb-true b key g.0) ∙ ap (λ (z : List ℕ). key ∷ z) t.0, t.1)

module _ {A B : Type 0} (low high number : ℕ) (f : Whole A) (g : Whole B) (lt : low < message_key number) (inner : IsWhole 0 f) (law : IsWhole high g) where
  within_round_trip : (x : A × B) → (message_field number f g).Fits x → message_field_at (message_key number) f.parse g.parse ((message_field number f g).spell x) ≡ Some x
  within_round_trip (a, b) h =
      let same : eqb (message_key number) (message_key number) ≡ true = eq-eqb (message_key number) (message_key number) refl in
      rw (same, delimited_lawful.round_trip (f.spell a) (g.spell b) h.0.0, inner.round_trip a h.0.1, law.round_trip b h.1) refl

  within_canonical : (bytes : List ℕ) (x : A × B) → message_field_at (message_key number) f.parse g.parse bytes ≡ Some x → (bytes ≡ (message_field number f g).spell x) × (message_field number f g).Fits x
  within_canonical bytes x e =
      let c = bind_ok (content_at (message_key number) bytes) (λ y. (f.parse y.0 >>= λ a. (g.parse y.1 >>= λ b. Some (a, b)))) x e in
      let a = bind_ok (f.parse c.0.0) (λ a. (g.parse c.0.1 >>= λ b. Some (a, b))) x c.2 in
      let b = bind_ok (g.parse c.0.1) (λ b. Some (a.0, b)) x a.2 in
      let t = content_canonical (message_key number) bytes c.0 c.1 in
      let i = inner.canonical c.0.0 a.0 a.1 in
      let r = law.canonical c.0.1 b.0 b.1 in
      let made : A × B = (a.0, b.0) in
      subst (λ (y : A × B). (bytes ≡ (message_field number f g).spell y) × (message_field number f g).Fits y) (some_is made x b.2) (
        t.0 ∙ ap (λ (z : List ℕ). message_key number ∷ (delimited.spell z ++ c.0.1)) i.0 ∙ ap (λ (z : List ℕ). message_key number ∷ (delimited.spell (f.spell a.0) ++ z)) r.0,
        ((subst delimited.Fits i.0 t.1, i.1), r.1),
      )

  pub message_field_whole : IsWhole low (message_field number f g)
  message_field_whole = record { round_trip = within_round_trip; canonical = within_canonical; above = λ x. lt }

pub tested_whole_whole : {A : Type 0} (low : ℕ) (ok : A → Bool) (f : Whole A) → IsWhole low f → IsWhole low (tested_whole ok f)
tested_whole_whole {A} low ok f law = record {
  round_trip = λ a h. rw (law.round_trip a h.0, h.1) refl;
  canonical = λ bytes a e.
      let x = bind_ok (f.parse bytes) (λ y. cond (ok y) (Some y) None) a e in
      let g = test_ok (ok x.0) (Some x.0) a x.2 in
      let t = law.canonical bytes x.0 x.1 in
      subst (λ (y : A). (bytes ≡ f.spell y) × (f.Fits y × IsTrue (ok y))) (some_is x.0 a g.1) (t.0, (t.1, g.0));
  above = law.above;
}

-- unlike messages have unlike spellings
pub one_message : {A : Type 0} (low : ℕ) (f : Whole A) → IsWhole low f → (a b : A) → f.Fits a → f.Fits b → f.spell a ≡ f.spell b → a ≡ b
one_message low f law a b h k e = some_is a b (sym (law.round_trip a h) ∙ ap f.parse e ∙ law.round_trip b k)
