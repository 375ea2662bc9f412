-- The laws of lists, optional values and frames.
use Rattle.std.proofs.Common.{◌≡◌, ℕ, zero, suc, true, cond, eqb, List, [], ◌∷◌, ◌++◌, length, Option, Some, None, refl, sym, ap, subst, ◌∙◌, append_assoc, inl, inr}
use Rattle.std.proofs.lemmas.Bool.{eqb-true}
use Rattle.std.proofs.lemmas.List.{append-nil}
use Rattle.vx_codec.specs.FixedWidth.{byte_at, raw}
use Rattle.vx_codec.specs.Format.{◌>>=◌, Format, IsLawful}
use Rattle.vx_codec.specs.Lists.{spell_all, repeated_at, repeated, AllFit, counted, delimited, is_end, to_end, framed, optional_spell, optional_at, OptionalFits, optional}
use Rattle.vx_codec.specs.Varint.{varint}
use Rattle.vx_codec.proofs.FormatLaws.{bind_ok, some_is, test_ok, either, keyed_lawful, mapped_lawful}
use Rattle.vx_codec.proofs.NumberLaws.{byte_canonical, varint_lawful, raw_lawful}

repeated_round_trip : {A : Type 0} (f : Format A) → IsLawful f → (xs : List A) (rest : List ℕ) → AllFit f.Fits xs → repeated_at f.parse (length xs) (spell_all f.spell xs ++ rest) ≡ Some (xs, rest)
repeated_round_trip f law [] rest h = refl
repeated_round_trip f law (x ∷ xs) rest h =
    let regroup : (f.spell x ++ spell_all f.spell xs) ++ rest ≡ f.spell x ++ (spell_all f.spell xs ++ rest) = append_assoc (f.spell x) (spell_all f.spell xs) rest in
    ap (repeated_at f.parse (suc (length xs))) regroup ∙ rw (law.round_trip x (spell_all f.spell xs ++ rest) h.0, repeated_round_trip f law xs rest h.1) refl

repeated_canonical : {A : Type 0} (f : Format A) → IsLawful f → (n : ℕ) (bytes : List ℕ) (x : List A × List ℕ) → repeated_at f.parse n bytes ≡ Some x → (bytes ≡ spell_all f.spell x.0 ++ x.1) × ((length x.0 ≡ n) × AllFit f.Fits x.0)
repeated_canonical {A} f law zero bytes x e =
    subst (λ (y : List A × List ℕ). (bytes ≡ spell_all f.spell y.0 ++ y.1) × ((length y.0 ≡ 0) × AllFit f.Fits y.0)) (some_is ([], bytes) x e) (refl, (refl, tt))
repeated_canonical {A} f law (suc n) bytes x e =
    let a = bind_ok (f.parse bytes) (λ y. (repeated_at f.parse n y.1 >>= λ ys. Some (y.0 ∷ ys.0, ys.1))) x e in
    let b = bind_ok (repeated_at f.parse n a.0.1) (λ ys. Some (a.0.0 ∷ ys.0, ys.1)) x a.2 in
    let t = law.canonical bytes a.0 a.1 in
    let u = repeated_canonical f law n a.0.1 b.0 b.1 in
    let parts : bytes ≡ (f.spell a.0.0 ++ spell_all f.spell b.0.0) ++ b.0.1 = t.0 ∙ ap (λ (r : List ℕ). f.spell a.0.0 ++ r) u.0 ∙ sym (append_assoc (f.spell a.0.0) (spell_all f.spell b.0.0) b.0.1) in
    let made : List A × List ℕ = (a.0.0 ∷ b.0.0, b.0.1) in
    subst (λ (y : List A × List ℕ). (bytes ≡ spell_all f.spell y.0 ++ y.1) × ((length y.0 ≡ suc n) × AllFit f.Fits y.0)) (some_is made x b.2) (parts, (ap suc u.1.0, (t.1, u.1.1)))

pub repeated_lawful : {A : Type 0} (f : Format A) (n : ℕ) → IsLawful f → IsLawful (repeated f n)
repeated_lawful {A} f n law = record {
  round_trip = λ xs rest h. subst (λ (k : ℕ). repeated_at f.parse k (spell_all f.spell xs ++ rest) ≡ Some (xs, rest)) h.0 (repeated_round_trip f law xs rest h.1);
  canonical = repeated_canonical f law n;
}

pub counted_lawful : {A : Type 0} (f : Format A) → IsLawful f → IsLawful (counted f)
counted_lawful f law = keyed_lawful varint length (repeated f) varint_lawful (λ n. repeated_lawful f n law) (λ n xs h. h.0)

pub delimited_lawful : IsLawful delimited
delimited_lawful = keyed_lawful varint length raw varint_lawful raw_lawful (λ n b h. h)

optional_round_trip : {A : Type 0} (f : Format A) → IsLawful f → (o : Option A) (rest : List ℕ) → OptionalFits f.Fits o → optional_at f.parse (optional_spell f.spell o ++ rest) ≡ Some (o, rest)
optional_round_trip f law None rest h = refl
optional_round_trip f law (Some a) rest h = rw (law.round_trip a rest h) refl

optional_canonical : {A : Type 0} (f : Format A) → IsLawful f → (bytes : List ℕ) (x : Option A × List ℕ) → optional_at f.parse bytes ≡ Some x → (bytes ≡ optional_spell f.spell x.0 ++ x.1) × OptionalFits f.Fits x.0
optional_canonical {A} f law bytes x e =
    let b = bind_ok (byte_at bytes) (λ b. cond (eqb b.0 0) (Some (None, b.1)) (cond (eqb b.0 1) (f.parse b.1 >>= λ y. Some (Some y.0, y.1)) None)) x e in
    let t = byte_canonical bytes b.0 b.1 in
    let nothing : Option A × List ℕ = (None, b.0.1) in
    elim (either (eqb b.0.0 0) (Some nothing) (cond (eqb b.0.0 1) (f.parse b.0.1 >>= λ y. Some (Some y.0, y.1)) None) (Some x) b.2) [
      | inl q ↦
          subst (λ (y : Option A × List ℕ). (bytes ≡ optional_spell f.spell y.0 ++ y.1) × OptionalFits f.Fits y.0) (some_is nothing x q.1)
          (t.0 ∙ ap (λ (k : ℕ). k ∷ b.0.1) (eqb-true _ _ q.0), tt)
      | inr q ↦
          let g = test_ok (eqb b.0.0 1) (f.parse b.0.1 >>= λ y. Some (Some y.0, y.1)) x q.1 in
          let a = bind_ok (f.parse b.0.1) (λ y. Some (Some y.0, y.1)) x g.1 in
          let u = law.canonical b.0.1 a.0 a.1 in
          let made : Option A × List ℕ = (Some a.0.0, a.0.1) in
          subst (λ (y : Option A × List ℕ). (bytes ≡ optional_spell f.spell y.0 ++ y.1) × OptionalFits f.Fits y.0) (some_is made x a.2)
          (t.0 ∙ ap (λ (k : ℕ). k ∷ b.0.1) (eqb-true _ _ g.0) ∙ ap (λ (r : List ℕ). 1 ∷ r) u.0, u.1)
    ]

pub optional_lawful : {A : Type 0} (f : Format A) → IsLawful f → IsLawful (optional f)
optional_lawful f law = record { round_trip = optional_round_trip f law; canonical = optional_canonical f law }

end_is : (bytes : List ℕ) → is_end bytes ≡ true → bytes ≡ []
end_is [] e = refl
end_is (b ∷ bytes) e = absurd cc

-- a format that takes all of the bytes, both ways
pub to_end_canonical : {A : Type 0} (f : Format A) → IsLawful f → (bytes : List ℕ) (a : A) → to_end f.parse bytes ≡ Some a → (bytes ≡ f.spell a) × f.Fits a
to_end_canonical {A} f law bytes a e =
    let x = bind_ok (f.parse bytes) (λ y. cond (is_end y.1) (Some y.0) None) a e in
    let g = test_ok (is_end x.0.1) (Some x.0.0) a x.2 in
    let t = law.canonical bytes x.0 x.1 in
    let n = end_is x.0.1 g.0 in
    let whole : bytes ≡ f.spell x.0.0 = t.0 ∙ ap (λ (r : List ℕ). f.spell x.0.0 ++ r) n ∙ append-nil (f.spell x.0.0) in
    subst (λ (y : A). (bytes ≡ f.spell y) × f.Fits y) (some_is x.0.0 a g.1) (whole, t.1)

pub to_end_round_trip : {A : Type 0} (f : Format A) → IsLawful f → (a : A) → f.Fits a → to_end f.parse (f.spell a) ≡ Some a
to_end_round_trip f law a h =
    let e : f.parse (f.spell a) ≡ Some (a, []) = ap f.parse (sym (append-nil (f.spell a))) ∙ law.round_trip a [] h in
    rw e refl

pub framed_lawful : {A : Type 0} (f : Format A) → IsLawful f → IsLawful (framed f)
framed_lawful f law = mapped_lawful f.spell (to_end f.parse) delimited delimited_lawful (λ bytes a h e. sym (to_end_canonical f law bytes a e).0)
