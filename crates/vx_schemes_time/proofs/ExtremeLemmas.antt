-- The narrowest type of integers by their least and their greatest, among which is 0.
use Rattle.std.proofs.Common.{◌≡◌, ◌^◌, ◌∙◌, ◌≤ℤ◌, ℤ, pos, negsuc, Bool, true, false, cond, List, [], ◌∷◌, map, FitsSigned, Some, None, refl, sym, ap, arith}
use Rattle.std.specs.Prelude.{◌&&◌, fold, find, int_lt, unwrap_or, IsSome, nat_lt}
use Rattle.std.specs.Int.{int_max, int_min, w32}
use Rattle.std.specs.List.{list_all}
use Rattle.std.proofs.Math.Bool.{and_assoc}
use Rattle.std.proofs.lemmas.Bool.{and_from, and_parts, cond_both, lt-ltb, ltb-true}
use Rattle.std.proofs.lemmas.Int.{ints, fold-int_max_bounds, fold-int_min_bounds}
use Rattle.vx_base.specs.declared.dtype.Nullability.{Nullability}
use Rattle.vx_base.specs.declared.ptype.PType.{PType}
use Rattle.vx_base.specs.declared.ptype.PType.TheVariants.{U8, U16, U32, U64, I8, I16, I32, I64}
use Rattle.vx_base.specs.Integers.{is_signed, lies_in, natural_bits}
use Rattle.vx_base.specs.Narrow.{narrow_of}
use Rattle.vx_base.specs.PlainScalar.{fits}
use Rattle.vx_base.specs.PlainType as types
use Rattle.vx_base.specs.PlainValue.{PlainValue, null, int, whole_or_zero}
use Rattle.vx_base.proofs.FitLemmas.{lies_in-zero}
use Rattle.vx_model.proofs.NarrowLemmas.{narrow-some}
use Rattle.vx_schemes_time.specs.Narrowest.{all_fit, narrowest}

-- ---- tests

same_truth : (a b : Bool) → (a ≡ true → b ≡ true) → (b ≡ true → a ≡ true) → a ≡ b
same_truth true b f g = sym (f refl)
same_truth false true f g = g refl
same_truth false false f g = refl

and_true : (b : Bool) → (b && true) ≡ b
and_true true = refl
and_true false = refl

-- ---- a type holds all from the least to the greatest where it holds both

between : (p : PType) (low z high : ℤ) → low ≤ℤ z → z ≤ℤ high → lies_in p low ≡ true → lies_in p high ≡ true → lies_in p z ≡ true
between p low (pos n) (pos m) l h e f = lt-ltb n (2 ^ natural_bits p) (omega (arith, ints, ltb-true m (2 ^ natural_bits p) f))
between p low (pos n) (negsuc m) l h e f = absurd (omega (arith, ints))
between p (pos k) (negsuc n) high l h e f = absurd (omega (arith, ints))
between p (negsuc k) (negsuc n) high l h e f =
    let b = and_parts (is_signed p) (nat_lt k (2 ^ natural_bits p)) e in
    and_from _ _ b.0 (lt-ltb n (2 ^ natural_bits p) (omega (arith, ints, ltb-true k (2 ^ natural_bits p) b.1)))

min-first : (a b : ℤ) → int_min a b ≤ℤ a
min-first a b = grind (arith, ints)

min-second : (a b : ℤ) → int_min a b ≤ℤ b
min-second a b = grind (arith, ints)

max-first : (a b : ℤ) → a ≤ℤ int_max a b
max-first a b = grind (arith, ints)

max-second : (a b : ℤ) → b ≤ℤ int_max a b
max-second a b = grind (arith, ints)

below : (a b c : ℤ) → a ≤ℤ b → b ≤ℤ c → a ≤ℤ c
below a b c h k = omega (arith, ints)

module _ (p : PType) where
  -- one integer more
  holds-next : (low high z : ℤ) → low ≤ℤ pos 0 → pos 0 ≤ℤ high → ((lies_in p low && lies_in p high) && lies_in p z) ≡ (lies_in p (int_min low z) && lies_in p (int_max high z))
  holds-next low high z l h = same_truth _ _ there back
    where
      there : ((lies_in p low && lies_in p high) && lies_in p z) ≡ true → (lies_in p (int_min low z) && lies_in p (int_max high z)) ≡ true
      there e =
          let all = and_parts (lies_in p low && lies_in p high) (lies_in p z) e in
          let ends = and_parts (lies_in p low) (lies_in p high) all.0 in
          and_from _ _ (cond_both (int_lt z low) z low (λ w. lies_in p w ≡ true) (λ t. all.1) (λ f. ends.0)) (cond_both (int_lt z high) high z (λ w. lies_in p w ≡ true) (λ t. ends.1) (λ f. all.1))

      back : (lies_in p (int_min low z) && lies_in p (int_max high z)) ≡ true → ((lies_in p low && lies_in p high) && lies_in p z) ≡ true
      back e =
          let ends = and_parts (lies_in p (int_min low z)) (lies_in p (int_max high z)) e in
          let zero = lies_in-zero p in
          let first = between p (int_min low z) low (pos 0) (min-first low z) l ends.0 zero in
          let last = between p (pos 0) high (int_max high z) h (max-first high z) zero ends.1 in
          and_from _ _ (and_from _ _ first last) (between p (int_min low z) z (int_max high z) (min-second low z) (max-second high z) ends.0 ends.1)

  all-by-ends : (low high : ℤ) (zs : List ℤ) → low ≤ℤ pos 0 → pos 0 ≤ℤ high → ((lies_in p low && lies_in p high) && list_all (lies_in p) zs) ≡ (lies_in p (fold int_min low zs) && lies_in p (fold int_max high zs))
  all-by-ends low high [] l h = and_true (lies_in p low && lies_in p high)
  all-by-ends low high (z ∷ zs) l h =
      sym (and_assoc (lies_in p low && lies_in p high) (lies_in p z) (list_all (lies_in p) zs))
      ∙ ap (λ b. b && list_all (lies_in p) zs) (holds-next low high z l h)
      ∙ all-by-ends (int_min low z) (int_max high z) zs (below _ low _ (min-first low z) l) (below _ high _ h (max-first high z))

  -- all are held where the least and the greatest are
  pub all-by-extremes : (zs : List ℤ) → list_all (lies_in p) zs ≡ (lies_in p (fold int_min (pos 0) zs) && lies_in p (fold int_max (pos 0) zs))
  all-by-extremes zs =
      let zero = lies_in-zero p in
      sym (λ i. (zero i && zero i) && list_all (lies_in p) zs) ∙ all-by-ends (pos 0) (pos 0) zs (omega (arith, ints)) (omega (arith, ints))

  -- null fits, and what is stored beneath it is 0
  fit-stored : (n : Nullability) (v : PlainValue) → fits (types.primitive I32 n) v ≡ true → fits (types.primitive p n) v ≡ lies_in p (whole_or_zero v)
  fit-stored n null h = h ∙ sym (lies_in-zero p)
  fit-stored n (int z) h = refl
  fit-stored n v h = absurd cc

  pub fit-by-stored : (n : Nullability) (vs : List PlainValue) → all_fit n vs I32 ≡ true → all_fit n vs p ≡ list_all (lies_in p) (map whole_or_zero vs)
  fit-by-stored n [] h = refl
  fit-by-stored n (v ∷ vs) h =
      let b = and_parts (fits (types.primitive I32 n) v) (list_all (fits (types.primitive I32 n)) vs) h in
      let here = fit-stored n v b.0 in
      let rest = fit-by-stored n vs b.1 in
      λ i. here i && rest i

-- ---- the narrowest type, by both

picked : (a b c d e f g : Bool) (q : PType) → cond a (Some U8) (cond b (Some U16) (cond c (Some U32) (cond d (Some U64) None))) ≡ Some q
    → unwrap_or (cond a (Some U8) (cond b (Some U16) (cond c (Some U32) (cond d (Some U64) (cond e (Some I8) (cond f (Some I16) (cond g (Some I32) None))))))) I64 ≡ q
picked true b c d e f g q h = cc
picked false true c d e f g q h = cc
picked false false true d e f g q h = cc
picked false false false true e f g q h = cc
picked false false false false e f g q h = absurd cc

picked-signed : (e f g i : Bool) (q : PType) → cond e (Some I8) (cond f (Some I16) (cond g (Some I32) (cond i (Some I64) None))) ≡ Some q → unwrap_or (cond e (Some I8) (cond f (Some I16) (cond g (Some I32) None))) I64 ≡ q
picked-signed true f g i q h = cc
picked-signed false true g i q h = cc
picked-signed false false true i q h = cc
picked-signed false false false true q h = cc
picked-signed false false false false q h = absurd cc

-- the first of all types that holds the least and the greatest
first-holding : (low high : ℤ) (q : PType) → low ≤ℤ pos 0 → narrow_of low high ≡ Some q → unwrap_or (find (λ p. lies_in p low && lies_in p high) (U8 ∷ U16 ∷ U32 ∷ U64 ∷ I8 ∷ I16 ∷ I32 ∷ [])) I64 ≡ q
first-holding (pos n) high q l e =
    let none : n ≡ 0 = omega (arith, ints) in
    ap (λ k. unwrap_or (find (λ p. lies_in p (pos k) && lies_in p high) (U8 ∷ U16 ∷ U32 ∷ U64 ∷ I8 ∷ I16 ∷ I32 ∷ [])) I64) none
    ∙ picked (lies_in U8 high) (lies_in U16 high) (lies_in U32 high) (lies_in U64 high) (lies_in I8 high) (lies_in I16 high) (lies_in I32 high) q e
first-holding (negsuc n) high q l e =
    picked-signed (lies_in I8 (negsuc n) && lies_in I8 high) (lies_in I16 (negsuc n) && lies_in I16 high) (lies_in I32 (negsuc n) && lies_in I32 high) (lies_in I64 (negsuc n) && lies_in I64 high) q e

pub least-bound : (zs : List ℤ) → fold int_min (pos 0) zs ≤ℤ pos 0
least-bound zs = (fold-int_min_bounds (pos 0) zs (fold int_min (pos 0) zs) refl).0

pub greatest-bound : (zs : List ℤ) → pos 0 ≤ℤ fold int_max (pos 0) zs
greatest-bound zs = (fold-int_max_bounds (pos 0) zs (fold int_max (pos 0) zs) refl).0

pub narrowest-is : (n : Nullability) (vs : List PlainValue) (zs : List ℤ) (q : PType) → all_fit n vs I32 ≡ true → zs ≡ map whole_or_zero vs → narrow_of (fold int_min (pos 0) zs) (fold int_max (pos 0) zs) ≡ Some q → q ≡ narrowest n vs
narrowest-is n vs zs q h is e =
    let same : (p : PType) → all_fit n vs p ≡ (lies_in p (fold int_min (pos 0) zs) && lies_in p (fold int_max (pos 0) zs)) = λ p. fit-by-stored p n vs h ∙ ap (list_all (lies_in p)) (sym is) ∙ all-by-extremes p zs in
    sym (first-holding (fold int_min (pos 0) zs) (fold int_max (pos 0) zs) q (least-bound zs) e) ∙ sym (λ i. unwrap_or (find (λ p. same p i) (U8 ∷ U16 ∷ U32 ∷ U64 ∷ I8 ∷ I16 ∷ I32 ∷ [])) I64)

-- ---- there is one

last-some : (a b c d : Bool) → d ≡ true → IsSome (cond a (Some I8) (cond b (Some I16) (cond c (Some I32) (cond d (Some I64) None))))
last-some true b c d e = refl
last-some false true c d e = refl
last-some false false true d e = refl
last-some false false false d e = rw e refl

pub narrow-both : (low high : ℤ) → FitsSigned w32 low → FitsSigned w32 high → pos 0 ≤ℤ high → IsSome (narrow_of low high)
narrow-both low (negsuc m) l h some = absurd (omega (arith, ints))
narrow-both (pos n) (pos m) l h some = narrow-some m (omega (arith, h.sfits))
narrow-both (negsuc n) (pos m) l h some =
    last-some (lies_in I8 (negsuc n) && lies_in I8 (pos m)) (lies_in I16 (negsuc n) && lies_in I16 (pos m)) (lies_in I32 (negsuc n) && lies_in I32 (pos m)) (lies_in I64 (negsuc n) && lies_in I64 (pos m))
    (and_from _ _ (lt-ltb n (2 ^ 63) (omega (arith, l.sfits))) (lt-ltb m (2 ^ 63) (omega (arith, h.sfits))))
