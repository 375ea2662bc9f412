-- The first number where a function is least: there is one, and it is the only one.
use Rattle.std.proofs.Common.{◌≡◌, ◌<◌, ◌≤◌, ◌+◌, ◌∙◌, ℕ, zero, suc, Bool, true, false, get_or, refl, sym, ap, subst, arith, inl, inr}
use Rattle.std.specs.Prelude.{◌&&◌, ◌==◌, nat_le}
use Rattle.std.specs.List.{list_all, range_with_len}
use Rattle.std.proofs.lemmas.Bool.{and_from, cases_eq, cases_lt}
use Rattle.std.proofs.lemmas.Bool.Decides.{nat_tests}
use Rattle.std.proofs.lemmas.List.FromFn.{length-range_with_len, get_or-range_with_len}
use Rattle.std.proofs.lemmas.List.Sums.{position_or_len_is}
use Rattle.vx_base.specs.declared.ptype.PType.{PType}
use Rattle.vx_base.specs.declared.ptype.PType.TheVariants.{U8, U16, U32, U64, I8, I16, I32, I64}
use Rattle.vx_base.specs.Integers.{bits_of, natural_bits}
use Rattle.vx_blocks.specs.Cost.{IsBest}
use Rattle.vx_schemes.specs.Widths.{first_least}

all_range : (q : ℕ → Bool) (start n : ℕ) → ((i : ℕ) → i < start + n → q i ≡ true) → list_all q (range_with_len start n) ≡ true
all_range q start zero h = refl
all_range q start (suc n) h = and_from _ _ (h start (omega arith)) (all_range q (start + 1) n (λ i l. h i (omega arith)))

and_false : (b c : Bool) → c ≡ false → (b && c) ≡ false
and_false true c e = e
and_false false c e = refl

not_all_range : (q : ℕ → Bool) (start n v : ℕ) → start ≤ v → v < start + n → q v ≡ false → list_all q (range_with_len start n) ≡ false
not_all_range q start zero v a b e = absurd (omega arith)
not_all_range q start (suc n) v a b e =
    elim (cases_eq v start) [
      | inl same ↦ let here : q start ≡ false = ap q (sym same) ∙ e in rw here refl
      | inr other ↦ and_false (q start) _ (not_all_range q (start + 1) n v (omega arith) (omega arith) e)
    ]

at_range : (n i : ℕ) → i < n → i ≡ 0 + i
at_range n i h = omega arith

pub first_least-is : (f : ℕ → ℕ) (n w : ℕ) → IsBest f n w → w ≡ first_least f n
unfolding first_least
first_least-is f n w best =
    let passes : ℕ → Bool = λ u. list_all (λ v. nat_le (f u) (f v)) (range_with_len 0 (n + 1)) in
    let at : (i : ℕ) → i < n + 1 → get_or (range_with_len 0 (n + 1)) i 0 ≡ i = λ i h. get_or-range_with_len 0 (n + 1) i 0 h ∙ omega arith in
    let within = best.within in
    let no : (k : ℕ) → k < w → passes (get_or (range_with_len 0 (n + 1)) k 0) ≡ false = λ k h. ap passes (at k (omega arith)) ∙ not_all_range (λ v. nat_le (f k) (f v)) 0 (n + 1) w (omega arith) (omega arith) (greater (f w) (f k) (best.first k h)) in
    let yes : passes (get_or (range_with_len 0 (n + 1)) w 0) ≡ true = ap passes (at w (omega arith)) ∙ all_range (λ v. nat_le (f w) (f v)) 0 (n + 1) (λ i h. no_more (f w) (f i) (best.least i (omega arith))) in
    sym (position_or_len_is passes (range_with_len 0 (n + 1)) w 0 (omega (arith, length-range_with_len 0 (n + 1))) no (λ _. yes))
  where
    greater : (a b : ℕ) → a < b → nat_le b a ≡ false
    greater a b h = grind (arith, nat_tests)

    no_more : (a b : ℕ) → a ≤ b → nat_le a b ≡ true
    no_more a b h = grind (arith, nat_tests)

-- there is one
record Best (f : ℕ → ℕ) (n : ℕ) : Type 0 where
  place : ℕ
  best : IsBest f n place

some_best : (f : ℕ → ℕ) (n : ℕ) → Best f n
some_best f zero =
    record {
      place = 0;
      best = record { within = omega arith; least = λ v h. (let none : v ≡ 0 = omega arith in rw none (omega arith)); first = λ v h. absurd (omega arith) };
    }
some_best f (suc n) =
    let b = some_best f n in
    elim (cases_lt (f (suc n)) (f b.place)) [
      | inl less ↦ record {
        place = suc n;
        best = record {
          within = omega arith;
          least = λ v h. elim (cases_lt v (suc n)) [ inl before ↦ omega (arith, b.best.least v (omega arith)) | inr last ↦ (let same : v ≡ suc n = omega arith in rw same (omega arith)) ];
          first = λ v h. omega (arith, b.best.least v (omega arith));
        };
      }
      | inr more ↦ record {
        place = b.place;
        best = record {
          within = omega (arith, b.best.within);
          least = λ v h. elim (cases_lt v (suc n)) [ inl before ↦ b.best.least v (omega arith) | inr last ↦ (let same : v ≡ suc n = omega arith in rw same more) ];
          first = b.best.first;
        };
      }
    ]

pub first_least-le : (f : ℕ → ℕ) (n : ℕ) → first_least f n ≤ n
first_least-le f n = let b = some_best f n in subst (λ w. w ≤ n) (first_least-is f n b.place b.best) b.best.within

-- a width other than the type's is no wider than its natural numbers
pub narrow_width : (p : PType) (w : ℕ) → w ≤ bits_of p → (w == bits_of p) ≡ false → nat_le w (natural_bits p) ≡ true
narrow_width U8 w h e = grind (arith, nat_tests)
narrow_width U16 w h e = grind (arith, nat_tests)
narrow_width U32 w h e = grind (arith, nat_tests)
narrow_width U64 w h e = grind (arith, nat_tests)
narrow_width I8 w h e = grind (arith, nat_tests)
narrow_width I16 w h e = grind (arith, nat_tests)
narrow_width I32 w h e = grind (arith, nat_tests)
narrow_width I64 w h e = grind (arith, nat_tests)
