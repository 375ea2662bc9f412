-- Tables of counts, and the distinct numbers that they tell.
use Rattle.std.proofs.Common.{◌≡◌, ℕ, zero, suc, ◌+◌, ℤ, pos, Bool, true, false, cond, List, [], ◌∷◌, map, refl, sym, ap, subst, inl, inr, ◌⊎◌, ◌∙◌, arith}
use Rattle.std.specs.Prelude.{int_lt, ◌==◌, ◌+ℤ◌}
use Rattle.std.specs.List.{All}
use Rattle.std.specs.Ordering.{int_eq}
use Rattle.std.proofs.lemmas.Bool.{cond_both}
use Rattle.std.proofs.lemmas.Int.{ints}
use Rattle.std.proofs.lemmas.List.Elements.{recursion_from_All}
use Rattle.std.specs.List.{AllByRecursion}
use Rattle.vx_stats.specs.Distinct.{times, distinct, value_counts}
use Rattle.vx_stats.specs.Tables.{LiesBetween, table_of, entries}
use Rattle.vx_stats.proofs.DistinctLemmas.{IsBelow, IsAscending, distinct-ascends, distinct-times, same-ascending, times-next, times-below}
use Rattle.vx_stats.proofs.TallyLemmas.{same-eq}

-- ---- the numbers that a table tells

-- the numbers that occur, of n from the least on
abbrev present : ℤ → ℕ → List ℤ → List ℤ
present least zero zs = []
present least (suc n) zs = cond (times zs least == 0) (present (least +ℤ pos 1) n zs) (least ∷ present (least +ℤ pos 1) n zs)

entries-present : (least : ℤ) (n : ℕ) (zs : List ℤ) → entries least (table_of least n zs) ≡ map (λ z. (z, times zs z)) (present least n zs)
entries-present least zero zs = refl
entries-present least (suc n) zs = both (times zs least == 0) _ _ (entries-present (least +ℤ pos 1) n zs)
  where
    both : (b : Bool) (later : List (ℤ × ℕ)) (rest : List ℤ) → later ≡ map (λ z. (z, times zs z)) rest
        → cond b later ((least, times zs least) ∷ later) ≡ map (λ z. (z, times zs z)) (cond b rest (least ∷ rest))
    both true later rest e = e
    both false later rest e = ap (λ l. (least, times zs least) ∷ l) e

-- ---- they ascend

next-below : (z least : ℤ) → int_lt z least ≡ true → int_lt z (least +ℤ pos 1) ≡ true
next-below z least h = grind (arith, ints)

just-below : (least : ℤ) → int_lt least (least +ℤ pos 1) ≡ true
just-below least = grind (arith, ints)

present-below : (z least : ℤ) (n : ℕ) (zs : List ℤ) → int_lt z least ≡ true → IsBelow z (present least n zs)
present-below z least zero zs h = tt
present-below z least (suc n) zs h =
    let later = present-below z (least +ℤ pos 1) n zs (next-below z least h) in
    cond_both (times zs least == 0) (present (least +ℤ pos 1) n zs) (least ∷ present (least +ℤ pos 1) n zs) (IsBelow z) (λ e. later) (λ f. (h, later))

present-ascends : (least : ℤ) (n : ℕ) (zs : List ℤ) → IsAscending (present least n zs)
present-ascends least zero zs = tt
present-ascends least (suc n) zs =
    let later = present-ascends (least +ℤ pos 1) n zs in
    cond_both (times zs least == 0) (present (least +ℤ pos 1) n zs) (least ∷ present (least +ℤ pos 1) n zs) IsAscending (λ e. later) (λ f. (present-below least (least +ℤ pos 1) n zs (just-below least), later))

-- ---- each number that occurs stands once

once-here : (z : ℤ) (b : Bool) (rest : List ℤ) → times rest z ≡ 0 → times (cond b rest (z ∷ rest)) z ≡ cond b 0 1
once-here z true rest e = e
once-here z false rest e = times-next z z rest ∙ ap (λ b. cond b 1 0 + times rest z) (same-eq z) ∙ omega (arith, e)

none-here : (z least : ℤ) (b : Bool) (rest : List ℤ) → int_eq z least ≡ false → times (cond b rest (least ∷ rest)) z ≡ times rest z
none-here z least true rest f = refl
none-here z least false rest f = times-next z least rest ∙ ap (λ b. cond b 1 0 + times rest z) f ∙ omega arith

equal-whole : (z w : ℤ) → int_eq z w ≡ true → z ≡ w
equal-whole z w e = grind (arith, ints)

not-above : (z least : ℤ) → int_eq z least ≡ false → int_lt z (least +ℤ pos 1) ≡ true → int_lt z least ≡ true
not-above z least f h = grind (arith, ints)

one-shorter : (z least : ℤ) (n : ℕ) → int_lt z ((least +ℤ pos 1) +ℤ pos n) ≡ false → int_lt z (least +ℤ pos (suc n)) ≡ false
one-shorter z least n f = grind (arith, ints)

no-number : (z least : ℤ) → int_lt z least ≡ false → int_lt z (least +ℤ pos 0) ≡ false
no-number z least f = grind (arith, ints)

present-times : (z least : ℤ) (n : ℕ) (zs : List ℤ) → (int_lt z least ≡ true → times zs z ≡ 0) → (int_lt z (least +ℤ pos n) ≡ false → times zs z ≡ 0) → times (present least n zs) z ≡ cond (times zs z == 0) 0 1
present-times z least zero zs low high = sym (ap (λ n. cond (n == 0) 0 1) (by-side (int_lt z least) refl))
  where
    by-side : (b : Bool) → int_lt z least ≡ b → times zs z ≡ 0
    by-side true e = low e
    by-side false f = high (no-number z least f)
present-times z least (suc n) zs low high =
    by-place (int_eq z least) refl (λ f. present-times z (least +ℤ pos 1) n zs (λ h. low (not-above z least f h)) (λ h. high (one-shorter z least n h)))
  where
    by-place : (b : Bool) → int_eq z least ≡ b → (int_eq z least ≡ false → times (present (least +ℤ pos 1) n zs) z ≡ cond (times zs z == 0) 0 1)
        → times (present least (suc n) zs) z ≡ cond (times zs z == 0) 0 1
    by-place true e later =
        let rest = present (least +ℤ pos 1) n zs in
        subst (λ w. times (present least (suc n) zs) w ≡ cond (times zs w == 0) 0 1) (sym (equal-whole z least e))
        (once-here least (times zs least == 0) rest (times-below least rest (present-below least (least +ℤ pos 1) n zs (just-below least))))
    by-place false f later = none-here z least (times zs least == 0) (present (least +ℤ pos 1) n zs) f ∙ later f

-- ---- they are the distinct numbers of a list that lies in the range

apart : (z w least greatest : ℤ) → LiesBetween least greatest w → (int_lt z least ≡ true) ⊎ (int_lt greatest z ≡ true) → int_eq z w ≡ false
apart z w least greatest within (inl h) = grind (arith, ints)
apart z w least greatest within (inr h) = grind (arith, ints)

times-outside : (z least greatest : ℤ) (zs : List ℤ) → (int_lt z least ≡ true) ⊎ (int_lt greatest z ≡ true) → AllByRecursion (LiesBetween least greatest) zs → times zs z ≡ 0
times-outside z least greatest [] out within = refl
times-outside z least greatest (w ∷ ws) out within =
    times-next z w ws ∙ ap (λ b. cond b 1 0 + times ws z) (apart z w least greatest within.0 out) ∙ omega (arith, times-outside z least greatest ws out within.1)

above-greatest : (z least greatest : ℤ) (n : ℕ) → greatest +ℤ pos 1 ≡ least +ℤ pos n → int_lt z (least +ℤ pos n) ≡ false → int_lt greatest z ≡ true
above-greatest z least greatest n e f = grind (arith, ints)

module _ (least greatest : ℤ) (n : ℕ) (zs : List ℤ) (len : greatest +ℤ pos 1 ≡ least +ℤ pos n) (within : All (LiesBetween least greatest) zs) where
  present-distinct : present least n zs ≡ distinct zs
  present-distinct =
      let each = recursion_from_All (LiesBetween least greatest) zs within in
      same-ascending (present least n zs) (distinct zs) (present-ascends least n zs) (distinct-ascends zs)
      (λ z. present-times z least n zs (λ h. times-outside z least greatest zs (inl h) each) (λ f. times-outside z least greatest zs (inr (above-greatest z least greatest n len f)) each)
      ∙ sym (distinct-times z zs))

  pub entries-value_counts : (table : List ℕ) → table ≡ table_of least n zs → entries least table ≡ value_counts zs
  entries-value_counts table e = ap (entries least) e ∙ entries-present least n zs ∙ ap (map (λ z. (z, times zs z))) present-distinct
