-- Slots and the integers that take them.
use Rattle.std.proofs.Common.{◌≡◌, ℕ, suc, ◌+◌, ◌<◌, ◌≤◌, ℤ, Bool, true, false, cond, List, [], ◌∷◌, ◌++◌, length, get_or, set, refl, sym, ap, subst, inl, inr, ◌∙◌, arith}
use mir.Val.{bool_byte}
use Rattle.std.specs.Prelude.{not, ◌==◌, ◌||◌, ◌&&◌}
use Rattle.std.specs.List.{AllByRecursion}
use Rattle.std.specs.Ordering.{int_eq}
use Rattle.std.proofs.lemmas.Bool.{cases_eq}
use Rattle.std.proofs.lemmas.List.{get_or-set_same, get_or-set_other, get_or_past, set-get_or}
use Rattle.std.proofs.lemmas.List.Sums.{sum_by-append}
use Rattle.vx_base.specs.declared.ptype.PType.{PType}
use Rattle.vx_base.specs.Integers.{bits_in}
use Rattle.vx_stats.specs.Distinct.{times, with_number, distinct}
use Rattle.vx_stats.specs.Slots.{slot_of, HasSlot, TakenBy}
use Rattle.vx_stats.specs.declared.integer.slots.Slots.{Slots}
use Rattle.vx_stats.proofs.DistinctLemmas.{by-order, times-next, distinct-times, distinct-ascends, same-ascending, eq-same}
use Rattle.vx_stats.proofs.TallyLemmas.{same-eq, left}

-- ---- one more number among ascending ones

abbrev ones : Bool → ℕ
ones b = cond b 1 0

length-with : (z : ℤ) (ds : List ℤ) → length ds ≤ length (with_number z ds)
length-with z [] = omega arith
length-with z (d ∷ ds) = by-order z d (λ l. suc (length ds) ≤ length l) ds (λ less. omega arith) (λ same. omega arith) (λ more. omega (arith, length-with z ds))

length-new : (z : ℤ) (ds : List ℤ) → times ds z ≡ 0 → length (with_number z ds) ≡ suc (length ds)
length-new z [] none = refl
length-new z (d ∷ ds) none =
    by-order z d (λ l. length l ≡ suc (suc (length ds))) ds (λ less. refl) (λ same. absurd (there same (omega (arith, none, times-next z d ds))))
    (λ more. ap suc (length-new z ds (omega (arith, none, times-next z d ds))))
  where
    there : z ≡ d → ◌≡◌ {A = ℕ} (cond (int_eq z d) 1 0) 0 → ⊥
    there same zero =
        let one : ◌≡◌ {A = ℕ} (cond (int_eq z d) 1 0) 1 = ap (λ x. ones (int_eq z x)) (sym same) ∙ ap ones (same-eq z) in
        absurd (omega (arith, zero, one))

length-distinct-new : (z : ℤ) (zs : List ℤ) → times zs z ≡ 0 → length (distinct (z ∷ zs)) ≡ suc (length (distinct zs))
length-distinct-new z zs none = length-new z (distinct zs) (distinct-times z zs ∙ rw none refl)

-- ---- a number whose slot is free hasn't come yet

untaken : (p : PType) (taken : List Bool) (shift : ℕ) (w : ℤ) (zs : List ℤ) → AllByRecursion (HasSlot p taken shift) zs → get_or taken (slot_of shift (bits_in p w)) true ≡ false → times zs w ≡ 0
untaken p taken shift w [] all free = refl
untaken p taken shift w (z ∷ zs) all free = omega (arith, times-next w z zs, other (int_eq w z) refl, untaken p taken shift w zs all.1 free)
  where
    other : (b : Bool) → int_eq w z ≡ b → ones (int_eq w z) ≡ 0
    other true e = let here : get_or taken (slot_of shift (bits_in p w)) true ≡ true = subst (HasSlot p taken shift) (sym (eq-same w z e)) all.0 in absurd cc
    other false e = ap ones e

-- ---- a slot that is taken stays so

set-keeps : (taken : List Bool) (k j : ℕ) → k < length taken → get_or taken j true ≡ true → get_or (set taken k true) j true ≡ true
set-keeps taken k j within e = elim (cases_eq j k) [
  | inl same ↦ ap (λ i. get_or (set taken k true) i true) same ∙ get_or-set_same taken k true true within
  | inr other ↦ get_or-set_other taken k j true true other ∙ e
]

set-keeps-all : (p : PType) (taken : List Bool) (shift k : ℕ) (zs : List ℤ) → k < length taken → AllByRecursion (HasSlot p taken shift) zs → AllByRecursion (HasSlot p (set taken k true) shift) zs
set-keeps-all p taken shift k [] within all = tt
set-keeps-all p taken shift k (z ∷ zs) within all = (set-keeps taken k _ within all.0, set-keeps-all p taken shift k zs within all.1)

-- ---- one more number takes its slot

took : (p : PType) (zs : List ℤ) (w : ℤ) (old new : Slots) (slot : ℕ) → slot ≡ slot_of old.shift (bits_in p w) → slot < length old.taken.items → new.shift ≡ old.shift → new.taken.items ≡ set old.taken.items slot true
    → new.count ≤ old.count + bool_byte (not (get_or old.taken.items slot true)) → TakenBy p zs old → TakenBy p (w ∷ zs) new
took p zs w old new slot is within shift taken few before =
    let all = set-keeps-all p old.taken.items old.shift slot zs within before.taken in
    let mine : HasSlot p (set old.taken.items slot true) old.shift w = ap (λ k. get_or (set old.taken.items slot true) k true) (sym is) ∙ get_or-set_same old.taken.items slot true true within in
    let both : AllByRecursion (HasSlot p (set old.taken.items slot true) old.shift) (w ∷ zs) = (mine, all) in
    record {
      few = by-slot (get_or old.taken.items slot true) refl;
      taken = subst (λ n. AllByRecursion (HasSlot p new.taken.items n) (w ∷ zs)) (sym shift) (subst (λ t. AllByRecursion (HasSlot p t old.shift) (w ∷ zs)) (sym taken) both);
    }
  where
    by-slot : (b : Bool) → get_or old.taken.items slot true ≡ b → new.count ≤ length (distinct (w ∷ zs))
    by-slot true e = omega (arith, few, ap (λ b. bool_byte (not b)) e, before.few, length-with w (distinct zs))
    by-slot false e =
        let new = length-distinct-new w zs (untaken p old.taken.items old.shift w zs before.taken (ap (λ k. get_or old.taken.items k true) (sym is) ∙ e)) in
        omega (arith, few, ap (λ b. bool_byte (not b)) e, before.few, new)

-- an item whose bit is false leaves its slot and the count as they were
passed : (p : PType) (zs : List ℤ) (old new : Slots) (slot : ℕ) → slot < length old.taken.items → new.shift ≡ old.shift → new.taken.items ≡ set old.taken.items slot (get_or old.taken.items slot true) → new.count ≤ old.count → TakenBy p zs old → TakenBy p zs new
passed p zs old new slot within shift taken few before =
    let same : new.taken.items ≡ old.taken.items = taken ∙ set-get_or old.taken.items slot true in
    record {
      few = omega (arith, few, before.few);
      taken = subst (λ n. AllByRecursion (HasSlot p new.taken.items n) zs) (sym shift) (subst (λ t. AllByRecursion (HasSlot p t old.shift) zs) (sym same) before.taken);
    }

-- one more number takes its slot where its bit is true
pub took_if : (p : PType) (bit : Bool) (zs : List ℤ) (w : ℤ) (old new : Slots) (slot : ℕ) → slot ≡ slot_of old.shift (bits_in p w) → slot < length old.taken.items → new.shift ≡ old.shift
    → new.taken.items ≡ set old.taken.items slot (get_or old.taken.items slot true || bit) → new.count ≤ old.count + bool_byte (bit && not (get_or old.taken.items slot true))
    → TakenBy p zs old → TakenBy p (cond bit (w ∷ zs) zs) new
took_if p true zs w old new slot is within shift taken few before = took p zs w old new slot is within shift (taken ∙ ap (set old.taken.items slot) (or_true (get_or old.taken.items slot true))) few before
  where
    or_true : (b : Bool) → (b || true) ≡ true
    or_true true = refl
    or_true false = refl
took_if p false zs w old new slot is within shift taken few before = passed p zs old new slot within shift (taken ∙ ap (set old.taken.items slot) (or_false (get_or old.taken.items slot true))) (omega (arith, few)) before
  where
    or_false : (b : Bool) → (b || false) ≡ b
    or_false true = refl
    or_false false = refl

pub no-slot : (p : PType) (bit : Bool) (zs : List ℤ) (w : ℤ) (slots : Slots) → length slots.taken.items ≤ slot_of slots.shift (bits_in p w) → TakenBy p zs slots → TakenBy p (cond bit (w ∷ zs) zs) slots
no-slot p true zs w slots past before = record { few = omega (arith, before.few, length-with w (distinct zs)); taken = (get_or_past slots.taken.items _ true past, before.taken) }
no-slot p false zs w slots past before = before

-- ---- the numbers that took their slots are all but those that are left, in some order

pub record TakenBut (p : PType) (all left : List ℤ) (slots : Slots) : Type 0 where
  pub seen : List ℤ
  pub split : (z : ℤ) → times seen z + times left z ≡ times all z
  pub by : TakenBy p seen slots

pub none-seen : (p : PType) (all : List ℤ) (slots : Slots) → TakenBy p [] slots → TakenBut p all all slots
none-seen p all slots by = record { seen = []; split = λ z. omega arith; by = by }

pub one-more : (p : PType) (bit : Bool) (all : List ℤ) (w : ℤ) (left : List ℤ) (old new : Slots) → ((zs : List ℤ) → TakenBy p zs old → TakenBy p (cond bit (w ∷ zs) zs) new) → TakenBut p all (cond bit (w ∷ left) left) old → TakenBut p all left new
one-more p true all w left old new step before =
    record {
      seen = w ∷ before.seen;
      split = λ z. omega (arith, before.split z, times-next z w before.seen, times-next z w left);
      by = step before.seen before.by;
    }
one-more p false all w left old new step before = record { seen = before.seen; split = before.split; by = step before.seen before.by }

-- more numbers have no fewer distinct ones
length-more : (ls zs : List ℤ) → length (distinct zs) ≤ length (distinct (ls ++ zs))
length-more [] zs = omega arith
length-more (l ∷ ls) zs = omega (arith, length-more ls zs, length-with l (distinct (ls ++ zs)))

pub some-seen : (p : PType) (all left : List ℤ) (slots : Slots) → TakenBut p all left slots → slots.count ≤ length (distinct all)
some-seen p all left slots but =
    let same : distinct (left ++ but.seen) ≡ distinct all =
    same-ascending (distinct (left ++ but.seen)) (distinct all) (distinct-ascends (left ++ but.seen)) (distinct-ascends all)
    (λ z. distinct-times z (left ++ but.seen) ∙ ap (λ n. cond (n == 0) 0 1) (counts z) ∙ sym (distinct-times z all))
    in
    omega (arith, but.by.few, length-more left but.seen, ap length same)
  where
    counts : (z : ℤ) → times (left ++ but.seen) z ≡ times all z
    counts z = omega (arith, but.split z, sum_by-append (λ w. cond (int_eq z w) 1 0) left but.seen)
