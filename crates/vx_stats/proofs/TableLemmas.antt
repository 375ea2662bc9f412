-- A loop's steps over a table of counts.
use Rattle.std.proofs.Common.{◌≡◌, ◌≢◌, ℕ, zero, suc, ◌+◌, ◌<◌, ◌≤◌, ℤ, pos, Bool, true, false, cond, List, [], ◌∷◌, length, map, drop, get_or, refl, sym, ap, subst, inl, inr, ◌∙◌, arith}
use mir.Val.{bool_byte}
use Rattle.std.specs.Prelude.{◌+ℤ◌}
use Rattle.std.specs.List.{All}
use Rattle.std.specs.Ordering.{int_eq}
use Rattle.std.proofs.Math.ListN.{set}
use Rattle.std.proofs.lemmas.Bool.{cases_eq}
use Rattle.std.proofs.lemmas.Int.{ints}
use Rattle.std.proofs.lemmas.List.{ext_get_or, length-set, get_or-set_same, get_or-set_other, get_or_read, set-get_or, drop_more}
use Rattle.std.proofs.lemmas.List.Elements.{All-head, All-tail}
use Rattle.std.proofs.lemmas.List.Sums.{count_by-le-length}
use Rattle.vx_stats.specs.Distinct.{times}
use Rattle.vx_stats.specs.Tables.{LiesBetween, table_of}
use Rattle.vx_stats.proofs.DistinctLemmas.{times-next}
use Rattle.vx_stats.proofs.TallyLemmas.{same-eq, left, left-next}

next-number : (least : ℤ) (k : ℕ) → (least +ℤ pos 1) +ℤ pos k ≡ least +ℤ pos (suc k)
next-number least k = omega (arith, ints)

first-number : (least : ℤ) → least +ℤ pos 0 ≡ least
first-number least = omega (arith, ints)

-- ---- a table place by place

length-table_of : (least : ℤ) (n : ℕ) (zs : List ℤ) → length (table_of least n zs) ≡ n
length-table_of least zero zs = refl
length-table_of least (suc n) zs = ap suc (length-table_of (least +ℤ pos 1) n zs)

get_or-table_of : (least : ℤ) (n : ℕ) (zs : List ℤ) (k : ℕ) → k < n → get_or (table_of least n zs) k 0 ≡ times zs (least +ℤ pos k)
get_or-table_of least zero zs k h = absurd (omega arith)
get_or-table_of least (suc n) zs zero h = ap (times zs) (sym (first-number least))
get_or-table_of least (suc n) zs (suc k) h = get_or-table_of (least +ℤ pos 1) n zs k (omega arith) ∙ ap (times zs) (next-number least k)

-- ---- a table counts all numbers but those that are left, which lie in its range

pub record CountsBut (least greatest : ℤ) (len : ℕ) (all left : List ℤ) (table : List ℕ) : Type 0 where
  pub size : length table ≡ len
  pub each : (k : ℕ) → k < len → get_or table k 0 + times left (least +ℤ pos k) ≡ times all (least +ℤ pos k)
  pub within : All (LiesBetween least greatest) left

pub counts-all : (least greatest : ℤ) (len : ℕ) (all left : List ℤ) (table : List ℕ) → left ≡ [] → CountsBut least greatest len all left table → table ≡ table_of least len all
counts-all least greatest len all left table none c =
    ext_get_or 0 table (table_of least len all) (c.size ∙ sym (length-table_of least len all))
    (λ k h. let below : k < len = omega (arith, c.size) in let e = c.each k below in omega (arith, e, ap (λ zs. times zs (least +ℤ pos k)) none, get_or-table_of least len all k below))

module _ (least greatest : ℤ) (len : ℕ) (all left : List ℤ) (table : List ℕ) (z : ℤ) (p : ℕ) (range : greatest +ℤ pos 1 ≡ least +ℤ pos len) (at : z ≡ least +ℤ pos p) (counts : CountsBut least greatest len all (z ∷ left) table) where
  place-below : p < len
  place-below = let between = All-head (LiesBetween least greatest) z left counts.within in omega (arith, ints, between.0, between.1)

  first-times : times (z ∷ left) (least +ℤ pos p) ≡ 1 + times left (least +ℤ pos p)
  first-times = times-next (least +ℤ pos p) z left ∙ ap (λ b. cond b 1 0 + times left (least +ℤ pos p)) (ap (int_eq (least +ℤ pos p)) at ∙ same-eq (least +ℤ pos p))

  count-room : get_or table p 0 < length all
  count-room = omega (arith, counts.each p place-below, first-times, count_by-le-length (int_eq (least +ℤ pos p)) all)

  apart : (x : ℤ) (j k : ℕ) → j ≢ k → int_eq (x +ℤ pos j) (x +ℤ pos k) ≡ false
  apart x j k ne = grind (arith, ints)

  count-next : CountsBut least greatest len all left (set table p (get_or table p 0 + 1))
  count-next = record {
    size = length-set table p (get_or table p 0 + 1) ∙ counts.size;
    each = λ k h.
        elim (cases_eq k p) [
          | inl e ↦ here k e
          | inr ne ↦ there k h ne
        ];
    within = All-tail (LiesBetween least greatest) z left counts.within;
  }
    where
      here : (k : ℕ) → k ≡ p → get_or (set table p (get_or table p 0 + 1)) k 0 + times left (least +ℤ pos k) ≡ times all (least +ℤ pos k)
      here k e =
          subst (λ j. get_or (set table p (get_or table p 0 + 1)) j 0 + times left (least +ℤ pos j) ≡ times all (least +ℤ pos j)) (sym e)
          (omega (arith, get_or-set_same table p (get_or table p 0 + 1) 0 (omega (arith, counts.size, place-below)), counts.each p place-below, first-times))

      there : (k : ℕ) → k < len → k ≢ p → get_or (set table p (get_or table p 0 + 1)) k 0 + times left (least +ℤ pos k) ≡ times all (least +ℤ pos k)
      there k h ne =
          let other : times (z ∷ left) (least +ℤ pos k) ≡ 0 + times left (least +ℤ pos k) =
          times-next (least +ℤ pos k) z left ∙ ap (λ b. cond b 1 0 + times left (least +ℤ pos k)) (ap (int_eq (least +ℤ pos k)) at ∙ apart least k p ne)
          in
          omega (arith, get_or-set_other table p k (get_or table p 0 + 1) 0 ne, counts.each k h, other)

-- ---- a loop's step: the first number that is left, or nothing where a bit is false

-- what is known at the place of the number: it lies in the table, and its count may grow
pub record IsCounted (least greatest : ℤ) (len : ℕ) (all next : List ℤ) (table : List ℕ) (p more : ℕ) : Type 0 where
  pub place : p < length table
  pub grows : (n : ℕ) → n ≡ get_or table p n → (n + more ≤ length all) × CountsBut least greatest len all next (set table p (n + more))

module _ (least greatest : ℤ) (len : ℕ) (all here next : List ℤ) (table : List ℕ) (w : ℤ) where
  pub step-between : (b : Bool) (z : ℤ) → (b ≡ false → 0 < len) → greatest +ℤ pos 1 ≡ least +ℤ pos len → here ≡ cond b (w ∷ next) next → z ≡ cond b w least → CountsBut least greatest len all here table → LiesBetween least greatest z
  step-between true z some range step is counts = subst (LiesBetween least greatest) (sym is) (All-head (LiesBetween least greatest) w next (subst (All (LiesBetween least greatest)) step counts.within))
  step-between false z some range step is counts = let room = some refl in (omega (arith, ints), omega (arith, ints))

  pub step-counted : (b : Bool) (z : ℤ) (p : ℕ) → (b ≡ false → 0 < len) → greatest +ℤ pos 1 ≡ least +ℤ pos len → here ≡ cond b (w ∷ next) next → z ≡ cond b w least → z ≡ least +ℤ pos p → CountsBut least greatest len all here table
      → IsCounted least greatest len all next table p (bool_byte b)
  step-counted true z p some range step is at counts =
      let first : CountsBut least greatest len all (w ∷ next) table = subst (λ left. CountsBut least greatest len all left table) step counts in
      let here : w ≡ least +ℤ pos p = sym is ∙ at in
      let below = place-below least greatest len all next table w p range here first in
      let room = count-room least greatest len all next table w p range here first in
      let more = count-next least greatest len all next table w p range here first in
      let place : p < length table = omega (arith, counts.size) in
      record {
        place = place;
        grows = λ n read. let count = get_or_read table p n place read 0 in (omega arith, subst (λ m. CountsBut least greatest len all next (set table p (m + 1))) (sym count) more);
      }
  step-counted false z p some range step is at counts =
      let first : CountsBut least greatest len all next table = subst (λ left. CountsBut least greatest len all left table) step counts in
      let room = some refl in
      let start : p ≡ 0 = omega (arith, ints) in
      let place : p < length table = omega (arith, counts.size) in
      let fits : get_or table p 0 ≤ length all = omega (arith, first.each p (omega arith), count_by-le-length (int_eq (least +ℤ pos p)) all) in
      record {
        place = place;
        grows = λ n read.
            let count = get_or_read table p n place read 0 in
            let same : set table p (n + 0) ≡ table = ap (set table p) (omega (arith, count)) ∙ set-get_or table p 0 in
            (omega arith, subst (CountsBut least greatest len all next) (sym same) first);
      }

-- ---- the step at an item

module _ {T : Type 0} (whole : T → ℤ) (least greatest : ℤ) (len : ℕ) (items : List T) (row : ℕ) (x : T) (table : List ℕ) (at : row < length items) (is : x ≡ get_or items row x) (range : greatest +ℤ pos 1 ≡ least +ℤ pos len) where
  module _ (counts : CountsBut least greatest len (map whole items) (map whole (drop row items)) table) where
    rest-first : map whole (drop row items) ≡ whole x ∷ map whole (drop (row + 1) items)
    rest-first = ap (map whole) (drop_more items row x at) ∙ ap (λ y. whole y ∷ map whole (drop (row + 1) items)) (sym is)

    pub item-between : LiesBetween least greatest (whole x)
    item-between = step-between least greatest len (map whole items) (map whole (drop row items)) (map whole (drop (row + 1) items)) table (whole x) true (whole x) (λ e. absurd cc) range rest-first refl counts

    pub item-counted : (p : ℕ) → whole x ≡ least +ℤ pos p → IsCounted least greatest len (map whole items) (map whole (drop (row + 1) items)) table p 1
    item-counted p place = step-counted least greatest len (map whole items) (map whole (drop row items)) (map whole (drop (row + 1) items)) table (whole x) true (whole x) p (λ e. absurd cc) range rest-first refl place counts

  -- where the item's bit is true; else at the least number
  module _ (bits : List Bool) (y : T) (same : length bits ≡ length items) (some : 0 < len) (picked : whole y ≡ cond (get_or bits row false) (whole x) least) (counts : CountsBut least greatest len (left whole items bits 0) (left whole items bits row) table) where
    pub valid-between : LiesBetween least greatest (whole y)
    valid-between =
        step-between least greatest len (left whole items bits 0) (left whole items bits row) (left whole items bits (row + 1)) table (whole x) (get_or bits row false) (whole y) (λ e. some) range
        (left-next whole items bits row x at same is) picked counts

    pub valid-counted : (p : ℕ) → whole y ≡ least +ℤ pos p → IsCounted least greatest len (left whole items bits 0) (left whole items bits (row + 1)) table p (bool_byte (get_or bits row false))
    valid-counted p place =
        step-counted least greatest len (left whole items bits 0) (left whole items bits row) (left whole items bits (row + 1)) table (whole x) (get_or bits row false) (whole y) p (λ e. some) range
        (left-next whole items bits row x at same is) picked place counts
