-- Sums of three columns, a block at a time.
use Rattle.std.proofs.Common.{◌≡◌, ◌∙◌, ◌<◌, ◌≤◌, ◌+◌, ◌-◌, ℕ, ℤ, pos, List, length, map, get_or, take, drop, sym, ap, arith}
use Rattle.std.specs.Prelude.{◌+ℤ◌, ◌*ℤ◌}
use Rattle.std.proofs.lemmas.Int.{ints}
use Rattle.std.proofs.lemmas.List.{get_or-drop, get_or-map, get_or-take}
use Rattle.std.proofs.lemmas.List.FromFn.{get_or-map-range_with_len, length-map-range_with_len}
use Rattle.vx_base.specs.declared.ptype.PType.TheVariants.{I64}
use Rattle.vx_base.specs.Wrapping.{wrap}
use Rattle.vx_blocks.proofs.WrapsAgain.{wrap-sum_left}
use Rattle.vx_values.specs.Combined.{added, scaled, item_at, sum_at}

-- item `row` of a part is an item of the list, `start` further on
pub item-part : {X : Type 0} (whole : X → ℤ) (items : List X) (start n row : ℕ) (item : X) → start + n ≤ length items → row < n → item ≡ get_or (take (start + n - start) (drop start items)) row item
    → whole item ≡ get_or (map whole items) (start + row) (pos 0)
item-part whole items start n row item room lt is =
    ap whole (is ∙ get_or-take (start + n - start) (drop start items) row item (omega arith) ∙ get_or-drop start items row item) ∙ sym (get_or-map whole items (start + row) item (pos 0) (omega arith))

pub from-zero : (z : ℤ) → pos 0 +ℤ z ≡ z
from-zero z = omega (arith, ints)

module _ (start : ℕ) (factor : ℤ) (items sums : List ℤ) where
  abbrev at : ℕ → ℤ
  at i = wrap I64 (item_at sums i +ℤ item_at items (start + i) *ℤ factor)

  length-added : length (added start factor items sums) ≡ length sums
  length-added = length-map-range_with_len at 0 (length sums)

  get_or-added : (k : ℕ) → k < length sums → get_or (added start factor items sums) k (pos 0) ≡ at k
  get_or-added k lt = get_or-map-range_with_len at 0 (length sums) k k (pos 0) lt (omega arith)

  -- the first of the sums
  abbrev first_at : ℕ → ℤ
  first_at i = wrap I64 (item_at items (start + i) *ℤ factor)

  get_or-scaled : (n k : ℕ) → k < n → get_or (scaled start factor items n) k (pos 0) ≡ first_at k
  get_or-scaled n k lt = get_or-map-range_with_len first_at 0 n k k (pos 0) lt (omega arith)

-- sums that are wrapped on the way
wrapped_once : (a b c : ℤ) → wrap I64 (wrap I64 (wrap I64 a +ℤ b) +ℤ c *ℤ pos 1) ≡ wrap I64 (a +ℤ b +ℤ c)
wrapped_once a b c =
    let first = wrap I64 a in
    let swap : first +ℤ b +ℤ c *ℤ pos 1 ≡ first +ℤ (b +ℤ c) = omega (arith, ints) in
    let all : a +ℤ (b +ℤ c) ≡ a +ℤ b +ℤ c = omega (arith, ints) in
    wrap-sum_left I64 (first +ℤ b) (c *ℤ pos 1) ∙ ap (wrap I64) swap ∙ wrap-sum_left I64 a (b +ℤ c) ∙ ap (wrap I64) all

-- the first of three columns written, and the others added
module _ (start n : ℕ) (of_days of_seconds : ℤ) (days seconds subseconds one two three : List ℤ) (a : one ≡ scaled start of_days days n) (b : two ≡ added start of_seconds seconds one) (c : three ≡ added start (pos 1) subseconds two) where
  length-one : length one ≡ n
  length-one = ap length a ∙ length-map-range_with_len (first_at start of_days days one) 0 n

  length-two : length two ≡ n
  length-two = ap length b ∙ length-added start of_seconds seconds one ∙ length-one

  pub length-three : length three ≡ n
  length-three = ap length c ∙ length-added start (pos 1) subseconds two ∙ length-two

  pub all-added : (k : ℕ) → k < n → get_or three k (pos 0) ≡ sum_at of_days of_seconds days seconds subseconds (start + k)
  all-added k lt =
      let first = ap (λ l. get_or l k (pos 0)) a ∙ get_or-scaled start of_days days one n k lt in
      let second = ap (λ l. get_or l k (pos 0)) b ∙ get_or-added start of_seconds seconds one k (omega (arith, length-one)) ∙ ap (λ z. wrap I64 (z +ℤ item_at seconds (start + k) *ℤ of_seconds)) first in
      ap (λ l. get_or l k (pos 0)) c ∙ get_or-added start (pos 1) subseconds two k (omega (arith, length-two)) ∙ ap (λ z. wrap I64 (z +ℤ item_at subseconds (start + k) *ℤ pos 1)) second
      ∙ wrapped_once (item_at days (start + k) *ℤ of_days) (item_at seconds (start + k) *ℤ of_seconds) (item_at subseconds (start + k))
