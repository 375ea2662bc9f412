-- The least and the greatest of differences, seen one after another.
use Rattle.std.proofs.Common.{◌≡◌, ◌<◌, ◌≤◌, ◌+◌, ◌-◌, ◌*◌, ◌%◌, ◌∙◌, ℕ, zero, suc, ℤ, pos, negsuc, Bool, true, false, cond, List, [], ◌∷◌, length, map, get_or, drop, Some, None, refl, sym, ap, subst, arith}
use Rattle.std.specs.Prelude.{fold, ◌==◌, nat_le, nat_lt, ◌||◌, ◌≤ℤ◌, ◌-ℤ◌, unsigned_abs}
use Rattle.std.specs.Int.{int_min, int_max}
use Rattle.std.specs.List.{range_with_len}
use Rattle.std.proofs.lemmas.Bool.{cond-true, cond-false, le-leb, lt-ltb, le-ltb, ltb-true}
use Rattle.std.proofs.lemmas.Int.{ints}
use Rattle.std.proofs.lemmas.List.{drop_more}
use Rattle.std.proofs.lemmas.List.Sums.{fold-append}
use Rattle.vx_base.specs.declared.ptype.PType.{PType}
use Rattle.vx_base.specs.Packed.{block_count}
use Rattle.vx_base.specs.Wrapping.{wrap}
use Rattle.vx_blocks.specs.Deltas.{delta, deltas}
use Rattle.vx_blocks.proofs.DeltaRows.{delta-first}
use Rattle.vx_blocks.proofs.Ranges.{map-range_more}
use Rattle.vx_schemes_runs.specs.Delta.Meaning.{spread, spread_within}

ordered-both : (low high z : ℤ) → low ≤ℤ high → int_min low z ≤ℤ int_max high z
ordered-both low high z h = grind (arith, ints)

-- the least and the greatest stay in order where one more is seen
pub ordered-next : (low high z least greatest : ℤ) → low ≤ℤ high → least ≡ int_min low z → greatest ≡ int_max high z → least ≤ℤ greatest
ordered-next low high z least greatest h e f = subst (λ x. x ≤ℤ greatest) (sym e) (subst (λ y. int_min low z ≤ℤ y) (sym f) (ordered-both low high z h))

itself : (z : ℤ) → z ≤ℤ z
itself z = omega (arith, ints)

-- what is left from a row on
pub spread-left : {X : Type 0} (whole : X → ℤ) (items : List X) (row : ℕ) (x : X) → row < length items → x ≡ get_or items row x → map whole (drop row items) ≡ whole x ∷ map whole (drop (row + 1) items)
spread-left whole items row x within is = ap (map whole) (drop_more items row x within) ∙ sym (ap (λ y. whole y ∷ map whole (drop (row + 1) items)) is)

-- one difference more seen
pub folded-more : (f : ℤ → ℤ → ℤ) (g : ℕ → ℤ) (n : ℕ) (last next z : ℤ) → z ≡ g n → last ≡ fold f (pos 0) (map g (range_with_len 0 n)) → next ≡ f last z → next ≡ fold f (pos 0) (map g (range_with_len 0 (n + 1)))
folded-more f g n last next z here so_far made =
    made ∙ ap (λ y. f y z) so_far ∙ sym (fold-append f (pos 0) (map g (range_with_len 0 n)) (z ∷ [])) ∙ ap (fold f (pos 0)) (sym (map-range_more g n z here))

-- ---- from 0, which is the first difference, and those of no row are 0

from-zero : (zs : List ℤ) → get_or zs 0 (pos 0) ≡ pos 0 → spread zs ≡ unsigned_abs (fold int_max (pos 0) zs -ℤ fold int_min (pos 0) zs)
from-zero [] e = refl
from-zero (z ∷ zs) e =
    let high : z ≡ int_max (pos 0) z = e ∙ ap (int_max (pos 0)) (sym e) in
    let low : z ≡ int_min (pos 0) z = e ∙ ap (int_min (pos 0)) (sym e) in
    λ i. unsigned_abs (fold int_max (high i) zs -ℤ fold int_min (low i) zs)

zero-seen : (f : ℤ → ℤ → ℤ) → ((a z : ℤ) → f a (pos 0) ≡ a → f (f a z) (pos 0) ≡ f a z) → (a : ℤ) (zs : List ℤ) → f a (pos 0) ≡ a → f (fold f a zs) (pos 0) ≡ fold f a zs
zero-seen f keeps a [] e = e
zero-seen f keeps a (z ∷ zs) e = zero-seen f keeps (f a z) zs (keeps a z e)

-- a difference of 0 more seen
folded-zero : (f : ℤ → ℤ → ℤ) (g : ℕ → ℤ) (n : ℕ) (last : ℤ) → ((a z : ℤ) → f a (pos 0) ≡ a → f (f a z) (pos 0) ≡ f a z) → f (pos 0) (pos 0) ≡ pos 0 → pos 0 ≡ g n
    → last ≡ fold f (pos 0) (map g (range_with_len 0 n)) → last ≡ fold f (pos 0) (map g (range_with_len 0 (n + 1)))
folded-zero f g n last keeps e none so_far =
    folded-more f g n last last (pos 0) none so_far (so_far ∙ sym (zero-seen f keeps (pos 0) (map g (range_with_len 0 n)) e) ∙ ap (λ y. f y (pos 0)) (sym so_far))

past-seen : (f : ℤ → ℤ → ℤ) (g : ℕ → ℤ) (n count : ℕ) → ((a z : ℤ) → f a (pos 0) ≡ a → f (f a z) (pos 0) ≡ f a z) → f (pos 0) (pos 0) ≡ pos 0 → ((k : ℕ) → n ≤ k → g k ≡ pos 0)
    → fold f (pos 0) (map g (range_with_len 0 (n + count))) ≡ fold f (pos 0) (map g (range_with_len 0 n))
past-seen f g n zero keeps e none = let same : n + 0 ≡ n = omega arith in ap (λ m. fold f (pos 0) (map g (range_with_len 0 m))) same
past-seen f g n (suc count) keeps e none =
    let next : n + suc count ≡ n + 1 + count = omega arith in
    ap (λ m. fold f (pos 0) (map g (range_with_len 0 m))) next ∙ past-seen f g (n + 1) count keeps e (λ k h. none k (omega (arith, h)))
    ∙ sym (folded-zero f g n (fold f (pos 0) (map g (range_with_len 0 n))) keeps e (sym (none n (omega arith))) refl)

min-keeps : (a z : ℤ) → int_min a (pos 0) ≡ a → int_min (int_min a z) (pos 0) ≡ int_min a z
min-keeps a z e = grind (arith, ints)

max-keeps : (a z : ℤ) → int_max a (pos 0) ≡ a → int_max (int_max a z) (pos 0) ≡ int_max a z
max-keeps a z e = grind (arith, ints)

-- ---- more differences have no greater least, and no lesser greatest

min-below : (all next low z : ℤ) → all ≤ℤ next → next ≡ int_min low z → all ≤ℤ low
min-below all next low z h e = grind (arith, ints)

max-above : (all next high z : ℤ) → next ≤ℤ all → next ≡ int_max high z → high ≤ℤ all
max-above all next high z h e = grind (arith, ints)

least-falls : (g : ℕ → ℤ) (n count : ℕ) → fold int_min (pos 0) (map g (range_with_len 0 (n + count))) ≤ℤ fold int_min (pos 0) (map g (range_with_len 0 n))
least-falls g n zero = let same : n + 0 ≡ n = omega arith in rw same (itself (fold int_min (pos 0) (map g (range_with_len 0 n))))
least-falls g n (suc count) =
    let next : n + suc count ≡ n + 1 + count = omega arith in
    let low = fold int_min (pos 0) (map g (range_with_len 0 n)) in
    rw next (min-below _ _ low (g n) (least-falls g (n + 1) count) (sym (folded-more int_min g n low (int_min low (g n)) (g n) refl refl refl)))

greatest-rises : (g : ℕ → ℤ) (n count : ℕ) → fold int_max (pos 0) (map g (range_with_len 0 n)) ≤ℤ fold int_max (pos 0) (map g (range_with_len 0 (n + count)))
greatest-rises g n zero = let same : n + 0 ≡ n = omega arith in rw same (itself (fold int_max (pos 0) (map g (range_with_len 0 n))))
greatest-rises g n (suc count) =
    let next : n + suc count ≡ n + 1 + count = omega arith in
    let high = fold int_max (pos 0) (map g (range_with_len 0 n)) in
    rw next (max-above _ _ high (g n) (greatest-rises g (n + 1) count) (sym (folded-more int_max g n high (int_max high (g n)) (g n) refl refl refl)))

abs-above : (n : ℕ) (z : ℤ) → pos n ≤ℤ z → n ≤ unsigned_abs z
abs-above n (pos m) h = omega (arith, ints)
abs-above n (negsuc m) h = omega (arith, ints)

further : (n : ℕ) (low high least greatest : ℤ) → pos n ≡ high -ℤ low → least ≤ℤ low → high ≤ℤ greatest → pos n ≤ℤ (greatest -ℤ least)
further n low high least greatest is l h = omega (arith, ints)

module _ (kind : PType) (rows : List ℤ) where
  delta-past : (i : ℕ) → length rows ≤ i → delta kind rows i ≡ pos 0
  delta-past i h = by_test (i % 1024 == 0) (nat_le (length rows) i) (le-leb _ _ h)
    where
      by_test : (b c : Bool) → c ≡ true → cond (b || c) (pos 0) (wrap kind (get_or rows i (pos 0) -ℤ get_or rows (i - 1) (pos 0))) ≡ pos 0
      by_test true c e = refl
      by_test false c e = rw e refl

  first-zero : (n : ℕ) → get_or (map (delta kind rows) (range_with_len 0 n)) 0 (pos 0) ≡ pos 0
  first-zero zero = refl
  first-zero (suc n) = sym (delta-first kind rows 0 refl)

  -- a block's first row changes neither
  pub least-first : (i : ℕ) (low : ℤ) → i % 1024 ≡ 0 → low ≡ fold int_min (pos 0) (map (delta kind rows) (range_with_len 0 i)) → low ≡ fold int_min (pos 0) (map (delta kind rows) (range_with_len 0 (i + 1)))
  least-first i low first = folded-zero int_min (delta kind rows) i low min-keeps refl (delta-first kind rows i first)

  pub greatest-first : (i : ℕ) (high : ℤ) → i % 1024 ≡ 0 → high ≡ fold int_max (pos 0) (map (delta kind rows) (range_with_len 0 i)) → high ≡ fold int_max (pos 0) (map (delta kind rows) (range_with_len 0 (i + 1)))
  greatest-first i high first = folded-zero int_max (delta kind rows) i high max-keeps refl (delta-first kind rows i first)

  all-seen : (f : ℤ → ℤ → ℤ) → ((a z : ℤ) → f a (pos 0) ≡ a → f (f a z) (pos 0) ≡ f a z) → f (pos 0) (pos 0) ≡ pos 0 → fold f (pos 0) (deltas kind rows) ≡ fold f (pos 0) (map (delta kind rows) (range_with_len 0 (length rows)))
  all-seen f keeps e =
      let none = 1024 * block_count (length rows) - length rows in
      let room : 1024 * block_count (length rows) ≡ length rows + none = omega arith in
      ap (λ n. fold f (pos 0) (map (delta kind rows) (range_with_len 0 n))) room ∙ past-seen f (delta kind rows) (length rows) none keeps e delta-past

  pub spread-seen : (n : ℕ) (low high : ℤ) → low ≡ fold int_min (pos 0) (map (delta kind rows) (range_with_len 0 (length rows))) → high ≡ fold int_max (pos 0) (map (delta kind rows) (range_with_len 0 (length rows))) → pos n ≡ high -ℤ low
      → n ≡ spread (deltas kind rows)
  spread-seen n low high l h is =
      let least = l ∙ sym (all-seen int_min min-keeps refl) in
      let greatest = h ∙ sym (all-seen int_max max-keeps refl) in
      ap unsigned_abs (is ∙ (λ i. greatest i -ℤ least i)) ∙ sym (from-zero (deltas kind rows) (first-zero (1024 * block_count (length rows))))

  -- the spread of some is no greater than that of all
  pub spread-so_far : (i n : ℕ) (low high : ℤ) → i ≤ length rows → low ≡ fold int_min (pos 0) (map (delta kind rows) (range_with_len 0 i)) → high ≡ fold int_max (pos 0) (map (delta kind rows) (range_with_len 0 i)) → pos n ≡ high -ℤ low
      → n ≤ spread (deltas kind rows)
  spread-so_far i n low high within l h is =
      let left = 1024 * block_count (length rows) - i in
      let room : i + left ≡ 1024 * block_count (length rows) = omega arith in
      let least = subst (λ m. fold int_min (pos 0) (map (delta kind rows) (range_with_len 0 m)) ≤ℤ fold int_min (pos 0) (map (delta kind rows) (range_with_len 0 i))) room (least-falls (delta kind rows) i left) in
      let greatest = subst (λ m. fold int_max (pos 0) (map (delta kind rows) (range_with_len 0 i)) ≤ℤ fold int_max (pos 0) (map (delta kind rows) (range_with_len 0 m))) room (greatest-rises (delta kind rows) i left) in
      rw (from-zero (deltas kind rows) (first-zero (1024 * block_count (length rows))))
      (abs-above n _ (further n _ _ _ _ (is ∙ (λ k. h k -ℤ l k)) least greatest))

-- ---- told within a greatest one

pub within-none : (most n : ℕ) (zs : List ℤ) → most < n → n ≤ spread zs → None ≡ spread_within most zs
within-none most n zs more h = sym (cond-true (nat_lt most (spread zs)) None (Some (spread zs)) (lt-ltb _ _ (omega (arith, more, h))))

pub within-some : (most n : ℕ) (zs : List ℤ) → n ≤ most → n ≡ spread zs → Some n ≡ spread_within most zs
within-some most n zs few is = ap (λ k. Some k) is ∙ sym (cond-false (nat_lt most (spread zs)) None (Some (spread zs)) (le-ltb _ _ (omega (arith, few, is))))

pub none-within : (most : ℕ) (zs : List ℤ) → None ≡ spread_within most zs → most < spread zs
none-within most zs e = by_test (nat_lt most (spread zs)) refl e
  where
    by_test : (b : Bool) → nat_lt most (spread zs) ≡ b → None ≡ cond b None (Some (spread zs)) → most < spread zs
    by_test true more e = ltb-true _ _ more
    by_test false few e = absurd cc
