-- The least and the greatest of the items whose bit is true, where the first of them is weighed in the place of any other.
use Rattle.std.proofs.Common.{◌≡◌, ◌<◌, ◌∙◌, ℕ, zero, suc, ◌+◌, ℤ, Bool, true, false, cond, List, [], ◌∷◌, ◌++◌, map, take, length, get_or, Some, None, refl, sym, ap, arith, fold, add-one}
use Rattle.std.specs.Prelude.{◌≤ℤ◌, ◌<ℤ◌}
use Rattle.std.specs.declared.cmp.Ordering.{Ordering}
use Rattle.std.specs.declared.cmp.Ordering.TheVariants.{Less, Equal, Greater}
use Rattle.std.specs.Cmp.{int_ranks}
use Rattle.std.specs.List.{reduce}
use Rattle.std.specs.Ordering.{MatchOrdering, int_cmp, is_lt, ord_max, ord_min}
use Rattle.std.proofs.lemmas.Int.{ints}
use Rattle.std.proofs.lemmas.List.Sums.{fold-append}
use Rattle.vx_rows.specs.Extremes.{first_item, valid_items}
use Rattle.vx_rows.proofs.ExtremeLemmas.{valid_items-next}

-- ---- from the first item on

cond-same : {A : Type 0} (c : Bool) (x : A) → cond c x x ≡ x
cond-same true x = refl
cond-same false x = refl

from-first : {A : Type 0} (f : A → A → A) (xs : List A) (x : A) → f x x ≡ x → first_item xs ≡ Some x → reduce f xs ≡ Some (fold f x xs)
from-first f [] x same e = absurd cc
from-first f (y ∷ ys) x same e = let is : y ≡ x = cc in rw is (ap (λ z. Some (fold f z ys)) (sym same))

pub least-from_first : (zs : List ℤ) (z : ℤ) → first_item zs ≡ Some z → reduce (ord_min int_cmp) zs ≡ Some (fold (ord_min int_cmp) z zs)
least-from_first zs z e = from-first (ord_min int_cmp) zs z (cond-same (is_lt (int_cmp z z)) z) e

pub greatest-from_first : (zs : List ℤ) (z : ℤ) → first_item zs ≡ Some z → reduce (ord_max int_cmp) zs ≡ Some (fold (ord_max int_cmp) z zs)
greatest-from_first zs z e = from-first (ord_max int_cmp) zs z (cond-same (is_lt (int_cmp z z)) z) e

pub none-from_first : {A : Type 0} (f : A → A → A) (xs : List A) → first_item xs ≡ None → reduce f xs ≡ None
none-from_first f [] e = refl
none-from_first f (x ∷ xs) e = absurd cc

-- ---- a number that the least isn't above, and the greatest isn't below

min-below : (z m w : ℤ) → m ≤ℤ z → ord_min int_cmp m w ≤ℤ z
min-below z m w h = by (int_cmp w m) (int_ranks w m)
  where
    by : (o : Ordering) → MatchOrdering o (w <ℤ m) (w ≡ m) (m <ℤ w) → cond (is_lt o) w m ≤ℤ z
    by Less l = omega (arith, ints, l, h)
    by Equal l = h
    by Greater l = h

max-above : (z m w : ℤ) → z ≤ℤ m → z ≤ℤ ord_max int_cmp m w
max-above z m w h = by (int_cmp w m) (int_ranks w m)
  where
    by : (o : Ordering) → MatchOrdering o (w <ℤ m) (w ≡ m) (m <ℤ w) → z ≤ℤ cond (is_lt o) m w
    by Less l = h
    by Equal l = omega (arith, ints, l, h)
    by Greater l = omega (arith, ints, l, h)

fold-below : (z m : ℤ) (ws : List ℤ) → m ≤ℤ z → fold (ord_min int_cmp) m ws ≤ℤ z
fold-below z m [] h = h
fold-below z m (w ∷ ws) h = fold-below z (ord_min int_cmp m w) ws (min-below z m w h)

fold-above : (z m : ℤ) (ws : List ℤ) → z ≤ℤ m → z ≤ℤ fold (ord_max int_cmp) m ws
fold-above z m [] h = h
fold-above z m (w ∷ ws) h = fold-above z (ord_max int_cmp m w) ws (max-above z m w h)

min-kept : (z m : ℤ) → m ≤ℤ z → ord_min int_cmp m z ≡ m
min-kept z m h = by (int_cmp z m) (int_ranks z m)
  where
    by : (o : Ordering) → MatchOrdering o (z <ℤ m) (z ≡ m) (m <ℤ z) → cond (is_lt o) z m ≡ m
    by Less l = absurd (omega (arith, ints, l, h))
    by Equal l = refl
    by Greater l = refl

max-kept : (z m : ℤ) → z ≤ℤ m → ord_max int_cmp m z ≡ m
max-kept z m h = by (int_cmp z m) (int_ranks z m)
  where
    by : (o : Ordering) → MatchOrdering o (z <ℤ m) (z ≡ m) (m <ℤ z) → cond (is_lt o) m z ≡ m
    by Less l = refl
    by Equal l = l
    by Greater l = absurd (omega (arith, ints, l, h))

-- ---- one item further

module _ (f : ℤ → ℤ → ℤ) (z : ℤ) (kept : (ws : List ℤ) → f (fold f z ws) z ≡ fold f z ws) where
  part : (ws : List ℤ) (x : ℤ) (bit : Bool) → f (fold f z ws) (cond bit x z) ≡ fold f z (ws ++ cond bit (x ∷ []) [])
  part ws x true = sym (fold-append f z ws (x ∷ []))
  part ws x false = kept ws ∙ sym (fold-append f z ws [])

  more : (bits : List Bool) (xs : List ℤ) (i : ℕ) (x : ℤ) → i < length bits → i < length xs → x ≡ get_or xs i x
      → f (fold f z (valid_items (take i bits) (take i xs))) (cond (get_or bits i false) x z) ≡ fold f z (valid_items (take (i + 1) bits) (take (i + 1) xs))
  more bits xs i x h k e = part (valid_items (take i bits) (take i xs)) x (get_or bits i false) ∙ ap (fold f z) (sym (valid_items-next bits xs i x h k e))

pub least-more : (z : ℤ) (bits : List Bool) (xs : List ℤ) (i : ℕ) (x : ℤ) → i < length bits → i < length xs → x ≡ get_or xs i x
    → ord_min int_cmp (fold (ord_min int_cmp) z (valid_items (take i bits) (take i xs))) (cond (get_or bits i false) x z) ≡ fold (ord_min int_cmp) z (valid_items (take (i + 1) bits) (take (i + 1) xs))
least-more z bits xs i x h k e = more (ord_min int_cmp) z (λ ws. min-kept z (fold (ord_min int_cmp) z ws) (fold-below z z ws (omega (arith, ints)))) bits xs i x h k e

pub greatest-more : (z : ℤ) (bits : List Bool) (xs : List ℤ) (i : ℕ) (x : ℤ) → i < length bits → i < length xs → x ≡ get_or xs i x
    → ord_max int_cmp (fold (ord_max int_cmp) z (valid_items (take i bits) (take i xs))) (cond (get_or bits i false) x z) ≡ fold (ord_max int_cmp) z (valid_items (take (i + 1) bits) (take (i + 1) xs))
greatest-more z bits xs i x h k e = more (ord_max int_cmp) z (λ ws. max-kept z (fold (ord_max int_cmp) z ws) (fold-above z z ws (omega (arith, ints)))) bits xs i x h k e

-- ---- the first item whose bit is true

pub first-found : {A : Type 0} (bits : List Bool) (xs : List A) (i : ℕ) (x : A) → i < length bits → i < length xs → valid_items (take i bits) (take i xs) ≡ [] → get_or bits i false ≡ true → x ≡ get_or xs i x → Some x ≡ first_item (valid_items bits xs)
first-found [] xs i x h k none bit e = absurd (omega arith)
first-found (b ∷ bits) [] i x h k none bit e = absurd (omega arith)
first-found (b ∷ bits) (y ∷ xs) zero x h k none bit e = rw bit (ap Some e)
first-found (true ∷ bits) (y ∷ xs) (suc i) x h k none bit e = absurd cc
first-found (false ∷ bits) (y ∷ xs) (suc i) x h k none bit e = first-found bits xs i x (omega arith) (omega arith) none bit e

none-next : {A : Type 0} (bits : List Bool) (xs : List A) (i : ℕ) → i < length bits → valid_items (take i bits) (take i xs) ≡ [] → get_or bits i false ≡ false → valid_items (take (suc i) bits) (take (suc i) xs) ≡ []
none-next [] xs i h none bit = absurd (omega arith)
none-next (b ∷ bits) [] i h none bit = refl
none-next (b ∷ bits) (y ∷ xs) zero h none bit = rw bit refl
none-next (true ∷ bits) (y ∷ xs) (suc i) h none bit = absurd cc
none-next (false ∷ bits) (y ∷ xs) (suc i) h none bit = none-next bits xs i (omega arith) none bit

pub none-more : {A : Type 0} (bits : List Bool) (xs : List A) (i : ℕ) → i < length bits → valid_items (take i bits) (take i xs) ≡ [] → get_or bits i false ≡ false → valid_items (take (i + 1) bits) (take (i + 1) xs) ≡ []
none-more bits xs i h none bit = rw (add-one i) (none-next bits xs i h none bit)
