-- a * m + r compares as the pair of a and r, where |r| < m and the two have no opposite signs.
use Rattle.std.proofs.Common.{◌≡◌, ℕ, ◌<◌, ℤ, pos, ◌+ℤ◌, ◌*ℤ◌, ◌≤ℤ◌, ◌<ℤ◌, ◌⊎◌, ap, sym, ◌∙◌, refl, arith, unsigned_abs}
use Rattle.std.proofs.lemmas.Cmp.{int_ranked, by_ranked}
use Rattle.std.proofs.lemmas.Int.{ints}
use Rattle.std.specs.declared.cmp.Ordering.TheVariants.{Less, Equal, Greater}
use Rattle.std.specs.Ordering.{int_cmp, ordering_then}
use Rattle.vx_time.proofs.Products.{mul-step}

-- r is a digit of a number in the base m with the upper digits a
pub record IsPlace (m : ℕ) (a r : ℤ) : Type 0 where
  pub small : unsigned_abs r < m
  pub sign : ((pos 0 ≤ℤ a) × (pos 0 ≤ℤ r)) ⊎ ((a ≤ℤ pos 0) × (r ≤ℤ pos 0))

int_cmp-less : (a b : ℤ) → a <ℤ b → int_cmp a b ≡ Less
int_cmp-less a b h = grind (arith, ints)

int_cmp-greater : (a b : ℤ) → b <ℤ a → int_cmp a b ≡ Greater
int_cmp-greater a b h = grind (arith, ints)

pub int_cmp-equal : (a b : ℤ) → a ≡ b → int_cmp a b ≡ Equal
int_cmp-equal a b h = grind (arith, ints)

pub same_where_equal : (a b : ℤ) → int_cmp a b ≡ Equal → a ≡ b
same_where_equal a b e = int_ranked a b Equal (sym e)

below : (m : ℕ) (a r b s : ℤ) → IsPlace m a r → IsPlace m b s → a <ℤ b → (a *ℤ pos m +ℤ r) <ℤ (b *ℤ pos m +ℤ s)
below m a r b s p q h = let k = mul-step a b m h in omega (arith, ints, p.small, q.small, p.sign, q.sign)

shifted : (c r s : ℤ) → int_cmp (c +ℤ r) (c +ℤ s) ≡ int_cmp r s
shifted c r s =
    by_ranked (r <ℤ s) (r ≡ s) (s <ℤ r) (int_cmp r s) (int_ranked r s (int_cmp r s) refl)
    (λ e h. int_cmp-less (c +ℤ r) (c +ℤ s) (omega (arith, ints)) ∙ sym e)
    (λ e h. int_cmp-equal (c +ℤ r) (c +ℤ s) (ap (λ x. c +ℤ x) h) ∙ sym e)
    (λ e h. int_cmp-greater (c +ℤ r) (c +ℤ s) (omega (arith, ints)) ∙ sym e)

pub int_cmp-places : (m : ℕ) (a r b s : ℤ) → IsPlace m a r → IsPlace m b s → int_cmp (a *ℤ pos m +ℤ r) (b *ℤ pos m +ℤ s) ≡ ordering_then (int_cmp a b) (int_cmp r s)
int_cmp-places m a r b s p q =
    by_ranked (a <ℤ b) (a ≡ b) (b <ℤ a) (int_cmp a b) (int_ranked a b (int_cmp a b) refl)
    (λ e h. int_cmp-less _ _ (below m a r b s p q h) ∙ ap (λ o. ordering_then o (int_cmp r s)) (sym e))
    (λ e h. ap (λ x. int_cmp (a *ℤ pos m +ℤ r) (x *ℤ pos m +ℤ s)) (sym h) ∙ shifted (a *ℤ pos m) r s ∙ ap (λ o. ordering_then o (int_cmp r s)) (sym e))
    (λ e h. int_cmp-greater _ _ (below m b s a r q p h) ∙ ap (λ o. ordering_then o (int_cmp r s)) (sym e))
