-- The spread of a type's numbers is a word.
use Rattle.std.proofs.Common.{◌≡◌, ◌<◌, ◌≤◌, ◌^◌, ℕ, ℤ, pos, negsuc, true, List, [], ◌∷◌, arith}
use Rattle.std.specs.Prelude.{fold, int_lt, nat_lt, ◌-ℤ◌, unsigned_abs}
use Rattle.std.specs.Int.{int_min, int_max}
use Rattle.std.specs.List.{list_all}
use Rattle.std.proofs.lemmas.Bool.{ltb-true, cond_both, and_parts}
use Rattle.std.proofs.lemmas.Int.{ints}
use Rattle.vx_base.specs.declared.ptype.PType.{PType}
use Rattle.vx_base.specs.declared.ptype.PType.TheVariants.{I8, I16, I32, I64}
use Rattle.vx_base.specs.Integers.{natural_bits, is_signed, lies_in}
use Rattle.vx_schemes_common.proofs.DigitLemmas.{word_bits}
use Rattle.vx_schemes_runs.specs.Delta.Meaning.{spread}

half_word : (p : PType) → is_signed p ≡ true → 2 ^ natural_bits p ≤ 2 ^ 63
half_word I8 s = omega arith
half_word I16 s = omega arith
half_word I32 s = omega arith
half_word I64 s = omega arith
half_word p s = absurd cc

apart-natural : (m n : ℕ) → m < 2 ^ 64 → n < 2 ^ 64 → unsigned_abs (pos n -ℤ pos m) < 2 ^ 64
apart-natural m n h k = grind (arith, ints)

apart-negative : (m n : ℕ) → m < 2 ^ 64 → n < 2 ^ 64 → unsigned_abs (negsuc n -ℤ negsuc m) < 2 ^ 64
apart-negative m n h k = grind (arith, ints)

-- two numbers of a type lie less than 2^64 apart
apart-word : (p : PType) (low high : ℤ) → lies_in p low ≡ true → lies_in p high ≡ true → unsigned_abs (high -ℤ low) < 2 ^ 64
apart-word p (pos m) (pos n) l h = apart-natural m n (omega (arith, ltb-true _ _ l, word_bits p)) (omega (arith, ltb-true _ _ h, word_bits p))
apart-word p (pos m) (negsuc n) l h =
    let b = and_parts (is_signed p) (nat_lt n (2 ^ natural_bits p)) h in
    omega (arith, ints, ltb-true _ _ l, ltb-true _ _ b.1, half_word p b.0)
apart-word p (negsuc m) (pos n) l h =
    let b = and_parts (is_signed p) (nat_lt m (2 ^ natural_bits p)) l in
    omega (arith, ints, ltb-true _ _ h, ltb-true _ _ b.1, half_word p b.0)
apart-word p (negsuc m) (negsuc n) l h =
    let a = and_parts (is_signed p) (nat_lt m (2 ^ natural_bits p)) l in
    let b = and_parts (is_signed p) (nat_lt n (2 ^ natural_bits p)) h in
    apart-negative m n (omega (arith, ltb-true _ _ a.1, word_bits p)) (omega (arith, ltb-true _ _ b.1, word_bits p))

-- a fold that keeps to a type
fold-held : (p : PType) (f : ℤ → ℤ → ℤ) → ((a z : ℤ) → lies_in p a ≡ true → lies_in p z ≡ true → lies_in p (f a z) ≡ true) → (a : ℤ) (zs : List ℤ) → lies_in p a ≡ true → list_all (lies_in p) zs ≡ true → lies_in p (fold f a zs) ≡ true
fold-held p f keeps a [] k h = k
fold-held p f keeps a (z ∷ zs) k h = let b = and_parts (lies_in p z) (list_all (lies_in p) zs) h in fold-held p f keeps (f a z) zs (keeps a z k b.0) b.1

pub spread-word : (p : PType) (zs : List ℤ) → list_all (lies_in p) zs ≡ true → spread zs < 2 ^ 64
spread-word p [] h = omega arith
spread-word p (z ∷ zs) h =
    let b = and_parts (lies_in p z) (list_all (lies_in p) zs) h in
    apart-word p _ _
    (fold-held p int_min (λ a y k l. cond_both (int_lt y a) y a (λ x. lies_in p x ≡ true) (λ e. l) (λ e. k)) z zs b.0 b.1)
    (fold-held p int_max (λ a y k l. cond_both (int_lt y a) a y (λ x. lies_in p x ≡ true) (λ e. k) (λ e. l)) z zs b.0 b.1)
