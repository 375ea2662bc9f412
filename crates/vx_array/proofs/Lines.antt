-- Whole numbers in a line, first + i * step: each lies between the first and the last.
use Rattle.std.proofs.Common.{◌≡◌, ◌∙◌, inl, inr, ◌<◌, ◌≤◌, ◌+◌, ◌*◌, ℕ, suc, ℤ, pos, negsuc, Bool, true, sym, ap, arith}
use Rattle.std.specs.Prelude.{◌+ℤ◌, ◌*ℤ◌, ◌≤ℤ◌, ◌⊎◌}
use Rattle.std.proofs.Math.Nat.{mul-le-mul_right}
use Rattle.std.proofs.lemmas.Int.{ints}
use Rattle.vx_time.proofs.Products.{add-mul_whole, mul_assoc_whole}

pub record IsLine (f : ℕ → ℤ) (n : ℕ) : Type 0 where
  pub first : ℤ
  pub step : ℤ
  pub each : (i : ℕ) → i < n → f i ≡ first +ℤ pos i *ℤ step

-- z is between a and b
abbrev pub Between : ℤ → ℤ → ℤ → Type 0
Between a z b = ((a ≤ℤ z) × (z ≤ℤ b)) ⊎ ((b ≤ℤ z) × (z ≤ℤ a))

-- numbers that pass a test let those between them pass
abbrev pub Convex : (ℤ → Bool) → Type 0
Convex p = (a z b : ℤ) → p a ≡ true → p b ≡ true → a ≤ℤ z → z ≤ℤ b → p z ≡ true

pub convex-between : (p : ℤ → Bool) → Convex p → (a z b : ℤ) → p a ≡ true → p b ≡ true → Between a z b → p z ≡ true
convex-between p c a z b h k (inl w) = c a z b h k w.0 w.1
convex-between p c a z b h k (inr w) = c b z a k h w.0 w.1

step_between : (first step : ℤ) (start i last : ℕ) → start ≤ i → i ≤ last → Between (first +ℤ pos start *ℤ step) (first +ℤ pos i *ℤ step) (first +ℤ pos last *ℤ step)
step_between first (pos s) start i last k l = let low = mul-le-mul_right s k in let high = mul-le-mul_right s l in inl (omega (arith, ints, low), omega (arith, ints, high))
step_between first (negsuc s) start i last k l =
    let low = mul-le-mul_right (suc s) k in let high = mul-le-mul_right (suc s) l in inr (omega (arith, ints, high), omega (arith, ints, low))

-- each number lies between one before it and one after it
pub line-between : (f : ℕ → ℤ) (n start i last : ℕ) → IsLine f n → start ≤ i → i ≤ last → last < n → Between (f start) (f i) (f last)
line-between f n start i last h k l m =
    rw (h.each start (omega arith), h.each i (omega arith), h.each last m) (step_between h.first h.step start i last k l)

-- it passes a test that they pass
pub line-passes_from : (p : ℤ → Bool) → Convex p → (f : ℕ → ℤ) (n start i last : ℕ) → IsLine f n → start ≤ i → i ≤ last → last < n → p (f start) ≡ true → p (f last) ≡ true → p (f i) ≡ true
line-passes_from p c f n start i last h k l m a b = convex-between p c (f start) (f i) (f last) a b (line-between f n start i last h k l m)

pub line-passes : (p : ℤ → Bool) → Convex p → (f : ℕ → ℤ) (n i last : ℕ) → IsLine f n → i ≤ last → last < n → p (f 0) ≡ true → p (f last) ≡ true → p (f i) ≡ true
line-passes p c f n i last h l m a b = line-passes_from p c f n 0 i last h (omega arith) l m a b

-- ---- lines from others

swapped : (i : ℕ) (z : ℤ) → pos i *ℤ z ≡ z *ℤ pos i
swapped i (pos m) = omega (arith, ints)
swapped i (negsuc m) = omega (arith, ints)

more_steps : (i j : ℕ) (z : ℤ) → pos (i + j) *ℤ z ≡ pos i *ℤ z +ℤ pos j *ℤ z
more_steps i j (pos m) = omega (arith, ints)
more_steps i j (negsuc m) = omega (arith, ints)

both_steps : (i : ℕ) (a b : ℤ) → pos i *ℤ a +ℤ pos i *ℤ b ≡ pos i *ℤ (a +ℤ b)
both_steps i a b = let own = add-mul_whole a b i in let x = swapped i a in let y = swapped i b in let z = swapped i (a +ℤ b) in omega (arith, ints, own, x, y, z)

pub line-sum : (f g : ℕ → ℤ) (n : ℕ) → IsLine f n → IsLine g n → IsLine (λ i. f i +ℤ g i) n
line-sum f g n a b =
    record {
      first = a.first +ℤ b.first;
      step = a.step +ℤ b.step;
      each = λ i l. (let x = a.each i l in let y = b.each i l in let s = both_steps i a.step b.step in omega (arith, ints, x, y, s));
    }

pub line-times : (f : ℕ → ℤ) (n d : ℕ) → IsLine f n → IsLine (λ i. f i *ℤ pos d) n
line-times f n d a =
    record {
      first = a.first *ℤ pos d;
      step = a.step *ℤ pos d;
      each = λ i l. (
          ap (λ z. z *ℤ pos d) (a.each i l) ∙ add-mul_whole a.first (pos i *ℤ a.step) d
          ∙ ap (λ z. a.first *ℤ pos d +ℤ z) (ap (λ z. z *ℤ pos d) (swapped i a.step) ∙ mul_assoc_whole a.step i d ∙ ap (λ k. a.step *ℤ pos k) (omega arith) ∙ sym (mul_assoc_whole a.step d i) ∙ sym (swapped i (a.step *ℤ pos d)))
          );
    }

-- every m-th number from the c-th on
pub line-part : (f : ℕ → ℤ) (n count m c : ℕ) → IsLine f n → ((i : ℕ) → i < count → m * i + c < n) → IsLine (λ i. f (m * i + c)) count
line-part f n count m c a within =
    record {
      first = a.first +ℤ pos c *ℤ a.step;
      step = pos m *ℤ a.step;
      each = λ i l. (
          a.each (m * i + c) (within i l) ∙ ap (λ z. a.first +ℤ z) (more_steps (m * i) c a.step)
          ∙ (let p = product i in omega (arith, ints, p))
          );
    }
  where
    product : (i : ℕ) → pos (m * i) *ℤ a.step ≡ pos i *ℤ (pos m *ℤ a.step)
    product i =
        swapped (m * i) a.step ∙ sym (mul_assoc_whole a.step m i) ∙ ap (λ z. z *ℤ pos i) (sym (swapped m a.step)) ∙ sym (swapped i (pos m *ℤ a.step))

-- the same number everywhere, and the first of more numbers
pub line-level : (z : ℤ) (n : ℕ) → IsLine (λ i. z) n
line-level z n = record { first = z; step = pos 0; each = λ i l. omega (arith, ints) }

pub line-front : (f : ℕ → ℤ) (n m : ℕ) → IsLine f n → m ≤ n → IsLine f m
line-front f n m a l = record { first = a.first; step = a.step; each = λ i k. a.each i (omega arith) }
