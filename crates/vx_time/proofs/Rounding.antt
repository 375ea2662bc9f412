-- The parts of a timestamp by quotients and remainders.
use Rattle.std.proofs.Common.{◌≡◌, ℕ, zero, suc, refl, ◌*◌, ◌/◌, ℤ, pos, negsuc, neg_ℤ, ◌+ℤ◌, ◌-ℤ◌, ◌*ℤ◌, ap, sym, ◌∙◌, arith, int_div, int_rem}
use Rattle.std.proofs.lemmas.Int.{ints, quot-rem}
use native.Mathlib.Nat.{div-div-eq-div-mul, mul_comm, zero-div}
use Rattle.vx_time.specs.PartsOf.{parts, parts_of, sum_of}
use Rattle.vx_time.proofs.Products.{add-mul_whole, mul_assoc_whole}

pub div-neg : (n m : ℕ) → int_div (neg_ℤ (pos n)) (pos m) ≡ neg_ℤ (pos (n / m))
div-neg zero m = ap pos (zero-div m) ∙ ap (λ x. neg_ℤ (pos x)) (sym (zero-div m))
div-neg (suc n) m = refl

-- the seconds in whole days
pub div-div : (t : ℤ) (k : ℕ) → int_div (int_div t (pos k)) (pos 86_400) ≡ int_div t (pos (86_400 * k))
div-div (pos n) k = ap pos (div-div-eq-div-mul n k 86_400 ∙ ap (λ m. n / m) (mul_comm k 86_400))
div-div (negsuc n) k = div-neg (suc n / k) 86_400 ∙ ap (λ m. neg_ℤ (pos m)) (div-div-eq-div-mul (suc n) k 86_400 ∙ ap (λ m. suc n / m) (mul_comm k 86_400))

pub left_over : (t d : ℤ) → t -ℤ int_div t d *ℤ d ≡ int_rem t d
left_over t d = let e = quot-rem t d in omega (arith, ints)

-- whole seconds w = t / d; days are w / 86,400, and seconds and subseconds the remainders
pub parts_by_rem : (t : ℤ) (k : ℕ) → parts_of (pos k) t ≡ parts (int_div (int_div t (pos k)) (pos 86_400)) (int_rem (int_div t (pos k)) (pos 86_400)) (int_rem t (pos k))
parts_by_rem t k =
    let w = int_div t (pos k) in
    let days = div-div t k in
    (λ i. parts (sym days i) (w -ℤ sym days i *ℤ pos 86_400) (left_over t (pos k) i))
    ∙ ap (λ s. parts (int_div w (pos 86_400)) s (int_rem t (pos k))) (left_over w (pos 86_400))

restored : (a b : ℤ) → b +ℤ (a -ℤ b) ≡ a
restored a b = omega (arith, ints)

pub sum_of-parts_of : (t : ℤ) (k : ℕ) → sum_of (pos k) (parts_of (pos k) t) ≡ t
sum_of-parts_of t k =
    let w = int_div t (pos k) in
    let days = int_div t (pos (86_400 * k)) in
    let day = mul_assoc_whole days 86_400 k in
    let whole = ap (λ x. x *ℤ pos k) (restored w (days *ℤ pos 86_400)) in
    let split = add-mul_whole (days *ℤ pos 86_400) (w -ℤ days *ℤ pos 86_400) k in
    omega (arith, ints)
