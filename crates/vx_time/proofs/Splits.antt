-- The split of a timestamp is canonical, and canonical parts are the split of their sum.
use Rattle.std.proofs.Common.{◌≡◌, ℕ, zero, suc, ◌<◌, ◌/◌, ◌%◌, true, ℤ, pos, negsuc, neg_ℤ, ◌<ℤ◌, ap, sym, ◌∙◌, refl, arith, unsigned_abs, int_div, int_rem, int_le, None}
use Rattle.std.proofs.lemmas.Bool.{and_from, or_left, or_right, lt-ltb, le-leb, false≢true}
use Rattle.std.proofs.lemmas.Int.{ints, rem_below}
use native.Mathlib.Nat.{zero-mod}
use Rattle.vx_base.specs.Answers.{unless}
use Rattle.vx_base.specs.declared.error.VortexError.TheVariants.{TimestampOutOfRange}
use Rattle.vx_base.specs.declared.ptype.PType.TheVariants.{I64}
use Rattle.vx_base.specs.declared.timestamp.TimeUnit.{TimeUnit}
use Rattle.vx_base.specs.declared.timestamp.TimeUnit.TheVariants.{Nanoseconds, Microseconds, Milliseconds, Seconds, Days}
use Rattle.vx_base.specs.Integers.{lies_in}
use Rattle.vx_base.specs.Timestamps.{divides}
use Rattle.vx_time.specs.CanonicalParts.{is_canonical, share_sign}
use Rattle.vx_time.specs.declared.parts.TimestampParts.{TimestampParts}
use Rattle.vx_time.specs.PartsOf.{parts, parts_of, sum_of, units_per_second}
use Rattle.vx_time.specs.Refusals.{combine_refusal}
use Rattle.vx_time.proofs.Canonicals.{canonical_out, canonical_positive, same_where_sum}
use Rattle.vx_time.proofs.Rounding.{div-neg, parts_by_rem, sum_of-parts_of}

rem-neg : (n m : ℕ) → int_rem (neg_ℤ (pos n)) (pos m) ≡ neg_ℤ (pos (n % m))
rem-neg zero m = ap pos (zero-mod m) ∙ ap (λ x. neg_ℤ (pos x)) (sym (zero-mod m))
rem-neg (suc n) m = refl

pos_le : (n : ℕ) → int_le (pos 0) (pos n) ≡ true
pos_le n = le-leb 0 n (omega arith)

neg_le : (n : ℕ) → int_le (neg_ℤ (pos n)) (pos 0) ≡ true
neg_le zero = refl
neg_le (suc n) = refl

pos_signs : (a b c : ℕ) → share_sign (parts (pos a) (pos b) (pos c)) ≡ true
pos_signs a b c = or_left _ _ (and_from _ _ (and_from _ _ (pos_le a) (pos_le b)) (pos_le c))

neg_signs : (a b c : ℕ) → share_sign (parts (neg_ℤ (pos a)) (neg_ℤ (pos b)) (neg_ℤ (pos c))) ≡ true
neg_signs a b c = or_right _ _ (and_from _ _ (and_from _ _ (neg_le a) (neg_le b)) (neg_le c))

signs_of : (t : ℤ) (k : ℕ) → share_sign (parts (int_div (int_div t (pos k)) (pos 86_400)) (int_rem (int_div t (pos k)) (pos 86_400)) (int_rem t (pos k))) ≡ true
signs_of (pos n) k = pos_signs (n / k / 86_400) (n / k % 86_400) (n % k)
signs_of (negsuc n) k =
    (λ i. share_sign (parts (div-neg (suc n / k) 86_400 i) (rem-neg (suc n / k) 86_400 i) (neg_ℤ (pos (suc n % k)))))
    ∙ neg_signs (suc n / k / 86_400) (suc n / k % 86_400) (suc n % k)

canonical_by : (t : ℤ) (k : ℕ) → 0 < k → lies_in I64 t ≡ true → is_canonical (pos k) (parts_of (pos k) t) ≡ true
canonical_by t k h held =
    let w = int_div t (pos k) in
    let q = parts (int_div w (pos 86_400)) (int_rem w (pos 86_400)) (int_rem t (pos k)) in
    let e = parts_by_rem t k in
    let sum = ap (sum_of (pos k)) (sym e) ∙ sum_of-parts_of t k in
    ap (is_canonical (pos k)) e
    ∙ and_from _ _ (and_from _ _ (and_from _ _ (signs_of t k) (lt-ltb (unsigned_abs (int_rem w (pos 86_400))) 86_400 (rem_below w (pos 86_400) (omega arith)))) (lt-ltb (unsigned_abs (int_rem t (pos k))) k (rem_below t (pos k) h)))
    (ap (lies_in I64) sum ∙ held)

pub sum_of-split : (d t : ℤ) → pos 0 <ℤ d → sum_of d (parts_of d t) ≡ t
sum_of-split (pos k) t h = sum_of-parts_of t k
sum_of-split (negsuc k) t h = absurd h.lt

pub canonical_of : (d t : ℤ) → pos 0 <ℤ d → lies_in I64 t ≡ true → is_canonical d (parts_of d t) ≡ true
canonical_of (pos k) t h held = canonical_by t k (omega (arith, ints)) held
canonical_of (negsuc k) t h held = absurd h.lt

pub split-sum_of : (d : ℤ) (p : TimestampParts) → is_canonical d p ≡ true → parts_of d (sum_of d p) ≡ p
split-sum_of d p e =
    let h = canonical_out d p e in
    let some = canonical_positive d p h in
    let q = canonical_out d _ (canonical_of d (sum_of d p) some h.held) in
    same_where_sum d (parts_of d (sum_of d p)) p q h (sum_of-split d (sum_of d p) some)

pub split_of_one : (d t : ℤ) (p : TimestampParts) → is_canonical d p ≡ true → parts_of d t ≡ p → t ≡ sum_of d p
split_of_one d t p e f = sym (sum_of-split d t (canonical_positive d p (canonical_out d p e))) ∙ ap (sum_of d) f

combines_by : (k : ℕ) (t : ℤ) → lies_in I64 t ≡ true → unless (lies_in I64 (sum_of (pos k) (parts_of (pos k) t))) TimestampOutOfRange None ≡ None
combines_by k t held = ap (λ b. unless b TimestampOutOfRange None) (ap (lies_in I64) (sum_of-parts_of t k) ∙ held)

pub combines : (unit : TimeUnit) (t : ℤ) → divides unit ≡ true → lies_in I64 t ≡ true → combine_refusal unit (parts_of (units_per_second unit) t) ≡ None
combines Nanoseconds t e held = combines_by 1_000_000_000 t held
combines Microseconds t e held = combines_by 1_000_000 t held
combines Milliseconds t e held = combines_by 1_000 t held
combines Seconds t e held = combines_by 1 t held
combines Days t e held = absurd (false≢true e)
