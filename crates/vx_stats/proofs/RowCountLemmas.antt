-- Counts of null and of valid rows.
use Rattle.std.proofs.Common.{◌≡◌, ℕ, zero, suc, ◌+◌, ◌-◌, Bool, true, false, cond, List, [], ◌∷◌, length, replicate, refl, ap, arith}
use Rattle.std.specs.Prelude.{not, ◌||◌}
use Rattle.std.specs.List.{list_any}
use Rattle.std.proofs.lemmas.List.Sums.{sum_by-cons}
use Rattle.vx_base.specs.Masks.{true_count}
use Rattle.vx_base.specs.PlainValue.{PlainValue, null, is_null}
use Rattle.vx_model.specs.Rows.{masked_rows}
use Rattle.vx_stats.specs.Rows.{valid_count}
use Rattle.vx_stats.specs.Stats.{null_count}

pub null_count-next : (v : PlainValue) (vs : List PlainValue) → null_count (v ∷ vs) ≡ cond (is_null v) 1 0 + null_count vs
null_count-next v vs = sum_by-cons (λ w. cond (is_null w) 1 0) v vs

pub valid_count-next : (v : PlainValue) (vs : List PlainValue) → valid_count (v ∷ vs) ≡ cond (not (is_null v)) 1 0 + valid_count vs
valid_count-next v vs = sum_by-cons (λ w. cond (not (is_null w)) 1 0) v vs

true_count-next : (bit : Bool) (bits : List Bool) → true_count (bit ∷ bits) ≡ cond bit 1 0 + true_count bits
true_count-next bit bits = sum_by-cons (λ b. cond b 1 0) bit bits

abbrev one : Bool → ℕ
one b = cond b 1 0

neither : (a b : Bool) → (a || b) ≡ false → (a ≡ false) × (b ≡ false)
neither true b e = absurd cc
neither false b e = (refl, e)

-- rows of which none is null
pub counts-valid : (vs : List PlainValue) → list_any is_null vs ≡ false → (null_count vs ≡ 0) × (valid_count vs ≡ length vs)
counts-valid [] e = (refl, refl)
counts-valid (v ∷ vs) e =
    let both = neither (is_null v) (list_any is_null vs) e in
    let rest = counts-valid vs both.1 in
    let null_one = ap one both.0 in
    let valid_one = ap (λ b. one (not b)) both.0 in
    (omega (arith, null_count-next v vs, null_one, rest.0), omega (arith, valid_count-next v vs, valid_one, rest.1))

-- such rows beneath a mask
pub counts-masked : (bits : List Bool) (vs : List PlainValue) → length bits ≡ length vs → list_any is_null vs ≡ false
    → (null_count (masked_rows bits vs) + true_count bits ≡ length bits) × (valid_count (masked_rows bits vs) ≡ true_count bits)
counts-masked [] vs l e = (refl, refl)
counts-masked (bit ∷ bits) [] l e = absurd (omega arith)
counts-masked (true ∷ bits) (v ∷ vs) l e =
    let both = neither (is_null v) (list_any is_null vs) e in
    let rest = counts-masked bits vs (omega arith) both.1 in
    let null_one = ap one both.0 in
    let valid_one = ap (λ b. one (not b)) both.0 in
    (omega (arith, null_count-next v (masked_rows bits vs), null_one, true_count-next true bits, rest.0), omega (arith, valid_count-next v (masked_rows bits vs), valid_one, true_count-next true bits, rest.1))
counts-masked (false ∷ bits) (v ∷ vs) l e =
    let both = neither (is_null v) (list_any is_null vs) e in
    let rest = counts-masked bits vs (omega arith) both.1 in
    (omega (arith, null_count-next null (masked_rows bits vs), true_count-next false bits, rest.0), omega (arith, valid_count-next null (masked_rows bits vs), true_count-next false bits, rest.1))

-- the same row n times
pub counts-copies : (n : ℕ) (v : PlainValue) → (null_count (replicate n v) ≡ cond (is_null v) n 0) × (valid_count (replicate n v) ≡ cond (is_null v) 0 n)
counts-copies n v = by (is_null v) refl n
  where
    by : (b : Bool) → is_null v ≡ b → (n : ℕ) → (null_count (replicate n v) ≡ cond b n 0) × (valid_count (replicate n v) ≡ cond b 0 n)
    by true e zero = (refl, refl)
    by false e zero = (refl, refl)
    by true e (suc n) =
        let rest = by true e n in
        (omega (arith, null_count-next v (replicate n v), ap one e, rest.0), omega (arith, valid_count-next v (replicate n v), ap (λ b. one (not b)) e, rest.1))
    by false e (suc n) =
        let rest = by false e n in
        (omega (arith, null_count-next v (replicate n v), ap one e, rest.0), omega (arith, valid_count-next v (replicate n v), ap (λ b. one (not b)) e, rest.1))

pub rest-copies : (b : Bool) (n : ℕ) → n - cond b n 0 ≡ cond b 0 n
rest-copies true n = omega arith
rest-copies false n = omega arith
