-- Bits set and cleared, and that sets with the same ids are equal.
use Rattle.std.proofs.Common.{◌≡◌, ℕ, ◌+◌, ◌-◌, ◌*◌, ◌%◌, ◌^◌, ◌<◌, map, Bool, true, false, not, ◌||◌, ◌&&◌, List, [], ◌∷◌, length, bit_and, bit_or, w32, arith, ap, sym, refl, subst, ◌∙◌, eq-eqb, zero-add}
use Rattle.std.specs.Prelude.{◌==◌, slice_index_or, zero, suc}
use Rattle.std.specs.Cmp.{first_so, second_so, both_ways, booleans_Decides}
use Rattle.std.specs.Cmp.Lexicographic.{pointwise_decides}
use Rattle.std.specs.Int.{bit_at}
use Rattle.std.proofs.lemmas.Bool.{eqb-true, eqb-false}
use Rattle.std.proofs.lemmas.Bool.Decides.{nat_tests}
use Rattle.std.proofs.lemmas.Nat.Bits.{bit_at_set_same, bit_at_set_other, bit_at_clear_same, bit_at_clear_other, same_from_bits_below, bit_at-lt}
use Rattle.vx_base.specs.declared.array_id.ArrayId.{ArrayId}
use Rattle.vx_base.specs.declared.id_set.IdSet.{IdSet}
use Rattle.vx_base.specs.IdNumber.{id_number, every_id}
use Rattle.vx_base.specs.IdSets.{holds, members, same_set}

pub id_number-lt : (id : ArrayId) → id_number id < 23
id_number-lt id = grind arith

set_bit_by : (n k i : ℕ) → k < 32 → (same : Bool) → (i == k) ≡ same → (bit_at (bit_or n (1 * 2 ^ k % 4294967296)) i == 1) ≡ (same || (bit_at n i == 1))
set_bit_by n k i within true e = subst (λ j. (bit_at (bit_or n (1 * 2 ^ k % 4294967296)) j == 1) ≡ true) (sym (eqb-true i k e)) (eq-eqb _ 1 (bit_at_set_same w32 n k within))
set_bit_by n k i within false e = ap (λ b. b == 1) (bit_at_set_other w32 n k within i (eqb-false i k e))

-- the bit at k is set, and the others stay
pub set_bit : (n k i : ℕ) → k < 32 → (bit_at (bit_or n (1 * 2 ^ k % 4294967296)) i == 1) ≡ ((i == k) || (bit_at n i == 1))
set_bit n k i within = set_bit_by n k i within (i == k) refl

cleared_bit_by : (n k i : ℕ) → k < 32 → i < 32 → (same : Bool) → (i == k) ≡ same → (bit_at (bit_and n (4294967295 - 1 * 2 ^ k % 4294967296)) i == 1) ≡ (not same && (bit_at n i == 1))
cleared_bit_by n k i within inside true e = subst (λ j. (bit_at (bit_and n (4294967295 - 1 * 2 ^ k % 4294967296)) j == 1) ≡ false) (sym (eqb-true i k e)) (ap (λ b. b == 1) (bit_at_clear_same w32 n k within))
cleared_bit_by n k i within inside false e = ap (λ b. b == 1) (bit_at_clear_other w32 n k within i inside (eqb-false i k e))

-- the bit at k is cleared, and the others stay
pub cleared_bit : (n k i : ℕ) → k < 32 → i < 32 → (bit_at (bit_and n (4294967295 - 1 * 2 ^ k % 4294967296)) i == 1) ≡ (not (i == k) && (bit_at n i == 1))
cleared_bit n k i within inside = cleared_bit_by n k i within inside (i == k) refl

-- the ids of a list have consecutive numbers from this one on
abbrev are_numbered : ℕ → List ArrayId → Bool
are_numbered from [] = true
are_numbered from (x ∷ xs) = (id_number x == from) && are_numbered (from + 1) xs

-- each number has an id in the list
at_place : (from : ℕ) (xs : List ArrayId) → are_numbered from xs ≡ true → (i : ℕ) → i < length xs → (id : ArrayId) × (id_number id ≡ from + i)
at_place from [] numbered i within = absurd (omega arith)
at_place from (x ∷ xs) numbered zero within =
    let e : id_number x ≡ from = eqb-true (id_number x) from (first_so (id_number x == from) (are_numbered (from + 1) xs) numbered) in
    (x, omega arith)
at_place from (x ∷ xs) numbered (suc i) within =
    let next : (id : ArrayId) × (id_number id ≡ from + 1 + i) = at_place (from + 1) xs (second_so (id_number x == from) (are_numbered (from + 1) xs) numbered) i (omega arith) in
    let e : id_number next.0 ≡ from + 1 + i = next.1 in
    (next.0, omega arith)

same_bit : (a b : ℕ) → a < 2 → b < 2 → (a == 1) ≡ (b == 1) → a ≡ b
same_bit a b p q e = grind (arith, nat_tests)

-- sets with the same ids have the same bits
same_at : (a b : IdSet) → ((id : ArrayId) → holds a id ≡ holds b id) → (i : ℕ) → i < 23 → bit_at a.bits i ≡ bit_at b.bits i
same_at a b same i within =
    let found : (id : ArrayId) × (id_number id ≡ 0 + i) = at_place 0 every_id refl i within in
    let place : id_number found.0 ≡ i = found.1 ∙ zero-add i in
    same_bit (bit_at a.bits i) (bit_at b.bits i) (bit_at-lt a.bits i) (bit_at-lt b.bits i) (subst (λ n. (bit_at a.bits n == 1) ≡ (bit_at b.bits n == 1)) place (same found.0))

-- the member at an id's number
member-at : (set : IdSet) (id : ArrayId) → slice_index_or (members set) (id_number id) false ≡ holds set id
member-at set id = grind arith

-- two sets have the same bits exactly where they have the same ids
pub same_bits : (a b : IdSet) → (a.bits == b.bits) ≡ same_set a b
same_bits a b =
    let members_decide = pointwise_decides booleans_Decides (members a) (members b) in
    let alike : (e : same_set a b ≡ true) → (id : ArrayId) → holds a id ≡ holds b id =
    λ e id. sym (member-at a id) ∙ ap (λ xs. slice_index_or xs (id_number id) false) (members_decide.0 e) ∙ member-at b id in
    both_ways
    (a.bits == b.bits)
    (same_set a b)
    (λ e. members_decide.1 (ap (λ n. map (λ id. bit_at n (id_number id) == 1) every_id) (eqb-true a.bits b.bits e)))
    (λ e. eq-eqb a.bits b.bits (same_from_bits_below 23 a.bits b.bits a.within b.within (same_at a b (alike e))))
