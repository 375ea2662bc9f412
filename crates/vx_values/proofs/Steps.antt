-- Rows of a sequence, each by the low bits of the one before it and of the step.
use Rattle.std.proofs.Common.{◌≡◌, ◌<◌, ◌+◌, ◌-◌, ◌*◌, ◌%◌, ◌^◌, ◌∙◌, ℕ, suc, ℤ, pos, negsuc, Bool, true, false, refl, sym, ap, arith}
use Rattle.std.specs.Prelude.{◌+ℤ◌, ◌*ℤ◌, unsigned_abs, ◌==◌, ◌||◌, ◌&&◌}
use Rattle.std.proofs.lemmas.Bool.{ne_eqb, and_parts}
use Rattle.std.proofs.lemmas.Int.{ints, int_rem_euclid_is}
use Rattle.std.proofs.lemmas.Nat.{pow_pos}
use Rattle.std.proofs.Math.Nat.{mul_assoc, mul_comm}
use Rattle.vx_base.specs.declared.ptype.PType.{PType}
use Rattle.vx_base.specs.declared.ptype.PType.TheVariants.{U64}
use Rattle.vx_base.specs.Integers.{bits_of, lies_in}
use Rattle.vx_base.specs.Wrapping.{low_bits, from_bits}
use Rattle.vx_base.proofs.WrapBitsLemmas.{mod-of-mod, word_of}
use Rattle.vx_base.proofs.WrapLemmas.{wrap-same}
use Rattle.vx_base.proofs.WrapSumLemmas.{low_bits-add}
use Rattle.vx_blocks.specs.Sequence.{sequence_row}
use Rattle.vx_blocks.proofs.Sequences.{row-held, row-step}

-- ---- the low bits of a type, from the low 64 bits

natural-word : (p : PType) (n : ℕ) → n % 2 ^ 64 % 2 ^ bits_of p ≡ n % 2 ^ bits_of p
natural-word p n = ap (λ w. n % w % 2 ^ bits_of p) (word_of p) ∙ mod-of-mod n (2 ^ bits_of p) (2 ^ (64 - bits_of p))

-- for a whole number that is a natural one plus a multiple of 2^64
lifted-word : (p : PType) (z : ℤ) (times total : ℕ) → z +ℤ pos (times * 2 ^ 64) ≡ pos total → low_bits U64 z % 2 ^ bits_of p ≡ low_bits p z
lifted-word p z times total e =
    let all = 2 ^ bits_of p in
    let word : low_bits U64 z ≡ total % 2 ^ 64 = ap unsigned_abs (int_rem_euclid_is z (pos (2 ^ 64)) (2 ^ 64) times total (pow_pos 64) refl e) in
    let parts : times * 2 ^ 64 ≡ times * 2 ^ (64 - bits_of p) * all = ap (λ w. times * w) (word_of p ∙ mul_comm all (2 ^ (64 - bits_of p))) ∙ sym (mul_assoc times (2 ^ (64 - bits_of p)) all) in
    let low : low_bits p z ≡ total % all = ap unsigned_abs (int_rem_euclid_is z (pos all) all (times * 2 ^ (64 - bits_of p)) total (pow_pos (bits_of p)) refl (ap (λ n. z +ℤ pos n) (sym parts) ∙ e)) in
    ap (λ n. n % all) word ∙ natural-word p total ∙ sym low

low_bits-word : (p : PType) (z : ℤ) → low_bits U64 z % 2 ^ bits_of p ≡ low_bits p z
low_bits-word p (pos n) = natural-word p n
low_bits-word p (negsuc n) = lifted-word p (negsuc n) (suc n) (suc n * 2 ^ 64 - suc n) (omega (arith, ints))

-- ---- rows

-- the first and the last row are in the range of the type, if there are rows
ends_held : (b c d : Bool) → b ≡ false → (b || c && d) ≡ true → (c ≡ true) × (d ≡ true)
ends_held true c d e h = absurd cc
ends_held false c d e h = and_parts c d h

module _ (first step : ℤ) where
  -- the bits of the next row
  pub bits-next : (i bits add next : ℕ) → bits ≡ low_bits U64 (sequence_row first step i) → add ≡ low_bits U64 step → next ≡ (bits + add) % 2 ^ 64 → next ≡ low_bits U64 (sequence_row first step (i + 1))
  bits-next i bits add next is more e =
      e ∙ (λ k. (is k + more k) % 2 ^ 64) ∙ sym (low_bits-add U64 (sequence_row first step i) step) ∙ ap (low_bits U64) (sym (row-step first step i))

  -- a row is the value of its low bits, since it is in the range of the type
  pub bits-row : (p : PType) (len i bits : ℕ) → (len == 0 || lies_in p first && lies_in p (first +ℤ pos (len - 1) *ℤ step)) ≡ true → i < len → bits ≡ low_bits U64 (sequence_row first step i)
      → from_bits p (bits % 2 ^ bits_of p) ≡ sequence_row first step i
  bits-row p len i bits h below is =
      let ends = ends_held (len == 0) (lies_in p first) (lies_in p (first +ℤ pos (len - 1) *ℤ step)) (ne_eqb len 0 (λ e. omega arith)) h in
      let held = row-held p first step i (len - 1) (omega arith) ends.0 ends.1 in
      ap (from_bits p) (ap (λ n. n % 2 ^ bits_of p) is ∙ low_bits-word p (sequence_row first step i)) ∙ wrap-same p (sequence_row first step i) held
