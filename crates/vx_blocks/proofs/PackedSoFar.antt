-- Blocks that are packed one after another.
use Rattle.std.proofs.Common.{◌≡◌, ◌∙◌, ℕ, ◌+◌, ◌*◌, ◌^◌, ◌<◌, ◌≤◌, Bool, List, [], ◌∷◌, length, take, drop, sum, get_or, suc, arith, ap, sym, refl, subst, inl, inr}
use Rattle.std.proofs.lemmas.Bool.{cases_lt}
use Rattle.std.proofs.lemmas.List.{take_all, length-drop}
use Rattle.std.proofs.lemmas.List.Sums.{sum_by_more}
use Rattle.std.proofs.lemmas.Nat.{pow-add}
use Rattle.vx_base.specs.Packed.{block_count, packed_number, packed_size, kept_rows}
use Rattle.vx_base.specs.PackedBlocks.{block_of, block_offset}
use Rattle.vx_blocks.specs.InBlocks.{ArePackedBlocks, block_bytes}
use Rattle.vx_blocks.specs.IsPacked.{IsPacked}
use Rattle.vx_blocks.proofs.Blocks.{length-block, part-front, sum-take-le}
use Rattle.vx_blocks.proofs.Rows.{length-kept_rows}

-- ---- bytes behind others, from their number

digit-same : (x y a b : ℕ) → x < 2 ^ 8 → y < 2 ^ 8 → y + 2 ^ 8 * a ≡ x + 2 ^ 8 * b → y ≡ x
digit-same x y a b h k e = omega arith

digits-same : (x y a b : ℕ) → x < 2 ^ 8 → y < 2 ^ 8 → y + 2 ^ 8 * a ≡ x + 2 ^ 8 * b → a ≡ b
digits-same x y a b h k e = omega arith

high-digits : (x b p n : ℕ) → x + 2 ^ 8 * b + 2 ^ 8 * p * n ≡ x + 2 ^ 8 * (b + p * n)
high-digits x b p n = omega arith

pub appended : (old new : List ℕ) (n : ℕ) → ((k : ℕ) → get_or old k 0 < 2 ^ 8) → ((k : ℕ) → get_or new k 0 < 2 ^ 8) → length old ≤ length new → packed_number 8 new ≡ packed_number 8 old + 2 ^ (8 * length old) * n
    → (take (length old) new ≡ old) × (packed_number 8 (drop (length old) new) ≡ n)
appended [] new n old_fits fits long is = (refl, omega (arith, is))
appended (x ∷ xs) [] n old_fits fits long is = absurd (omega arith)
appended (x ∷ xs) (y ∷ ys) n old_fits fits long is =
    let power : 2 ^ (8 * length (x ∷ xs)) ≡ 2 ^ 8 * 2 ^ (8 * length xs) = ap (λ k. 2 ^ k) (omega arith) ∙ pow-add 2 8 (8 * length xs) in
    let whole : y + 2 ^ 8 * packed_number 8 ys ≡ x + 2 ^ 8 * (packed_number 8 xs + 2 ^ (8 * length xs) * n) = rw power at is ∙ high-digits x (packed_number 8 xs) (2 ^ (8 * length xs)) n in
    let rest = appended xs ys n (λ k. old_fits (suc k)) (λ k. fits (suc k)) (omega arith) (digits-same x y _ _ (old_fits 0) (fits 0) whole) in
    let first : y ≡ x = digit-same x y _ _ (old_fits 0) (fits 0) whole in
    (ap (λ z. z ∷ take (length xs) ys) first ∙ ap (λ l. x ∷ l) rest.0, rest.1)

-- rows that are packed behind no bytes
pub packed-alone : (width : ℕ) (bytes out rows : List ℕ) → out ≡ [] → packed_number 8 bytes ≡ packed_number 8 out + 2 ^ (8 * length out) * packed_number width rows → length bytes ≡ packed_size width (length rows) → IsPacked width rows bytes
packed-alone width bytes [] rows none number size = record { number = omega (arith, number); size = size }
packed-alone width bytes (x ∷ out) rows none number size = absurd cc

-- ---- block by block

pub record PackedSoFar (widths bits : List ℕ) (valid : List Bool) (blocks : ℕ) (bytes : List ℕ) : Type 0 where
  pub held : (k : ℕ) → get_or bytes k 0 < 2 ^ 8
  pub size : length bytes ≡ 128 * sum (take blocks widths)
  pub each : (block : ℕ) → block < blocks → IsPacked (get_or widths block 0) (kept_rows (get_or widths block 0) (block_of bits block) (block_of valid block)) (block_bytes widths bytes block)

pub packed-none : (widths bits : List ℕ) (valid : List Bool) → PackedSoFar widths bits valid 0 []
packed-none widths bits valid = record { held = λ k. omega arith; size = refl; each = λ block below. absurd (omega arith) }

pub packed-more : (widths bits : List ℕ) (valid : List Bool) (blocks : ℕ) (bytes after : List ℕ) → PackedSoFar widths bits valid blocks bytes → blocks < length widths → take (length bytes) after ≡ bytes → length after ≡ length bytes + 128 * get_or widths blocks 0
    → ((k : ℕ) → get_or after k 0 < 2 ^ 8) → IsPacked (get_or widths blocks 0) (kept_rows (get_or widths blocks 0) (block_of bits blocks) (block_of valid blocks)) (drop (length bytes) after) → PackedSoFar widths bits valid (blocks + 1) after
packed-more widths bits valid blocks bytes after h below front long held packed =
    let more : sum (take (blocks + 1) widths) ≡ sum (take blocks widths) + get_or widths blocks 0 = sum_by_more (λ n. n) widths blocks 0 below in
    let Is = λ (block : ℕ) (part : List ℕ). IsPacked (get_or widths block 0) (kept_rows (get_or widths block 0) (block_of bits block) (block_of valid block)) part in
    let rest = drop (length bytes) after in
    let width = get_or widths blocks 0 in
    let all : rest ≡ take (128 * width) rest = sym (take_all (128 * width) rest (omega (arith, long, length-drop (length bytes) after))) in
    let here : rest ≡ block_bytes widths after blocks = all ∙ ap (λ n. take (128 * width) (drop n after)) h.size in
    record {
      held = held;
      size = omega (arith, long, h.size, more);
      each = λ block within. elim (cases_lt block blocks) [
        | inl lt ↦
            let next : sum (take (block + 1) widths) ≡ sum (take block widths) + get_or widths block 0 = sum_by_more (λ n. n) widths block 0 (omega arith) in
            let le = sum-take-le widths (block + 1) blocks (omega arith) in
            let same = part-front (128 * get_or widths block 0) (128 * block_offset widths block) (length bytes) after bytes front (omega (arith, h.size, next, le)) in
            subst (Is block) (sym same) (h.each block lt)
        | inr far ↦
            let at : blocks ≡ block = omega arith in
            subst (λ b. Is b (block_bytes widths after b)) at (subst (Is blocks) here packed)
      ];
    }

pub packed-all : (widths bits : List ℕ) (valid : List Bool) (blocks : ℕ) (bytes : List ℕ) → PackedSoFar widths bits valid blocks bytes → length widths ≡ blocks → ArePackedBlocks widths bits valid bytes
packed-all widths bits valid blocks bytes h end =
    record {
      size = h.size ∙ ap (λ l. 128 * sum l) (take_all blocks widths (omega arith));
      each = λ block below. h.each block (omega arith);
    }

-- a block more, from the number of all bytes
pub packed-next : (widths bits : List ℕ) (valid : List Bool) (blocks : ℕ) (bytes after rows : List ℕ) → PackedSoFar widths bits valid blocks bytes → blocks < length widths → length widths ≡ block_count (length bits) → length valid ≡ length bits
    → ((k : ℕ) → get_or after k 0 < 2 ^ 8) → length after ≡ length bytes + 128 * get_or widths blocks 0 → rows ≡ kept_rows (get_or widths blocks 0) (block_of bits blocks) (block_of valid blocks)
    → packed_number 8 after ≡ packed_number 8 bytes + 2 ^ (8 * length bytes) * packed_number (get_or widths blocks 0) rows → PackedSoFar widths bits valid (blocks + 1) after
packed-next widths bits valid blocks bytes after rows h below count same held long is number =
    let width = get_or widths blocks 0 in
    let kept = kept_rows width (block_of bits blocks) (block_of valid blocks) in
    let found = appended bytes after (packed_number width rows) h.held held (omega arith) number in
    let some = length-block bits blocks in
    let size : length kept ≡ length (block_of bits blocks) = length-kept_rows width (block_of bits blocks) (block_of valid blocks) (omega (arith, some, length-block valid blocks, same)) in
    let one : block_count (length kept) ≡ 1 = omega (arith, size, some, count) in
    let gap : length (drop (length bytes) after) ≡ 128 * width * 1 = omega (arith, long, length-drop (length bytes) after) in
    let whole : length (drop (length bytes) after) ≡ packed_size width (length kept) = gap ∙ ap (λ n. 128 * width * n) (sym one) in
    packed-more widths bits valid blocks bytes after h below found.0 long held (record { number = found.1 ∙ ap (packed_number width) is; size = whole })
