-- Rows that are written eight at a time, and the bytes of them.
use Rattle.std.proofs.Common.{◌≡◌, ◌∙◌, ℕ, ◌+◌, ◌-◌, ◌*◌, ◌^◌, ◌<◌, ◌≤◌, List, ◌++◌, length, get_or, take, drop, arith, ap, sym, refl, zero, suc}
use Rattle.std.proofs.lemmas.List.{take-take, length-take-le, length-drop, get_or-drop, drop-drop, take-append-drop}
use Rattle.std.proofs.lemmas.Slice.{take-put_mid}
use Rattle.std.proofs.Math.Seq.{take-append-add}
use Rattle.std.proofs.Math.Nat as nat
use borrow.Rule.Slice.PartMut.{put_mid}
use Rattle.vx_blocks.specs.Holds.{Holds}
use Rattle.vx_base.specs.Packed.{packed_number}
use Rattle.vx_blocks.proofs.Joins.{packed_number-append, packed_number-group}
use Rattle.vx_blocks.proofs.Rows.{next-row}

-- what was there, and the first items of what is written behind it
pub take-written : {X : Type 0} (a n k m : ℕ) (xs ys : List X) → a ≤ length xs → n ≤ length ys → m ≡ a + n → take m (put_mid a k xs ys) ≡ take a xs ++ take n ys
take-written {X} a n k m xs ys h within is =
    let all : take (a + length ys) (put_mid a k xs ys) ≡ take a xs ++ ys = take-put_mid a k xs ys (a + length ys) refl h in
    let cut : take m (take (a + length ys) (put_mid a k xs ys)) ≡ take m (put_mid a k xs ys) = take-take m (a + length ys) (put_mid a k xs ys) (omega arith) in
    let at : m ≡ length (take a xs) + n = omega (arith, length-take-le a xs h) in
    sym cut ∙ ap (take m) all ∙ rw at (take-append-add (take a xs) ys n)

none_above : (low p high n : ℕ) → low + p * high ≡ n → n < p → low ≡ n
none_above low p zero n e h = omega arith
none_above low p (suc high) n e h = absurd (omega arith)

-- the low bytes of a word hold it, where it is small
pub low-bytes : (bytes : List ℕ) (word m : ℕ) → packed_number 8 bytes ≡ word → word < 2 ^ (8 * m) → m ≤ length bytes → packed_number 8 (take m bytes) ≡ word
low-bytes bytes word m is small within =
    let parts : packed_number 8 (take m bytes) + 2 ^ (8 * length (take m bytes)) * packed_number 8 (drop m bytes) ≡ packed_number 8 bytes =
    sym (packed_number-append 8 (take m bytes) (drop m bytes)) ∙ ap (packed_number 8) (take-append-drop m bytes) in
    let long : length (take m bytes) ≡ m = length-take-le m bytes within in
    none_above (packed_number 8 (take m bytes)) (2 ^ (8 * m)) (packed_number 8 (drop m bytes)) word (rw long at parts ∙ is) small

-- what is taken of the buffer, before one row more
pub taken-so-far : (number w k len : ℕ) (out : List ℕ) (acc fill : ℕ) → Holds number (w * k) (take len out) acc fill → len ≤ length out → k ≤ 8 → len ≤ w
taken-so-far number w k len out acc fill h within last =
    let m = nat.mul-le-mul_left w last in
    omega (arith, h.end, length-take-le len out within)

-- the last word
pub eight-end : (number w len : ℕ) (out word : List ℕ) (acc fill m : ℕ) → Holds number (w * 8) (take len out) acc fill → len ≤ length out → packed_number 8 word ≡ acc → length word ≡ 8
    → packed_number 8 (take w (put_mid len m out word)) ≡ number
eight-end number w len out word acc fill m h within is long =
    let size : length (take len out) ≡ len = length-take-le len out within in
    let whole : 8 * len + fill ≡ w * 8 = rw size at h.end in
    let rest = w - len in
    let at : w ≡ len + rest = omega arith in
    let few : rest ≤ length word = omega (arith, h.room) in
    let bits : fill ≡ 8 * rest = omega arith in
    let low : packed_number 8 (take rest word) ≡ acc = low-bytes word acc rest is (rw bits at h.small) few in
    ap (packed_number 8) (take-written len rest m w out word within few at) ∙ packed_number-append 8 (take len out) (take rest word) ∙ rw low h.value

-- one row more of some that begin later
pub next-row-behind : (w : ℕ) (rows : List ℕ) (at k row : ℕ) (bytes : List ℕ) (acc fill : ℕ) → at + k < length rows → row ≡ get_or rows (at + k) 0
    → Holds (packed_number w (take k (drop at rows)) + 2 ^ (w * k) * row) (w * k + w) bytes acc fill → Holds (packed_number w (take (k + 1) (drop at rows))) (w * (k + 1)) bytes acc fill
next-row-behind w rows at k row bytes acc fill h is holds =
    next-row w (drop at rows) k row bytes acc fill (omega (arith, length-drop at rows)) (is ∙ sym (get_or-drop at rows k 0)) holds

-- eight rows more
pub next-eight : (w : ℕ) (rows : List ℕ) (start unit first m next : ℕ) (buffer eight : List ℕ) → start + 64 ≤ length rows → unit < 8 → first ≡ w * unit → first ≤ length buffer → w ≤ length eight → next ≡ w * (unit + 1)
    → packed_number 8 (take w eight) ≡ packed_number w (take 8 (drop (start + 8 * unit) rows)) → packed_number 8 (take (w * unit) buffer) ≡ packed_number w (take (8 * unit) (drop start rows))
    → packed_number 8 (take next (put_mid first m buffer eight)) ≡ packed_number w (take (8 * (unit + 1)) (drop start rows))
next-eight w rows start unit first m next buffer eight room few at long within to is before =
    let low : packed_number 8 (take first buffer) ≡ packed_number w (take (8 * unit) (drop start rows)) = rw at before in
    let high : packed_number 8 (take w eight) ≡ packed_number w (take 8 (drop (8 * unit) (drop start rows))) = is ∙ ap (λ xs. packed_number w (take 8 xs)) (sym (drop-drop (8 * unit) start rows)) in
    let size : 8 * length (take first buffer) ≡ w * (8 * unit) = omega (arith, length-take-le first buffer long) in
    let sum : 8 * (unit + 1) ≡ 8 * unit + 8 = omega arith in
    ap (packed_number 8) (take-written first w m next buffer eight long within (omega arith)) ∙ packed_number-append 8 (take first buffer) (take w eight)
    ∙ rw (low, high, size, sum) (sym (packed_number-group w (drop start rows) (8 * unit) 8 (omega (arith, length-drop start rows))))
