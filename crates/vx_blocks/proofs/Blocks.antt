-- Rows of a block, among those of all blocks.
use Rattle.std.proofs.Common.{◌≡◌, ◌∙◌, ℕ, zero, suc, ◌+◌, ◌-◌, ◌*◌, ◌/◌, ◌%◌, ◌<◌, ◌≤◌, Bool, List, [], ◌∷◌, length, map, min, take, drop, sum, get_or, arith, ap, sym, refl, subst}
use Rattle.std.proofs.Math.Nat as nat
use Rattle.std.proofs.lemmas.List.{take_min, take-map, drop-map, length-take, length-drop, take-take, drop-take, get_or-take, get_or-drop}
use Rattle.std.proofs.lemmas.List.Sums.{sum_by-cons, sum_by-take-le}
use Rattle.vx_base.specs.declared.ptype.PType.{PType}
use Rattle.vx_base.specs.declared.ptype.PType.TheVariants.{U8, U16, U32, U64, I8, I16, I32, I64}
use Rattle.vx_base.specs.Integers.{bits_of, natural_bits}
use Rattle.vx_base.specs.Packed.{kept_row, kept_rows, packed_row}
use Rattle.vx_base.specs.PackedBlocks.{block_of, block_row, block_width}
use Rattle.vx_blocks.specs.InBlocks.{AreBlockOffsets}

pub bits_of-most : (p : PType) → bits_of p ≤ 64
bits_of-most U8 = omega arith
bits_of-most U16 = omega arith
bits_of-most U32 = omega arith
bits_of-most U64 = omega arith
bits_of-most I8 = omega arith
bits_of-most I16 = omega arith
bits_of-most I32 = omega arith
bits_of-most I64 = omega arith

pub natural_bits-most : (p : PType) → natural_bits p ≤ 64
natural_bits-most U8 = omega arith
natural_bits-most U16 = omega arith
natural_bits-most U32 = omega arith
natural_bits-most U64 = omega arith
natural_bits-most I8 = omega arith
natural_bits-most I16 = omega arith
natural_bits-most I32 = omega arith
natural_bits-most I64 = omega arith

-- the part of a slice that the code takes for a block
pub slice-block : {X : Type 0} (xs : List X) (block n : ℕ) → n ≡ min (length xs - 1024 * block) 1024 → take n (drop (1024 * block) xs) ≡ block_of xs block
slice-block xs block n is =
    let ys = drop (1024 * block) xs in
    let at : n ≡ min 1024 (length ys) = omega (arith, is, length-drop (1024 * block) xs) in
    ap (λ m. take m ys) at ∙ take_min 1024 ys

pub length-block : {X : Type 0} (xs : List X) (block : ℕ) → length (block_of xs block) ≡ min 1024 (length xs - 1024 * block)
length-block xs block = length-take 1024 (drop (1024 * block) xs) ∙ ap (min 1024) (length-drop (1024 * block) xs)

pub map-block : {X Y : Type 0} (f : X → Y) (xs : List X) (block : ℕ) → map f (block_of xs block) ≡ block_of (map f xs) block
map-block f xs block = sym (ap (take 1024) (drop-map f (1024 * block) xs) ∙ take-map f 1024 (drop (1024 * block) xs))

-- a row of a block
pub get_or-block : {X : Type 0} (xs : List X) (block row : ℕ) (d : X) → row < 1024 → get_or (block_of xs block) row d ≡ get_or xs (1024 * block + row) d
get_or-block xs block row d h = get_or-take 1024 (drop (1024 * block) xs) row d h ∙ get_or-drop (1024 * block) xs row d

-- ---- what is packed of the rows of a block

none_valid : (width : ℕ) (bits : List ℕ) → kept_rows width bits [] ≡ []
none_valid width [] = refl
none_valid width (b ∷ bits) = refl

kept_rows-take : (width n : ℕ) (bits : List ℕ) (valid : List Bool) → take n (kept_rows width bits valid) ≡ kept_rows width (take n bits) (take n valid)
kept_rows-take width zero bits valid = refl
kept_rows-take width (suc n) [] valid = refl
kept_rows-take width (suc n) (b ∷ bits) [] = refl
kept_rows-take width (suc n) (b ∷ bits) (v ∷ valid) = ap (λ l. kept_row width b v ∷ l) (kept_rows-take width n bits valid)

kept_rows-drop : (width n : ℕ) (bits : List ℕ) (valid : List Bool) → drop n (kept_rows width bits valid) ≡ kept_rows width (drop n bits) (drop n valid)
kept_rows-drop width zero bits valid = refl
kept_rows-drop width (suc n) [] valid = refl
kept_rows-drop width (suc n) (b ∷ bits) [] = sym (none_valid width (drop n bits))
kept_rows-drop width (suc n) (b ∷ bits) (v ∷ valid) = kept_rows-drop width n bits valid

pub kept_rows-block : (width : ℕ) (bits : List ℕ) (valid : List Bool) (block : ℕ) → block_of (kept_rows width bits valid) block ≡ kept_rows width (block_of bits block) (block_of valid block)
kept_rows-block width bits valid block =
    ap (take 1024) (kept_rows-drop width (1024 * block) bits valid) ∙ kept_rows-take width 1024 (drop (1024 * block) bits) (drop (1024 * block) valid)

-- of slices, as the code takes them
pub kept_rows-slices : {X Z : Type 0} (f : Z → ℕ) (g : X → Z) (width : ℕ) (xs : List X) (valid : List Bool) (block n : ℕ) → length valid ≡ length xs → n ≡ min (length xs - 1024 * block) 1024
    → kept_rows width (map f (map g (take n (drop (1024 * block) xs)))) (take n (drop (1024 * block) valid)) ≡ kept_rows width (block_of (map f (map g xs)) block) (block_of valid block)
kept_rows-slices f g width xs valid block n same is =
    let values = ap (λ l. map f (map g l)) (slice-block xs block n is) ∙ ap (map f) (map-block g xs block) ∙ map-block f (map g xs) block in
    let bits = slice-block valid block n (omega (arith, is, same)) in
    ap (λ l. kept_rows width l (take n (drop (1024 * block) valid))) values ∙ ap (kept_rows width (block_of (map f (map g xs)) block)) bits

-- ---- parts of a list that grows

-- what lies within the front of a list
pub part-front : {X : Type 0} (n m size : ℕ) (after before : List X) → take size after ≡ before → m + n ≤ size → take n (drop m after) ≡ take n (drop m before)
part-front n m size after before front within =
    let cut : take (m + n) after ≡ take (m + n) before = sym (take-take (m + n) size after within) ∙ ap (take (m + n)) front in
    sym (drop-take m n after) ∙ ap (drop m) cut ∙ drop-take m n before

-- sums of the first items rise
pub sum-take-le : (xs : List ℕ) (i j : ℕ) → i ≤ j → sum (take i xs) ≤ sum (take j xs)
sum-take-le xs i j h = subst (λ l. sum l ≤ sum (take j xs)) (take-take i j xs h) (sum_by-take-le (λ n. n) (take j xs) i)

-- a sum of items of at most `most`
pub sum-most : (most : ℕ) (xs : List ℕ) → ((k : ℕ) → k < length xs → get_or xs k 0 ≤ most) → sum xs ≤ most * length xs
sum-most most [] each = omega arith
sum-most most (x ∷ xs) each =
    let rest = sum-most most xs (λ k h. each (suc k) (omega arith)) in
    let first : x ≤ most = each 0 (omega arith) in
    let size : most * length (x ∷ xs) ≡ most * length xs + most = omega arith in
    omega (arith, rest, first, size, sum_by-cons (λ n. n) x xs)

-- ---- offsets of blocks

offsets-rise : (most : ℕ) (offsets : List ℕ) → AreBlockOffsets most offsets → (i more : ℕ) → i + more < length offsets → get_or offsets i 0 ≤ get_or offsets (i + more) 0
offsets-rise most offsets h i zero below = let same : i + zero ≡ i = omega arith in nat.le_of_eq (ap (λ k. get_or offsets k 0) (sym same))
offsets-rise most offsets h i (suc more) below =
    let next : i + more + 1 ≡ i + suc more = omega arith in
    let step = h.rising (i + more) (omega arith) in
    nat.le_trans (offsets-rise most offsets h i more (omega arith)) (subst (λ k. get_or offsets (i + more) 0 ≤ get_or offsets k 0) next step)

pub offset-le : (most : ℕ) (offsets : List ℕ) (i last : ℕ) → AreBlockOffsets most offsets → i ≤ last → last < length offsets → get_or offsets i 0 ≤ get_or offsets last 0
offset-le most offsets i last h le below =
    let at : i + (last - i) ≡ last = omega arith in
    subst (λ k. get_or offsets i 0 ≤ get_or offsets k 0) at (offsets-rise most offsets h i (last - i) (omega arith))

-- ---- a row of packed blocks

pub block_row-at : (bytes offsets : List ℕ) (block row : ℕ) → row < 1024 → block_row bytes offsets (1024 * block + row) ≡ packed_row (drop (128 * get_or offsets block 0) bytes) (block_width offsets block) row
block_row-at bytes offsets block row h =
    let read = λ (b r : ℕ). packed_row (drop (128 * get_or offsets b 0) bytes) (block_width offsets b) r in
    let first : (1024 * block + row) / 1024 ≡ block = omega arith in
    let last : (1024 * block + row) % 1024 ≡ row = omega arith in
    ap (λ b. read b ((1024 * block + row) % 1024)) first ∙ ap (read block) last
