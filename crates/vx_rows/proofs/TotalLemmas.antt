-- Sums of whole numbers: their size, and one number further.
use Rattle.std.proofs.Common.{◌≡◌, ◌<◌, ◌≤◌, ◌∙◌, ℕ, zero, suc, ◌+◌, ◌*◌, ◌/◌, ◌%◌, ◌^◌, ℤ, pos, negsuc, ◌+ℤ◌, Bool, true, false, List, [], ◌∷◌, ◌++◌, map, take, length, get_or, Some, None, refl, sym, ap, subst, arith}
use Rattle.std.specs.Prelude.{unsigned_abs, FitsSigned, cond, count_by, replicate, ◌*ℤ◌}
use Rattle.std.specs.Int.{w128}
use Rattle.std.specs.List.{list_all}
use Rattle.std.proofs.lemmas.Bool.{and_parts, and_from}
use Rattle.std.proofs.lemmas.List.{take_more, get_or-map, length-map, length-take-le}
use Rattle.std.proofs.lemmas.Bool.Decides.{nat_tests}
use Rattle.std.proofs.lemmas.Int.{fits_signed_from_abs, ints}
use Rattle.std.proofs.Math.Nat.{mod-add-div}
use Rattle.std.proofs.Math.IntN.{+ℤ_assoc, suc_ℤ-*ℤ}
use Rattle.std.proofs.lemmas.List.Sums.{sum_by-cons}
use Rattle.vx_base.specs.PlainValue.{PlainValue, int, null, truth, bytes, truth_or_false}
use Rattle.vx_base.specs.declared.ptype.PType.{PType}
use Rattle.vx_base.specs.declared.ptype.PType.TheVariants as kinds
use Rattle.vx_base.specs.Integers.{lies_in, is_signed, bits_in}
use Rattle.vx_base.specs.Undelta.{total}
use Rattle.vx_model.specs.Rows.{masked_rows, row_at, valid_rows}
use Rattle.vx_model.specs.Tree.{Validity}
use Rattle.vx_model.proofs.RowLemmas.{row_at-masked_rows, length-masked_rows}
use Rattle.vx_rules.specs.Aggregates.{summand}

-- one number further
pub next-total : (zs : List ℤ) (z : ℤ) → total (zs ++ z ∷ []) ≡ total zs +ℤ z
next-total [] z = omega (arith, ints)
next-total (y ∷ zs) z = ap (λ s. y +ℤ s) (next-total zs z) ∙ sym (+ℤ_assoc y (total zs) z)

pub next-taken : (zs : List ℤ) (i : ℕ) (z : ℤ) → i < length zs → z ≡ get_or zs i (pos 0) → total (take (i + 1) zs) ≡ total (take i zs) +ℤ z
next-taken zs i z h e = ap total (take_more zs i (pos 0) h) ∙ next-total (take i zs) (get_or zs i (pos 0)) ∙ ap (λ w. total (take i zs) +ℤ w) (sym e)

all-append-one : (p : ℤ → Bool) (zs : List ℤ) (z : ℤ) → list_all p zs ≡ true → p z ≡ true → list_all p (zs ++ z ∷ []) ≡ true
all-append-one p [] z h k = and_from _ _ k refl
all-append-one p (y ∷ zs) z h k = let b = and_parts (p y) (list_all p zs) h in and_from _ _ b.0 (all-append-one p zs z b.1 k)

pub all-taken : (p : ℤ → Bool) (zs : List ℤ) (i : ℕ) (z : ℤ) → i < length zs → z ≡ get_or zs i (pos 0) → list_all p (take i zs) ≡ true → p z ≡ true → list_all p (take (i + 1) zs) ≡ true
all-taken p zs i z h e k l = ap (list_all p) (take_more zs i (pos 0) h) ∙ all-append-one p (take i zs) (get_or zs i (pos 0)) k (ap p (sym e) ∙ l)

-- ---- what rows add

pub summands-int : (zs : List ℤ) → map summand (map int zs) ≡ zs
summands-int [] = refl
summands-int (z ∷ zs) = ap (λ ws. z ∷ ws) (summands-int zs)

module _ {T : Type 0} (whole : T → ℤ) (items : List T) where
  pub item-at : (i : ℕ) (x : T) → i < length items → x ≡ get_or items i x → whole x ≡ get_or (map whole items) i (pos 0)
  item-at i x h e = sym (get_or-map whole items i x (pos 0) h ∙ ap whole (sym e))

  abbrev pub terms : List Bool → List ℤ
  terms mask = map summand (masked_rows mask (map int (map whole items)))

  length-rows : (mask : List Bool) → length mask ≡ length items → length (masked_rows mask (map int (map whole items))) ≡ length items
  length-rows mask e = length-masked_rows mask (map int (map whole items)) (e ∙ sym (length-map (map whole items) int ∙ length-map items whole)) ∙ length-map (map whole items) int ∙ length-map items whole

  pub length-terms : (mask : List Bool) → length mask ≡ length items → length (terms mask) ≡ length items
  length-terms mask e = length-map (masked_rows mask (map int (map whole items))) summand ∙ length-rows mask e

  term-of : (b : Bool) (z : ℤ) → summand (cond b (int z) null) ≡ cond b z (pos 0)
  term-of true z = refl
  term-of false z = refl

  pub term-at : (mask : List Bool) (i : ℕ) (x : T) → length mask ≡ length items → i < length items → x ≡ get_or items i x → cond (get_or mask i false) (whole x) (pos 0) ≡ get_or (terms mask) i (pos 0)
  term-at mask i x e h d =
      let rows = map int (map whole items) in
      let same : length mask ≡ length rows = e ∙ sym (length-map (map whole items) int ∙ length-map items whole) in
      let there : row_at rows i ≡ int (whole x) = get_or-map int (map whole items) i (pos 0) null (omega (arith, length-map items whole)) ∙ ap int (sym (item-at i x h d)) in
      sym (get_or-map summand (masked_rows mask rows) i null (pos 0) (omega (arith, length-rows mask e)) ∙ ap summand (row_at-masked_rows mask rows i same ∙ ap (λ r. cond (get_or mask i false) r null) there) ∙ term-of (get_or mask i false) (whole x))

-- a number of an unsigned type is its bits
pub pos-bits : (p : PType) (z : ℤ) → is_signed p ≡ false → lies_in p z ≡ true → pos (bits_in p z) ≡ z
pos-bits p (pos n) s h = refl
pos-bits p (negsuc n) s h = let no : is_signed p ≡ true = (and_parts _ _ h).0 in absurd cc

pub ruleset naturals = (pos-bits)

-- ---- the size of a sum of numbers of a signed type

abs-add : (a b : ℤ) → unsigned_abs (a +ℤ b) ≤ unsigned_abs a + unsigned_abs b
abs-add a b = omega (arith, ints)

pub abs-in : (p : PType) (z : ℤ) → is_signed p ≡ true → lies_in p z ≡ true → unsigned_abs z ≤ 2 ^ 63
abs-in kinds.I8 (pos n) s h = grind (arith, nat_tests)
abs-in kinds.I16 (pos n) s h = grind (arith, nat_tests)
abs-in kinds.I32 (pos n) s h = grind (arith, nat_tests)
abs-in kinds.I64 (pos n) s h = grind (arith, nat_tests)
abs-in kinds.I8 (negsuc n) s h = grind (arith, nat_tests)
abs-in kinds.I16 (negsuc n) s h = grind (arith, nat_tests)
abs-in kinds.I32 (negsuc n) s h = grind (arith, nat_tests)
abs-in kinds.I64 (negsuc n) s h = grind (arith, nat_tests)
abs-in kinds.U8 z s h = absurd cc
abs-in kinds.U16 z s h = absurd cc
abs-in kinds.U32 z s h = absurd cc
abs-in kinds.U64 z s h = absurd cc

abs-total : (p : PType) (zs : List ℤ) → is_signed p ≡ true → list_all (lies_in p) zs ≡ true → unsigned_abs (total zs) ≤ 2 ^ 63 * length zs
abs-total p [] s h = omega arith
abs-total p (z ∷ zs) s h =
    let parts = and_parts (lies_in p z) (list_all (lies_in p) zs) h in
    omega (arith, abs-add z (total zs), abs-in p z s parts.0, abs-total p zs s parts.1)

pub total-fits : (p : PType) (zs : List ℤ) → is_signed p ≡ true → list_all (lies_in p) zs ≡ true → length zs < 2 ^ 64 → FitsSigned w128 (total zs)
total-fits p zs s h l = let small : unsigned_abs (total zs) < 2 ^ 127 = omega (arith, abs-total p zs s h) in fits_signed_from_abs w128 (total zs) small

-- one number further, within 128 signed bits
pub record IsNext (p : PType) (zs : List ℤ) (i : ℕ) (sum : ℤ) : Type 0 where
  pub fits : FitsSigned w128 sum
  pub is : sum ≡ total (take (i + 1) zs)
  pub held : list_all (lies_in p) (take (i + 1) zs) ≡ true

pub next-signed : (p : PType) (zs : List ℤ) (i : ℕ) (before t z : ℤ) → is_signed p ≡ true → i < length zs → length zs < 2 ^ 64 → z ≡ get_or zs i (pos 0) → t ≡ z → lies_in p z ≡ true
    → before ≡ total (take i zs) → list_all (lies_in p) (take i zs) ≡ true → IsNext p zs i (before +ℤ t)
next-signed p zs i before t z s h few at same fit sum held =
    let is : before +ℤ t ≡ total (take (i + 1) zs) = (λ j. sum j +ℤ same j) ∙ sym (next-taken zs i z h at) in
    let all = all-taken (lies_in p) zs i z h at held fit in
    let long : length (take (i + 1) zs) ≡ i + 1 = length-take-le (i + 1) zs (omega arith) in
    record { fits = subst (FitsSigned w128) (sym is) (total-fits p (take (i + 1) zs) s all (omega arith)); is = is; held = all }

-- one natural number further, added up by its halves
pub next-halves : (zs : List ℤ) (i low high t : ℕ) (before z : ℤ) → i < length zs → z ≡ get_or zs i (pos 0) → pos t ≡ z → before +ℤ pos (low + 2 ^ 32 * high) ≡ total (take i zs)
    → before +ℤ pos (low + t % 2 ^ 32 + 2 ^ 32 * (high + t / 2 ^ 32)) ≡ total (take (i + 1) zs)
next-halves zs i low high t before z h at same sum =
    let whole : low + t % 2 ^ 32 + 2 ^ 32 * (high + t / 2 ^ 32) ≡ low + 2 ^ 32 * high + t = omega (arith, mod-add-div t (2 ^ 32)) in
    let further : before +ℤ pos (low + 2 ^ 32 * high + t) ≡ before +ℤ pos (low + 2 ^ 32 * high) +ℤ pos t = omega (arith, ints) in
    ap (λ n. before +ℤ pos n) whole ∙ further ∙ (λ j. sum j +ℤ same j) ∙ sym (next-taken zs i z h at)

-- one block further
pub next-block : (zs : List ℤ) (start end sum block : ℕ) → pos sum ≡ total (take start zs) → total (take start zs) +ℤ pos block ≡ total (take end zs) → pos (sum + block) ≡ total (take end zs)
next-block zs start end sum block before more =
    let both : pos (sum + block) ≡ pos sum +ℤ pos block = omega (arith, ints) in
    both ∙ ap (λ s. s +ℤ pos block) before ∙ more

pub ruleset summing = (summands-int)

-- ---- rows without integers: the true ones count

counts-cons : (v : PlainValue) (vs : List PlainValue) → summand v ≡ pos (cond (truth_or_false v) 1 0) → total (map summand vs) ≡ pos (count_by truth_or_false vs) → total (map summand (v ∷ vs)) ≡ pos (count_by truth_or_false (v ∷ vs))
counts-cons v vs e h =
    (λ i. e i +ℤ h i) ∙ omega (arith, ints) ∙ ap pos (sym (sum_by-cons (λ w. cond (truth_or_false w) 1 0) v vs))

truth-counts : (b : Bool) → summand (truth b) ≡ pos (cond b 1 0)
truth-counts true = refl
truth-counts false = refl

pub bits-counted : (bs : List Bool) (valid : Validity) → total (map summand (valid_rows valid (map truth bs))) ≡ pos (count_by truth_or_false (valid_rows valid (map truth bs)))
bits-counted bs None = all bs
  where
    all : (bs : List Bool) → total (map summand (map truth bs)) ≡ pos (count_by truth_or_false (map truth bs))
    all [] = refl
    all (b ∷ bs) = counts-cons (truth b) (map truth bs) (truth-counts b) (all bs)
bits-counted bs (Some bits) = masked bits bs
  where
    masked : (bits bs : List Bool) → total (map summand (masked_rows bits (map truth bs))) ≡ pos (count_by truth_or_false (masked_rows bits (map truth bs)))
    masked [] bs = refl
    masked (b ∷ bits) [] = refl
    masked (true ∷ bits) (b ∷ bs) = counts-cons (truth b) (masked_rows bits (map truth bs)) (truth-counts b) (masked bits bs)
    masked (false ∷ bits) (b ∷ bs) = counts-cons null (masked_rows bits (map truth bs)) refl (masked bits bs)

pub bytes-counted : (rows : List (List ℕ)) (valid : Validity) → total (map summand (valid_rows valid (map bytes rows))) ≡ pos (count_by truth_or_false (valid_rows valid (map bytes rows)))
bytes-counted rows None = all rows
  where
    all : (rows : List (List ℕ)) → total (map summand (map bytes rows)) ≡ pos (count_by truth_or_false (map bytes rows))
    all [] = refl
    all (r ∷ rows) = counts-cons (bytes r) (map bytes rows) refl (all rows)
bytes-counted rows (Some bits) = masked bits rows
  where
    masked : (bits : List Bool) (rows : List (List ℕ)) → total (map summand (masked_rows bits (map bytes rows))) ≡ pos (count_by truth_or_false (masked_rows bits (map bytes rows)))
    masked [] rows = refl
    masked (b ∷ bits) [] = refl
    masked (true ∷ bits) (r ∷ rows) = counts-cons (bytes r) (masked_rows bits (map bytes rows)) refl (masked bits rows)
    masked (false ∷ bits) (r ∷ rows) = counts-cons null (masked_rows bits (map bytes rows)) refl (masked bits rows)

-- ---- one value in every row

pub same-summed : (z : ℤ) (n : ℕ) → total (map summand (replicate n (int z))) ≡ pos n *ℤ z
same-summed z zero = omega (arith, ints)
same-summed z (suc n) = ap (λ s. z +ℤ s) (same-summed z n) ∙ omega (arith, ints) ∙ sym (suc_ℤ-*ℤ (pos n) z)

pub same-true : (n : ℕ) → total (map summand (replicate n (truth true))) ≡ pos n
same-true zero = refl
same-true (suc n) = ap (λ s. pos 1 +ℤ s) (same-true n) ∙ omega (arith, ints)

-- of a value that adds nothing
nothing : (v : PlainValue) (n : ℕ) → summand v ≡ pos 0 → total (map summand (replicate n v)) ≡ pos 0
nothing v zero e = refl
nothing v (suc n) e = (λ i. e i +ℤ nothing v n e i) ∙ omega (arith, ints)

pub same-false : (n : ℕ) → total (map summand (replicate n (truth false))) ≡ pos 0
same-false n = nothing (truth false) n refl

pub same-null : (n : ℕ) → total (map summand (replicate n null)) ≡ pos 0
same-null n = nothing null n refl

pub same-bytes : (bs : List ℕ) (n : ℕ) → total (map summand (replicate n (bytes bs))) ≡ pos 0
same-bytes bs n = nothing (bytes bs) n refl

pub ruleset same_rows = (same-summed, same-true, same-false, same-null, same-bytes)

pub ruleset rows_summed = (bits-counted, bytes-counted)
