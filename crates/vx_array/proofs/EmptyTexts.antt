-- Texts and binaries of few bytes, and of none: each is short, and fits its type.
use Rattle.std.proofs.Common.{◌≡◌, ◌∙◌, ◌<◌, ◌≤◌, ◌+◌, ◌-◌, ◌^◌, ℕ, zero, suc, List, [], ◌∷◌, length, map, take, drop, true, refl, ap, arith}
use Rattle.std.specs.List.{list_all, range_with_len}
use Rattle.std.proofs.lemmas.Bool.{lt-ltb}
use Rattle.std.proofs.lemmas.Simd.{map-map}
use Rattle.vx_base.specs.Masks.{rows_between}
use Rattle.vx_base.proofs.FitLemmas.{fits-default_of}
use Rattle.vx_base.specs.PlainScalar.{fits}
use Rattle.vx_base.specs.PlainType.{PlainType, is_bytes}
use Rattle.vx_base.specs.PlainType as types
use Rattle.vx_base.specs.PlainValue.{PlainValue, bytes, is_short}
use Rattle.vx_model.specs.Rows.{cut_at, offset_at}
use Rattle.vx_flat.proofs.RunPlaces.{passing}
use Rattle.vx_array.proofs.UniformTrees.{drop-none, no_items}

take-most : (n : ℕ) (xs : List ℕ) → length (take n xs) ≤ length xs
take-most zero xs = omega arith
take-most (suc n) [] = omega arith
take-most (suc n) (x ∷ xs) = let rest = take-most n xs in omega (arith, rest)

drop-most : (n : ℕ) (xs : List ℕ) → length (drop n xs) ≤ length xs
drop-most zero xs = omega arith
drop-most (suc n) [] = omega arith
drop-most (suc n) (x ∷ xs) = let rest = drop-most n xs in omega (arith, rest)

-- no value is longer than all bytes
pub all_short : (os : List PlainValue) (bs : List ℕ) → length bs < 2 ^ 32 → list_all is_short (cut_at os bs) ≡ true
all_short os bs few =
    passing is_short (λ i. rows_between bs (offset_at os i) (offset_at os (i + 1))) (length os - 1) (λ i l. (
    let start = offset_at os i in
    let end = offset_at os (i + 1) in
    lt-ltb (length (rows_between bs start end)) (2 ^ 32) (omega (arith, take-most (end - start) (drop start bs), drop-most start bs, few))
    ))

pub ruleset short_texts = (all_short)

take-none : (n : ℕ) (bs : List ℕ) → bs ≡ [] → take n bs ≡ []
take-none zero bs none = refl
take-none (suc n) [] none = refl
take-none (suc n) (b ∷ bs) none = absurd cc

no_bytes : (bs : List ℕ) (start end : ℕ) → length bs ≡ 0 → rows_between bs start end ≡ []
no_bytes bs start end e = take-none (end - start) (drop start bs) (drop-none start bs (no_items bs e))

empty_fits : (t : PlainType) → is_bytes t ≡ true → fits t (bytes []) ≡ true
empty_fits (types.utf8 n) e = fits-default_of (types.utf8 n)
empty_fits (types.binary n) e = refl
empty_fits t e = absurd cc

-- without bytes each value is empty
pub all_empty : (t : PlainType) (os : List PlainValue) (bs : List ℕ) → is_bytes t ≡ true → length bs ≡ 0 → list_all (fits t) (map bytes (cut_at os bs)) ≡ true
all_empty t os bs typed none =
    ap (list_all (fits t)) (map-map bytes (λ i. rows_between bs (offset_at os i) (offset_at os (i + 1))) (range_with_len 0 (length os - 1)))
    ∙ passing (fits t) (λ i. bytes (rows_between bs (offset_at os i) (offset_at os (i + 1)))) (length os - 1) (λ i l. ap (λ vs. fits t (bytes vs)) (no_bytes bs (offset_at os i) (offset_at os (i + 1)) none) ∙ empty_fits t typed)

pub ruleset empty_texts = (all_empty)
