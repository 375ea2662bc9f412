-- Repeated blocks: the next one, none and one, blocks of one item, length, map, tests, and blocks of lists concatenated.
use Rattle.std.proofs.Common.{◌≡◌, ℕ, zero, suc, ◌+◌, ◌*◌, Bool, true, List, [], ◌∷◌, ◌++◌, map, length, get_or, ◌<◌, ◌≤◌, refl, sym, ◌∙◌, ap, arith, append_assoc}
use Rattle.std.proofs.Math.Nat.{zero-mul, suc-mul}
use Rattle.std.specs.Prelude.{replicate}
use Rattle.std.specs.List.{list_all}
use Rattle.std.proofs.lemmas.Bool.{and_from}
use Rattle.std.proofs.lemmas.List.{append-nil, map-append, length-append, replicate-append-replicate}
use Rattle.std.proofs.lemmas.List.Folds.{list_all-append}
use Rattle.vx_model.specs.Nested.{concatenated}
use Rattle.vx_model.proofs.JoinedLemmas.{concatenated-append}
use Rattle.vx_pieces.specs.Pieces.{repeated}

-- ---- the next copy

pub replicate-next : {A : Type 0} (n : ℕ) (x : A) → replicate (n + 1) x ≡ replicate n x ++ x ∷ []
replicate-next n x = sym (replicate-append-replicate n 1 x)

pub repeated-next : {A : Type 0} (n : ℕ) (xs : List A) → repeated (n + 1) xs ≡ repeated n xs ++ xs
repeated-next n xs = ap concatenated (replicate-next n xs) ∙ concatenated-append (replicate n xs) (xs ∷ []) ∙ ap (λ ys. repeated n xs ++ ys) (append-nil xs)

-- a loop that appends a block each time
pub repeated-more : {A : Type 0} {all next : List A} (before block : List A) (n : ℕ) → next ≡ all ++ block → all ≡ before ++ repeated n block → next ≡ before ++ repeated (n + 1) block
repeated-more before block n is so_far =
    is ∙ ap (λ xs. xs ++ block) so_far ∙ append_assoc before (repeated n block) block ∙ ap (λ xs. before ++ xs) (sym (repeated-next n block))

-- ---- blocks of no item and of one, and a block alone

pub repeated-none : {A : Type 0} (n : ℕ) → repeated {A = A} n [] ≡ []
repeated-none zero = refl
repeated-none (suc n) = repeated-none n

pub repeated-one : {A : Type 0} (n : ℕ) (x : A) → repeated n (x ∷ []) ≡ replicate n x
repeated-one zero x = refl
repeated-one (suc n) x = ap (λ xs. x ∷ xs) (repeated-one n x)

pub repeated-once : {A : Type 0} (xs : List A) → repeated 1 xs ≡ xs
repeated-once xs = append-nil xs

-- a block of fewer items than one adds nothing
pub repeated-empty : {A : Type 0} (before : List A) (n : ℕ) (block : List A) → length block < 1 → before ≡ before ++ repeated n block
repeated-empty before n [] l = sym (append-nil before) ∙ ap (λ ys. before ++ ys) (sym (repeated-none n))
repeated-empty before n (x ∷ xs) l = absurd (omega arith)

-- a block of one item is its first item
pub repeated-single : {A : Type 0} (n : ℕ) (block : List A) (item : A) → 1 ≤ length block → length block < 2 → item ≡ get_or block 0 item → replicate n item ≡ repeated n block
repeated-single n [] item l k e = absurd (omega arith)
repeated-single n (x ∷ []) item l k e = ap (replicate n) e ∙ sym (repeated-one n x)
repeated-single n (x ∷ y ∷ xs) item l k e = absurd (omega arith)

-- ---- length, map, tests

pub length-repeated : {A : Type 0} (n : ℕ) (xs : List A) → length (repeated n xs) ≡ n * length xs
length-repeated zero xs = sym (zero-mul (length xs))
length-repeated (suc n) xs =
    let rest = length-repeated n xs in
    let both = length-append xs (repeated n xs) in
    let product : length xs + n * length xs ≡ suc n * length xs = omega (arith, suc-mul n (length xs)) in
    omega arith

pub map-replicate : {A B : Type 0} (f : A → B) (n : ℕ) (x : A) → map f (replicate n x) ≡ replicate n (f x)
map-replicate f zero x = refl
map-replicate f (suc n) x = ap (λ xs. f x ∷ xs) (map-replicate f n x)

pub map-repeated : {A B : Type 0} (f : A → B) (n : ℕ) (xs : List A) → map f (repeated n xs) ≡ repeated n (map f xs)
map-repeated f zero xs = refl
map-repeated f (suc n) xs = map-append f xs (repeated n xs) ∙ ap (λ ys. map f xs ++ ys) (map-repeated f n xs)

pub all-replicate : {A : Type 0} (test : A → Bool) (n : ℕ) (x : A) → test x ≡ true → list_all test (replicate n x) ≡ true
all-replicate test zero x h = refl
all-replicate test (suc n) x h = and_from _ _ h (all-replicate test n x h)

pub all-repeated : {A : Type 0} (test : A → Bool) (n : ℕ) (xs : List A) → list_all test xs ≡ true → list_all test (repeated n xs) ≡ true
all-repeated test zero xs h = refl
all-repeated test (suc n) xs h = list_all-append test xs (repeated n xs) ∙ and_from _ _ h (all-repeated test n xs h)

-- ---- lists concatenated

pub concatenated-repeated : {A : Type 0} (n : ℕ) (xss : List (List A)) → concatenated (repeated n xss) ≡ repeated n (concatenated xss)
concatenated-repeated zero xss = refl
concatenated-repeated (suc n) xss = concatenated-append xss (repeated n xss) ∙ ap (λ xs. concatenated xss ++ xs) (concatenated-repeated n xss)

pub concatenated-copies : {A : Type 0} (n size : ℕ) (x : A) → concatenated (replicate n (replicate size x)) ≡ replicate (n * size) x
concatenated-copies zero size x = let same : 0 ≡ 0 * size = omega (arith, zero-mul size) in ap (λ k. replicate k x) same
concatenated-copies (suc n) size x =
    let same : size + n * size ≡ suc n * size = omega (arith, suc-mul n size) in
    ap (λ xs. replicate size x ++ xs) (concatenated-copies n size x) ∙ replicate-append-replicate size (n * size) x ∙ ap (λ k. replicate k x) same
