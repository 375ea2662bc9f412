-- The narrowest type of words that never decrease: the last one decides, and it holds each.
use Rattle.std.proofs.Common.{◌≡◌, ◌≤◌, ◌+◌, ◌^◌, ◌∙◌, ℕ, zero, suc, ℤ, pos, negsuc, Bool, true, false, List, [], ◌∷◌, length, map, Some, None, cond, refl, sym, ap, subst, arith}
use Rattle.std.specs.Prelude.{◌&&◌, IsSome, find, unwrap_or, int_le}
use Rattle.std.specs.List.{list_all}
use Rattle.std.proofs.lemmas.Bool.{and_parts}
use Rattle.std.proofs.lemmas.Bool.Decides.{nat_tests}
use Rattle.std.proofs.lemmas.Int.{ints}
use Rattle.vx_base.specs.declared.ptype.PType.{PType}
use Rattle.vx_base.specs.declared.ptype.PType.TheVariants.{U8, U16, U32, U64}
use Rattle.vx_base.specs.declared.dtype.Nullability.{Nullability}
use Rattle.vx_base.specs.declared.dtype.Nullability.TheVariants.{NonNullable}
use Rattle.vx_base.specs.Integers.{natural_bits, lies_in, unsigned_of}
use Rattle.vx_base.specs.Narrow.{narrow_of}
use Rattle.vx_base.specs.PlainScalar.{fits}
use Rattle.vx_base.specs.PlainType as types
use Rattle.vx_base.specs.PlainValue.{PlainValue, null, int, whole_or_zero}
use Rattle.vx_model.specs.Column.{Column}
use Rattle.vx_model.specs.Plain.{plain, plain_of}
use Rattle.vx_model.specs.Rows.{rows, row_at, index_of}
use Rattle.vx_model.specs.Tree.{Tree, Validity, primitive}
use Rattle.vx_model.specs.TreeType.{tree_type}
use Rattle.vx_model.specs.WellFormed.{never_falls}
use Rattle.vx_model.proofs.FrameOfReferenceLemmas.{row_passes}
use Rattle.vx_model.proofs.PlainLemmas.{type-plain_of, wholes_lie_in}
use Rattle.vx_schemes_common.specs.Narrowed.{index_type}
use Rattle.vx_schemes_common.specs.NarrowedLaws.{index_type-holds}
use Rattle.vx_schemes_common.specs.Rising.{fit_all}
use Rattle.vx_schemes_common.proofs.NarrowedLemmas.{picked, smaller, and_true}

-- ---- the last decides

-- the first is at most the last
first_least : (n : ℕ) (is : List PlainValue) (i k : ℕ) → fit_all U64 is ≡ true → never_falls (int (pos n) ∷ is) ≡ true → length is ≡ i → index_of (row_at (int (pos n) ∷ is) i) ≡ Some k → n ≤ k
first_least n [] zero k f a l e = let same : n ≡ k = cc in omega arith
first_least n [] (suc i) k f a l e = absurd (omega arith)
first_least n (v ∷ is) zero k f a l e = absurd (omega arith)
first_least n (int (pos m) ∷ is) (suc i) k f a l e =
    let fit = and_parts (lies_in U64 (pos m)) (fit_all U64 is) f in
    let up = and_parts (int_le (pos n) (pos m)) (never_falls (int (pos m) ∷ is)) a in
    let next : n ≤ m = grind (arith, nat_tests, ints, up.0) in
    let rest = first_least m is i k fit.1 up.1 (omega arith) e in
    omega arith
first_least n (v ∷ is) (suc i) k f a l e = absurd cc

-- all fit where the last one does
pub all_by_last : (q : PType) (is : List PlainValue) (i k : ℕ) → fit_all U64 is ≡ true → never_falls is ≡ true → length is ≡ i + 1 → index_of (row_at is i) ≡ Some k → fit_all q is ≡ lies_in q (pos k)
all_by_last q [] i k f a l e = absurd (omega arith)
all_by_last q (int (pos n) ∷ []) zero k f a l e = let same : n ≡ k = cc in and_true (lies_in q (pos n)) ∙ ap (λ m. lies_in q (pos m)) same
all_by_last q (int (pos n) ∷ []) (suc i) k f a l e = absurd (omega arith)
all_by_last q (int (pos n) ∷ w ∷ is) zero k f a l e = absurd (omega arith)
all_by_last q (int (pos n) ∷ w ∷ is) (suc i) k f a l e =
    let fit = and_parts (lies_in U64 (pos n)) (fit_all U64 (w ∷ is)) f in
    let up = and_parts (int_le (pos n) (whole_or_zero w)) (never_falls (w ∷ is)) a in
    let least = first_least n (w ∷ is) (suc i) k fit.1 a (omega arith) e in
    ap (λ r. lies_in q (pos n) && r) (all_by_last q (w ∷ is) i k fit.1 up.1 (omega arith) e) ∙ smaller n k (2 ^ natural_bits q) least
all_by_last q (v ∷ is) i k f a l e = absurd cc

is_picked : (a b c d : Bool) → d ≡ true → IsSome (cond a (Some U8) (cond b (Some U16) (cond c (Some U32) (cond d (Some U64) None))))
is_picked true b c d e = refl
is_picked false true c d e = refl
is_picked false false true d e = refl
is_picked false false false true e = refl
is_picked false false false false e = absurd cc

index_type-last : (is : List PlainValue) (i k : ℕ) (q : PType) → fit_all U64 is ≡ true → never_falls is ≡ true → length is ≡ i + 1 → index_of (row_at is i) ≡ Some k → narrow_of (pos 0) (pos k) ≡ Some q → q ≡ index_type is
index_type-last is i k q f a l e n =
    let same : (p : PType) → lies_in p (pos k) ≡ fit_all p is = λ p. sym (all_by_last p is i k f a l e) in
    sym (picked (lies_in U8 (pos k)) (lies_in U16 (pos k)) (lies_in U32 (pos k)) (lies_in U64 (pos k)) q n) ∙ (λ j. unwrap_or (find (λ p. same p j) (U8 ∷ U16 ∷ U32 ∷ [])) U64)

-- the last one is a word
last_fits : (is : List PlainValue) (i : ℕ) → fit_all U64 is ≡ true → length is ≡ i + 1 → fits (types.primitive U64 NonNullable) (row_at is i) ≡ true
last_fits is i f l = row_passes (fits (types.primitive U64 NonNullable)) is i (omega arith) f

last_word : (is : List PlainValue) (i : ℕ) (z : ℤ) → fit_all U64 is ≡ true → length is ≡ i + 1 → int z ≡ row_at is i → lies_in U64 z ≡ true
last_word is i z f l e = subst (λ v. fits (types.primitive U64 NonNullable) v ≡ true) (sym e) (last_fits is i f l)

pub index_type-of : (is : List PlainValue) (i : ℕ) (z : ℤ) (q : PType) → fit_all U64 is ≡ true → never_falls is ≡ true → length is ≡ i + 1 → int z ≡ row_at is i → narrow_of (pos 0) z ≡ Some q → q ≡ index_type is
index_type-of is i (pos k) q f a l e n = index_type-last is i k q f a l (ap index_of (sym e)) n
index_type-of is i (negsuc k) q f a l e n = let word = last_word is i (negsuc k) f l e in absurd cc

pub last_narrows : (is : List PlainValue) (i : ℕ) (z : ℤ) → fit_all U64 is ≡ true → length is ≡ i + 1 → int z ≡ row_at is i → IsSome (narrow_of (pos 0) z)
last_narrows is i (pos k) f l e = is_picked (lies_in U8 (pos k)) (lies_in U16 (pos k)) (lies_in U32 (pos k)) (lies_in U64 (pos k)) (last_word is i (pos k) f l e)
last_narrows is i (negsuc k) f l e = let word = last_word is i (negsuc k) f l e in absurd cc

pub last_is_some : (is : List PlainValue) (i : ℕ) → fit_all U64 is ≡ true → length is ≡ i + 1 → null ≡ row_at is i → ⊥
last_is_some is i f l e = no (subst (λ v. fits (types.primitive U64 NonNullable) v ≡ true) (sym e) (last_fits is i f l))
  where
    no : false ≡ true → ⊥
    no q = cc

pub index_type-none : (is : List PlainValue) → length is ≡ 0 → index_type is ≡ U8
index_type-none [] l = refl
index_type-none (v ∷ is) l = absurd (omega arith)

-- ---- it is unsigned, and holds each

pub index_type-unsigned : (is : List PlainValue) → unsigned_of (index_type is) ≡ index_type is
index_type-unsigned is = by_three (fit_all U8 is) (fit_all U16 is) (fit_all U32 is)
  where
    by_three : (a b c : Bool) → unsigned_of (unwrap_or (cond a (Some U8) (cond b (Some U16) (cond c (Some U32) None))) U64) ≡ unwrap_or (cond a (Some U8) (cond b (Some U16) (cond c (Some U32) None))) U64
    by_three true b c = refl
    by_three false true c = refl
    by_three false false true = refl
    by_three false false false = refl

-- the numbers of a plain tree are its column's
pub plain_wholes : (c : Column) (p : PType) (xs : List ℤ) (valid : Validity) (n : Nullability) → primitive p xs valid n ≡ plain c → xs ≡ map whole_or_zero c.values
plain_wholes c p xs valid n e =
    let typed : types.primitive p n ≡ c.dtype = ap tree_type e ∙ type-plain_of c.dtype c.values in
    of_node (e ∙ ap (λ s. plain_of s c.values) (sym typed))
  where
    of_node : primitive p xs valid n ≡ plain_of (types.primitive p n) c.values → xs ≡ map whole_or_zero c.values
    of_node f = cc

-- so words lie in their narrowest type
pub words_held : (t : Tree) (q : PType) (xs : List ℤ) → fit_all U64 (rows t) ≡ true → q ≡ index_type (rows t) → xs ≡ map whole_or_zero (rows t) → list_all (lies_in q) xs ≡ true
words_held t q xs f e g = rw (e, g) (wholes_lie_in (index_type (rows t)) NonNullable (rows t) (index_type-holds (rows t) f))
