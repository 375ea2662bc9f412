-- Which values are null.
use Rattle.std.proofs.Common.{◌≡◌, Bool, List, [], ◌∷◌, length, map, true, false, refl}
use Rattle.std.specs.Prelude.{◌||◌, not, replicate}
use Rattle.std.specs.List.{list_all, list_any}
use Rattle.std.proofs.lemmas.Bool.{and_parts, or_parts}
use Rattle.vx_base.specs.PlainScalar.{fits}
use Rattle.vx_base.specs.PlainType.{PlainType, is_nullable}
use Rattle.vx_base.specs.PlainValue.{PlainValue, null, truth, int, bytes, items, is_null, same_value}

-- a value is null or not
pub by_null : (P : PlainValue → Type 0) → P null → ((v : PlainValue) → is_null v ≡ false → P v) → (v : PlainValue) → P v
by_null P at_null other null = at_null
by_null P at_null other (truth b) = other (truth b) refl
by_null P at_null other (int z) = other (int z) refl
by_null P at_null other (bytes bs) = other (bytes bs) refl
by_null P at_null other (items vs) = other (items vs) refl

pub null-is : (v : PlainValue) → is_null v ≡ true → null ≡ v
null-is = by_null (λ v. is_null v ≡ true → null ≡ v) (λ e. refl) (λ v f e. absurd cc)

-- a value equals null where it is null
pub same-null : (v : PlainValue) → same_value v null ≡ is_null v
same-null null = refl
same-null (truth b) = refl
same-null (int z) = refl
same-null (bytes bs) = refl
same-null (items vs) = refl

pub null-same : (v : PlainValue) → same_value null v ≡ is_null v
null-same null = refl
null-same (truth b) = refl
null-same (int z) = refl
null-same (bytes bs) = refl
null-same (items vs) = refl

-- ---- lists of values

-- where some value that fits is null, the type is nullable
pub null-fitted : (t : PlainType) (vs : List PlainValue) → list_all (fits t) vs ≡ true → list_any is_null vs ≡ true → is_nullable t ≡ true
null-fitted t [] h some = absurd cc
null-fitted t (v ∷ vs) h some = let b = and_parts (fits t v) (list_all (fits t) vs) h in first v b.0 some (null-fitted t vs b.1)
  where
    first : (w : PlainValue) → fits t w ≡ true → (is_null w || list_any is_null vs) ≡ true → (list_any is_null vs ≡ true → is_nullable t ≡ true) → is_nullable t ≡ true
    first =
        by_null (λ w. fits t w ≡ true → (is_null w || list_any is_null vs) ≡ true → (list_any is_null vs ≡ true → is_nullable t ≡ true) → is_nullable t ≡ true)
        (λ k q later. k) (λ w e k q later. later (rw e at q))

-- the validity of values is all true where no value is null
pub all-not_null : (vs : List PlainValue) → list_all (λ bit. bit) (map (λ v. not (is_null v)) vs) ≡ not (list_any is_null vs)
all-not_null [] = refl
all-not_null (v ∷ vs) = by_test (is_null v) (all-not_null vs)
  where
    by_test : (is : Bool) → list_all (λ bit. bit) (map (λ w. not (is_null w)) vs) ≡ not (list_any is_null vs) → list_all (λ bit. bit) (not is ∷ map (λ w. not (is_null w)) vs) ≡ not (is || list_any is_null vs)
    by_test true rest = refl
    by_test false rest = rest

pub bits-not_null : (vs : List PlainValue) → list_any is_null vs ≡ false → map (λ v. not (is_null v)) vs ≡ replicate (length vs) true
bits-not_null [] e = refl
bits-not_null (v ∷ vs) e = let b = or_parts (is_null v) (list_any is_null vs) e in λ i. not (b.0 i) ∷ bits-not_null vs b.1 i
