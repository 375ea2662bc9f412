-- A column of 32 signed bits fits the narrowest type for it.
use Rattle.std.proofs.Common.{◌≡◌, ◌^◌, pos, negsuc, Bool, true, List, [], ◌∷◌, Some, refl, arith}
use Rattle.std.specs.Prelude.{find, unwrap_or}
use Rattle.std.specs.List.{list_all}
use Rattle.std.proofs.lemmas.Bool.{and_from, and_parts, cond_both, lt-ltb, ltb-true}
use Rattle.vx_base.specs.declared.dtype.Nullability.{Nullability}
use Rattle.vx_base.specs.declared.ptype.PType.{PType}
use Rattle.vx_base.specs.declared.ptype.PType.TheVariants.{U8, U16, U32, U64, I8, I16, I32, I64}
use Rattle.vx_base.specs.PlainScalar.{fits}
use Rattle.vx_base.specs.PlainType as types
use Rattle.vx_base.specs.PlainValue.{PlainValue, null, int}
use Rattle.vx_model.specs.Column.{IsColumn, column}
use Rattle.vx_schemes_time.specs.Narrowest.{all_fit, narrowest, narrowed}

wide : (n : Nullability) (v : PlainValue) → fits (types.primitive I32 n) v ≡ true → fits (types.primitive I64 n) v ≡ true
wide n null h = h
wide n (int (pos k)) h = lt-ltb k (2 ^ 63) (omega (arith, ltb-true k (2 ^ 31) h))
wide n (int (negsuc k)) h = lt-ltb k (2 ^ 63) (omega (arith, ltb-true k (2 ^ 31) h))
wide n v h = absurd cc

-- 64 bits hold what 32 hold
all-wide : (n : Nullability) (vs : List PlainValue) → all_fit n vs I32 ≡ true → all_fit n vs I64 ≡ true
all-wide n [] h = refl
all-wide n (v ∷ vs) h =
    let b = and_parts (fits (types.primitive I32 n) v) (list_all (fits (types.primitive I32 n)) vs) h in
    and_from _ _ (wide n v b.0) (all-wide n vs b.1)

-- the first that passes, passes
first-passes : (f : PType → Bool) (ps : List PType) (q : PType) → f q ≡ true → f (unwrap_or (find f ps) q) ≡ true
first-passes f [] q h = h
first-passes f (p ∷ ps) q h = cond_both (f p) (Some p) (find f ps) (λ o. f (unwrap_or o q) ≡ true) (λ e. e) (λ e. first-passes f ps q h)

pub narrowest-holds : (n : Nullability) (vs : List PlainValue) → all_fit n vs I32 ≡ true → all_fit n vs (narrowest n vs) ≡ true
narrowest-holds n vs h = first-passes (all_fit n vs) (U8 ∷ U16 ∷ U32 ∷ U64 ∷ I8 ∷ I16 ∷ I32 ∷ []) I64 (all-wide n vs h)

pub narrowed-column : (n : Nullability) (vs : List PlainValue) → IsColumn (column (types.primitive I32 n) vs) → IsColumn (narrowed (column (types.primitive I32 n) vs))
narrowed-column n vs h = narrowest-holds n vs h
