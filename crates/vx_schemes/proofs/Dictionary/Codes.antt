-- The codes of a dictionary, list by list.
use Rattle.std.proofs.Common.{◌≡◌, ℕ, ◌+◌, ◌<◌, ◌≤◌, ◌^◌, ℤ, pos, Bool, true, false, cond, List, [], ◌∷◌, ◌++◌, length, map, get_or, drop, Some, None, refl, sym, ap, subst, ◌∙◌, arith, append_assoc}
use Rattle.std.specs.Ordering.{int_eq}
use Rattle.std.proofs.lemmas.Bool.{lt-ltb, le-ltb, eqb-true}
use Rattle.std.proofs.lemmas.Bool.Decides.{nat_tests}
use Rattle.std.specs.Prelude.{◌==◌, ◌-◌, nat_lt}
use Rattle.std.proofs.lemmas.List.{drop_more}
use Rattle.vx_base.specs.declared.ptype.PType.{PType}
use Rattle.vx_base.specs.declared.ptype.PType.TheVariants.{U8, U16, U32}
use Rattle.vx_base.specs.Integers.{natural_bits}
use Rattle.vx_base.specs.PlainValue.{int, whole_or_zero}
use Rattle.vx_base.proofs.WrapLemmas.{wrap-same}
use Rattle.vx_model.specs.Decoded.{zeroed, zeroed_by}
use Rattle.vx_model.specs.Refusals.{validity_length}
use Rattle.vx_model.specs.Rows.{masked_rows, valid_rows}
use Rattle.vx_model.specs.Tree.{Validity}
use Rattle.vx_stats.specs.Distinct.{times, distinct}
use Rattle.vx_stats.specs.Stats.{valid_wholes, distinct_values}
use Rattle.vx_stats.proofs.DistinctLemmas.{times-next, distinct-times}
use Rattle.vx_stats.proofs.TallyLemmas.{same-eq}
use Rattle.vx_stats.proofs.StatsLemmas.{valid_wholes-map-int}
use Rattle.vx_schemes_common.specs.Dictionaries.{code_type}
use Rattle.vx_schemes.specs.Dictionary.Tree.{code_of, code_in}
use Rattle.vx_schemes.specs.Dictionary.Places.{place-holds}
use Rattle.vx_schemes.specs.Dictionary.Codes.{as_code, codes_in}

-- ---- a loop's steps

abbrev pub codes_left : {T : Type 0} → (T → ℤ) → (ℤ → ℤ) → List Bool → List T → ℕ → List ℤ
codes_left whole f bits items row = zeroed (pos 0) (drop row bits) (map f (map whole (drop row items)))

pub codes-next : {T : Type 0} (whole : T → ℤ) (f : ℤ → ℤ) (items : List T) (bits : List Bool) (row : ℕ) (x : T) (done : List ℤ) (c : ℤ) (all : List ℤ) → row < length items → length bits ≡ length items → x ≡ get_or items row x
    → c ≡ cond (get_or bits row false) (f (whole x)) (pos 0) → done ++ codes_left whole f bits items row ≡ all → (done ++ c ∷ []) ++ codes_left whole f bits items (row + 1) ≡ all
codes-next whole f items bits row x done c all within same is code e =
    let rest = codes_left whole f bits items (row + 1) in
    let next : codes_left whole f bits items row ≡ c ∷ rest =
    (λ i. zeroed (pos 0) (drop_more bits row false (omega arith) i) (map f (map whole (drop_more items row x within i))))
    ∙ ap (λ y. cond (get_or bits row false) (f (whole y)) (pos 0) ∷ rest) (sym is) ∙ ap (λ y. y ∷ rest) (sym code)
    in
    append_assoc done (c ∷ []) rest ∙ ap (λ l. done ++ l) (sym next) ∙ e

-- ---- codes are the places of the rows' values

code-exact : (p : PType) (numbers : List ℤ) (z : ℤ) → length numbers ≤ 2 ^ natural_bits p → 0 < times numbers z → as_code p numbers z ≡ pos (code_of numbers z)
code-exact p numbers z few h = wrap-same p (pos (code_of numbers z)) (lt-ltb _ _ (omega (arith, (place-holds numbers z h).within)))

-- the numbers of the valid rows are among these
abbrev Holds : List ℤ → List ℤ → Type 0
Holds numbers zs = (z : ℤ) → 0 < times zs z → 0 < times numbers z

first-times : (z : ℤ) (zs : List ℤ) → 0 < times (z ∷ zs) z
first-times z zs = let one : cond {A = ℕ} (int_eq z z) 1 0 ≡ 1 = ap {B = ℕ} (λ b. cond b 1 0) (same-eq z) in omega (arith, times-next z z zs)

later-times : (x z : ℤ) (zs : List ℤ) → 0 < times zs x → 0 < times (z ∷ zs) x
later-times x z zs h = omega (arith, times-next x z zs)

masked-exact : (p : PType) (numbers : List ℤ) (bits : List Bool) (zs : List ℤ) → length bits ≡ length zs → length numbers ≤ 2 ^ natural_bits p → Holds numbers (valid_wholes (masked_rows bits (map int zs)))
    → zeroed (pos 0) bits (codes_in p numbers zs) ≡ map whole_or_zero (map (code_in numbers) (masked_rows bits (map int zs)))
masked-exact p numbers [] [] e few held = refl
masked-exact p numbers [] (z ∷ zs) e few held = absurd (omega arith)
masked-exact p numbers (bit ∷ bits) [] e few held = absurd (omega arith)
masked-exact p numbers (true ∷ bits) (z ∷ zs) e few held =
    let others = valid_wholes (masked_rows bits (map int zs)) in
    let code = code-exact p numbers z few (held z (first-times z others)) in
    let rest = masked-exact p numbers bits zs (omega arith) few (λ x h. held x (later-times x z others h)) in
    λ i. code i ∷ rest i
masked-exact p numbers (false ∷ bits) (z ∷ zs) e few held = ap (λ l. pos 0 ∷ l) (masked-exact p numbers bits zs (omega arith) few held)

all-exact : (p : PType) (numbers : List ℤ) (zs : List ℤ) → length numbers ≤ 2 ^ natural_bits p → Holds numbers zs → codes_in p numbers zs ≡ map whole_or_zero (map (code_in numbers) (map int zs))
all-exact p numbers [] few held = refl
all-exact p numbers (z ∷ zs) few held =
    let code = code-exact p numbers z few (held z (first-times z zs)) in
    let rest = all-exact p numbers zs few (λ x h. held x (later-times x z zs h)) in
    λ i. code i ∷ rest i

distinct-holds : (zs : List ℤ) → Holds (distinct zs) zs
distinct-holds zs z h = omega (arith, distinct-times z zs, some (times zs z) h)
  where
    some : (n : ℕ) → 0 < n → cond {A = ℕ} (n == 0) 0 1 ≡ 1
    some n h = grind (arith, nat_tests)

-- of distinct values, in a type that holds the places
pub codes-exact : (p : PType) (valid : Validity) (zs : List ℤ) → validity_length valid (length zs) ≡ true → length (distinct_values (valid_rows valid (map int zs))) ≤ 2 ^ natural_bits p
    → zeroed_by (pos 0) valid (codes_in p (distinct_values (valid_rows valid (map int zs))) zs) ≡ map whole_or_zero (map (code_in (distinct_values (valid_rows valid (map int zs)))) (valid_rows valid (map int zs)))
codes-exact p None zs e few =
    all-exact p (distinct_values (map int zs)) zs few (subst (Holds (distinct_values (map int zs))) (valid_wholes-map-int zs) (distinct-holds (valid_wholes (map int zs))))
codes-exact p (Some bits) zs e few = masked-exact p _ bits zs (eqb-true _ _ e) few (distinct-holds (valid_wholes (masked_rows bits (map int zs))))

-- ---- the type of the codes

pub code_type-u8 : (count : ℕ) → count - 1 < 256 → code_type count ≡ U8
code_type-u8 count h = let t : nat_lt (count - 1) 256 ≡ true = lt-ltb _ _ h in rw t refl

pub code_type-u16 : (count : ℕ) → 256 ≤ count - 1 → count - 1 < 65_536 → code_type count ≡ U16
code_type-u16 count l h =
    let t : nat_lt (count - 1) 256 ≡ false = le-ltb _ _ l in
    let u : nat_lt (count - 1) 65_536 ≡ true = lt-ltb _ _ h in
    rw (t, u) refl

pub code_type-u32 : (count : ℕ) → 65_536 ≤ count - 1 → count - 1 < 4_294_967_296 → code_type count ≡ U32
code_type-u32 count l h =
    let t : nat_lt (count - 1) 256 ≡ false = le-ltb _ _ (omega arith) in
    let u : nat_lt (count - 1) 65_536 ≡ false = le-ltb _ _ l in
    let v : nat_lt (count - 1) 4_294_967_296 ≡ true = lt-ltb _ _ h in
    rw (t, u, v) refl
