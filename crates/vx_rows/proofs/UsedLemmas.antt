-- The rows of a dictionary, as a set: null where a code is null, and the values that codes name.
use Rattle.std.proofs.Common.{◌≡◌, ◌<◌, ◌∙◌, ℕ, zero, suc, ◌+◌, ℤ, pos, negsuc, Bool, true, false, cond, List, [], ◌∷◌, ◌++◌, map, length, set, fold, refl, ap, arith}
use Rattle.std.specs.Prelude.{◌&&◌, count_by, replicate}
use Rattle.std.specs.List.{list_all}
use Rattle.std.proofs.lemmas.Bool.{and_parts, ltb-true}
use Rattle.std.proofs.lemmas.List.{length-replicate, length-set}
use Rattle.std.proofs.lemmas.List.Sums.{sum_by-cons}
use Rattle.vx_base.specs.PlainValue.{PlainValue, null, int, is_null}
use Rattle.vx_model.specs.Rows.{looked_up, row_at, rows}
use Rattle.vx_model.specs.Tree.{Tree, dict}
use Rattle.vx_model.specs.WellFormed.{WellFormed, is_place}
use Rattle.vx_rows.specs.Extremes.{valid_items}
use Rattle.vx_rows.specs.Used.{marked, named_by, row_values}
use Rattle.vx_rules.proofs.AlikeExtremes.{PassAlike}

twice : (a b : Bool) → (a && b) ≡ (a && (a && b))
twice true b = refl
twice false b = refl

swap : (a b c : Bool) → (a && (b && c)) ≡ (b && (a && c))
swap true b c = refl
swap false true c = refl
swap false false c = refl

join : (a b c : Bool) → (a && (b && c)) ≡ ((a && b) && c)
join true b c = refl
join false b c = refl

past : (a b c : Bool) → (b && (a && c)) ≡ ((a && b) && c)
past true b c = refl
past false true c = refl
past false false c = refl

and-true : (a : Bool) → (a && true) ≡ a
and-true true = refl
and-true false = refl

count-cons : (v : PlainValue) (vs : List PlainValue) → count_by is_null (v ∷ vs) ≡ cond (is_null v) 1 0 + count_by is_null vs
count-cons v vs = sum_by-cons (λ w. cond (is_null w) 1 0) v vs

count-null : (vs : List PlainValue) → count_by is_null (null ∷ vs) ≡ suc (count_by is_null vs)
count-null vs = omega (arith, count-cons null vs)

count-int : (z : ℤ) (vs : List PlainValue) → count_by is_null (int z ∷ vs) ≡ count_by is_null vs
count-int z vs = omega (arith, count-cons (int z) vs)

-- ---- codes in bounds

-- a code in bounds, as an index
pub record IsIndex (len : ℕ) (z : ℤ) : Type 0 where
  pub place : ℕ
  pub is : z ≡ pos place
  pub within : place < len

pub index_is : (len : ℕ) (z : ℤ) → is_place len (int z) ≡ true → IsIndex len z
index_is len (pos k) h = record { place = k; is = refl; within = ltb-true _ _ h }
index_is len (negsuc k) h = absurd cc

-- ---- bits

length-marked : (bits : List Bool) (code : PlainValue) → length (marked bits code) ≡ length bits
length-marked bits (int (pos k)) = length-set bits k true
length-marked bits code = refl

pub length-fold : (bits : List Bool) (codes : List PlainValue) → length (fold marked bits codes) ≡ length bits
length-fold bits [] = refl
length-fold bits (code ∷ codes) = length-fold (marked bits code) codes ∙ length-marked bits code

pub length-named : (len : ℕ) (codes : List PlainValue) → length (named_by len codes) ≡ len
length-named len codes = length-fold (replicate len false) codes ∙ length-replicate len false

-- ---- tests of the values that codes name

module _ (test : PlainValue → Bool) where
  all-set : (bits : List Bool) (vs : List PlainValue) (k : ℕ) → length bits ≡ length vs → k < length vs
      → list_all test (valid_items (set bits k true) vs) ≡ (test (row_at vs k) && list_all test (valid_items bits vs))
  all-set [] [] k e l = absurd (omega arith)
  all-set [] (v ∷ vs) k e l = absurd (omega arith)
  all-set (b ∷ bits) [] k e l = absurd (omega arith)
  all-set (true ∷ bits) (v ∷ vs) zero e l = twice (test v) (list_all test (valid_items bits vs))
  all-set (false ∷ bits) (v ∷ vs) zero e l = refl
  all-set (true ∷ bits) (v ∷ vs) (suc k) e l =
      ap (λ b. test v && b) (all-set bits vs k (omega arith) (omega arith)) ∙ swap (test v) (test (row_at vs k)) (list_all test (valid_items bits vs))
  all-set (false ∷ bits) (v ∷ vs) (suc k) e l = all-set bits vs k (omega arith) (omega arith)

  all-none : (n : ℕ) (vs : List PlainValue) → list_all test (valid_items (replicate n false) vs) ≡ true
  all-none zero vs = refl
  all-none (suc n) [] = refl
  all-none (suc n) (v ∷ vs) = all-none n vs

  module _ (vs : List PlainValue) where
    -- what the values that are named so far pass, and the rows of further codes
    all-from : (codes : List PlainValue) (bits : List Bool) → length bits ≡ length vs → list_all (is_place (length vs)) codes ≡ true
        → list_all test (replicate (count_by is_null codes) null ++ valid_items (fold marked bits codes) vs)
        ≡ (list_all test (map (looked_up vs) codes) && list_all test (valid_items bits vs))
    all-from [] bits e h = refl
    all-from (null ∷ codes) bits e h =
        ap (λ n. list_all test (replicate n null ++ valid_items (fold marked bits codes) vs)) (count-null codes)
        ∙ ap (λ b. test null && b) (all-from codes bits e h)
        ∙ join (test null) (list_all test (map (looked_up vs) codes)) (list_all test (valid_items bits vs))
    all-from (int (pos k) ∷ codes) bits e h =
        let p = and_parts (is_place (length vs) (int (pos k))) (list_all (is_place (length vs)) codes) h in
        let rest = list_all test (map (looked_up vs) codes) in
        ap (λ n. list_all test (replicate n null ++ valid_items (fold marked (set bits k true) codes) vs)) (count-int (pos k) codes)
        ∙ all-from codes (set bits k true) (length-set bits k true ∙ e) p.1
        ∙ ap (λ b. rest && b) (all-set bits vs k e (ltb-true _ _ p.0))
        ∙ past (test (row_at vs k)) rest (list_all test (valid_items bits vs))
    all-from (v ∷ codes) bits e h = absurd cc

  all-named : (codes vs : List PlainValue) → list_all (is_place (length vs)) codes ≡ true → list_all test (row_values codes vs) ≡ list_all test (map (looked_up vs) codes)
  all-named codes vs h =
      all-from vs codes (replicate (length vs) false) (length-replicate (length vs) false) h
      ∙ ap (λ b. list_all test (map (looked_up vs) codes) && b) (all-none (length vs) vs)
      ∙ and-true (list_all test (map (looked_up vs) codes))

-- the rows of a dictionary pass the tests that null, where a code is null, and the values that codes name pass
pub rows_alike : (codes values : Tree) → WellFormed (dict codes values) → PassAlike (row_values (rows codes) (rows values)) (rows (dict codes values))
rows_alike codes values w test = all-named test (rows codes) (rows values) w.2.places
