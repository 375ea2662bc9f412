-- The codes of a column's rows are places of its distinct values, and give the rows back.
use Rattle.std.proofs.Common.{◌≡◌, ◌<◌, ◌≤◌, ◌-◌, ◌^◌, ◌∙◌, ℕ, suc, ℤ, pos, Bool, true, false, cond, List, [], ◌∷◌, length, map, Option, None, Some, refl, ap, arith}
use Rattle.std.specs.Prelude.{◌==◌, int_lt, All}
use Rattle.std.specs.List.{list_all}
use Rattle.std.specs.Ordering.{int_eq}
use Rattle.std.proofs.lemmas.Bool.{and_from, and_parts, cond_both, lt-ltb}
use Rattle.std.proofs.lemmas.Bool.Decides.{nat_tests}
use Rattle.std.proofs.lemmas.List.{length-map, get_or-map}
use Rattle.std.proofs.lemmas.List.Elements.{All-from_recursion}
use Rattle.vx_base.specs.declared.ptype.PType.{PType}
use Rattle.vx_base.specs.declared.dtype.Nullability.{Nullability}
use Rattle.vx_base.specs.declared.dtype.Nullability.TheVariants.{NonNullable, Nullable}
use Rattle.vx_base.specs.Integers.{lies_in}
use Rattle.vx_base.specs.PlainScalar.{fits}
use Rattle.vx_base.specs.PlainType.{PlainType, allows_null, is_integer, is_leaf}
use Rattle.vx_base.specs.PlainType as types
use Rattle.vx_base.specs.PlainValue.{PlainValue, null, int, cell}
use Rattle.vx_base.proofs.IntegerLemmas.{by_integer, by_cells, integer-is_leaf, integers-few, integers-lie_in}
use Rattle.vx_model.specs.Column.{Column, IsColumn, column, column_of}
use Rattle.vx_model.specs.Refusals.{dict_refusal}
use Rattle.vx_model.specs.Rows.{rows, looked_up}
use Rattle.vx_model.specs.Tree.{Tree, dict}
use Rattle.vx_model.specs.TreeType.{tree_type, dict_type}
use Rattle.vx_model.specs.WellFormed.{WellFormed, is_place}
use Rattle.vx_model.proofs.DictLemmas.{dict_accepted}
use Rattle.vx_scheme.specs.Asked.{most_rows}
use Rattle.vx_stats.specs.Distinct.{times, with_number, distinct}
use Rattle.vx_scheme.specs.Lawful.{IsPart}
use Rattle.vx_stats.specs.Stats.{valid_wholes, distinct_values, distinct_count}
use Rattle.vx_stats.proofs.DistinctLemmas.{times-next, distinct-times}
use Rattle.vx_stats.proofs.TallyLemmas.{same-eq}
use Rattle.vx_schemes_common.specs.Dictionaries.{code_type}
use Rattle.vx_schemes_common.specs.DictionaryLaws.{code_type-holds}
use Rattle.vx_schemes_common.specs.StandsFor.{StandsFor}
use Rattle.vx_schemes.specs.Dictionary.Tree.{code_of, code_in, dictionary_values, dictionary_codes}
use Rattle.vx_schemes.specs.Dictionary.Places.{place-holds}

-- ---- the values of the rows are among the distinct ones

-- each number of the second list occurs in the first
abbrev pub Holds : List ℤ → List ℤ → Type 0
Holds numbers zs = (z : ℤ) → 0 < times zs z → 0 < times numbers z

first-times : (z : ℤ) (zs : List ℤ) → 0 < times (z ∷ zs) z
first-times z zs = let one : cond {A = ℕ} (int_eq z z) 1 0 ≡ 1 = ap {B = ℕ} (λ b. cond b 1 0) (same-eq z) in omega (arith, times-next z z zs)

later-times : (x z : ℤ) (zs : List ℤ) → 0 < times zs x → 0 < times (z ∷ zs) x
later-times x z zs h = omega (arith, times-next x z zs)

rest-held : (numbers : List ℤ) (z : ℤ) (zs : List ℤ) → Holds numbers (z ∷ zs) → Holds numbers zs
rest-held numbers z zs held x h = held x (later-times x z zs h)

pub distinct-holds : (zs : List ℤ) → Holds (distinct zs) zs
distinct-holds zs z h = omega (arith, distinct-times z zs, some (times zs z) h)
  where
    some : (n : ℕ) → 0 < n → cond {A = ℕ} (n == 0) 0 1 ≡ 1
    some n h = grind (arith, nat_tests)

-- ---- codes

module _ (numbers : List ℤ) where
  code-back : (z : ℤ) → 0 < times numbers z → looked_up (map int numbers) (code_in numbers (int z)) ≡ int z
  code-back z h = let held = place-holds numbers z h in get_or-map int numbers (code_of numbers z) z null held.within ∙ ap int (held.is z)

  -- the codes give the rows back
  codes-back : (os : List (Option ℤ)) → Holds numbers (valid_wholes (map cell os)) → map (looked_up (map int numbers)) (map (code_in numbers) (map cell os)) ≡ map cell os
  codes-back [] held = refl
  codes-back (None ∷ os) held = ap (λ ws. null ∷ ws) (codes-back os held)
  codes-back (Some z ∷ os) held =
      let others = valid_wholes (map cell os) in
      let here = code-back z (held z (first-times z others)) in
      let rest = codes-back os (rest-held numbers z others held) in
      λ i. here i ∷ rest i

  codes-placed : (os : List (Option ℤ)) → Holds numbers (valid_wholes (map cell os)) → list_all (is_place (length numbers)) (map (code_in numbers) (map cell os)) ≡ true
  codes-placed [] held = refl
  codes-placed (None ∷ os) held = codes-placed os held
  codes-placed (Some z ∷ os) held =
      let others = valid_wholes (map cell os) in
      and_from _ _ (lt-ltb _ _ (place-holds numbers z (held z (first-times z others))).within) (codes-placed os (rest-held numbers z others held))

  -- in a type that holds the places
  codes-fit : (p q : PType) (n : Nullability) (os : List (Option ℤ)) → ((k : ℕ) → k < length numbers → lies_in q (pos k) ≡ true) → Holds numbers (valid_wholes (map cell os)) → list_all (fits (types.primitive p n)) (map cell os) ≡ true
      → list_all (fits (types.primitive q n)) (map (code_in numbers) (map cell os)) ≡ true
  codes-fit p q n [] wide held h = refl
  codes-fit p q n (None ∷ os) wide held h = let b = and_parts (allows_null n) _ h in and_from _ _ b.0 (codes-fit p q n os wide held b.1)
  codes-fit p q n (Some z ∷ os) wide held h =
      let b = and_parts (lies_in p z) _ h in
      let others = valid_wholes (map cell os) in
      and_from _ _ (wide (code_of numbers z) (place-holds numbers z (held z (first-times z others))).within) (codes-fit p q n os wide (rest-held numbers z others held) b.1)

-- for a column of an integer type whose values are among the numbers
module _ (c : Column) (j : is_integer c.dtype ≡ true) (h : IsColumn c) (numbers : List ℤ) (held : Holds numbers (valid_wholes c.values)) where
  of_integers : (P : List PlainValue → Type 0) → ((os : List (Option ℤ)) → Holds numbers (valid_wholes (map cell os)) → P (map cell os)) → P c.values
  of_integers P each =
      by_integer (λ t. list_all (fits t) c.values ≡ true → P c.values) (λ p n k. by_cells p n (λ vs. Holds numbers (valid_wholes vs) → P vs) (λ os f. each os) c.values k held) c.dtype j h

  rows-back : map (looked_up (map int numbers)) (map (code_in numbers) c.values) ≡ c.values
  rows-back = of_integers (λ vs. map (looked_up (map int numbers)) (map (code_in numbers) vs) ≡ vs) (codes-back numbers)

  rows-placed : list_all (is_place (length numbers)) (map (code_in numbers) c.values) ≡ true
  rows-placed = of_integers (λ vs. list_all (is_place (length numbers)) (map (code_in numbers) vs) ≡ true) (codes-placed numbers)

-- ---- the distinct values are as few as the rows, and of their type

with-all : (P : ℤ → Bool) (z : ℤ) (ws : List ℤ) → P z ≡ true → list_all P ws ≡ true → list_all P (with_number z ws) ≡ true
with-all P z [] here h = and_from _ _ here refl
with-all P z (w ∷ ws) here h =
    let b = and_parts (P w) (list_all P ws) h in
    cond_both (int_lt z w) (z ∷ w ∷ ws) (cond (int_eq z w) (w ∷ ws) (w ∷ with_number z ws)) (λ l. list_all P l ≡ true) (λ _. and_from _ _ here h)
    (λ _. cond_both (int_eq z w) (w ∷ ws) (w ∷ with_number z ws) (λ l. list_all P l ≡ true) (λ _. h) (λ _. and_from _ _ b.0 (with-all P z ws here b.1)))

distinct-all : (P : ℤ → Bool) (zs : List ℤ) → list_all P zs ≡ true → list_all P (distinct zs) ≡ true
distinct-all P [] h = refl
distinct-all P (z ∷ zs) h = let b = and_parts (P z) (list_all P zs) h in with-all P z (distinct zs) b.0 (distinct-all P zs b.1)

with-few : (z : ℤ) (ws : List ℤ) → length (with_number z ws) ≤ suc (length ws)
with-few z [] = omega arith
with-few z (w ∷ ws) =
    cond_both (int_lt z w) (z ∷ w ∷ ws) (cond (int_eq z w) (w ∷ ws) (w ∷ with_number z ws)) (λ l. length l ≤ suc (suc (length ws))) (λ _. omega arith)
    (λ _. cond_both (int_eq z w) (w ∷ ws) (w ∷ with_number z ws) (λ l. length l ≤ suc (suc (length ws))) (λ _. omega arith) (λ _. omega (arith, with-few z ws)))

distinct-few : (zs : List ℤ) → length (distinct zs) ≤ length zs
distinct-few [] = omega arith
distinct-few (z ∷ zs) = omega (arith, with-few z (distinct zs), distinct-few zs)

pub distinct_count-few : (vs : List PlainValue) → distinct_count vs ≤ length vs
distinct_count-few vs = omega (arith, distinct-few (valid_wholes vs), integers-few vs)

ints-fit : (p : PType) (n : Nullability) (zs : List ℤ) → list_all (lies_in p) zs ≡ true → list_all (fits (types.primitive p n)) (map int zs) ≡ true
ints-fit p n [] h = refl
ints-fit p n (z ∷ zs) h = let b = and_parts (lies_in p z) _ h in and_from _ _ b.0 (ints-fit p n zs b.1)

-- ---- parts

pub values-fit : (c : Column) → is_integer c.dtype ≡ true → IsColumn c → IsColumn (dictionary_values c)
values-fit c j h =
    by_integer (λ t. list_all (fits t) c.values ≡ true → list_all (fits t) (map int (distinct_values c.values)) ≡ true)
    (λ p n k. ints-fit p n (distinct_values c.values) (distinct-all (lies_in p) (valid_wholes c.values) (integers-lie_in p n c.values k))) c.dtype j h

pub codes-column : (c : Column) → is_integer c.dtype ≡ true → IsColumn c → distinct_count c.values ≤ 2 ^ 32 → IsColumn (dictionary_codes c)
codes-column c j h few = by_integer (λ t. list_all (fits t) c.values ≡ true → IsColumn (dictionary_codes (column t c.values))) of_type c.dtype j h
  where
    wide : (i : ℕ) → i < distinct_count c.values → lies_in (code_type (distinct_count c.values)) (pos i) ≡ true
    wide i l = code_type-holds (distinct_count c.values) i few l

    of_type : (p : PType) (n : Nullability) → list_all (fits (types.primitive p n)) c.values ≡ true → IsColumn (dictionary_codes (column (types.primitive p n) c.values))
    of_type p n k =
        let q = code_type (distinct_count c.values) in
        let ds = distinct_values c.values in
        by_cells p n (λ vs. Holds ds (valid_wholes vs) → list_all (fits (types.primitive q n)) (map (code_in ds) vs) ≡ true) (λ os f held. codes-fit ds p q n os wide held f) c.values k (distinct-holds (valid_wholes c.values))

pub dictionary-small : (c : Column) → is_integer c.dtype ≡ true → IsColumn c → length c.values ≤ most_rows → All (IsPart c) (dictionary_values c ∷ dictionary_codes c ∷ [])
dictionary-small c j h few =
    let values : IsPart c (dictionary_values c) = record { column = values-fit c j h; leaf = integer-is_leaf c.dtype j; rows = omega (arith, length-map (distinct_values c.values) int, distinct_count-few c.values) } in
    let codes : IsPart c (dictionary_codes c) = record { column = codes-column c j h (omega (arith, distinct_count-few c.values)); leaf = refl; rows = omega (arith, length-map c.values (code_in (distinct_values c.values))) } in
    All-from_recursion (IsPart c) (dictionary_values c ∷ dictionary_codes c ∷ []) (values, (codes, tt))

-- ---- the joined tree

same-type : (t : PlainType) (q : PType) → is_integer t ≡ true → dict_type (types.primitive q (types.nullability_of t)) t ≡ t
same-type t q = by_integer (λ s. dict_type (types.primitive q (types.nullability_of s)) s ≡ s) of_type t
  where
    of_type : (p : PType) (n : Nullability) → dict_type (types.primitive q n) (types.primitive p n) ≡ types.primitive p n
    of_type p NonNullable = refl
    of_type p Nullable = refl

pub dictionary-admitted : (c : Column) (codes values : Tree) → is_integer c.dtype ≡ true → IsColumn c → column_of values ≡ dictionary_values c → column_of codes ≡ dictionary_codes c → dict_refusal codes values ≡ None
dictionary-admitted c codes values j h v k =
    let ds = distinct_values c.values in
    let value_rows : rows values ≡ map int ds = ap (λ d. d.values) v in
    let code_rows : rows codes ≡ map (code_in ds) c.values = ap (λ d. d.values) k in
    let long : length (rows values) ≡ length ds = ap length value_rows ∙ length-map ds int in
    let integers : is_integer (tree_type codes) ≡ true = ap (λ d. is_integer d.dtype) k in
    let leaf : is_leaf (tree_type values) ≡ true = ap (λ d. is_leaf d.dtype) v ∙ integer-is_leaf c.dtype j in
    let placed : list_all (is_place (length (rows values))) (rows codes) ≡ true =
    (λ i. list_all (is_place (long i)) (code_rows i)) ∙ rows-placed c j h ds (distinct-holds (valid_wholes c.values))
    in
    rw (integers, leaf, placed) refl

-- the codes over the values have the column's type and rows
pub dictionary-column : (c : Column) (codes values : Tree) → is_integer c.dtype ≡ true → IsColumn c → column_of values ≡ dictionary_values c → column_of codes ≡ dictionary_codes c → column_of (dict codes values) ≡ c
dictionary-column c codes values j h v k =
    let ds = distinct_values c.values in
    let value_type : tree_type values ≡ c.dtype = ap (λ d. d.dtype) v in
    let value_rows : rows values ≡ map int ds = ap (λ d. d.values) v in
    let code_type_is = ap (λ d. d.dtype) k in
    let code_rows : rows codes ≡ map (code_in ds) c.values = ap (λ d. d.values) k in
    let typed : tree_type (dict codes values) ≡ c.dtype = (λ i. dict_type (code_type_is i) (value_type i)) ∙ same-type c.dtype (code_type (distinct_count c.values)) j in
    let back : rows (dict codes values) ≡ c.values = (λ i. map (looked_up (value_rows i)) (code_rows i)) ∙ rows-back c j h ds (distinct-holds (valid_wholes c.values)) in
    λ i. column (typed i) (back i)

pub dictionary-stands : (c : Column) (codes values : Tree) → is_integer c.dtype ≡ true → IsColumn c → WellFormed codes → WellFormed values → column_of values ≡ dictionary_values c → column_of codes ≡ dictionary_codes c → StandsFor (dict codes values) c
dictionary-stands c codes values j h wc wv v k = (dict_accepted codes values (dictionary-admitted c codes values j h v k) wc wv, dictionary-column c codes values j h v k)
