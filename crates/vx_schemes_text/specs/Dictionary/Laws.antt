-- The codes of a column's rows are places of its distinct values, and give the rows back.
use Rattle.std.proofs.Common.{◌≡◌, ◌<◌, ◌≤◌, ◌∙◌, ℕ, pos, true, not, List, [], ◌∷◌, length, map, None, refl, sym, ap, subst, arith}
use Rattle.std.specs.Prelude.{◌||◌, All}
use Rattle.std.specs.List.{list_all}
use Rattle.std.proofs.lemmas.Bool.{and_from, and_parts, lt-ltb}
use Rattle.std.proofs.lemmas.List.{length-map}
use Rattle.std.proofs.lemmas.List.Elements.{All-from_recursion, recursion_from_All}
use Rattle.vx_base.specs.declared.ptype.PType.{PType}
use Rattle.vx_base.specs.declared.dtype.Nullability.TheVariants.{NonNullable, Nullable}
use Rattle.vx_base.specs.Integers.{lies_in}
use Rattle.vx_base.specs.PlainScalar.{fits}
use Rattle.vx_base.specs.PlainType.{PlainType, is_bytes, is_flat, is_integer, is_leaf, nullability_of}
use Rattle.vx_base.specs.PlainType as types
use Rattle.vx_base.specs.PlainValue.{PlainValue, null, truth, int, bytes, items, is_null}
use Rattle.vx_model.specs.Column.{Column, IsColumn, column, column_of}
use Rattle.vx_model.specs.Refusals.{dict_refusal}
use Rattle.vx_model.specs.Rows.{rows, looked_up}
use Rattle.vx_model.specs.Tree.{Tree, dict}
use Rattle.vx_model.specs.TreeType.{tree_type, dict_type}
use Rattle.vx_model.specs.WellFormed.{WellFormed, is_place}
use Rattle.vx_model.proofs.DictLemmas.{dict_accepted}
use Rattle.vx_model.proofs.FlatTypeLemmas.{bytes-flat}
use Rattle.vx_scheme.specs.Asked.{most_rows}
use Rattle.vx_scheme.specs.Lawful.{IsPart}
use Rattle.vx_schemes_common.specs.Dictionaries.{code_type, dictionary_or_plain}
use Rattle.vx_schemes_common.specs.DictionaryLaws.{code_type-holds}
use Rattle.vx_schemes_common.specs.Pairs.{pair_of}
use Rattle.vx_schemes_common.specs.StandsFor.{StandsFor}
use Rattle.vx_schemes_text.specs.Dictionary.Tree.{appearing, code_in, dictionary_values, dictionary_codes}
use Rattle.vx_schemes_text.specs.Dictionary.Distinct.{IsHeldAt, all-appearing, all-filtered, all_among, among, few-appearing, place-holds, rows-among, with_values}

-- ---- codes

-- the code of a row is null, or the place of its value
pub data IsCoded (ds : List PlainValue) (v : PlainValue) : Type 0 where
  no_code : v ≡ null → code_in ds v ≡ null → IsCoded ds v
  code : (k : ℕ) → code_in ds v ≡ int (pos k) → IsHeldAt ds v k → IsCoded ds v

pub code-is : (ds : List PlainValue) (v : PlainValue) → (is_null v || among ds v) ≡ true → IsCoded ds v
code-is ds null h = no_code refl refl
code-is ds (truth b) h = code _ refl (place-holds (truth b) ds h)
code-is ds (int z) h = code _ refl (place-holds (int z) ds h)
code-is ds (bytes bs) h = code _ refl (place-holds (bytes bs) ds h)
code-is ds (items vs) h = code _ refl (place-holds (items vs) ds h)

module _ (ds : List PlainValue) where
  code-back : (v : PlainValue) → IsCoded ds v → looked_up ds (code_in ds v) ≡ v
  code-back v (no_code e c) = ap (looked_up ds) c ∙ sym e
  code-back v (code k c held) = ap (looked_up ds) c ∙ held.is

  codes-back : (vs : List PlainValue) → all_among ds vs ≡ true → map (looked_up ds) (map (code_in ds) vs) ≡ vs
  codes-back [] h = refl
  codes-back (v ∷ vs) h =
      let b = and_parts (is_null v || among ds v) (all_among ds vs) h in
      let here = code-back v (code-is ds v b.0) in
      let rest = codes-back vs b.1 in
      λ i. here i ∷ rest i

  code-placed : (v : PlainValue) → IsCoded ds v → is_place (length ds) (code_in ds v) ≡ true
  code-placed v (no_code e c) = ap (is_place (length ds)) c
  code-placed v (code k c held) = ap (is_place (length ds)) c ∙ lt-ltb _ _ held.within

  codes-placed : (vs : List PlainValue) → all_among ds vs ≡ true → list_all (is_place (length ds)) (map (code_in ds) vs) ≡ true
  codes-placed [] h = refl
  codes-placed (v ∷ vs) h =
      let b = and_parts (is_null v || among ds v) (all_among ds vs) h in
      and_from _ _ (code-placed v (code-is ds v b.0)) (codes-placed vs b.1)

  -- in a type that holds the places
  code-fits : (t : PlainType) (q : PType) (v : PlainValue) → ((k : ℕ) → k < length ds → lies_in q (pos k) ≡ true) → fits t v ≡ true → IsCoded ds v → fits (types.primitive q (nullability_of t)) (code_in ds v) ≡ true
  code-fits t q v wide f (no_code e c) = ap (fits (types.primitive q (nullability_of t))) c ∙ subst (λ w. fits t w ≡ true) e f
  code-fits t q v wide f (code k c held) = ap (fits (types.primitive q (nullability_of t))) c ∙ wide k held.within

  codes-fit : (t : PlainType) (q : PType) (vs : List PlainValue) → ((k : ℕ) → k < length ds → lies_in q (pos k) ≡ true) → list_all (fits t) vs ≡ true → all_among ds vs ≡ true
      → list_all (fits (types.primitive q (nullability_of t))) (map (code_in ds) vs) ≡ true
  codes-fit t q [] wide f h = refl
  codes-fit t q (v ∷ vs) wide f h =
      let a = and_parts (fits t v) (list_all (fits t) vs) f in
      let b = and_parts (is_null v || among ds v) (all_among ds vs) h in
      and_from _ _ (code-fits t q v wide a.0 (code-is ds v b.0)) (codes-fit t q vs wide a.1 b.1)

-- ---- parts

values-column : (c : Column) → IsColumn c → IsColumn (dictionary_values c)
values-column c h = all-appearing (fits c.dtype) (with_values c.values) (all-filtered (fits c.dtype) (λ v. not (is_null v)) c.values h)

codes-column : (c : Column) → IsColumn c → length c.values ≤ most_rows → IsColumn (dictionary_codes c)
codes-column c h few =
    let ds = appearing c.values in
    codes-fit ds c.dtype (code_type (length ds)) c.values (λ k l. code_type-holds (length ds) k (omega (arith, few, few-appearing c.values)) l) h (rows-among c.values)

bytes-leaf : (t : PlainType) → is_bytes t ≡ true → is_leaf t ≡ true
bytes-leaf (types.utf8 n) h = refl
bytes-leaf (types.binary n) h = refl
bytes-leaf t h = absurd cc

pub dictionary-small : (c : Column) → is_bytes c.dtype ≡ true → IsColumn c → length c.values ≤ most_rows → All (IsPart c) (dictionary_values c ∷ dictionary_codes c ∷ [])
dictionary-small c typed h few =
    let values : IsPart c (dictionary_values c) = record { column = values-column c h; leaf = bytes-leaf c.dtype typed; rows = omega (arith, few-appearing c.values) } in
    let codes : IsPart c (dictionary_codes c) = record { column = codes-column c h few; leaf = refl; rows = omega (arith, length-map c.values (code_in (appearing c.values))) } in
    All-from_recursion (IsPart c) (dictionary_values c ∷ dictionary_codes c ∷ []) (values, (codes, tt))

-- ---- the joined tree

same-type : (t : PlainType) (q : PType) → is_bytes t ≡ true → dict_type (types.primitive q (nullability_of t)) t ≡ t
same-type (types.utf8 NonNullable) q h = refl
same-type (types.utf8 Nullable) q h = refl
same-type (types.binary NonNullable) q h = refl
same-type (types.binary Nullable) q h = refl
same-type t q h = absurd cc

module _ (c : Column) (codes values : Tree) (typed : is_bytes c.dtype ≡ true) (v : column_of values ≡ dictionary_values c) (k : column_of codes ≡ dictionary_codes c) where
  value_rows : rows values ≡ appearing c.values
  value_rows = ap (λ d. d.values) v

  code_rows : rows codes ≡ map (code_in (appearing c.values)) c.values
  code_rows = ap (λ d. d.values) k

  pub dictionary-admitted : dict_refusal codes values ≡ None
  dictionary-admitted =
      let integers : is_integer (tree_type codes) ≡ true = ap (λ d. is_integer d.dtype) k in
      let flat : is_flat (tree_type values) ≡ true = ap (λ d. is_flat d.dtype) v ∙ bytes-flat c.dtype typed in
      let placed : list_all (is_place (length (rows values))) (rows codes) ≡ true =
      (λ i. list_all (is_place (length (value_rows i))) (code_rows i)) ∙ codes-placed (appearing c.values) c.values (rows-among c.values)
      in
      rw (integers, flat, placed) refl

  dictionary-column : column_of (dict codes values) ≡ c
  dictionary-column =
      let typed_so : tree_type (dict codes values) ≡ c.dtype = (λ i. dict_type ((k i).dtype) ((v i).dtype)) ∙ same-type c.dtype (code_type (length (appearing c.values))) typed in
      let back : rows (dict codes values) ≡ c.values = (λ i. map (looked_up (value_rows i)) (code_rows i)) ∙ codes-back (appearing c.values) c.values (rows-among c.values) in
      λ i. column (typed_so i) (back i)

  dictionary-stands : WellFormed codes → WellFormed values → StandsFor (dict codes values) c
  dictionary-stands wc wv = (dict_accepted codes values dictionary-admitted wc wv, dictionary-column)

pub joined : (c : Column) (trees : List Tree) → is_bytes c.dtype ≡ true → All WellFormed trees → map column_of trees ≡ dictionary_values c ∷ dictionary_codes c ∷ [] → StandsFor (dictionary_or_plain c (pair_of trees)) c
joined c [] typed well fit = absurd cc
joined c (values ∷ []) typed well fit = absurd cc
joined c (values ∷ coded ∷ []) typed well fit =
    let each = recursion_from_All WellFormed (values ∷ coded ∷ []) well in
    let v : column_of values ≡ dictionary_values c = cc in
    let k : column_of coded ≡ dictionary_codes c = cc in
    dictionary-stands c coded values typed v k each.1.0 each.0
joined c (values ∷ coded ∷ tree ∷ trees) typed well fit = absurd cc
