-- The codes of a column's rows as a plain tree, and that a column with a value has distinct ones.
use Rattle.std.proofs.Common.{◌≡◌, ◌<◌, ◌≤◌, ◌∙◌, ℕ, ℤ, pos, true, cond, List, [], ◌∷◌, length, map, Some, None, refl, sym, ap, subst, arith}
use Rattle.std.specs.Prelude.{◌||◌, filter, nat_lt, not}
use Rattle.std.specs.List.{list_all, list_any}
use Rattle.std.proofs.lemmas.Bool.{and_from, and_parts, ltb-true, lt-ltb}
use Rattle.std.proofs.lemmas.List.{length-map}
use Rattle.std.proofs.lemmas.List.Sums.{length-filter}
use Rattle.vx_base.specs.declared.ptype.PType.{PType}
use Rattle.vx_base.specs.declared.dtype.Nullability.{Nullability}
use Rattle.vx_base.specs.Integers.{lies_in}
use Rattle.vx_base.specs.PlainType.{nullability_of}
use Rattle.vx_base.specs.PlainValue.{PlainValue, null, truth, int, bytes, items, is_null, whole_or_zero}
use Rattle.vx_model.specs.Column.{Column, IsColumn}
use Rattle.vx_model.specs.Plain.{plain, validity, valid_bits}
use Rattle.vx_model.specs.Refusals.{kept, primitive_refusal}
use Rattle.vx_model.specs.Tree.{Validity, primitive}
use Rattle.vx_model.proofs.DecodeLemmas.{items_admitted, kept-validity}
use Rattle.vx_stats.specs.Rows.{valid_count}
use Rattle.vx_schemes_common.specs.Dictionaries.{code_type}
use Rattle.vx_schemes_common.specs.DictionaryLaws.{code_type-holds}
use Rattle.vx_schemes_text.specs.Dictionary.Codebook.{AreCodesOf}
use Rattle.vx_schemes_text.specs.Dictionary.Distinct.{all_among, among, rows-among}
use Rattle.vx_schemes_text.specs.Dictionary.Laws.{IsCoded, no_code, code, code-is}
use Rattle.vx_schemes_text.specs.Dictionary.Tree.{appearing, by_appearance, code_in, dictionary_codes}

-- ---- a column with a value has a distinct one

pub some-appearing : (vs : List PlainValue) → 0 < valid_count vs → 0 < length (appearing vs)
some-appearing vs some = by_valid (filter (λ v. not (is_null v)) vs) (length-filter (λ v. not (is_null v)) vs)
  where
    by_valid : (ws : List PlainValue) → length ws ≡ valid_count vs → 0 < length (by_appearance ws)
    by_valid [] e = absurd (omega (arith, e, some))
    by_valid (w ∷ ws) e = omega arith

-- ---- codes are in bounds

code-within : (ds : List PlainValue) (v : PlainValue) (k : ℕ) → 0 < length ds → IsCoded ds v → pos k ≡ whole_or_zero (code_in ds v) → nat_lt k (length ds) ≡ true
code-within ds v k some (no_code e c) h = let none : pos k ≡ pos 0 = h ∙ ap whole_or_zero c in let zero : k ≡ 0 = cc in lt-ltb k (length ds) (omega (arith, zero, some))
code-within ds v k some (code j c held) h = let here : pos k ≡ pos j = h ∙ ap whole_or_zero c in let same : k ≡ j = cc in lt-ltb k (length ds) (omega (arith, same, held.within))

codes-within : (ds values : List PlainValue) (found : List ℕ) → 0 < length ds → all_among ds values ≡ true → map pos found ≡ map whole_or_zero (map (code_in ds) values) → list_all (λ k. nat_lt k (length ds)) found ≡ true
codes-within ds values [] some h e = refl
codes-within ds [] (k ∷ found) some h e = absurd cc
codes-within ds (v ∷ values) (k ∷ found) some h e =
    let b = and_parts (is_null v || among ds v) (all_among ds values) h in
    let first : pos k ≡ whole_or_zero (code_in ds v) = cc in
    let rest : map pos found ≡ map whole_or_zero (map (code_in ds) values) = cc in
    and_from _ _ (code-within ds v k some (code-is ds v b.0) first) (codes-within ds values found some b.1 rest)

pub codes-places : (values : List PlainValue) (found : List ℕ) (count : ℕ) → count ≡ length (appearing values) → 0 < count → AreCodesOf values found → list_all (λ k. nat_lt k count) found ≡ true
codes-places values found count e some are =
    subst (λ n. list_all (λ k. nat_lt k n) found ≡ true) (sym e) (codes-within (appearing values) values found (subst (λ n. 0 < n) e some) (rows-among values) are)

-- so their type holds them
pub codes-held : (count : ℕ) (found : List ℕ) → count ≤ 4_294_967_296 → list_all (λ k. nat_lt k count) found ≡ true → list_all (lies_in (code_type count)) (map pos found) ≡ true
codes-held count [] few h = refl
codes-held count (k ∷ found) few h =
    let b = and_parts (nat_lt k count) (list_all (λ j. nat_lt j count) found) h in
    and_from _ _ (code_type-holds count k few (ltb-true k count b.0)) (codes-held count found few b.1)

-- ---- a code is null where its row is

is_null-code : (ds : List PlainValue) (v : PlainValue) → is_null (code_in ds v) ≡ is_null v
is_null-code ds null = refl
is_null-code ds (truth b) = refl
is_null-code ds (int z) = refl
is_null-code ds (bytes bs) = refl
is_null-code ds (items vs) = refl

any-codes : (ds values : List PlainValue) → list_any is_null (map (code_in ds) values) ≡ list_any is_null values
any-codes ds [] = refl
any-codes ds (v ∷ values) = let rest = any-codes ds values in λ i. is_null-code ds v i || rest i

bits-codes : (ds values : List PlainValue) → valid_bits (map (code_in ds) values) ≡ valid_bits values
bits-codes ds [] = refl
bits-codes ds (v ∷ values) = let rest = bits-codes ds values in λ i. not (is_null-code ds v i) ∷ rest i

validity-codes : (ds values : List PlainValue) → validity (map (code_in ds) values) ≡ validity values
validity-codes ds values = λ i. cond (any-codes ds values i) (Some (bits-codes ds values i)) None

-- ---- the plain tree

module _ (c : Column) (found : List ℕ) (xs : List ℤ) (valid : Validity) (count : ℕ) (are : AreCodesOf c.values found) (wholes : xs ≡ map pos found) (masked : valid ≡ validity c.values) where
  pub codes-admitted : (n : Nullability) → n ≡ nullability_of c.dtype → IsColumn c → primitive_refusal (length xs) valid n ≡ None
  codes-admitted n typed h =
      let codes = map (code_in (appearing c.values)) c.values in
      let long : length xs ≡ length codes = ap length wholes ∙ ap length are ∙ length-map codes whole_or_zero in
      (λ i. primitive_refusal (long i) (masked i) (typed i)) ∙ items_admitted (code_in (appearing c.values)) c.dtype c.values h

  pub codes-plain : (n : Nullability) (p : PType) → n ≡ nullability_of c.dtype → p ≡ code_type count → count ≡ length (appearing c.values) → primitive p xs (kept valid) n ≡ plain (dictionary_codes c)
  codes-plain n p typed q e =
      let own : kept valid ≡ validity (map (code_in (appearing c.values)) c.values) = ap kept masked ∙ kept-validity c.values ∙ sym (validity-codes (appearing c.values) c.values) in
      λ i. primitive ((q ∙ ap code_type e) i) ((wholes ∙ are) i) (own i) (typed i)
