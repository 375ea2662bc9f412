-- Rows chosen of constants and of dictionaries.
use Rattle.std.proofs.Common.{◌≡◌, ◌≤◌, ◌-◌, ◌+◌, ℕ, suc, pos, Bool, true, false, cond, List, [], ◌∷◌, length, map, take, refl, sym, ap, arith, ◌∙◌}
use Rattle.std.specs.Prelude.{replicate, nat_le}
use Rattle.std.specs.List.{list_all}
use Rattle.std.proofs.lemmas.Bool.{and_from, and_parts, leb-true, ltb-true}
use Rattle.std.proofs.lemmas.List.Recursion.{is_count_by}
use Rattle.std.proofs.lemmas.List.{drop-replicate, get_or-map, length-map, length-replicate, take-replicate}
use Rattle.vx_base.specs.declared.dtype.Nullability.{Nullability}
use Rattle.vx_base.specs.declared.dtype.Nullability.TheVariants.{NonNullable, Nullable}
use Rattle.vx_base.specs.Masks.{is_part, rows_between, true_count}
use Rattle.vx_base.specs.PlainScalar.{PlainScalar}
use Rattle.vx_base.specs.PlainType.{PlainType, is_flat, is_integer, nullability_of, or_nullable, with_nullability}
use Rattle.vx_base.specs.PlainType as types
use Rattle.vx_base.specs.PlainValue.{PlainValue, null, int}
use Rattle.vx_model.specs.Column.{Column, column, column_of}
use Rattle.vx_model.specs.Refusals.{dict_refusal}
use Rattle.vx_model.specs.Rows.{rows, looked_up}
use Rattle.vx_model.specs.Tree.{Tree, constant, dict}
use Rattle.vx_model.specs.TreeType.{tree_type, dict_type}
use Rattle.vx_model.specs.WellFormed.{WellFormed, is_place}
use Rattle.vx_model.proofs.SequenceLemmas.{length-sequence}
use Rattle.vx_model.proofs.FrameOfReferenceLemmas.{row_passes}
use Rattle.vx_rules.specs.Selections.{filtered, kept_items, sliced, taken}
use Rattle.vx_selections.proofs.KeptItems.{all-kept, map-kept}
use Rattle.vx_selections.proofs.Leaves.{Stands}
use Rattle.vx_selections.proofs.Parts.{all-between, map-between}
use Rattle.vx_selections.proofs.Validities.{pass}

-- ---- constants

between-replicate : {A : Type 0} (len start end : ℕ) (x : A) → is_part len start end ≡ true → rows_between (replicate len x) start end ≡ replicate (end - start) x
between-replicate len start end x h =
    let b = and_parts (nat_le start end) (nat_le end len) h in
    let first = leb-true start end b.0 in
    let last = leb-true end len b.1 in
    let fits : end - start ≤ len - start = omega (arith, first, last) in
    ap (take (end - start)) (drop-replicate start len x) ∙ take-replicate (end - start) (len - start) x fits

abbrev trues : List Bool → ℕ
trues [] = 0
trues (true ∷ bits) = suc (trues bits)
trues (false ∷ bits) = trues bits

trues-count : (bits : List Bool) → trues bits ≡ true_count bits
trues-count = is_count_by trues (λ b. b) refl step
  where
    step : (b : Bool) (bits : List Bool) → trues (b ∷ bits) ≡ cond b (1 + trues bits) (trues bits)
    step true bits = omega arith
    step false bits = refl

kept-trues : {A : Type 0} (keep : List Bool) (x : A) → kept_items keep (replicate (length keep) x) ≡ replicate (trues keep) x
kept-trues [] x = refl
kept-trues (true ∷ keep) x = ap (λ xs. x ∷ xs) (kept-trues keep x)
kept-trues (false ∷ keep) x = kept-trues keep x

kept-replicate : {A : Type 0} (keep : List Bool) (x : A) → kept_items keep (replicate (length keep) x) ≡ replicate (true_count keep) x
kept-replicate keep x = kept-trues keep x ∙ ap (λ n. replicate n x) (trues-count keep)

pub constant_sliced : (s : PlainScalar) (len start end : ℕ) → is_part len start end ≡ true → column_of (constant s (end - start)) ≡ sliced (column_of (constant s len)) start end
constant_sliced s len start end h = ap (column s.dtype) (sym (between-replicate len start end s.value h))

pub constant_filtered : (s : PlainScalar) (len : ℕ) (keep : List Bool) → length keep ≡ len → column_of (constant s (true_count keep)) ≡ filtered (column_of (constant s len)) keep
constant_filtered s len keep e = ap (column s.dtype) (sym (kept-replicate keep s.value)) ∙ ap (λ n. filtered (column_of (constant s n)) keep) e

-- ---- codes chosen from a dictionary's

module _ (codes values chosen : Tree) (w : WellFormed (dict codes values)) where
  abbrev place : PlainValue → Bool
  place = is_place (length (rows values))

  pub dict_sliced : (start end : ℕ) → column_of chosen ≡ sliced (column_of codes) start end → Stands (sliced (column_of (dict codes values)) start end) (dict_refusal chosen values) (dict chosen values)
  dict_sliced start end e =
      let typed = ap (λ c. c.dtype) e in
      let own = ap (λ c. c.values) e in
      record {
        accepted = pass _ _ _ (and_from _ _ (ap is_integer typed ∙ w.2.codes_type) w.2.values_type) (pass _ _ _ (ap (list_all place) own ∙ all-between place start end (rows codes) w.2.places) refl);
        column = (λ i. column (dict_type (typed i) (tree_type values)) (map (looked_up (rows values)) (own i))) ∙ ap (column (dict_type (tree_type codes) (tree_type values))) (map-between (looked_up (rows values)) start end (rows codes));
      }

  pub dict_filtered : (keep : List Bool) → column_of chosen ≡ filtered (column_of codes) keep → Stands (filtered (column_of (dict codes values)) keep) (dict_refusal chosen values) (dict chosen values)
  dict_filtered keep e =
      let typed = ap (λ c. c.dtype) e in
      let own = ap (λ c. c.values) e in
      record {
        accepted = pass _ _ _ (and_from _ _ (ap is_integer typed ∙ w.2.codes_type) w.2.values_type) (pass _ _ _ (ap (list_all place) own ∙ all-kept place keep (rows codes) w.2.places) refl);
        column = (λ i. column (dict_type (typed i) (tree_type values)) (map (looked_up (rows values)) (own i))) ∙ ap (column (dict_type (tree_type codes) (tree_type values))) (map-kept (looked_up (rows values)) keep (rows codes));
      }

  -- an index into the codes looks up what its code looks up
  looked_twice : (z : PlainValue) → is_place (length (rows codes)) z ≡ true → looked_up (rows (dict codes values)) z ≡ looked_up (rows values) (looked_up (rows codes) z)
  looked_twice null h = refl
  looked_twice (int (pos k)) h = get_or-map (looked_up (rows values)) (rows codes) k null null (ltb-true k (length (rows codes)) h)
  looked_twice v h = absurd cc

  looked_all_twice : (zs : List PlainValue) → list_all (is_place (length (rows codes))) zs ≡ true → map (looked_up (rows (dict codes values))) zs ≡ map (looked_up (rows values)) (map (looked_up (rows codes)) zs)
  looked_all_twice [] h = refl
  looked_all_twice (z ∷ zs) h = let a = and_parts (is_place (length (rows codes)) z) (list_all (is_place (length (rows codes))) zs) h in λ i. looked_twice z a.0 i ∷ looked_all_twice zs a.1 i

  -- the codes at places are codes, or null
  place_at : (z : PlainValue) → is_place (length (rows codes)) z ≡ true → place (looked_up (rows codes) z) ≡ true
  place_at null h = refl
  place_at (int (pos k)) h = row_passes place (rows codes) k (ltb-true k (length (rows codes)) h) w.2.places
  place_at v h = absurd cc

  places_at : (zs : List PlainValue) → list_all (is_place (length (rows codes))) zs ≡ true → list_all place (map (looked_up (rows codes)) zs) ≡ true
  places_at [] h = refl
  places_at (z ∷ zs) h = let a = and_parts (is_place (length (rows codes)) z) (list_all (is_place (length (rows codes))) zs) h in and_from _ _ (place_at z a.0) (places_at zs a.1)

  -- the three types have one nullability in either order
  either : (a b c : Nullability) → or_nullable a (or_nullable b c) ≡ or_nullable (or_nullable a b) c
  either NonNullable b c = refl
  either Nullable b c = refl

  integer_type : (t : PlainType) (m : Nullability) → is_integer t ≡ true → (is_integer (with_nullability t m) ≡ true) × (nullability_of (with_nullability t m) ≡ m)
  integer_type (types.primitive p n) m h = (refl, refl)
  integer_type t m h = absurd cc

  flat_type : (t : PlainType) (m k : Nullability) → is_flat t ≡ true → (nullability_of (with_nullability t m) ≡ m) × (with_nullability (with_nullability t m) k ≡ with_nullability t k)
  flat_type (types.boolean n) m k h = (refl, refl)
  flat_type (types.primitive p n) m k h = (refl, refl)
  flat_type (types.utf8 n) m k h = (refl, refl)
  flat_type (types.binary n) m k h = (refl, refl)
  flat_type (types.timestamp t n) m k h = (refl, refl)
  flat_type t m k h = absurd cc

  pub dict_taken : (indices : Column) → list_all (is_place (length (rows codes))) indices.values ≡ true → column_of chosen ≡ taken (column_of codes) indices
      → Stands (taken (column_of (dict codes values)) indices) (dict_refusal chosen values) (dict chosen values)
  dict_taken indices places e =
      let v = tree_type values in
      let a = nullability_of v in
      let b = nullability_of (tree_type codes) in
      let c = nullability_of indices.dtype in
      let chosen_type = integer_type (tree_type codes) (or_nullable b c) w.2.codes_type in
      let typed = ap (λ c. c.dtype) e in
      let own = ap (λ c. c.values) e in
      let whole = ap is_integer typed ∙ chosen_type.0 in
      let outer = flat_type v (or_nullable a b) (or_nullable (or_nullable a b) c) w.2.values_type in
      let left : dict_type (tree_type chosen) v ≡ with_nullability v (or_nullable a (or_nullable b c)) = ap (λ n. with_nullability v (or_nullable a n)) (ap nullability_of typed ∙ chosen_type.1) in
      let right : dict_type indices.dtype (tree_type (dict codes values)) ≡ with_nullability v (or_nullable (or_nullable a b) c) = ap (λ n. with_nullability (with_nullability v (or_nullable a b)) (or_nullable n c)) outer.0 ∙ outer.1 in
      let dtypes = left ∙ ap (with_nullability v) (either a b c) ∙ sym right in
      let items = ap (map (looked_up (rows values))) own ∙ sym (looked_all_twice indices.values places) in
      record {
        accepted = pass _ _ _ (and_from _ _ whole w.2.values_type) (pass _ _ _ (ap (list_all place) own ∙ places_at indices.values places) refl);
        column = λ i. column (dtypes i) (items i);
      }

-- ---- an encoded column has as many rows as its own fields say

pub length-constant : (s : PlainScalar) (len : ℕ) → length (rows (constant s len)) ≡ len
length-constant s len = length-replicate len s.value

pub length-dict : (codes values : Tree) → length (rows (dict codes values)) ≡ length (rows codes)
length-dict codes values = length-map (rows codes) (looked_up (rows values))

pub ruleset lengths = (length-constant, length-dict, length-sequence)
