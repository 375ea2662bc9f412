-- What the row functions answer, by the rows that they read: of the type and rows of their rules, and each row of its type.
use Rattle.std.proofs.Common.{◌≡◌, ◌∙◌, ℕ, ℤ, Bool, true, false, List, [], ◌∷◌, map, length, refl, sym, ap, cond, Option, Some, None, unwrap_or}
use Rattle.std.specs.Prelude.{◌&&◌, ◌||◌, IfSome, replicate, Result, Ok, Err}
use Rattle.std.specs.Ordering.{int_cmp}
use Rattle.std.specs.List.{list_all}
use Rattle.std.proofs.lemmas.Bool.{and_parts}
use Rattle.vx_base.specs.declared.dtype.Nullability.{Nullability}
use Rattle.vx_base.specs.declared.dtype.Nullability.TheVariants.{NonNullable}
use Rattle.vx_base.specs.declared.error.VortexError.{VortexError}
use Rattle.vx_base.specs.Answers.{OrMemory}
use Rattle.vx_base.specs.PlainScalar.{fits}
use Rattle.vx_base.specs.PlainType.{PlainType, is_flat, nullability_of, or_nullable, same_base, stored_type, with_nullability}
use Rattle.vx_base.specs.PlainType as types
use Rattle.vx_base.specs.IntegersIn.{integer_in}
use Rattle.vx_base.specs.PlainValue.{PlainValue, bytes, int, is_null, items, null, truth}
use Rattle.vx_model.specs.Column.{Column, column, IsColumn}
use Rattle.vx_rules.specs.declared.options.BetweenOptions.{BetweenOptions}
use Rattle.vx_rules.specs.declared.options.CompareOperator.{CompareOperator}
use Rattle.vx_rules.specs.declared.options.LikeOptions.{LikeOptions}
use Rattle.vx_model.specs.Rows.{valid_rows}
use Rattle.vx_model.specs.Tree.{Validity}
use Rattle.vx_rules.specs.Comparisons.{bound_operator, compared, comparison, holds, is_boolean, negated, within_bounds}
use Rattle.vx_rules.specs.Comparisons as comparisons
use Rattle.vx_rules.specs.Patterns as patterns
use Rattle.vx_rules.specs.ValueOrder.{value_cmp}
use Rattle.vx_rules.proofs.FitLaws.{answers_are_columns}
use Rattle.vx_base.specs.Storable.{same_path}
use Rattle.vx_rows.specs.Pairs.{are_comparable, are_within_types, both_true, both_valid, bytes_hold, compared_rows, each_pair, rows_within, whole_holds, whole_within}
use Rattle.vx_rows.specs.Texts.{liked_rows}
use Rattle.vx_rows.proofs.ValidLemmas.{map-valid, pair-replicate, pair-valid, triple-replicate}

module _ (c d : Column) (n : Nullability) (ls rs : List PlainValue) (e : n ≡ or_nullable (nullability_of c.dtype) (nullability_of d.dtype)) (l : ls ≡ c.values) (r : rs ≡ d.values) where
  pub compared-fit : (op : CompareOperator) → IsColumn c → IsColumn d → list_all (fits (types.boolean n)) (compared_rows op ls rs) ≡ true
  compared-fit op h k = (λ i. list_all (fits (types.boolean (e i))) (compared_rows op (l i) (r i))) ∙ answers_are_columns.compare op c d h k

  pub compared-made : (op : CompareOperator) (out : Column) → out ≡ column (types.boolean n) (compared_rows op ls rs) → out ≡ comparison op c d
  compared-made op out o = o ∙ (λ i. column (types.boolean (e i)) (compared_rows op (l i) (r i)))

  pub liked-fit : (options : LikeOptions) → IsColumn c → IsColumn d → list_all (fits (types.boolean n)) (liked_rows options ls rs) ≡ true
  liked-fit options h k = (λ i. list_all (fits (types.boolean (e i))) (liked_rows options (l i) (r i))) ∙ answers_are_columns.like options c d h k

  pub liked-made : (options : LikeOptions) (out : Column) → out ≡ column (types.boolean n) (liked_rows options ls rs) → out ≡ patterns.like options c d
  liked-made options out o = o ∙ (λ i. column (types.boolean (e i)) (liked_rows options (l i) (r i)))

module _ (c d x : Column) (n : Nullability) (rs ls hs : List PlainValue) (e : n ≡ or_nullable (nullability_of c.dtype) (or_nullable (nullability_of d.dtype) (nullability_of x.dtype)))
    (r : rs ≡ c.values) (l : ls ≡ d.values) (h : hs ≡ x.values) where
  pub within-fit : (options : BetweenOptions) → IsColumn c → IsColumn d → IsColumn x → list_all (fits (types.boolean n)) (rows_within options rs ls hs) ≡ true
  within-fit options i j k = (λ m. list_all (fits (types.boolean (e m))) (rows_within options (r m) (l m) (h m))) ∙ answers_are_columns.between options c d x i j k

  pub within-made : (options : BetweenOptions) (out : Column) → out ≡ column (types.boolean n) (rows_within options rs ls hs) → out ≡ comparisons.between options c d x
  within-made options out o = o ∙ (λ m. column (types.boolean (e m)) (rows_within options (r m) (l m) (h m)))

pub negated-fit : (n : Nullability) (vs : List PlainValue) → list_all (fits (types.boolean n)) vs ≡ true → list_all (fits (types.boolean n)) (map negated vs) ≡ true
negated-fit n vs h = answers_are_columns.not (column (types.boolean n) vs) h refl

-- ---- integers against one or two others, and two columns of integers

pub rows-with-whole : (op : CompareOperator) (w : ℤ) (valid : Validity) (zs : List ℤ) (n : ℕ) → length (valid_rows valid (map int zs)) ≡ n
    → compared_rows op (valid_rows valid (map int zs)) (replicate n (int w)) ≡ valid_rows valid (map truth (map (whole_holds op w) zs))
rows-with-whole op w valid zs n e = pair-replicate (compared op) (valid_rows valid (map int zs)) (int w) n e ∙ map-valid (λ v. compared op v (int w)) int (whole_holds op w) truth refl (λ z. refl) valid zs

pub rows-with-bytes : (op : CompareOperator) (bs : List ℕ) (valid : Validity) (rows : List (List ℕ)) (n : ℕ) → length (valid_rows valid (map bytes rows)) ≡ n
    → compared_rows op (valid_rows valid (map bytes rows)) (replicate n (bytes bs)) ≡ valid_rows valid (map truth (map (bytes_hold op bs) rows))
rows-with-bytes op bs valid rows n e = pair-replicate (compared op) (valid_rows valid (map bytes rows)) (bytes bs) n e ∙ map-valid (λ v. compared op v (bytes bs)) bytes (bytes_hold op bs) truth refl (λ row. refl) valid rows

-- the value of a cell that is an integer
pub integer-is : (v : PlainValue) (w : ℤ) → Some w ≡ integer_in v → v ≡ int w
integer-is null w e = absurd cc
integer-is (truth b) w e = absurd cc
integer-is (int z) w e = ap (λ o. int (unwrap_or o z)) (sym e)
integer-is (bytes bs) w e = absurd cc
integer-is (items vs) w e = absurd cc

pub rows-of-pairs : (op : CompareOperator) (valid others : Validity) (zs ws : List ℤ)
    → compared_rows op (valid_rows valid (map int zs)) (valid_rows others (map int ws)) ≡ valid_rows (both_valid valid others) (map truth (each_pair (λ z w. holds op (int_cmp z w)) zs ws))
rows-of-pairs op valid others zs ws = pair-valid (compared op) int int (λ z w. holds op (int_cmp z w)) truth (λ v. refl) (λ z. refl) (λ z w. refl) valid others zs ws

-- ---- bounds, by two comparisons

both-bounds : (options : BetweenOptions) (v low high : PlainValue)
    → both_true (compared (bound_operator options.lower_strict) low v) (compared (bound_operator options.upper_strict) v high) ≡ within_bounds options v low high
both-bounds options v low high = by (is_null v) (is_null low) (is_null high) (holds (bound_operator options.lower_strict) (value_cmp low v)) (holds (bound_operator options.upper_strict) (value_cmp v high))
  where
    by : (i j k a b : Bool) → both_true (cond (j || i) null (truth a)) (cond (i || k) null (truth b)) ≡ cond (i || (j || k)) null (truth (a && b))
    by true true k a b = refl
    by true false k a b = refl
    by false true k a b = refl
    by false false true a b = refl
    by false false false a b = refl

pub rows-by-bounds : (options : BetweenOptions) (vs lows highs : List PlainValue)
    → each_pair both_true (compared_rows (bound_operator options.lower_strict) lows vs) (compared_rows (bound_operator options.upper_strict) vs highs) ≡ rows_within options vs lows highs
rows-by-bounds options [] [] highs = refl
rows-by-bounds options [] (l ∷ lows) highs = refl
rows-by-bounds options (v ∷ vs) [] highs = refl
rows-by-bounds options (v ∷ vs) (l ∷ lows) [] = refl
rows-by-bounds options (v ∷ vs) (l ∷ lows) (h ∷ highs) = λ i. both-bounds options v l h i ∷ rows-by-bounds options vs lows highs i

pub rows-within-wholes : (options : BetweenOptions) (low high : ℤ) (valid : Validity) (zs : List ℤ) (n : ℕ) → length (valid_rows valid (map int zs)) ≡ n
    → rows_within options (valid_rows valid (map int zs)) (replicate n (int low)) (replicate n (int high)) ≡ valid_rows valid (map truth (map (whole_within options low high) zs))
rows-within-wholes options low high valid zs n e =
    triple-replicate (within_bounds options) (valid_rows valid (map int zs)) (int low) (int high) n e
    ∙ map-valid (λ v. within_bounds options v (int low) (int high)) int (whole_within options low high) truth refl (λ z. refl) valid zs

-- ---- answers

pub or-map : {A : Type 0} (r : Result A VortexError) (P Q : A → Type 0) → ((a : A) → P a → Q a) → OrMemory r P → OrMemory r Q
or-map (Ok a) P Q f h = f a h
or-map (Err e) P Q f h = h

pub some-equal : {A : Type 0} (found : Option A) (x z : A) → found ≡ Some x → IfSome found (λ y. y ≡ z) → x ≡ z
some-equal None x z e h = absurd cc
some-equal (Some y) x z e h = sym (ap (λ o. unwrap_or o x) e) ∙ h

-- ---- types of one base

pub flat-with : (t : PlainType) (n : Nullability) → is_flat (with_nullability t n) ≡ is_flat t
flat-with types.null_type n = refl
flat-with (types.boolean m) n = refl
flat-with (types.primitive p m) n = refl
flat-with (types.utf8 m) n = refl
flat-with (types.binary m) n = refl
flat-with (types.timestamp k m) n = refl
flat-with (types.structure fs m) n = refl
flat-with (types.list t m) n = refl
flat-with (types.fixed_size_list t size m) n = refl

-- both types are flat where values of them are compared
pub comparable-flat : (s t : PlainType) → are_comparable s t ≡ true → (is_flat s ≡ true) × (is_flat t ≡ true)
comparable-flat s t h =
    let b = and_parts (is_flat s) (same_base s t) h in
    let same = same_path stored_type (with_nullability s NonNullable) (with_nullability t NonNullable) b.1 in
    (b.0, sym (flat-with t NonNullable) ∙ ap is_flat (sym same) ∙ flat-with s NonNullable ∙ b.0)

pub within-types : (s t u : PlainType) → (are_comparable s t && are_comparable s u) ≡ are_within_types s t u
within-types s t u = by (is_flat s) (same_base s t) (same_base s u)
  where
    by : (a b c : Bool) → ((a && b) && (a && c)) ≡ (a && (b && c))
    by true true c = refl
    by true false c = refl
    by false b c = refl

pub within-comparable : (s t u : PlainType) → are_within_types s t u ≡ true → (are_comparable s t ≡ true) × (are_comparable s u ≡ true)
within-comparable s t u h = and_parts (are_comparable s t) (are_comparable s u) (within-types s t u ∙ h)

pub boolean-is : (t : PlainType) → is_boolean t ≡ true → types.boolean (nullability_of t) ≡ t
boolean-is (types.boolean n) h = refl
boolean-is t h = absurd cc
