-- What a row function answers is a column: each of its values is of its type.
use Rattle.std.proofs.Common.{◌≡◌, ◌∙◌, ◌-◌, ℕ, zero, suc, pos, Bool, true, false, cond, List, [], ◌∷◌, length, map, take, drop, refl, sym, ap}
use Rattle.std.specs.Prelude.{◌&&◌, ◌||◌, not, zip}
use Rattle.std.specs.List.{list_all}
use Rattle.std.proofs.lemmas.Bool.{and_parts, and_from, ltb-true}
use Rattle.vx_base.specs.declared.dtype.Nullability.{Nullability}
use Rattle.vx_base.specs.declared.dtype.Nullability.TheVariants.{NonNullable, Nullable}
use Rattle.vx_base.specs.Defaults.{or_default}
use Rattle.vx_base.specs.PlainScalar.{fits}
use Rattle.vx_base.specs.PlainType.{PlainType, allows_null, is_nullable, nullability_of, or_nullable, same_base, stored_type, with_nullability}
use Rattle.vx_base.specs.PlainType as types
use Rattle.vx_base.specs.PlainValue.{PlainValue, null, truth, int, bytes, items, bytes_or_empty, is_null}
use Rattle.vx_base.specs.Storable.{same_path}
use Rattle.vx_base.proofs.TypeLemmas.{fits-with, is_nullable-with}
use Rattle.vx_model.specs.Rows.{looked_up, row_at}
use Rattle.vx_model.specs.TreeType.{dict_type}
use Rattle.vx_model.specs.WellFormed.{is_place}
use Rattle.vx_model.proofs.MadeLemmas.{masked_fit}
use Rattle.vx_model.proofs.PackedLemmas.{passed}
use Rattle.vx_model.proofs.FrameOfReferenceLemmas.{row_passes}
use Rattle.vx_rules.specs.Comparisons.{bound_operator, holds, is_boolean, negated, truths_of}
use Rattle.vx_rules.specs.Laws.{AnswersAreColumns}
use Rattle.vx_rules.specs.Patterns.{text_matches}
use Rattle.vx_rules.specs.Selections.{kept_items}
use Rattle.vx_rules.specs.ValueOrder.{value_cmp}

-- ---- nulls and types

-- null is of nullable types alone
pub null-nullable : (t : PlainType) (v : PlainValue) → fits t v ≡ true → is_null v ≡ true → is_nullable t ≡ true
null-nullable t null h e = h
null-nullable t (truth b) h e = absurd cc
null-nullable t (int z) h e = absurd cc
null-nullable t (bytes bs) h e = absurd cc
null-nullable t (items vs) h e = absurd cc

or-first : (m n : Nullability) → allows_null m ≡ true → allows_null (or_nullable m n) ≡ true
or-first NonNullable n h = absurd cc
or-first Nullable n h = refl

or-second : (m n : Nullability) → allows_null n ≡ true → allows_null (or_nullable m n) ≡ true
or-second NonNullable n h = h
or-second Nullable n h = refl

-- a value of a type is one of it with another nullability, where null is allowed as before
pub fits-other : (t : PlainType) (n : Nullability) (v : PlainValue) → (is_nullable t ≡ true → is_nullable (with_nullability t n) ≡ true) → fits t v ≡ true → fits (with_nullability t n) v ≡ true
fits-other t n null keeps h = keeps h
fits-other t n (truth b) keeps h = fits-with t n (truth b) refl ∙ h
fits-other t n (int z) keeps h = fits-with t n (int z) refl ∙ h
fits-other t n (bytes bs) keeps h = fits-with t n (bytes bs) refl ∙ h
fits-other t n (items vs) keeps h = fits-with t n (items vs) refl ∙ h

all-other : (t : PlainType) (n : Nullability) (vs : List PlainValue) → (is_nullable t ≡ true → is_nullable (with_nullability t n) ≡ true) → list_all (fits t) vs ≡ true → list_all (fits (with_nullability t n)) vs ≡ true
all-other t n [] keeps h = refl
all-other t n (v ∷ vs) keeps h =
    let b = and_parts (fits t v) (list_all (fits t) vs) h in
    and_from _ _ (fits-other t n v keeps b.0) (all-other t n vs keeps b.1)

-- a value other than null is of every type of the same base
pub fits-base : (s t : PlainType) (v : PlainValue) → same_base s t ≡ true → is_null v ≡ false → fits s v ≡ true → fits t v ≡ true
fits-base s t v same e h =
    sym (fits-with t NonNullable v e) ∙ ap (λ u. fits u v) (sym (same_path stored_type (with_nullability s NonNullable) (with_nullability t NonNullable) same)) ∙ fits-with s NonNullable v e ∙ h

-- ---- rows chosen by position

all-take : (p : PlainValue → Bool) (n : ℕ) (vs : List PlainValue) → list_all p vs ≡ true → list_all p (take n vs) ≡ true
all-take p zero vs h = refl
all-take p (suc n) [] h = refl
all-take p (suc n) (v ∷ vs) h = let b = and_parts (p v) (list_all p vs) h in and_from _ _ b.0 (all-take p n vs b.1)

all-drop : (p : PlainValue → Bool) (n : ℕ) (vs : List PlainValue) → list_all p vs ≡ true → list_all p (drop n vs) ≡ true
all-drop p zero vs h = h
all-drop p (suc n) [] h = refl
all-drop p (suc n) (v ∷ vs) h = all-drop p n vs (and_parts (p v) (list_all p vs) h).1

all-kept : (p : PlainValue → Bool) (keep : List Bool) (vs : List PlainValue) → list_all p vs ≡ true → list_all p (kept_items keep vs) ≡ true
all-kept p [] vs h = refl
all-kept p (bit ∷ bits) [] h = refl
all-kept p (true ∷ bits) (v ∷ vs) h = let b = and_parts (p v) (list_all p vs) h in and_from _ _ b.0 (all-kept p bits vs b.1)
all-kept p (false ∷ bits) (v ∷ vs) h = all-kept p bits vs (and_parts (p v) (list_all p vs) h).1

-- a row of a type, or null where the row or the index may be null
taken-fits : (s t : PlainType) (vs : List PlainValue) (i : PlainValue) → list_all (fits t) vs ≡ true → is_place (length vs) i ≡ true → fits s i ≡ true → fits (dict_type s t) (looked_up vs i) ≡ true
taken-fits s t vs null held place h = is_nullable-with t _ (or-second (nullability_of t) (nullability_of s) h)
taken-fits s t vs (int (pos k)) held place h =
    fits-other t (or_nullable (nullability_of t) (nullability_of s)) (row_at vs k) (λ e. is_nullable-with t _ (or-first (nullability_of t) (nullability_of s) e))
    (row_passes (fits t) vs k (ltb-true _ _ place) held)
taken-fits s t vs v held place h = absurd cc

all-taken : (s t : PlainType) (vs is : List PlainValue) → list_all (fits t) vs ≡ true → list_all (is_place (length vs)) is ≡ true → list_all (fits s) is ≡ true → list_all (fits (dict_type s t)) (map (looked_up vs) is) ≡ true
all-taken s t vs [] held places h = refl
all-taken s t vs (i ∷ is) held places h =
    let b = and_parts (fits s i) (list_all (fits s) is) h in
    let l = and_parts (is_place (length vs) i) (list_all (is_place (length vs)) is) places in
    and_from _ _ (taken-fits s t vs i held l.0 b.0) (all-taken s t vs is held l.1 b.1)

-- ---- values converted

all-filled : (s t : PlainType) (fill : PlainValue) (vs : List PlainValue) → same_base s t ≡ true → fits t fill ≡ true → list_all (fits s) vs ≡ true → list_all (fits t) (map (or_default fill) vs) ≡ true
all-filled s t fill [] same f h = refl
all-filled s t fill (v ∷ vs) same f h =
    let b = and_parts (fits s v) (list_all (fits s) vs) h in
    and_from _ _ (by (is_null v) refl b.0) (all-filled s t fill vs same f b.1)
  where
    by : (b : Bool) → is_null v ≡ b → fits s v ≡ true → fits t (cond b fill v) ≡ true
    by true e h = f
    by false e h = fits-base s t v same e h

-- ---- truth values

-- a truth value, or null where one of two values is
pub truth-fits : (s t : PlainType) (v w : PlainValue) (b : Bool) → fits s v ≡ true → fits t w ≡ true → fits (truths_of s t) (cond (is_null v || is_null w) null (truth b)) ≡ true
truth-fits s t v w b h k = by (is_null v) (is_null w) refl refl
  where
    by : (x y : Bool) → is_null v ≡ x → is_null w ≡ y → fits (truths_of s t) (cond (x || y) null (truth b)) ≡ true
    by true y e f = or-first (nullability_of s) (nullability_of t) (null-nullable s v h e)
    by false true e f = or-second (nullability_of s) (nullability_of t) (null-nullable t w k f)
    by false false e f = refl

-- a function of two values that answers so, row by row
module _ (s t : PlainType) (truth_of : PlainValue → PlainValue → Bool) where
  pub all-truths : (vs ws : List PlainValue) → list_all (fits s) vs ≡ true → list_all (fits t) ws ≡ true
      → list_all (fits (truths_of s t)) (map (λ p. cond (is_null p.0 || is_null p.1) null (truth (truth_of p.0 p.1))) (zip vs ws)) ≡ true
  all-truths [] ws h k = refl
  all-truths (v ∷ vs) [] h k = refl
  all-truths (v ∷ vs) (w ∷ ws) h k =
      let b = and_parts (fits s v) (list_all (fits s) vs) h in
      let d = and_parts (fits t w) (list_all (fits t) ws) k in
      and_from _ _ (truth-fits s t v w (truth_of v w) b.0 d.0) (all-truths vs ws b.1 d.1)

-- of three values
truth-fits-3 : (s t u : PlainType) (v w x : PlainValue) (b : Bool) → fits s v ≡ true → fits t w ≡ true → fits u x ≡ true
    → fits (truths_of s (truths_of t u)) (cond (is_null v || (is_null w || is_null x)) null (truth b)) ≡ true
truth-fits-3 s t u v w x b h k l = by (is_null v) (is_null w) (is_null x) refl refl refl
  where
    by : (i j m : Bool) → is_null v ≡ i → is_null w ≡ j → is_null x ≡ m → fits (truths_of s (truths_of t u)) (cond (i || (j || m)) null (truth b)) ≡ true
    by true j m e f g = or-first (nullability_of s) _ (null-nullable s v h e)
    by false true m e f g = or-second (nullability_of s) _ (or-first (nullability_of t) (nullability_of u) (null-nullable t w k f))
    by false false true e f g = or-second (nullability_of s) _ (or-second (nullability_of t) (nullability_of u) (null-nullable u x l g))
    by false false false e f g = refl

module _ (s t u : PlainType) (truth_of : PlainValue → PlainValue → PlainValue → Bool) where
  pub all-truths-3 : (vs ws xs : List PlainValue) → list_all (fits s) vs ≡ true → list_all (fits t) ws ≡ true → list_all (fits u) xs ≡ true
      → list_all (fits (truths_of s (truths_of t u))) (map (λ p. cond (is_null p.0 || (is_null p.1.0 || is_null p.1.1)) null (truth (truth_of p.0 p.1.0 p.1.1))) (zip vs (zip ws xs))) ≡ true
  all-truths-3 [] ws xs h k l = refl
  all-truths-3 (v ∷ vs) [] xs h k l = refl
  all-truths-3 (v ∷ vs) (w ∷ ws) [] h k l = refl
  all-truths-3 (v ∷ vs) (w ∷ ws) (x ∷ xs) h k l =
      let b = and_parts (fits s v) (list_all (fits s) vs) h in
      let d = and_parts (fits t w) (list_all (fits t) ws) k in
      let e = and_parts (fits u x) (list_all (fits u) xs) l in
      and_from _ _ (truth-fits-3 s t u v w x (truth_of v w x) b.0 d.0 e.0) (all-truths-3 vs ws xs b.1 d.1 e.1)

all-negated : (n : Nullability) (vs : List PlainValue) → list_all (fits (types.boolean n)) vs ≡ true → list_all (fits (types.boolean n)) (map negated vs) ≡ true
all-negated n [] h = refl
all-negated n (null ∷ vs) h = let b = and_parts (allows_null n) (list_all (fits (types.boolean n)) vs) h in and_from _ _ b.0 (all-negated n vs b.1)
all-negated n (truth x ∷ vs) h = all-negated n vs h
all-negated n (v ∷ vs) h = absurd cc

negation-fits : (t : PlainType) (vs : List PlainValue) → is_boolean t ≡ true → list_all (fits t) vs ≡ true → list_all (fits t) (map negated vs) ≡ true
negation-fits (types.boolean n) vs e h = all-negated n vs h
negation-fits t vs e h = absurd cc

-- ---- the laws

pub answers_are_columns : AnswersAreColumns
answers_are_columns = record {
  slice = λ c start end h. all-take (fits c.dtype) (end - start) (drop start c.values) (all-drop (fits c.dtype) start c.values h);
  filter = λ c keep h. all-kept (fits c.dtype) keep c.values h;
  mask = λ c keep h.
      masked_fit (with_nullability c.dtype Nullable) keep c.values (is_nullable-with c.dtype Nullable refl)
      (all-other c.dtype Nullable c.values (λ e. is_nullable-with c.dtype Nullable refl) h);
  take = λ c indices h k none. all-taken indices.dtype c.dtype c.values indices.values h (passed _ _ _ (passed _ _ _ none).1).0 k;
  cast = λ c t none. (passed _ _ _ (passed _ _ _ none).1).0;
  fill_null = λ c fill h f none. all-filled c.dtype fill.dtype fill.value c.values (and_parts _ _ (passed _ _ _ none).0).0 f h;
  compare = λ op c d h k. all-truths c.dtype d.dtype (λ v w. holds op (value_cmp v w)) c.values d.values h k;
  between = λ options c low high h k l.
      all-truths-3 c.dtype low.dtype high.dtype
      (λ v a b. holds (bound_operator options.lower_strict) (value_cmp a v) && holds (bound_operator options.upper_strict) (value_cmp v b)) c.values low.values high.values h k l;
  like = λ options c patterns h k.
      all-truths c.dtype patterns.dtype (λ v p. let found = text_matches (bytes_or_empty v) (bytes_or_empty p) in cond options.negated (not found) found) c.values patterns.values h k;
  not = λ c h none. negation-fits c.dtype c.values (passed _ _ _ none).0 h;
}
