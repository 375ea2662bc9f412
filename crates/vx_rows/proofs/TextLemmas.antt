-- Texts and patterns, by the items of the pattern.
use Rattle.std.proofs.Common.{◌≡◌, ◌<◌, ◌∙◌, ℕ, zero, suc, Bool, true, false, List, [], ◌∷◌, Option, None, Some, map, length, unwrap_or, refl, sym, ap, arith}
use Rattle.std.specs.Prelude.{replicate}
use Rattle.std.specs.List.{list_all}
use Rattle.std.specs.Str.{chars, is_utf8}
use Rattle.std.proofs.lemmas.Bool.{and_parts, and_from}
use Rattle.vx_base.specs.PlainScalar.{fits}
use Rattle.vx_base.specs.PlainType.{PlainType, is_flat, is_text}
use Rattle.vx_base.specs.PlainType as types
use Rattle.vx_base.specs.PlainValue.{PlainValue, null, truth, int, bytes, items, is_short, truth_or_false}
use Rattle.vx_model.specs.Rows.{masked_rows, valid_rows}
use Rattle.vx_model.specs.Tree.{Validity}
use Rattle.vx_rules.specs.declared.options.LikeOptions.{LikeOptions}
use Rattle.vx_rules.specs.Patterns.{PatternItem, liked, pattern_items}
use Rattle.vx_rows.specs.Truths.{truth_or_null}
use Rattle.vx_rows.specs.Texts.{has_text, liked_items, liked_rows}

-- a match with a pattern is one with its items
liked-items : (options : LikeOptions) (v : PlainValue) (pattern : List ℕ) (its : List PatternItem) → its ≡ pattern_items (chars pattern) → liked_items options v its ≡ liked options v (bytes pattern)
liked-items options null pattern its e = refl
liked-items options (truth b) pattern its e = ap (liked_items options (truth b)) e
liked-items options (int z) pattern its e = ap (liked_items options (int z)) e
liked-items options (bytes bs) pattern its e = ap (liked_items options (bytes bs)) e
liked-items options (items vs) pattern its e = ap (liked_items options (items vs)) e

pub liked-alike : (options : LikeOptions) (pattern : List ℕ) (its : List PatternItem) → its ≡ pattern_items (chars pattern) → (rows others : List PlainValue) → rows ≡ others → map (λ v. liked_items options v its) rows ≡ map (λ v. liked options v (bytes pattern)) others
liked-alike options pattern its e rows others same = λ i. map (λ v. liked-items options v pattern its e i) (same i)

-- no bytes are a text
no-text : is_utf8 [] ≡ true
unfolding chars is_utf8
no-text = refl

text-fits : (t : PlainType) (v : PlainValue) → is_text t ≡ true → fits t v ≡ true → has_text v ≡ true
text-fits (types.utf8 n) null e h = no-text
text-fits (types.utf8 n) (bytes bs) e h = (and_parts (is_short bs) (is_utf8 bs) h).1
text-fits (types.utf8 n) v e h = absurd cc
text-fits t v e h = absurd cc

pub text-flat : (t : PlainType) → is_text t ≡ true → is_flat t ≡ true
text-flat (types.utf8 n) h = refl
text-flat t h = absurd cc

-- the values of a column of texts are texts
pub texts-fit : (t : PlainType) (vs : List PlainValue) → is_text t ≡ true → list_all (fits t) vs ≡ true → list_all has_text vs ≡ true
texts-fit t [] e h = refl
texts-fit t (v ∷ vs) e h = let b = and_parts (fits t v) (list_all (fits t) vs) h in and_from _ _ (text-fits t v e b.0) (texts-fit t vs e b.1)

-- a text that stands in each row of a column that has rows
pub one-text : (vs : List PlainValue) (n : ℕ) (bs : List ℕ) → vs ≡ replicate n (bytes bs) → 0 < n → list_all has_text vs ≡ true → is_utf8 bs ≡ true
one-text vs zero bs e more h = absurd (omega arith)
one-text vs (suc n) bs e more h = (and_parts (is_utf8 bs) (list_all has_text (replicate n (bytes bs))) (sym (ap (list_all has_text) e) ∙ h)).0

-- no texts match
pub no-rows : (options : LikeOptions) (texts patterns : List PlainValue) → length texts ≡ 0 → [] ≡ liked_rows options texts patterns
no-rows options [] patterns e = refl
no-rows options (v ∷ texts) patterns e = absurd (omega arith)

-- ---- stored texts

module _ (options : LikeOptions) (its : List PatternItem) where
  -- whether a value matches; false of null
  abbrev pub found_in : PlainValue → Bool
  found_in v = truth_or_false (liked_items options v its)

  of-items : (rows : List (List ℕ)) → map truth (map found_in (map bytes rows)) ≡ map (λ v. liked_items options v its) (map bytes rows)
  of-items [] = refl
  of-items (r ∷ rows) = ap (λ vs. liked_items options (bytes r) its ∷ vs) (of-items rows)

  of-masked : (bits : List Bool) (rows : List (List ℕ)) → masked_rows bits (map truth (map found_in (masked_rows bits (map bytes rows)))) ≡ map (λ v. liked_items options v its) (masked_rows bits (map bytes rows))
  of-masked [] rows = refl
  of-masked (b ∷ bits) [] = refl
  of-masked (true ∷ bits) (r ∷ rows) = ap (λ vs. liked_items options (bytes r) its ∷ vs) (of-masked bits rows)
  of-masked (false ∷ bits) (r ∷ rows) = ap (λ vs. null ∷ vs) (of-masked bits rows)

  pub stored-liked : (valid : Validity) (rows : List (List ℕ)) (bits : List Bool) → bits ≡ map found_in (valid_rows valid (map bytes rows)) → valid_rows valid (map truth bits) ≡ map (λ v. liked_items options v its) (valid_rows valid (map bytes rows))
  stored-liked None rows bits e = ap (map truth) e ∙ of-items rows
  stored-liked (Some mask) rows bits e = ap (λ bs. masked_rows mask (map truth bs)) e ∙ of-masked mask rows

  pub bit-found : (found : Option Bool) (v : PlainValue) → truth_or_null found ≡ liked_items options v its → unwrap_or found false ≡ found_in v
  bit-found None v e = ap truth_or_false e
  bit-found (Some b) v e = ap truth_or_false e
