-- Rules that are collected once forbid what the rules of each scheme forbid.
use Rattle.std.proofs.Common.{◌≡◌, ◌<◌, ℕ, ◌+◌, Bool, true, false, ◌&&◌, List, [], ◌∷◌, ◌++◌, length, get_or, drop, map, refl, sym, ◌∙◌, ap, append_assoc}
use Rattle.std.specs.Prelude.{◌||◌, ◌==◌, codes, slice_get, Some, None}
use Rattle.std.specs.List.{list_any}
use Rattle.std.proofs.lemmas.List.{drop_more}
use Rattle.std.proofs.lemmas.List.Folds.{list_any-append}
use Rattle.vx_scheme.specs.Excluded.{History, root_name, is_offsets, is_barred_by, bars_itself, excluded}
use Rattle.vx_scheme.specs.Meaning.{Meaning}
use Rattle.vx_scheme.specs.Contexts.{entries_of}
use Rattle.vx_scheme.specs.Names.{name_of, same_name}
use Rattle.vx_scheme.specs.declared.scheme_id.SchemeId.{SchemeId}
use Rattle.vx_compressor.specs.Bans.{PlainBan, against_others, against_itself, bans_of, all_bans, stands_below, is_banned, is_excluded_by}

pub list_any-map : {X Y : Type 0} (p : X → Bool) (h : Y → X) (ys : List Y) → list_any (λ y. p (h y)) ys ≡ list_any p (map h ys)
list_any-map p h [] = refl
list_any-map p h (y ∷ ys) = ap (λ b. p (h y) || b) (list_any-map p h ys)

-- ---- collecting

-- the rules of one more scheme
pub all_bans-step : {S : Type 0} (meaning : S → Meaning) (so_far next : List PlainBan) (xs : List S) (i : ℕ) (x : S) → i < length xs → x ≡ get_or xs i x → next ≡ so_far ++ bans_of (meaning x)
    → next ++ all_bans (map meaning (drop (i + 1) xs)) ≡ so_far ++ all_bans (map meaning (drop i xs))
all_bans-step meaning so_far next xs i x within read pushed =
    ap (λ l. l ++ all_bans (map meaning (drop (i + 1) xs))) pushed
    ∙ append_assoc so_far (bans_of (meaning x)) (all_bans (map meaning (drop (i + 1) xs)))
    ∙ ap (λ l. so_far ++ all_bans (map meaning l)) (ap (λ y. y ∷ drop (i + 1) xs) read ∙ sym (drop_more xs i x within))

-- ---- forbidding

or_assoc : (a b c : Bool) → ((a || b) || c) ≡ (a || (b || c))
or_assoc true b c = refl
or_assoc false b c = refl

or_cross : (a b c d : Bool) → ((a || b) || (c || d)) ≡ ((a || c) || (b || d))
or_cross true b c d = refl
or_cross false true true d = refl
or_cross false true false d = refl
or_cross false false true d = refl
or_cross false false false d = refl

list_any-never : {X : Type 0} (xs : List X) → false ≡ list_any (λ x. false) xs
list_any-never [] = refl
list_any-never (x ∷ xs) = list_any-never xs

-- a test that all share may stand before them
list_any-and : {X : Type 0} (b : Bool) (p : X → Bool) (xs : List X) → list_any (λ x. b && p x) xs ≡ (b && list_any p xs)
list_any-and true p xs = refl
list_any-and false p xs = sym (list_any-never xs)

module _ (name : List ℕ) (history : History) where
  against_others-is : (m : Meaning) → list_any (is_banned name history) (against_others m.name m.descendants) ≡ is_barred_by m name history
  against_others-is m = sym (list_any-map (is_banned name history) (λ r. record { banned = r.scheme; above = m.name; children = r.children }) m.descendants)

  against_itself-is : (m : Meaning) → list_any (is_banned name history) (against_itself m.name m.ancestors) ≡ bars_itself m name history
  against_itself-is m =
      sym (list_any-map (is_banned name history) (λ r. record { banned = m.name; above = r.scheme; children = r.children }) m.ancestors)
      ∙ list_any-and (same_name m.name name) (λ r. stands_below r.scheme r.children history) m.ancestors

  bans_of-is : (m : Meaning) → list_any (is_banned name history) (bans_of m) ≡ (is_barred_by m name history || bars_itself m name history)
  bans_of-is m =
      list_any-append (is_banned name history) (against_others m.name m.descendants) (against_itself m.name m.ancestors)
      ∙ (λ i. against_others-is m i || against_itself-is m i)

  pub all_bans-is : (ms : List Meaning) → list_any (is_banned name history) (all_bans ms) ≡ (list_any (λ m. is_barred_by m name history) ms || list_any (λ m. bars_itself m name history) ms)
  all_bans-is [] = refl
  all_bans-is (m ∷ ms) =
      list_any-append (is_banned name history) (bans_of m) (all_bans ms)
      ∙ (λ i. bans_of-is m i || all_bans-is ms i)
      ∙ or_cross (is_barred_by m name history) (bars_itself m name history) (list_any (λ m. is_barred_by m name history) ms) (list_any (λ m. bars_itself m name history) ms)

  -- with the rules of the list these are all causes
  pub excluded-by : (ms : List Meaning) (bans : List PlainBan) → bans ≡ all_bans ms → is_excluded_by bans name history ≡ excluded ms name history
  excluded-by ms bans e =
      let above = list_any (λ e. same_name e.0 name) history || (is_offsets history && same_name name (codes "vortex.int.dict")) in
      ap (λ x. is_excluded_by x name history) e ∙ ap (λ x. above || x) (all_bans-is ms)
      ∙ sym (or_assoc above (list_any (λ m. is_barred_by m name history) ms) (list_any (λ m. bars_itself m name history) ms))

-- the same, by equal names and histories
pub excluded-here : (ms : List Meaning) (bans : List PlainBan) (name name' : List ℕ) (history history' : History) → bans ≡ all_bans ms → name ≡ name' → history ≡ history' → is_excluded_by bans name history ≡ excluded ms name' history'
excluded-here ms bans name name' history history' collected named here = excluded-by name history ms bans collected ∙ (λ i. excluded ms (named i) (here i))

-- the first entry alone tells whether the column is a list's offsets
pub is_offsets-first : (h : List (SchemeId × ℕ)) (e : SchemeId × ℕ) → slice_get h 0 ≡ Some e → (same_name (name_of e.0) root_name && (e.1 == 1)) ≡ is_offsets (entries_of h)
is_offsets-first [] e is = absurd cc
is_offsets-first (x ∷ xs) e is = let same : x ≡ e = cc in ap (λ e. same_name (name_of e.0) root_name && (e.1 == 1)) (sym same)

pub is_offsets-none : (h : List (SchemeId × ℕ)) → slice_get h 0 ≡ None → false ≡ is_offsets (entries_of h)
is_offsets-none [] is = refl
is_offsets-none (x ∷ xs) is = absurd cc
