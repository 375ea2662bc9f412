-- Null has the least counts of all values of a type, so masked rows count no more than the rows under the mask.
use Rattle.std.proofs.Common.{◌≡◌, ◌*◌, ◌++◌, ◌∙◌, ℕ, zero, suc, List, [], ◌∷◌, length, map, true, false, Bool, cond, Some, None, refl, sym, ap, subst, arith}
use Rattle.std.specs.Prelude.{replicate, ◌==◌}
use Rattle.std.specs.List.{list_all}
use Rattle.std.proofs.Math.Nat.{suc-mul}
use Rattle.std.proofs.lemmas.Bool.{and_parts, cond_both, eqb-true}
use Rattle.std.proofs.lemmas.List.{append-nil, length-map}
use Rattle.vx_base.specs.Defaults.{default_of, null_or_default, field_defaults}
use Rattle.vx_base.specs.PlainScalar.{fits, fields_fit, items_fit}
use Rattle.vx_base.specs.PlainType.{PlainType, PlainFields, boolean, primitive, utf8, binary, timestamp, is_nullable}
use Rattle.vx_base.specs.PlainType as types
use Rattle.vx_base.specs.PlainValue.{PlainValue, PlainValues, null, truth, int, bytes, items, list_of, of_list}
use Rattle.vx_base.specs.PlainValue as vals
use Rattle.vx_base.proofs.WithinLemmas.{list_of-of_list, items_fit-all}
use Rattle.vx_model.specs.Extents.{counts, field_counts}
use Rattle.vx_model.specs.Laws.{AreWithin}
use Rattle.vx_model.specs.Rows.{masked_rows, valid_rows}
use Rattle.vx_model.specs.Tree.{Validity}
use Rattle.vx_model.proofs.CountLemmas.{within-same, within-next, within-append, within-sums, sums, counts-append, counts-none}

-- one more row, which counts no more than another
pub within-more : (t : PlainType) (v w : PlainValue) (vs ws : List PlainValue) → AreWithin (counts t (v ∷ [])) (counts t (w ∷ [])) → AreWithin (counts t vs) (counts t ws) → AreWithin (counts t (v ∷ vs)) (counts t (w ∷ ws))
within-more t v w vs ws h l =
    subst (λ ns. AreWithin ns (counts t (w ∷ ws))) (sym (counts-append t (v ∷ []) vs))
    (subst (AreWithin (sums (counts t (v ∷ [])) (counts t vs))) (sym (counts-append t (w ∷ []) ws)) (within-sums _ _ _ _ h l))

-- the default counts as null does
counts-default : (t : PlainType) → counts t (default_of t ∷ []) ≡ counts t (null ∷ [])
counts-default types.null_type = refl
counts-default (boolean n) = refl
counts-default (primitive p n) = refl
counts-default (utf8 n) = refl
counts-default (binary n) = refl
counts-default (timestamp k n) = refl
counts-default (types.structure fs n) = refl
counts-default (types.list t n) = refl
counts-default (types.fixed_size_list t size n) = refl

counts-null_or_default : (t : PlainType) → counts t (null_or_default t ∷ []) ≡ counts t (null ∷ [])
counts-null_or_default t = cond_both (is_nullable t) null (default_of t) (λ v. counts t (v ∷ []) ≡ counts t (null ∷ [])) (λ e. refl) (λ e. counts-default t)

-- copies of the least value
copies-least : (t : PlainType) (v : PlainValue) → ((w : PlainValue) → fits t w ≡ true → AreWithin (counts t (v ∷ [])) (counts t (w ∷ []))) → (ws : List PlainValue) → list_all (fits t) ws ≡ true
    → AreWithin (counts t (replicate (length ws) v)) (counts t ws)
copies-least t v least [] h = within-same (counts t [])
copies-least t v least (w ∷ ws) h =
    let b = and_parts (fits t w) (list_all (fits t) ws) h in
    within-more t v w (replicate (length ws) v) ws (least w b.0) (copies-least t v least ws b.1)

mutual
  pub null-least : (t : PlainType) (v : PlainValue) → fits t v ≡ true → AreWithin (counts t (null ∷ [])) (counts t (v ∷ []))
  null-least types.null_type v h = within-same (1 ∷ [])
  null-least (boolean n) v h = within-same (1 ∷ [])
  null-least (primitive p n) v h = within-same (1 ∷ [])
  null-least (utf8 n) v h = within-same (1 ∷ [])
  null-least (binary n) v h = within-same (1 ∷ [])
  null-least (timestamp k n) v h = within-same (1 ∷ [])
  null-least (types.structure fs n) null h = within-same (counts (types.structure fs n) (null ∷ []))
  null-least (types.structure fs n) (items vs) h = (omega arith, fields-least fs vs h)
  null-least (types.structure fs n) v h = absurd cc
  null-least (types.list t n) null h = within-same (counts (types.list t n) (null ∷ []))
  null-least (types.list t n) (items vs) h = (omega arith, counts-none t (counts t (list_of vs ++ [])) (list_of vs ++ []) refl)
  null-least (types.list t n) v h = absurd cc
  null-least (types.fixed_size_list t size n) null h = within-same (counts (types.fixed_size_list t size n) (null ∷ []))
  null-least (types.fixed_size_list t size n) (items vs) h =
      let both = and_parts (length (list_of vs) == size) (items_fit t vs) h in
      let len = eqb-true (length (list_of vs)) size both.0 in
      let copies = copies-least t (null_or_default t) (λ w k. subst (λ ns. AreWithin ns (counts t (w ∷ []))) (sym (counts-null_or_default t)) (null-least t w k)) (list_of vs) (sym (items_fit-all t vs) ∙ both.1) in
      let own : list_of (of_list (replicate size (null_or_default t))) ++ [] ≡ replicate (length (list_of vs)) (null_or_default t) = append-nil _ ∙ list_of-of_list _ ∙ ap (λ k. replicate k (null_or_default t)) (sym len) in
      (omega arith, subst (λ ws. AreWithin (counts t ws) (counts t (list_of vs ++ []))) (sym own) (subst (λ ws. AreWithin (counts t (replicate (length (list_of vs)) (null_or_default t))) (counts t ws)) (sym (append-nil (list_of vs))) copies))
  null-least (types.fixed_size_list t size n) v h = absurd cc

  fields-least : (fs : PlainFields) (vs : PlainValues) → fields_fit fs vs ≡ true → AreWithin (field_counts fs (field_defaults fs ∷ [])) (field_counts fs (vs ∷ []))
  fields-least types.none vals.none h = tt
  fields-least types.none (vals.more v vs) h = absurd cc
  fields-least (types.more name t fs) vals.none h = absurd cc
  fields-least (types.more name t fs) (vals.more v vs) h =
      let both = and_parts (fits t v) (fields_fit fs vs) h in
      within-append _ _ _ _ (subst (λ ns. AreWithin ns (counts t (v ∷ []))) (sym (counts-null_or_default t)) (null-least t v both.0)) (fields-least fs vs both.1)

-- ---- rows under a mask

masked-least : (t : PlainType) (bits : List Bool) (rs : List PlainValue) → list_all (fits t) rs ≡ true → AreWithin (counts t (masked_rows bits rs)) (counts t rs)
masked-least t [] rs h = counts-none t (counts t rs) rs refl
masked-least t (b ∷ bits) [] h = within-same (counts t [])
masked-least t (b ∷ bits) (r ∷ rs) h = let both = and_parts (fits t r) (list_all (fits t) rs) h in within-more t (cond b r null) r (masked_rows bits rs) rs (first b both.0) (masked-least t bits rs both.1)
  where
    first : (b : Bool) → fits t r ≡ true → AreWithin (counts t (cond b r null ∷ [])) (counts t (r ∷ []))
    first true k = within-same (counts t (r ∷ []))
    first false k = null-least t r k

pub valid-least : (t : PlainType) (valid : Validity) (rs : List PlainValue) → list_all (fits t) rs ≡ true → AreWithin (counts t (valid_rows valid rs)) (counts t rs)
valid-least t None rs h = within-same (counts t rs)
valid-least t (Some bits) rs h = masked-least t bits rs h

-- ---- copies

-- their counts are multiples of one copy's
pub copies-within : (t : PlainType) (v : PlainValue) (len : ℕ) → AreWithin (counts t (replicate len v)) (map (λ count. len * count) (counts t (v ∷ [])))
copies-within t v zero = counts-none t (map (λ count. 0 * count) (counts t (v ∷ []))) (v ∷ []) (length-map (counts t (v ∷ [])) (λ count. 0 * count))
copies-within t v (suc len) =
    let those = map (λ count. len * count) (counts t (v ∷ [])) in
    let all = map (λ count. suc len * count) (counts t (v ∷ [])) in
    subst (λ ns. AreWithin ns all) (sym (counts-append t (v ∷ []) (replicate len v)))
    (within-next (sums (counts t (v ∷ [])) (counts t (replicate len v))) (sums (counts t (v ∷ [])) those) all (within-sums _ _ _ _ (within-same (counts t (v ∷ []))) (copies-within t v len)) (each (counts t (v ∷ []))))
  where
    each : (ns : List ℕ) → AreWithin (sums ns (map (λ count. len * count) ns)) (map (λ count. suc len * count) ns)
    each [] = tt
    each (n ∷ ns) = (omega (arith, suc-mul len n), each ns)
