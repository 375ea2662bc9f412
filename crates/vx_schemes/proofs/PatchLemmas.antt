-- Compressed patches: values that are all equal, and what the constructors admit.
use Rattle.std.proofs.Common.{◌≡◌, ◌<◌, ◌+◌, ◌-◌, ◌∙◌, ℕ, Bool, true, false, List, [], ◌∷◌, length, Some, None, cond, refl, sym, ap, subst, arith}
use Rattle.std.specs.Prelude.{◌&&◌, ◌||◌, not, is_some, option_map, position}
use Rattle.std.specs.List.{list_all, list_any}
use Rattle.std.proofs.lemmas.Bool.{or_parts, eq-eqb}
use Rattle.std.proofs.lemmas.List.{take_all}
use Rattle.std.proofs.lemmas.List.Quantifiers.{position-Some}
use Rattle.vx_base.specs.Masks.{rows_between}
use Rattle.vx_base.specs.Packed.{block_count}
use Rattle.vx_base.specs.PlainValue.{PlainValue, null, is_null, same_value, stored_value}
use Rattle.vx_base.specs.Storable.{same_refl}
use Rattle.vx_base.proofs.NullLemmas.{by_null, same-null, null-same}
use Rattle.vx_model.specs.Column.{column_of}
use Rattle.vx_model.specs.Leaf.{first_valid, null_or, each_null_or}
use Rattle.vx_model.specs.Plain.{validity, valid_bits}
use Rattle.vx_model.specs.Rows.{rows, row_at}
use Rattle.vx_model.specs.Tree.{Tree, PlainPatches}
use Rattle.vx_model.specs.WellFormed.{IsChunked, WellFormedChunks, WellFormedPatches}
use Rattle.vx_model.proofs.OneValueLemmas.{first_valid-position}
use Rattle.vx_schemes_common.proofs.NarrowedLemmas.{and_false}
use Rattle.vx_schemes.specs.Patches.Compressed.{shared_value, narrowed, constant_or_plain, compressed_patches}
use Rattle.vx_model.specs.Refusals.{patches_refusal, chunked_refusal}
use Rattle.vx_schemes.specs.Patches.Laws.{short_patches, short_chunks}

-- ---- values that are all equal

-- the first row that isn't null
pub record IsFirst (vs : List PlainValue) (row : ℕ) : Type 0 where
  pub within : row < length vs
  pub valid : is_null (row_at vs row) ≡ false
  pub first : first_valid vs ≡ Some (row_at vs row)

pub first_at : (vs : List PlainValue) (row : ℕ) → Some row ≡ position (λ v. not (is_null v)) vs → IsFirst vs row
first_at vs row e =
    let at = position-Some (λ v. not (is_null v)) vs row null (sym e) in
    record { within = at.0; valid = is_false (is_null (row_at vs row)) at.1; first = first_valid-position vs ∙ ap (option_map (row_at vs)) (sym e) }
  where
    is_false : (b : Bool) → not b ≡ true → b ≡ false
    is_false true q = absurd cc
    is_false false q = refl

-- validity bits stand where some row is null
pub bits-some : (vs : List PlainValue) → is_some (validity vs) ≡ list_any is_null vs
bits-some vs = by_any (list_any is_null vs)
  where
    by_any : (b : Bool) → is_some (cond b (Some (valid_bits vs)) None) ≡ b
    by_any true = refl
    by_any false = refl

same_first : (v : PlainValue) (vs : List PlainValue) → list_any is_null vs ≡ false → list_all (null_or v) vs ≡ list_all (λ w. same_value w v) vs
same_first v [] e = refl
same_first v (w ∷ ws) e =
    let b = or_parts (is_null w) (list_any is_null ws) e in
    (λ i. (b.0 i || same_value w v) && list_all (null_or v) ws) ∙ ap (λ rest. same_value w v && rest) (same_first v ws b.1)

-- where no row is null, the first value is shared, or none is
pub shared-first : (vs : List PlainValue) (v : PlainValue) → list_any is_null vs ≡ false → first_valid vs ≡ Some v → cond (each_null_or v vs) (Some v) None ≡ shared_value vs
shared-first [] v n e = absurd cc
shared-first (w ∷ ws) v n e =
    let b = or_parts (is_null w) (list_any is_null ws) n in
    let is : Some w ≡ Some v = rw b.0 at e in
    let first : w ≡ v = cc in
    subst (λ u. cond (each_null_or u (w ∷ ws)) (Some u) None ≡ shared_value (w ∷ ws)) first (ap (λ s. cond s (Some w) None) (whole b.0 b.1))
  where
    whole : is_null w ≡ false → list_any is_null ws ≡ false → each_null_or w (w ∷ ws) ≡ list_all (λ u. same_value u w) ws
    whole f rest = (λ i. (f i || same_value w w) && list_all (null_or w) ws) ∙ (λ i. same_refl stored_value w w refl i && same_first w ws rest i)

not_nulls : (vs : List PlainValue) (v : PlainValue) → first_valid vs ≡ Some v → list_all (λ w. same_value w null) vs ≡ false
not_nulls [] v e = absurd cc
not_nulls (w ∷ vs) v e = rw (same-null w) (by_test (is_null w) e (not_nulls vs v))
  where
    by_test : (b : Bool) → cond b (first_valid vs) (Some w) ≡ Some v → (first_valid vs ≡ Some v → list_all (λ u. same_value u null) vs ≡ false) → (b && list_all (λ u. same_value u null) vs) ≡ false
    by_test true q rest = rest q
    by_test false q rest = refl

all_nulls : (vs : List PlainValue) → first_valid vs ≡ None → list_all (λ w. same_value w null) vs ≡ true
all_nulls [] e = refl
all_nulls (w ∷ vs) e = rw (same-null w) (by_test (is_null w) e (all_nulls vs))
  where
    by_test : (b : Bool) → cond b (first_valid vs) (Some w) ≡ None → (first_valid vs ≡ None → list_all (λ u. same_value u null) vs ≡ true) → (b && list_all (λ u. same_value u null) vs) ≡ true
    by_test true q rest = rest q
    by_test false q rest = absurd cc

some_null : (vs : List PlainValue) (v : PlainValue) → is_null v ≡ false → list_any is_null vs ≡ true → list_all (λ w. same_value w v) vs ≡ false
some_null [] v f n = absurd cc
some_null (w ∷ vs) v f n = first w n (some_null vs v f)
  where
    first : (u : PlainValue) → (is_null u || list_any is_null vs) ≡ true → (list_any is_null vs ≡ true → list_all (λ x. same_value x v) vs ≡ false) → (same_value u v && list_all (λ x. same_value x v) vs) ≡ false
    first =
        by_null (λ u. (is_null u || list_any is_null vs) ≡ true → (list_any is_null vs ≡ true → list_all (λ x. same_value x v) vs ≡ false) → (same_value u v && list_all (λ x. same_value x v) vs) ≡ false)
        (λ q rest. ap (λ b. b && list_all (λ x. same_value x v) vs) (null-same v ∙ f)) (λ u g q rest. ap (λ b. same_value u v && b) (rest (rw g at q)) ∙ and_false (same_value u v))

-- no value is shared where there are nulls and values
pub shared-mixed : (vs : List PlainValue) (v : PlainValue) → list_any is_null vs ≡ true → first_valid vs ≡ Some v → shared_value vs ≡ None
shared-mixed [] v n e = refl
shared-mixed (w ∷ vs) v n e = first w n e
  where
    first : (u : PlainValue) → list_any is_null (u ∷ vs) ≡ true → first_valid (u ∷ vs) ≡ Some v → shared_value (u ∷ vs) ≡ None
    first =
        by_null (λ u. list_any is_null (u ∷ vs) ≡ true → first_valid (u ∷ vs) ≡ Some v → shared_value (u ∷ vs) ≡ None) (λ m q. ap (λ b. cond b (Some null) None) (not_nulls vs v q))
        (λ u f m q. ap (λ b. cond b (Some u) None) (some_null vs u f (rw f at m)))

pub shared-nulls : (vs : List PlainValue) → 0 < length vs → first_valid vs ≡ None → shared_value vs ≡ Some null
shared-nulls [] h e = absurd (omega arith)
shared-nulls (w ∷ vs) h e = first w e
  where
    some_one : (u : PlainValue) → Some u ≡ None → ⊥
    some_one u q = cc

    first : (u : PlainValue) → first_valid (u ∷ vs) ≡ None → shared_value (u ∷ vs) ≡ Some null
    first = by_null (λ u. first_valid (u ∷ vs) ≡ None → shared_value (u ∷ vs) ≡ Some null) (λ q. ap (λ b. cond b (Some null) None) (all_nulls vs q)) (λ u f q. absurd (some_one u (rw f at q)))

pub shared-none : (vs : List PlainValue) → length vs ≡ 0 → shared_value vs ≡ None
shared-none [] h = refl
shared-none (v ∷ vs) h = absurd (omega arith)

-- ---- row by row, where the first one is at hand

behind : (v : PlainValue) (vs : List PlainValue) → rows_between (v ∷ vs) 1 (length (v ∷ vs)) ≡ vs
behind v vs = take_all (length (v ∷ vs) - 1) vs (omega arith)

pub shared-each : (vs : List PlainValue) → 0 < length vs → list_all (λ w. same_value w (row_at vs 0)) (rows_between vs 1 (length vs)) ≡ true → shared_value vs ≡ Some (row_at vs 0)
shared-each [] l h = absurd (omega arith)
shared-each (v ∷ vs) l h = ap (λ b. cond b (Some v) None) (ap (list_all (λ w. same_value w v)) (sym (behind v vs)) ∙ h)

pub shared-other : (vs : List PlainValue) → list_all (λ w. same_value w (row_at vs 0)) (rows_between vs 1 (length vs)) ≡ false → shared_value vs ≡ None
shared-other [] h = refl
shared-other (v ∷ vs) h = ap (λ b. cond b (Some v) None) (ap (list_all (λ w. same_value w v)) (sym (behind v vs)) ∙ h)

-- ---- so the constructors admit compressed patches

pub short_admitted : (p : PlainPatches) → WellFormedPatches p → patches_refusal (compressed_patches p) ≡ None
short_admitted p h =
    let w = short_patches p h in
    rw (eq-eqb (length (rows (narrowed p.indices))) (length (rows (constant_or_plain (column_of p.values)))) w.lengths, w.ascending) refl

pub chunked_admitted : (p : PlainPatches) (chunks : Tree) → p.chunks ≡ Some chunks → WellFormedPatches p → chunked_refusal (compressed_patches p) (narrowed chunks) ≡ None
chunked_admitted p chunks e h =
    let w = short_patches p h in
    let own : IsChunked p.array_len p.offset (narrowed p.indices) (narrowed chunks) = (subst (λ o. WellFormedChunks p.array_len p.offset (narrowed p.indices) (option_map narrowed o)) e (short_chunks p h)).1 in
    rw (
      eq-eqb (length (rows (narrowed p.indices))) (length (rows (constant_or_plain (column_of p.values)))) w.lengths,
      eq-eqb (length (rows (narrowed chunks))) (block_count (p.offset + p.array_len)) own.lengths,
      w.ascending,
      own.counted,
    ) refl
