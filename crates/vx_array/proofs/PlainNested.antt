-- When trees of nested columns are plain: what is inside is, and what stands beneath nulls is the default.
use Rattle.std.proofs.Common.{◌≡◌, ◌∙◌, ◌<◌, ◌≤◌, ◌+◌, ◌++◌, ℕ, zero, suc, List, [], ◌∷◌, length, map, take, get_or, refl, sym, ap, subst, arith, Bool, true, false, cond, Some, None}
use Rattle.std.specs.Prelude.{IsTrue, ◌↔◌, ◌==◌}
use Rattle.std.specs.List.{list_all}
use Rattle.std.proofs.lemmas.Bool.{and_parts, and_from, eqb-true}
use Rattle.std.proofs.lemmas.List.{length-replicate, take_more, take_all}
use Rattle.vx_base.specs.declared.dtype.Nullability.{Nullability}
use Rattle.vx_base.specs.Defaults.{field_defaults, null_or_default}
use Rattle.vx_base.specs.PlainScalar.{fits}
use Rattle.vx_base.specs.PlainType.{PlainType}
use Rattle.vx_base.specs.PlainType as types
use Rattle.vx_base.specs.PlainValue.{PlainValue, null, stored_value}
use Rattle.vx_base.specs.Storable.{same_path, same_refl}
use Rattle.vx_base.proofs.FitLemmas.{fits-null_or_default}
use Rattle.vx_model.specs.Column.{column_of}
use Rattle.vx_model.specs.Decoded.{zeroed, zeroed_by}
use Rattle.vx_model.specs.Nested.{first_within, rest_within, names_of}
use Rattle.vx_model.specs.Plain.{IsPlain, plain, plain_of, plain_fields}
use Rattle.vx_model.specs.Refusals.{validity_length}
use Rattle.vx_model.specs.Rows.{rows, each_before, field_rows}
use Rattle.vx_model.specs.Tree.{Tree, Trees, Validity, nulls, structure, none, more, list_of, of_list}
use Rattle.vx_model.specs.TreeType.{tree_type, field_types}
use Rattle.vx_model.specs.WellFormed.{WellFormed, AllWellFormed, all_have_rows}
use Rattle.vx_model.proofs.FlatLemmas.{same_beneath}
use Rattle.vx_model.proofs.ItemMapLemmas.{map-zeroed_by}
use Rattle.vx_model.proofs.MadeLemmas.{rows_fit}
use Rattle.vx_model.proofs.PlainLemmas.{rows-plain_of}
use Rattle.vx_model.proofs.StructLemmas.{first-each_before, rest-each_before, length-field_rows, length-structure, validity-structure, items-structure}
use Rattle.vx_array.specs.Beneath.{is_default, defaults_beneath, ArePlain}

pub plain-nulls : (len : ℕ) → IsPlain (nulls len)
plain-nulls len = ap nulls (sym (length-replicate len null))

-- ---- a value that is the default, or not

pub default_found : (t : PlainType) (v : PlainValue) → is_default t v ≡ true → v ≡ null_or_default t
default_found t v e = same_path stored_value v (null_or_default t) e

pub default_is : (t : PlainType) → is_default t (null_or_default t) ≡ true
default_is t = same_refl stored_value (null_or_default t) (null_or_default t) refl

-- with the default beneath nulls, values fit as they did
module _ {A : Type 0} (p : A → Bool) (default : A) (own : p default ≡ true) where
  one_passes : (b : Bool) (x : A) → p x ≡ true → p (cond b x default) ≡ true
  one_passes true x h = h
  one_passes false x h = own

  zeroed-passes : (bits : List Bool) (xs : List A) → list_all p xs ≡ true → list_all p (zeroed default bits xs) ≡ true
  zeroed-passes [] xs h = h
  zeroed-passes (b ∷ bits) [] h = refl
  zeroed-passes (b ∷ bits) (x ∷ xs) h = let s = and_parts (p x) (list_all p xs) h in and_from _ _ (one_passes b x s.0) (zeroed-passes bits xs s.1)

  pub zeroed_by-passes : (valid : Validity) (xs : List A) → list_all p xs ≡ true → list_all p (zeroed_by default valid xs) ≡ true
  zeroed_by-passes None xs h = h
  zeroed_by-passes (Some bits) xs h = zeroed-passes bits xs h

-- ---- structs

pub names-back : (names : List (List ℕ)) (fields : Trees) → length names ≡ length (list_of fields) → names_of (field_types names fields) ≡ names
names-back [] none e = refl
names-back [] (more t ts) e = absurd (omega arith)
names-back (name ∷ names) none e = absurd (omega arith)
names-back (name ∷ names) (more t ts) e = ap (λ ns. name ∷ ns) (names-back names ts (omega arith))

module _ (t : Tree) (valid : Validity) (w : WellFormed t) where
  abbrev pub own_values : List PlainValue
  own_values = zeroed_by (null_or_default (tree_type t)) valid (rows t)

  unchanged : (IsTrue (defaults_beneath valid t)) ↔ (own_values ≡ rows t)
  unchanged = same_beneath (null_or_default (tree_type t)) (is_default (tree_type t)) (default_found (tree_type t)) (default_is (tree_type t)) valid (rows t)

  field-plain : (IsPlain t × IsTrue (defaults_beneath valid t)) ↔ (t ≡ plain_of (tree_type t) own_values)
  field-plain = (
    λ h. h.0 ∙ ap (plain_of (tree_type t)) (sym (unchanged.0 h.1)),
    λ q.
        let fit = zeroed_by-passes (fits (tree_type t)) (null_or_default (tree_type t)) (fits-null_or_default (tree_type t)) valid (rows t) (rows_fit t w) in
        let back : own_values ≡ rows t = sym (ap rows q ∙ rows-plain_of (tree_type t) own_values fit) in
        (q ∙ ap (plain_of (tree_type t)) back, unchanged.1 back),
  )

pub fields-plain : (names : List (List ℕ)) (fields : Trees) (len : ℕ) (valid : Validity) → length names ≡ length (list_of fields) → all_have_rows len fields ≡ true → AllWellFormed fields
    → ArePlain valid fields ↔ (fields ≡ plain_fields (field_types names fields) (zeroed_by (field_defaults (field_types names fields)) valid (field_rows fields len)))
fields-plain [] none len valid e h w = (λ a. refl, λ q. tt)
fields-plain [] (more t ts) len valid e h w = absurd (omega arith)
fields-plain (name ∷ names) none len valid e h w = absurd (omega arith)
fields-plain (name ∷ names) (more t ts) len valid e h w =
    let both = and_parts (length (rows t) == len) (all_have_rows len ts) h in
    let behind = field_rows ts len in
    let same : length (rows t) ≡ length behind = eqb-true (length (rows t)) len both.0 ∙ sym (length-field_rows ts len both.1) in
    let default = field_defaults (types.more name (tree_type t) (field_types names ts)) in
    let whole = zeroed_by default valid (each_before (rows t) behind) in
    let firsts : map first_within whole ≡ own_values t valid w.0 =
    map-zeroed_by first_within default valid (each_before (rows t) behind) ∙ ap (zeroed_by (null_or_default (tree_type t)) valid) (first-each_before (rows t) behind same) in
    let rests : map rest_within whole ≡ zeroed_by (field_defaults (field_types names ts)) valid behind =
    map-zeroed_by rest_within default valid (each_before (rows t) behind) ∙ ap (zeroed_by (field_defaults (field_types names ts)) valid) (rest-each_before (rows t) behind same) in
    let one = field-plain t valid w.0 in
    let others = fields-plain names ts len valid (omega arith) both.1 w.1 in (
      λ a. (λ i. more (one.0 a.0 i) (others.0 a.1 i)) ∙ (λ i. more (plain_of (tree_type t) (sym firsts i)) (plain_fields (field_types names ts) (sym rests i))),
      λ q.
          let split : more t ts ≡ more (plain_of (tree_type t) (own_values t valid w.0)) (plain_fields (field_types names ts) (zeroed_by (field_defaults (field_types names ts)) valid behind)) =
          q ∙ (λ i. more (plain_of (tree_type t) (firsts i)) (plain_fields (field_types names ts) (rests i))) in
          let first : t ≡ plain_of (tree_type t) (own_values t valid w.0) = cc in
          let rest : ts ≡ plain_fields (field_types names ts) (zeroed_by (field_defaults (field_types names ts)) valid behind) = cc in
          (one.1 first, others.1 rest),
    )

pub plain-structure : (names : List (List ℕ)) (fields : Trees) (len : ℕ) (valid : Validity) (n : Nullability) → WellFormed (structure names fields len valid n) → ArePlain valid fields ↔ IsPlain (structure names fields len valid n)
plain-structure names fields len valid n w =
    let fs = field_types names fields in
    let tree = structure names fields len valid n in
    let values = zeroed_by (field_defaults fs) valid (field_rows fields len) in
    let own : plain (column_of tree) ≡ structure names (plain_fields fs values) len valid n =
    λ i. structure (names-back names fields w.1.named i) (plain_fields fs (items-structure names fields len valid n w i)) (length-structure names fields len valid n w i) (validity-structure names fields len valid n w i) n in
    let each = fields-plain names fields len valid w.1.named w.1.lengths w.0 in (
      λ a. ap (λ ts. structure names ts len valid n) (each.0 a) ∙ sym own,
      λ q.
          let same : structure names fields len valid n ≡ structure names (plain_fields fs values) len valid n = q ∙ own in
          let inside : fields ≡ plain_fields fs values = cc in
          each.1 inside,
    )

-- ---- trees one after the other

-- each has as many rows as the validity has bits
pub each_length : (valid : Validity) (len : ℕ) (ts : List Tree) → validity_length valid len ≡ true → all_have_rows len (of_list ts) ≡ true → list_all (λ t. validity_length valid (length (rows t))) ts ≡ true
each_length valid len [] v h = refl
each_length valid len (t ∷ ts) v h =
    let b = and_parts (length (rows t) == len) (all_have_rows len (of_list ts)) h in
    and_from _ _ (ap (validity_length valid) (eqb-true (length (rows t)) len b.0) ∙ v) (each_length valid len ts v b.1)

pub plain_at : (valid : Validity) (ts : List Tree) (i : ℕ) (t : Tree) → i < length ts → t ≡ get_or ts i t → ArePlain valid (of_list ts) → IsPlain t × IsTrue (defaults_beneath valid t)
plain_at valid [] i t l e h = absurd (omega arith)
plain_at valid (s ∷ ts) zero t l e h = subst (λ u. IsPlain u × IsTrue (defaults_beneath valid u)) (sym e) h.0
plain_at valid (s ∷ ts) (suc i) t l e h = plain_at valid ts i t (omega arith) e h.1

plain_more : (valid : Validity) (ts : List Tree) (t : Tree) → ArePlain valid (of_list ts) → IsPlain t × IsTrue (defaults_beneath valid t) → ArePlain valid (of_list (ts ++ t ∷ []))
plain_more valid [] t h own = (own, tt)
plain_more valid (s ∷ ts) t h own = (h.0, plain_more valid ts t h.1 own)

pub plain_next : (valid : Validity) (ts : List Tree) (i : ℕ) (t : Tree) → i < length ts → t ≡ get_or ts i t → ArePlain valid (of_list (take i ts)) → IsPlain t × IsTrue (defaults_beneath valid t) → ArePlain valid (of_list (take (i + 1) ts))
plain_next valid ts i t l e h own = rw (take_more ts i t l, ← e) (plain_more valid (take i ts) t h own)

pub plain_all : (valid : Validity) (ts : List Tree) (i : ℕ) → length ts ≤ i → ArePlain valid (of_list (take i ts)) → ArePlain valid (of_list ts)
plain_all valid ts i l h = subst (λ us. ArePlain valid (of_list us)) (take_all i ts l) h
