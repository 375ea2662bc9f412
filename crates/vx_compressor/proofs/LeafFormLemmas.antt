-- Trees that stand for a column, among them those that its values alone decide.
use Rattle.std.proofs.Common.{◌≡◌, ◌≢◌, ◌∙◌, Bool, true, false, List, [], ◌∷◌, length, Option, None, Some, cond, refl, sym, ap}
use Rattle.std.specs.Prelude.{if◌then◌else◌, option_and_then}
use Rattle.std.specs.List.{list_all, list_any}
use Rattle.std.proofs.lemmas.Bool.{cond_both, and_parts, or_left}
use Rattle.std.proofs.lemmas.List.{length-replicate}
use Rattle.vx_base.specs.PlainScalar.{fits, scalar}
use Rattle.vx_base.specs.Answers.{unless}
use Rattle.vx_base.specs.declared.dtype.Nullability.{Nullability}
use Rattle.vx_base.specs.declared.error.VortexError.TheVariants.{MismatchedTypes}
use Rattle.vx_base.specs.declared.ptype.PType.TheVariants.{I64}
use Rattle.vx_base.specs.Storable.{same_refl}
use Rattle.vx_base.specs.PlainType.{PlainType, primitive, is_flat, is_nullable, nullability_of, stored_type}
use Rattle.vx_base.proofs.NullLemmas.{null-fitted}
use Rattle.vx_base.specs.PlainValue.{PlainValue, null, is_null}
use Rattle.vx_model.specs.Column.{Column, IsColumn, column, column_of}
use Rattle.vx_model.specs.Leaf.{first_valid, each_null_or, one_value, one_value_tree}
use Rattle.vx_model.specs.Plain.{plain, valid_bits}
use Rattle.vx_model.specs.Refusals.{timestamp_refusal}
use Rattle.vx_model.specs.Tree.{Tree, constant, masked}
use Rattle.vx_model.specs.TreeType.{tree_type}
use Rattle.vx_model.specs.WellFormed.{WellFormed}
use Rattle.vx_model.proofs.FewLemmas.{few-flat}
use Rattle.vx_model.proofs.MadeLemmas.{constant_made, masked_made}
use Rattle.vx_model.proofs.NullLemmas.{any_null-replicate}
use Rattle.vx_model.proofs.OneValueLemmas.{first_valid-valid, one_value-some, replicate-nulls, rows-one_value_tree, type-one_value_tree}
use Rattle.vx_model.proofs.PlainLemmas.{column_of-plain, length-valid_bits, plain_well_formed}
use Rattle.vx_compressor.proofs.OneValueTrees.{first_fits_in}

-- a well-formed tree of the column
abbrev pub StandsFor : Tree → Column → Type 0
StandsFor t c = WellFormed t × (column_of t ≡ c)

pub plain-stands : (c : Column) → IsColumn c → is_flat c.dtype ≡ true → StandsFor (plain c) c
plain-stands c fits flat = (plain_well_formed c fits (few-flat c.dtype c.values flat), column_of-plain c fits)

-- ---- nulls alone

null_fits : (t : PlainType) (vs : List PlainValue) → length vs ≢ 0 → list_all is_null vs ≡ true → list_all (fits t) vs ≡ true → is_nullable t ≡ true
null_fits t [] full e h = absurd (full refl)
null_fits t (v ∷ vs) full e h = null-fitted t (v ∷ vs) h (or_left (is_null v) (list_any is_null vs) (and_parts (is_null v) (list_all is_null vs) e).0)

pub nulls-stand : (c : Column) → IsColumn c → length c.values ≢ 0 → list_all is_null c.values ≡ true → StandsFor (constant (scalar c.dtype null) (length c.values)) c
nulls-stand c fit full nulls =
    let same = replicate-nulls c.values nulls in
    (constant_made (scalar c.dtype null) (length c.values) (null_fits c.dtype c.values full nulls fit), (λ i. column c.dtype (same i)))

-- ---- one value

-- it is the first valid one
first_of : (vs : List PlainValue) (v : PlainValue) → one_value vs ≡ Some v → first_valid vs ≡ Some v
first_of vs v = of_first (first_valid vs)
  where
    of_each : (w : PlainValue) (b : Bool) → cond b (Some w) None ≡ Some v → Some w ≡ Some v
    of_each w true e = e
    of_each w false e = absurd cc

    of_first : (o : Option PlainValue) → option_and_then (λ w. if each_null_or w vs then Some w else None) o ≡ Some v → o ≡ Some v
    of_first None e = absurd cc
    of_first (Some w) e = of_each w (each_null_or w vs) e

pub one-stands : (c : Column) (v : PlainValue) → IsColumn c → is_flat c.dtype ≡ true → one_value c.values ≡ Some v → StandsFor (one_value_tree c v) c
one-stands c v fit flat one =
    let first = first_of c.values v one in
    let fitting = first_fits_in c.dtype c.values v first fit in
    let alone : WellFormed (constant (scalar c.dtype v) (length c.values)) = constant_made (scalar c.dtype v) (length c.values) fitting in
    let well : WellFormed (one_value_tree c v) =
    cond_both (list_any is_null c.values) (masked (constant (scalar c.dtype v) (length c.values)) (valid_bits c.values)) (constant (scalar c.dtype v) (length c.values)) WellFormed
    (λ some. masked_made (constant (scalar c.dtype v) (length c.values)) (valid_bits c.values) flat (null-fitted c.dtype c.values fit some) (length-valid_bits c.values ∙ sym (length-replicate (length c.values) v)) (any_null-replicate (length c.values) v (first_valid-valid c.values v first)) alone)
    (λ none. alone) in
    (well, (λ i. column (type-one_value_tree c v i) (rows-one_value_tree c v (one_value-some c.values v one) i)))

-- ---- timestamps

pub timestamp-admitted : (storage : Tree) (n : Nullability) → tree_type storage ≡ primitive I64 n → timestamp_refusal storage ≡ None
timestamp-admitted storage n typed =
    ap (λ b. unless b MismatchedTypes None)
    (same_refl stored_type (tree_type storage) (primitive I64 (nullability_of (tree_type storage))) (typed ∙ ap (λ t. primitive I64 (nullability_of t)) (sym typed)))
