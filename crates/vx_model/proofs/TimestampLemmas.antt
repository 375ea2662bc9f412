-- Timestamps over their storage: that a constructor's tree is well formed, and when it is plain.
use Rattle.std.proofs.Common.{◌≡◌, ◌↔◌, List, [], ◌∷◌, true, refl, sym, ap, subst, ◌∙◌, None}
use Rattle.std.specs.List.{list_all}
use Rattle.std.proofs.lemmas.Bool.{and_parts, and_from}
use Rattle.vx_base.specs.declared.dtype.Nullability.{Nullability}
use Rattle.vx_base.specs.declared.ptype.PType.TheVariants.{I64}
use Rattle.vx_base.specs.Integers.{lies_in}
use Rattle.vx_base.specs.PlainScalar.{fits}
use Rattle.vx_base.specs.PlainType.{allows_null, nullability_of, stored_type}
use Rattle.vx_base.specs.PlainType as types
use Rattle.vx_base.specs.PlainValue.{PlainValue, null, int}
use Rattle.vx_base.specs.Storable.{same_path}
use Rattle.vx_base.specs.Timestamps.{PlainTimestamp}
use Rattle.vx_model.specs.Column.{column_of}
use Rattle.vx_model.specs.Plain.{IsPlain, plain, plain_of}
use Rattle.vx_model.specs.Refusals.{timestamp_refusal}
use Rattle.vx_model.specs.Rows.{rows}
use Rattle.vx_model.specs.Tree.{Tree, timestamp}
use Rattle.vx_model.specs.TreeType.{tree_type}
use Rattle.vx_model.specs.WellFormed.{WellFormed}
use Rattle.vx_model.proofs.MadeLemmas.{rows_fit}
use Rattle.vx_model.proofs.PackedLemmas.{passed}

-- whole numbers of 64 signed bits are timestamps
wholes_fit : (k : PlainTimestamp) (n : Nullability) (vs : List PlainValue) → list_all (fits (types.primitive I64 n)) vs ≡ true → list_all (fits (types.timestamp k n)) vs ≡ true
wholes_fit k n [] h = refl
wholes_fit k n (null ∷ vs) h = let b = and_parts (allows_null n) (list_all (fits (types.primitive I64 n)) vs) h in and_from _ _ b.0 (wholes_fit k n vs b.1)
wholes_fit k n (int z ∷ vs) h = let b = and_parts (lies_in I64 z) (list_all (fits (types.primitive I64 n)) vs) h in and_from _ _ b.0 (wholes_fit k n vs b.1)
wholes_fit k n (v ∷ vs) h = absurd cc

-- a constructor's tree is well formed, where nothing is refused
pub timestamp_accepted : (storage : Tree) (k : PlainTimestamp) → timestamp_refusal storage ≡ None → WellFormed storage → WellFormed (timestamp storage k)
timestamp_accepted storage k h w =
    let n = nullability_of (tree_type storage) in
    let typed : tree_type storage ≡ types.primitive I64 n = same_path stored_type (tree_type storage) (types.primitive I64 n) (passed _ _ _ h).0 in
    (w, record { storage_type = typed }, wholes_fit k n (rows storage) (subst (λ t. list_all (fits t) (rows storage) ≡ true) typed (rows_fit storage w)))

-- the plain tree of timestamps is the plain tree of their storage, as a kind
pub plain_of-storage : (storage : Tree) (k : PlainTimestamp) → WellFormed (timestamp storage k) → plain (column_of (timestamp storage k)) ≡ timestamp (plain (column_of storage)) k
plain_of-storage storage k h = ap (λ t. timestamp (plain_of t (rows storage)) k) (sym h.1.storage_type)

pub plain-timestamp : (storage : Tree) (k : PlainTimestamp) → WellFormed (timestamp storage k) → IsPlain storage ↔ IsPlain (timestamp storage k)
plain-timestamp storage k h =
    let e = plain_of-storage storage k h in (
      λ p. ap (λ s. timestamp s k) p ∙ sym e,
      λ q. let s : timestamp storage k ≡ timestamp (plain (column_of storage)) k = q ∙ e in cc,
    )
