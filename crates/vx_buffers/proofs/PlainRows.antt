-- What a plain tree of a type is: one node with the rows, their validity and the type.
use Rattle.std.proofs.Common.{◌≡◌, ◌∙◌, ℕ, ℤ, Bool, true, List, [], length, map, refl, sym, ap, None}
use Rattle.std.proofs.lemmas.Bool.{false≢true}
use Rattle.std.proofs.lemmas.List.{length-map}
use Rattle.vx_base.specs.declared.array_id.ArrayId.TheVariants as ids
use Rattle.vx_base.specs.declared.dtype.Nullability.{Nullability}
use Rattle.vx_base.specs.declared.ptype.PType.{PType}
use Rattle.vx_base.specs.declared.ptype.PType.TheVariants.{I64}
use Rattle.vx_base.specs.PlainType.{PlainType, boolean, is_bytes, is_timestamp, nullability_of, stored_type}
use Rattle.vx_base.specs.PlainType as types
use Rattle.vx_base.specs.PlainValue.{PlainValue, bytes_or_empty, is_null, truth_or_false, whole_or_zero}
use Rattle.vx_base.specs.Storable.{same_path}
use Rattle.vx_base.specs.Timestamps.{PlainTimestamp}
use Rattle.vx_buffers.specs.Decoded.{HasIntegers, HasStamps, HasTexts, HasTruths, is_bool, is_of, integers_of, texts_of, truths_of}
use Rattle.vx_model.proofs.DecodeLemmas.{length-validity}
use Rattle.vx_model.specs.Nodes.{encoding}
use Rattle.vx_model.specs.Plain.{IsPlain, plain_of, validity}
use Rattle.vx_model.specs.Refusals.{validity_length}
use Rattle.vx_model.specs.Rows.{rows}
use Rattle.vx_model.specs.Tree.{Tree, Validity, bool, primitive, timestamp, var_bin_view}
use Rattle.vx_model.specs.TreeType.{tree_type}
use Rattle.vx_values.specs.IntsOf.{ptype_of, wholes_of}
use Rattle.vx_values.specs.declared.ints.Ints.{Ints}

-- by its type
pub plain_is : (t : Tree) (u : PlainType) → IsPlain t → tree_type t ≡ u → t ≡ plain_of u (rows t)
plain_is t u h e = h ∙ ap (λ d. plain_of d (rows t)) e

-- the validity of rows has a bit for each
pub validity_fits : (vs : List PlainValue) → validity_length (validity vs) (length vs) ≡ true
validity_fits vs = ap (validity_length (validity vs)) (sym (length-map vs is_null)) ∙ length-validity is_null vs

-- ---- integers
abbrev type_in : Tree → PType
type_in (primitive p xs valid n) = p
type_in _ = I64

abbrev wholes_in : Tree → List ℤ
wholes_in (primitive p xs valid n) = xs
wholes_in _ = []

abbrev valid_in : Tree → Validity
valid_in (primitive p xs valid n) = valid
valid_in _ = None

integer_type : (p : PType) (t : Tree) → is_of p (tree_type t) ≡ true → tree_type t ≡ types.primitive p (nullability_of (tree_type t))
integer_type p t is = same_path stored_type (tree_type t) (types.primitive p (nullability_of (tree_type t))) is

pub primitive_root : (p : PType) (t : Tree) → IsPlain t → is_of p (tree_type t) ≡ true → encoding t ≡ ids.Primitive
primitive_root p t h is = ap encoding (plain_is t (types.primitive p (nullability_of (tree_type t))) h (integer_type p t is))

pub has_integers : (p : PType) (t : Tree) (ints : Ints) (valid : Validity) (n : Nullability) → IsPlain t → is_of p (tree_type t) ≡ true → primitive (ptype_of ints) (wholes_of ints) valid n ≡ t → HasIntegers p t ints valid
has_integers p t ints valid n h is made =
    let m = nullability_of (tree_type t) in
    let whole : primitive (ptype_of ints) (wholes_of ints) valid n ≡ primitive p (integers_of t) (validity (rows t)) m = made ∙ plain_is t (types.primitive p m) h (integer_type p t is) in
    record {
      is = is;
      kind = ap type_in whole;
      wholes = ap wholes_in whole;
      valid = ap valid_in whole;
      count = ap length (ap wholes_in whole) ∙ length-map (rows t) whole_or_zero;
      fits = ap (λ v. validity_length v (length (rows t))) (ap valid_in whole) ∙ validity_fits (rows t);
    }

-- ---- timestamps
abbrev storage_in : Tree → Tree
storage_in (timestamp s k) = s
storage_in t = t

stored : (u : PlainType) (vs : List PlainValue) → is_timestamp u ≡ true → storage_in (plain_of u vs) ≡ primitive I64 (map whole_or_zero vs) (validity vs) (nullability_of u)
stored types.null_type vs h = absurd (false≢true h)
stored (types.boolean n) vs h = absurd (false≢true h)
stored (types.primitive p n) vs h = absurd (false≢true h)
stored (types.utf8 n) vs h = absurd (false≢true h)
stored (types.binary n) vs h = absurd (false≢true h)
stored (types.timestamp k n) vs h = refl
stored (types.structure fs n) vs h = absurd (false≢true h)
stored (types.list d n) vs h = absurd (false≢true h)
stored (types.fixed_size_list d size n) vs h = absurd (false≢true h)

stamped_root : (u : PlainType) (vs : List PlainValue) → is_timestamp u ≡ true → encoding (plain_of u vs) ≡ ids.Timestamp
stamped_root types.null_type vs h = absurd (false≢true h)
stamped_root (types.boolean n) vs h = absurd (false≢true h)
stamped_root (types.primitive p n) vs h = absurd (false≢true h)
stamped_root (types.utf8 n) vs h = absurd (false≢true h)
stamped_root (types.binary n) vs h = absurd (false≢true h)
stamped_root (types.timestamp k n) vs h = refl
stamped_root (types.structure fs n) vs h = absurd (false≢true h)
stamped_root (types.list d n) vs h = absurd (false≢true h)
stamped_root (types.fixed_size_list d size n) vs h = absurd (false≢true h)

pub timestamp_root : (t : Tree) → IsPlain t → is_timestamp (tree_type t) ≡ true → encoding t ≡ ids.Timestamp
timestamp_root t h is = ap encoding h ∙ stamped_root (tree_type t) (rows t) is

pub storage_is : (t s : Tree) (k : PlainTimestamp) → IsPlain t → is_timestamp (tree_type t) ≡ true → timestamp s k ≡ t → s ≡ primitive I64 (integers_of t) (validity (rows t)) (nullability_of (tree_type t))
storage_is t s k h is made = ap storage_in made ∙ ap storage_in h ∙ stored (tree_type t) (rows t) is

pub storage_root : (t s : Tree) (k : PlainTimestamp) → IsPlain t → is_timestamp (tree_type t) ≡ true → timestamp s k ≡ t → encoding s ≡ ids.Primitive
storage_root t s k h is made = ap encoding (storage_is t s k h is made)

pub has_stamps : (t s : Tree) (k : PlainTimestamp) (ints : Ints) (valid : Validity) (n : Nullability) → IsPlain t → is_timestamp (tree_type t) ≡ true → timestamp s k ≡ t → primitive (ptype_of ints) (wholes_of ints) valid n ≡ s → HasStamps t ints valid
has_stamps t s k ints valid n h is made parts =
    let whole : primitive (ptype_of ints) (wholes_of ints) valid n ≡ primitive I64 (integers_of t) (validity (rows t)) (nullability_of (tree_type t)) = parts ∙ storage_is t s k h is made in
    record {
      is = is;
      kind = ap type_in whole;
      wholes = ap wholes_in whole;
      valid = ap valid_in whole;
      count = ap length (ap wholes_in whole) ∙ length-map (rows t) whole_or_zero;
      fits = ap (λ v. validity_length v (length (rows t))) (ap valid_in whole) ∙ validity_fits (rows t);
    }

-- ---- truth values
abbrev bits_in : Tree → List Bool
bits_in (bool bits valid n) = bits
bits_in _ = []

abbrev bits_valid : Tree → Validity
bits_valid (bool bits valid n) = valid
bits_valid _ = None

bool_type : (u : PlainType) → is_bool u ≡ true → u ≡ boolean (nullability_of u)
bool_type types.null_type h = absurd (false≢true h)
bool_type (types.boolean n) h = refl
bool_type (types.primitive p n) h = absurd (false≢true h)
bool_type (types.utf8 n) h = absurd (false≢true h)
bool_type (types.binary n) h = absurd (false≢true h)
bool_type (types.timestamp k n) h = absurd (false≢true h)
bool_type (types.structure fs n) h = absurd (false≢true h)
bool_type (types.list d n) h = absurd (false≢true h)
bool_type (types.fixed_size_list d size n) h = absurd (false≢true h)

bool_is : (t : Tree) → IsPlain t → is_bool (tree_type t) ≡ true → t ≡ bool (truths_of t) (validity (rows t)) (nullability_of (tree_type t))
bool_is t h is = plain_is t (boolean (nullability_of (tree_type t))) h (bool_type (tree_type t) is)

pub bool_root : (t : Tree) → IsPlain t → is_bool (tree_type t) ≡ true → encoding t ≡ ids.Bool
bool_root t h is = ap encoding (bool_is t h is)

pub has_truths : (t : Tree) (bits : List Bool) (valid : Validity) (n : Nullability) → IsPlain t → is_bool (tree_type t) ≡ true → bool bits valid n ≡ t → HasTruths t bits valid
has_truths t bits valid n h is made =
    let whole : bool bits valid n ≡ bool (truths_of t) (validity (rows t)) (nullability_of (tree_type t)) = made ∙ bool_is t h is in
    record {
      is = is;
      truths = ap bits_in whole;
      valid = ap bits_valid whole;
      count = ap length (ap bits_in whole) ∙ length-map (rows t) truth_or_false;
      fits = ap (λ v. validity_length v (length (rows t))) (ap bits_valid whole) ∙ validity_fits (rows t);
    }

-- ---- texts and binaries
abbrev texts_at : Tree → List (List ℕ)
texts_at (var_bin_view vs valid d) = vs
texts_at _ = []

abbrev texts_valid : Tree → Validity
texts_valid (var_bin_view vs valid d) = valid
texts_valid _ = None

viewed : (u : PlainType) (vs : List PlainValue) → is_bytes u ≡ true → plain_of u vs ≡ var_bin_view (map bytes_or_empty vs) (validity vs) u
viewed types.null_type vs h = absurd (false≢true h)
viewed (types.boolean n) vs h = absurd (false≢true h)
viewed (types.primitive p n) vs h = absurd (false≢true h)
viewed (types.utf8 n) vs h = refl
viewed (types.binary n) vs h = refl
viewed (types.timestamp k n) vs h = absurd (false≢true h)
viewed (types.structure fs n) vs h = absurd (false≢true h)
viewed (types.list d n) vs h = absurd (false≢true h)
viewed (types.fixed_size_list d size n) vs h = absurd (false≢true h)

view_is : (t : Tree) → IsPlain t → is_bytes (tree_type t) ≡ true → t ≡ var_bin_view (texts_of t) (validity (rows t)) (tree_type t)
view_is t h is = h ∙ viewed (tree_type t) (rows t) is

pub view_root : (t : Tree) → IsPlain t → is_bytes (tree_type t) ≡ true → encoding t ≡ ids.VarBinView
view_root t h is = ap encoding (view_is t h is)

pub has_texts : (t : Tree) (vs : List (List ℕ)) (valid : Validity) (d : PlainType) → IsPlain t → is_bytes (tree_type t) ≡ true → var_bin_view vs valid d ≡ t → HasTexts t vs valid
has_texts t vs valid d h is made =
    let whole : var_bin_view vs valid d ≡ var_bin_view (texts_of t) (validity (rows t)) (tree_type t) = made ∙ view_is t h is in
    record {
      is = is;
      items = ap texts_at whole;
      valid = ap texts_valid whole;
      count = ap length (ap texts_at whole) ∙ length-map (rows t) bytes_or_empty;
      fits = ap (λ v. validity_length v (length (rows t))) (ap texts_valid whole) ∙ validity_fits (rows t);
    }
