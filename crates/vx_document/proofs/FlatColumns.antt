-- The tree that a document's rows make is the plain one of their column.
use Rattle.std.proofs.Common.{◌≡◌, ℕ, List, [], ◌∷◌, length, map, ℤ, pos, Bool, true, false, cond, Option, Some, None, option_map, refl, sym, ap, ◌∙◌}
use Rattle.std.specs.Prelude.{Result, Ok, Err}
use Rattle.std.specs.List.{list_all, list_any}
use Rattle.std.proofs.lemmas.Bool.{and_from, eq-eqb}
use Rattle.std.proofs.lemmas.List.{length-map}
use Rattle.std.proofs.lemmas.Simd.{map-map}
use Rattle.serde_json.specs.Data.{Data, array, Items, no_items, item}
use Rattle.vx_base.specs.declared.error.VortexError.{VortexError}
use Rattle.vx_base.specs.declared.error.Refused.{Refused}
use Rattle.vx_base.specs.declared.ptype.PType.{PType}
use Rattle.vx_base.specs.declared.ptype.PType.TheVariants.{I64}
use Rattle.vx_base.specs.declared.dtype.Nullability.{Nullability}
use Rattle.vx_base.specs.declared.dtype.Nullability.TheVariants.{NonNullable, Nullable}
use Rattle.vx_base.specs.Answers.{Makes, MakesSurely, unless}
use Rattle.vx_base.specs.Defaults.{or_default}
use Rattle.vx_base.specs.PlainScalar.{fits}
use Rattle.vx_base.specs.PlainType.{PlainType, allows_null, nullability_of, is_bytes, stored_type}
use Rattle.vx_base.specs.PlainType as types
use Rattle.vx_base.specs.PlainValue as vals
use Rattle.vx_base.specs.PlainValue.{PlainValue, null, truth, int, bytes, is_null, truth_or_false, whole_or_zero, bytes_or_empty}
use Rattle.vx_base.specs.Storable.{same_refl}
use Rattle.vx_base.specs.Timestamps.{PlainTimestamp}
use Rattle.vx_base.proofs.NullLemmas.{all-not_null}
use Rattle.vx_model.specs.Tree.{Tree, Validity, bool, primitive, var_bin_view, timestamp}
use Rattle.vx_model.specs.Plain.{valid_bits, validity, plain_of, IsPlain}
use Rattle.vx_model.specs.Column.{column}
use Rattle.vx_model.specs.Rows.{rows, valid_rows}
use Rattle.vx_model.specs.TreeType.{tree_type}
use Rattle.vx_model.specs.Refusals.{kept, primitive_refusal, var_bin_view_refusal, timestamp_refusal, validity_length, validity_allowed}
use Rattle.vx_model.proofs.DecodeLemmas.{no_null}
use Rattle.vx_model.proofs.PlainLemmas.{length-valid_bits, rows-plain_of, type-plain_of, plain_is_plain, short_items}
use Rattle.vx_model.proofs.ViewLemmas.{plain_of-bytes}
use Rattle.vx_document.specs.declared.document.unread.Unread.{Unread}
use Rattle.vx_document.specs.declared.document.unread.Unread.TheVariants.{NoMemory, BadDocument}
use Rattle.vx_document.specs.Reading.{◌>>=◌, when, all_by, Gives}
use Rattle.vx_document.specs.RowsOf.{AreReadRows, bits_of, cell_of, plain_rows, row_of, rows_of}
use Rattle.vx_document.proofs.DocumentCells.{row-stamp}

-- ---- what is read fits its type

fit_when : (b : Bool) (v w : PlainValue) → (when b >>= (λ u. Some v)) ≡ Some w → (b ≡ true) × (v ≡ w)
fit_when true v w e = (refl, cc)
fit_when false v w e = absurd cc

fits-cell : (t : PlainType) (cell : Option PlainValue) (w : PlainValue) → (cell >>= (λ v. when (fits t v) >>= (λ u. Some v))) ≡ Some w → fits t w ≡ true
fits-cell t None w e = absurd cc
fits-cell t (Some v) w e = let h = fit_when (fits t v) v w e in rw h.1 at h.0

fits-row : (t : PlainType) (d : Data) (v : PlainValue) → row_of t d ≡ Some v → fits t v ≡ true
unfolding row_of
fits-row t d v e = fits-cell t (cell_of t d) v e

fits-parts : (t : PlainType) (first : Option PlainValue) (others : Option (List PlainValue)) (vs : List PlainValue) → ((v : PlainValue) → first ≡ Some v → fits t v ≡ true)
    → ((ws : List PlainValue) → others ≡ Some ws → list_all (fits t) ws ≡ true) → (first >>= (λ x. option_map (λ xs. x ∷ xs) others)) ≡ Some vs → list_all (fits t) vs ≡ true
fits-parts t None others vs a b e = absurd cc
fits-parts t (Some x) None vs a b e = absurd cc
fits-parts t (Some x) (Some xs) vs a b e = let both : x ∷ xs ≡ vs = cc in rw (← both, a x refl, b xs refl) refl

pub fits-rows : (t : PlainType) (ds : Items) (vs : List PlainValue) → all_by (row_of t) ds ≡ Some vs → list_all (fits t) vs ≡ true
fits-rows t no_items vs e = let nil : [] ≡ vs = cc in rw (← nil) refl
fits-rows t (item d ds) vs e = fits-parts t (row_of t d) (all_by (row_of t) ds) vs (fits-row t d) (fits-rows t ds) e

-- ---- items of values, with a default in place of null

module _ {A : Type 0} (item : PlainValue → A) (value : A → PlainValue) (back : (x : A) → item (value x) ≡ x) (default : PlainValue) (beneath : item default ≡ item null) where
  items-values : (xs : List A) → map item (map value xs) ≡ xs
  items-values [] = refl
  items-values (x ∷ xs) = λ i. back x i ∷ items-values xs i

  item-or_default : (v : PlainValue) → item (or_default default v) ≡ item v
  item-or_default null = beneath
  item-or_default (truth b) = refl
  item-or_default (int z) = refl
  item-or_default (bytes bs) = refl
  item-or_default (vals.items vs) = refl

  items-or_default : (vs : List PlainValue) → map item (map (or_default default) vs) ≡ map item vs
  items-or_default [] = refl
  items-or_default (v ∷ vs) = λ i. item-or_default v i ∷ items-or_default vs i

  items_of : (xs : List A) (vs : List PlainValue) → map value xs ≡ map (or_default default) vs → xs ≡ map item vs
  items_of xs vs e = sym (items-values xs) ∙ ap (map item) e ∙ items-or_default vs

-- ---- what the constructors keep of the truth values, and that they admit them

kept-bits : (t : PlainType) (vs : List PlainValue) → list_all (fits t) vs ≡ true → kept (bits_of (nullability_of t) vs) ≡ validity vs
kept-bits t vs h = by_nullability (nullability_of t) (no_null t vs h)
  where
    by_any : (b : Bool) → list_any is_null vs ≡ b → kept (Some (valid_bits vs)) ≡ cond b (Some (valid_bits vs)) None
    by_any true e = rw (all-not_null vs, e) refl
    by_any false e = rw (all-not_null vs, e) refl

    by_nullability : (n : Nullability) → (allows_null n ≡ false → list_any is_null vs ≡ false) → kept (bits_of n vs) ≡ validity vs
    by_nullability NonNullable none = rw (none refl) refl
    by_nullability Nullable none = by_any (list_any is_null vs) refl

module _ {A : Type 0} (item : PlainValue → A) (vs : List PlainValue) where
  has_bits : (n : Nullability) → validity_length (bits_of n vs) (length (map item vs)) ≡ true
  has_bits NonNullable = refl
  has_bits Nullable = eq-eqb _ _ (length-valid_bits vs ∙ sym (length-map vs item))

  may_have : (n : Nullability) → validity_allowed (bits_of n vs) n ≡ true
  may_have NonNullable = refl
  may_have Nullable = refl

  admitted : (n : Nullability) → primitive_refusal (length (map item vs)) (bits_of n vs) n ≡ None
  admitted n = rw (has_bits n, may_have n) refl

pass : (b : Bool) (e : VortexError) (o : Option VortexError) → b ≡ true → o ≡ None → unless b e o ≡ None
pass true e o h n = n
pass false e o h n = absurd cc

own_rows : (t : PlainType) (vs : List PlainValue) → is_bytes t ≡ true → list_all (fits t) vs ≡ true → valid_rows (validity vs) (map bytes (map bytes_or_empty vs)) ≡ vs
own_rows t vs typed h = ap rows (sym (plain_of-bytes t vs typed)) ∙ rows-plain_of t vs h

views_admitted : (t : PlainType) (vs : List PlainValue) → is_bytes t ≡ true → list_all (fits t) vs ≡ true → var_bin_view_refusal (map bytes_or_empty vs) (bits_of (nullability_of t) vs) t ≡ None
views_admitted t vs typed h =
    let own = ap (λ valid. valid_rows valid (map bytes (map bytes_or_empty vs))) (kept-bits t vs h) ∙ own_rows t vs typed h in
    let content = and_from _ _ (may_have bytes_or_empty vs (nullability_of t)) (ap (list_all (fits t)) own ∙ h) in
    pass _ _ _ typed (pass _ _ _ (has_bits bytes_or_empty vs (nullability_of t)) (pass _ _ _ (short_items t typed vs h) (pass _ _ _ content refl)))

-- ---- the trees that are made of the rows

-- the values are read, and these are their items
abbrev pub AreRead : PlainType → Items → PlainValue → List PlainValue → Validity → Type 0
AreRead t ds default items valid = (vs : List PlainValue) × (all_by (row_of t) ds ≡ Some vs) × AreReadRows default (nullability_of t) items valid vs

-- and a constructor makes their plain tree of these
pub record IsMade (t : PlainType) (ds : Items) (refusal : Option VortexError) (made : Tree) : Type 0 where
  pub admitted : refusal ≡ None
  pub plain : plain_rows t ds ≡ Some made

is_made : (t : PlainType) (ds : Items) (vs : List PlainValue) (refusal : Option VortexError) (made : Tree) → all_by (row_of t) ds ≡ Some vs → refusal ≡ None → made ≡ plain_of t vs → IsMade t ds refusal made
is_made t ds vs refusal made e a m = record { admitted = a; plain = ap (option_map (plain_of t)) e ∙ ap Some (sym m) }

pub truths_made : (n : Nullability) (ds : Items) (bs xs : List Bool) (valid : Validity) → bs ≡ xs → AreRead (types.boolean n) ds (truth false) (map truth xs) valid → IsMade (types.boolean n) ds (primitive_refusal (length bs) valid n) (bool bs (kept valid) n)
truths_made n ds bs xs valid same h =
    let items : bs ≡ map truth_or_false h.0 = same ∙ items_of truth_or_false truth (λ b. refl) (truth false) refl xs h.0 h.2.0 in
    let bits = h.2.1 in
    let keep = kept-bits (types.boolean n) h.0 (fits-rows (types.boolean n) ds h.0 h.1) in
    is_made (types.boolean n) ds h.0 _ _ h.1 (rw (items, bits) (admitted truth_or_false h.0 n)) (rw (items, bits, keep) refl)

pub wholes_made : (p : PType) (n : Nullability) (ds : Items) (kind : PType) (xs : List ℤ) (valid : Validity) → kind ≡ p → AreRead (types.primitive p n) ds (int (pos 0)) (map int xs) valid
    → IsMade (types.primitive p n) ds (primitive_refusal (length xs) valid n) (primitive kind xs (kept valid) n)
wholes_made p n ds kind xs valid same h =
    let items : xs ≡ map whole_or_zero h.0 = items_of whole_or_zero int (λ z. refl) (int (pos 0)) refl xs h.0 h.2.0 in
    let bits = h.2.1 in
    let keep = kept-bits (types.primitive p n) h.0 (fits-rows (types.primitive p n) ds h.0 h.1) in
    is_made (types.primitive p n) ds h.0 _ _ h.1 (rw (items, bits) (admitted whole_or_zero h.0 n)) (rw (same, items, bits, keep) refl)

pub views_made : (t s : PlainType) (ds : Items) (vs : List (List ℕ)) (valid : Validity) → is_bytes t ≡ true → s ≡ t → AreRead t ds (bytes []) (map bytes vs) valid → IsMade t ds (var_bin_view_refusal vs valid s) (var_bin_view vs (kept valid) s)
views_made t s ds vs valid typed same h =
    let items : vs ≡ map bytes_or_empty h.0 = items_of bytes_or_empty bytes (λ b. refl) (bytes []) refl vs h.0 h.2.0 in
    let bits = h.2.1 in
    let fitting = fits-rows t ds h.0 h.1 in
    let keep = kept-bits t h.0 fitting in
    is_made t ds h.0 _ _ h.1 (rw (same, items, bits) (views_admitted t h.0 typed fitting)) (rw (same, items, bits, keep) (sym (plain_of-bytes t h.0 typed)))

module _ {I : Type 0} (t : PlainType) (ds : Items) (refusal : Option VortexError) (made : Tree) (inputs : I) (h : IsMade t ds refusal made) where
  pub given : (tree : Tree) → MakesSurely refusal made inputs (Ok tree) → plain_rows t ds ≡ Some tree
  given tree m = let e = h.admitted in let is : tree ≡ made = rw e at m in h.plain ∙ ap Some (sym is)

  pub never : (r : Refused I) → MakesSurely refusal made inputs (Err r) → ⊥
  never r m = let e = h.admitted in rw e at m

-- ---- timestamps, as their whole numbers

all_by-same : {A : Type 0} (f g : Data → Option A) → ((d : Data) → f d ≡ g d) → (ds : Items) → all_by f ds ≡ all_by g ds
all_by-same f g e no_items = refl
all_by-same f g e (item d ds) = λ i. e d i >>= (λ x. option_map (λ xs. x ∷ xs) (all_by-same f g e ds i))

-- their plain tree stands over that of the whole numbers
pub plain-stamps : (k : PlainTimestamp) (n : Nullability) (ds : Items) → plain_rows (types.timestamp k n) ds ≡ option_map (λ s. timestamp s k) (plain_rows (types.primitive I64 n) ds)
plain-stamps k n ds = ap (option_map (plain_of (types.timestamp k n))) (all_by-same _ _ (row-stamp k n) ds) ∙ over (all_by (row_of (types.primitive I64 n)) ds)
  where
    over : (o : Option (List PlainValue)) → option_map (plain_of (types.timestamp k n)) o ≡ option_map (λ s. timestamp s k) (option_map (plain_of (types.primitive I64 n)) o)
    over None = refl
    over (Some vs) = refl

storage_type : (t : PlainType) (o : Option (List PlainValue)) (s : Tree) → option_map (plain_of t) o ≡ Some s → tree_type s ≡ t
storage_type t None s e = absurd cc
storage_type t (Some vs) s e = let is : plain_of t vs ≡ s = cc in ap tree_type (sym is) ∙ type-plain_of t vs

module _ {I : Type 0} (k : PlainTimestamp) (n : Nullability) (ds : Items) (storage tree : Tree) (inputs : I) where
  pub stamps-made : plain_rows (types.primitive I64 n) ds ≡ Some storage → Makes (timestamp_refusal storage) (timestamp storage k) inputs (Ok tree) → plain_rows (types.timestamp k n) ds ≡ Some tree
  stamps-made e m =
      let typed : tree_type storage ≡ types.primitive I64 n = storage_type (types.primitive I64 n) _ storage e in
      let accepted : timestamp_refusal storage ≡ None = pass _ _ _ (same_refl stored_type _ _ (typed ∙ ap (λ t. types.primitive I64 (nullability_of t)) (sym typed))) refl in
      let is : tree ≡ timestamp storage k = rw accepted at m in
      plain-stamps k n ds ∙ ap (option_map (λ s. timestamp s k)) e ∙ ap Some (sym is)

-- ---- what the plain tree of the rows says

module _ (t : PlainType) (ds : Items) (tree : Tree) where
  pub rows-read : plain_rows t ds ≡ Some tree → all_by (row_of t) ds ≡ Some (rows tree)
  rows-read e = of_rows (all_by (row_of t) ds) refl e
    where
      of_rows : (o : Option (List PlainValue)) → all_by (row_of t) ds ≡ o → option_map (plain_of t) o ≡ Some tree → o ≡ Some (rows tree)
      of_rows None f e = absurd cc
      of_rows (Some vs) f e = let is : plain_of t vs ≡ tree = cc in ap Some (sym (ap rows (sym is) ∙ rows-plain_of t vs (fits-rows t ds vs f)))

  pub type-read : plain_rows t ds ≡ Some tree → tree_type tree ≡ t
  type-read e = storage_type t (all_by (row_of t) ds) tree e

  pub plain-read : plain_rows t ds ≡ Some tree → IsPlain tree
  plain-read e = of_rows (all_by (row_of t) ds) refl e
    where
      of_rows : (o : Option (List PlainValue)) → all_by (row_of t) ds ≡ o → option_map (plain_of t) o ≡ Some tree → IsPlain tree
      of_rows None f e = absurd cc
      of_rows (Some vs) f e = let is : tree ≡ plain_of t vs = cc in rw is (plain_is_plain (column t vs) (fits-rows t ds vs f))

-- a reader of the plain tree reads the rows
pub Gives-rows : (t : PlainType) (ds : Items) (r : Result Tree Unread) → Gives (λ (x : Tree). x) r (plain_rows t ds) → Gives rows r (rows_of t (array ds))
unfolding rows_of
Gives-rows t ds (Ok tree) h = rows-read t ds tree h
Gives-rows t ds (Err NoMemory) h = tt
Gives-rows t ds (Err BadDocument) h = none (all_by (row_of t) ds) h
  where
    none : (o : Option (List PlainValue)) → option_map (plain_of t) o ≡ None → o ≡ None
    none None e = refl
    none (Some vs) e = absurd cc

pub ruleset fused = (map-map)

pub ruleset reads = (rows-read, type-read, plain-read, fits-rows)
