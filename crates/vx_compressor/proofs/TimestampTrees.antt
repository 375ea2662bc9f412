-- The tree of a column of timestamps: the one that its site makes, or that of its whole numbers.
use Rattle.std.proofs.Common.{◌≡◌, ◌<◌, ◌^◌, Bool, true, false, Option, Some, None, refl, sym, ◌∙◌, ap, subst, arith}
use Rattle.std.specs.Prelude.{◌||◌, ◌&&◌, not, nat_lt, if◌then◌else◌, Err, IsTrue, ◌↔◌}
use Rattle.std.specs.List.{list_all}
use Rattle.vx_base.specs.Answers.{Makes, unless}
use Rattle.vx_base.specs.declared.array_id.ArrayId.TheVariants as ids
use Rattle.vx_base.specs.declared.error.Refused.{Refused}
use Rattle.vx_base.specs.declared.error.VortexError.{VortexError}
use Rattle.vx_base.specs.declared.error.VortexError.TheVariants.{NoMemory, MismatchedTypes}
use Rattle.vx_base.specs.declared.ptype.PType.TheVariants.{I64}
use Rattle.vx_base.specs.PlainScalar.{fits}
use Rattle.vx_base.specs.PlainType.{PlainType, boolean, primitive, utf8, binary, is_leaf, is_timestamp, is_flat, nullability_of, same_type}
use Rattle.vx_base.specs.PlainType as types
use Rattle.vx_base.specs.Storable.{same, same_path, same_refl}
use Rattle.vx_base.specs.Timestamps.{PlainTimestamp}
use Rattle.vx_model.specs.Cascade.{Leaves, cascade, cascade_of, is_one_value, is_better, site_or_storage}
use Rattle.vx_model.specs.Column.{Column, IsColumn, column, column_of}
use Rattle.vx_model.specs.Nodes.{encoding}
use Rattle.vx_model.specs.Plain.{plain, plain_of, IsPlain}
use Rattle.vx_model.specs.Refusals.{timestamp_refusal}
use Rattle.vx_model.specs.Site.{Site, fresh}
use Rattle.vx_model.specs.Size.{size}
use Rattle.vx_model.specs.Tree.{Tree, timestamp}
use Rattle.vx_model.specs.TreeType.{tree_type}
use Rattle.vx_model.specs.WellFormed.{WellFormed}
use Rattle.vx_model.specs.TreeCode.{stored_tree}
use Rattle.vx_model.proofs.LeafLemmas.{size-leaf}
use Rattle.vx_model.proofs.MadeLemmas.{rows_fit}
use Rattle.vx_model.proofs.PlainLemmas.{stamps_fit}
use Rattle.vx_model.proofs.SizeLemmas.{small_plain}
use Rattle.vx_compressor.specs.Cascade.{Setting, chosen, children_of, leaf_tree}
use Rattle.vx_compressor.specs.CascadeLaws.{IsLawful}
use Rattle.vx_compressor.specs.Reach.{IsInReach}
use Rattle.vx_compressor.proofs.CascadeLemmas.{leaf_tree-stands}
use Rattle.vx_compressor.proofs.HeldLemmas.{column_of-is, plain-is}
use Rattle.vx_compressor.proofs.LeafFormLemmas.{timestamp-admitted}

-- a flat type but timestamps is a leaf
pub leaf_type : (t : PlainType) → is_flat t ≡ true → is_timestamp t ≡ false → is_leaf t ≡ true
leaf_type (boolean n) f e = refl
leaf_type (primitive p n) f e = refl
leaf_type (utf8 n) f e = refl
leaf_type (binary n) f e = refl
leaf_type t f e = absurd cc

pub flat_stamps : (t : PlainType) → is_timestamp t ≡ true → is_flat t ≡ true
flat_stamps (types.timestamp k n) e = refl
flat_stamps t e = absurd cc

-- ---- the whole numbers of timestamps

abbrev pub storage_of : Column → Column
storage_of c = column (primitive I64 (nullability_of c.dtype)) c.values

-- what lies beneath the root of a plain tree of timestamps
pub record IsStorage (c : Column) (storage : Tree) (k : PlainTimestamp) : Type 0 where
  pub plain : storage ≡ plain (storage_of c)
  pub kind : c.dtype ≡ types.timestamp k (nullability_of c.dtype)

pub storage_is : (c : Column) → is_timestamp c.dtype ≡ true → (storage : Tree) (k : PlainTimestamp) → timestamp storage k ≡ plain c → IsStorage c storage k
storage_is c = of_type c.dtype
  where
    of_type : (t : PlainType) → is_timestamp t ≡ true → (storage : Tree) (k : PlainTimestamp) → timestamp storage k ≡ plain_of t c.values → IsStorage (column t c.values) storage k
    of_type (types.timestamp j n) i storage k e = let same : j ≡ k = cc in record { plain = cc; kind = ap (λ k. types.timestamp k n) same }
    of_type t i storage k e = absurd cc

pub root-stamps : (c : Column) → is_timestamp c.dtype ≡ true → encoding (plain c) ≡ ids.Timestamp
root-stamps c = of_type c.dtype
  where
    of_type : (t : PlainType) → is_timestamp t ≡ true → encoding (plain_of t c.values) ≡ ids.Timestamp
    of_type (types.timestamp j n) i = refl
    of_type t i = absurd cc

-- their plain tree is no constant
pub many-stamps : (c : Column) → is_timestamp c.dtype ≡ true → is_one_value (plain c) ≡ false
many-stamps c = of_type c.dtype
  where
    of_type : (t : PlainType) → is_timestamp t ≡ true → is_one_value (plain_of t c.values) ≡ false
    of_type (types.timestamp j n) i = refl
    of_type t i = absurd cc

storage-fits : (c : Column) → is_timestamp c.dtype ≡ true → IsColumn c → IsColumn (storage_of c)
storage-fits c = of_type c.dtype
  where
    of_type : (t : PlainType) → is_timestamp t ≡ true → list_all (fits t) c.values ≡ true → list_all (fits (primitive I64 (nullability_of t))) c.values ≡ true
    of_type (types.timestamp j n) i h = stamps_fit j n c.values h
    of_type t i h = absurd cc

-- what the tree of the whole numbers rests on
pub record IsOwnStorage (c : Column) (site : Site) (storage : Tree) : Type 0 where
  pub flat : is_flat (tree_type storage) ≡ true
  pub plain : IsPlain storage
  pub whole : timestamp_refusal storage ≡ None
  pub reach : IsInReach (column_of storage) site.budget
  pub column : column_of storage ≡ storage_of c
  pub fits : IsColumn (column_of storage)

pub own_storage : (c : Column) (site : Site) (storage : Tree) (k : PlainTimestamp) → is_timestamp c.dtype ≡ true → IsColumn c → IsInReach c site.budget → timestamp storage k ≡ plain c → IsOwnStorage c site storage
own_storage c site storage k stamps fit reach e =
    let is = storage_is c stamps storage k e in
    let own = storage-fits c stamps fit in
    let same = column_of-is storage (storage_of c) own is.plain in
    record {
      flat = ap (λ d. is_flat d.dtype) same;
      plain = plain-is storage (storage_of c) own is.plain;
      whole = timestamp-admitted storage (nullability_of c.dtype) (ap (λ d. d.dtype) same);
      reach = subst (λ d. IsInReach d site.budget) (sym same) (record { few = reach.few; within = reach.within });
      column = same;
      fits = subst IsColumn (sym same) own;
    }

-- ---- which tree stands

cascade-stamps : (leaves : Leaves) (c : Column) (k : PlainTimestamp) → c.dtype ≡ types.timestamp k (nullability_of c.dtype)
    → site_or_storage c (leaves c fresh) (timestamp (leaves (storage_of c) fresh) k) ≡ cascade leaves c
cascade-stamps leaves c k = of_type c.dtype
  where
    of_type : (t : PlainType) → t ≡ types.timestamp k (nullability_of t)
        → site_or_storage (column t c.values) (leaves (column t c.values) fresh) (timestamp (leaves (column (primitive I64 (nullability_of t)) c.values) fresh) k) ≡ cascade_of leaves t c.values
    of_type (types.timestamp j n) e =
        let same : k ≡ j = cc in
        let own = column (types.timestamp j n) c.values in
        ap (λ i. site_or_storage own (leaves own fresh) (timestamp (leaves (column (primitive I64 n) c.values) fresh) i)) same
    of_type t e = absurd cc

module _ (c : Column) (made over : Tree) where
  one-stays : is_one_value made ≡ true → made ≡ site_or_storage c made over
  one-stays e = sym (ap (λ b. if b || is_better c made over then made else over) e)

  plain-gives : is_one_value made ≡ false → made ≡ plain c → over ≡ site_or_storage c made over
  plain-gives e p = sym (λ i. if e i || (not (same_refl stored_tree made (plain c) p i) && nat_lt (size made) (size over)) then made else over)

  smaller-stays : is_one_value made ≡ false → same stored_tree made (plain c) ≡ false → (if nat_lt (size made) (size over) then made else over) ≡ site_or_storage c made over
  smaller-stays e p = sym (λ i. if e i || (not (p i) && nat_lt (size made) (size over)) then made else over)

no_plain : (c : Column) (made : Tree) → IsColumn c → (IsPlain made → ⊥) → same stored_tree made (plain c) ≡ false
no_plain c made fit other = of_test (same stored_tree made (plain c)) refl
  where
    of_test : (b : Bool) → same stored_tree made (plain c) ≡ b → b ≡ false
    of_test true e = absurd (other (plain-is made c fit (same_path stored_tree made (plain c) e)))
    of_test false e = refl

module _ (leaves : Leaves) (c : Column) (site : Site) (made : Tree) (at_site : site ≡ fresh) (is : made ≡ leaves c site) (stamps : is_timestamp c.dtype ≡ true) where
  made_is : made ≡ leaves c fresh
  made_is = is ∙ ap (leaves c) at_site

  -- with any whole numbers, so also with those of the plain tree
  by_stamps : (k : PlainTimestamp) → c.dtype ≡ types.timestamp k (nullability_of c.dtype) → site_or_storage c made (timestamp (leaves (storage_of c) fresh) k) ≡ cascade leaves c
  by_stamps k e = ap (λ t. site_or_storage c t (timestamp (leaves (storage_of c) fresh) k)) made_is ∙ cascade-stamps leaves c k e

  of_storage : (storage : Tree) (k : PlainTimestamp) → column_of storage ≡ storage_of c → timestamp (leaves (column_of storage) site) k ≡ timestamp (leaves (storage_of c) fresh) k
  of_storage storage k e = λ i. timestamp (leaves (e i) (at_site i)) k

  pub site-one : is_one_value made ≡ true → made ≡ cascade leaves c
  site-one one = of_type c.dtype stamps refl
    where
      of_type : (t : PlainType) → is_timestamp t ≡ true → c.dtype ≡ t → made ≡ cascade leaves c
      of_type (types.timestamp j n) i e =
          let kind : c.dtype ≡ types.timestamp j (nullability_of c.dtype) = e ∙ ap (λ t. types.timestamp j (nullability_of t)) (sym e) in
          one-stays c made (timestamp (leaves (storage_of c) fresh) j) one ∙ by_stamps j kind
      of_type t i e = absurd cc

  module _ (storage : Tree) (k : PlainTimestamp) (beneath : timestamp storage k ≡ plain c) (column : column_of storage ≡ storage_of c) (many : is_one_value made ≡ false) where
    kind_is : c.dtype ≡ types.timestamp k (nullability_of c.dtype)
    kind_is = (storage_is c stamps storage k beneath).kind

    pub site-plain : made ≡ plain c → timestamp (leaves (column_of storage) site) k ≡ cascade leaves c
    site-plain p = of_storage storage k column ∙ plain-gives c made (timestamp (leaves (storage_of c) fresh) k) many p ∙ by_stamps k kind_is

    pub site-smaller : (other : Tree) → IsColumn c → (IsPlain made → ⊥) → other ≡ timestamp (leaves (column_of storage) site) k → (if nat_lt (size made) (size other) then made else other) ≡ cascade leaves c
    site-smaller other fit unlike e =
        ap (λ t. if nat_lt (size made) (size t) then made else t) (e ∙ of_storage storage k column)
        ∙ smaller-stays c made (timestamp (leaves (storage_of c) fresh) k) many (no_plain c made fit unlike)
        ∙ by_stamps k kind_is

-- what a site makes of whole numbers may stand beneath timestamps
pub storage-admitted : (set : Setting) → IsLawful set → (storage tree : Tree) (site : Site) → WellFormed storage → is_flat (tree_type storage) ≡ true → IsInReach (column_of storage) site.budget → timestamp_refusal storage ≡ None → tree ≡ leaf_tree set (column_of storage) site → timestamp_refusal tree ≡ None
storage-admitted set lawful storage tree site w flat reach whole made =
    let column = ap column_of made ∙ (leaf_tree-stands set lawful (column_of storage) site (rows_fit storage w) flat reach).1 in
    ap (λ d. unless (same_type d.dtype (primitive I64 (nullability_of d.dtype))) MismatchedTypes None) column ∙ whole

-- where nothing is refused, memory was wanting
pub no_memory : {T U : Type 0} (r : Option VortexError) (made : U) (inputs : T) (f : Refused T) → r ≡ None → Makes r made inputs (Err f) → f.error ≡ NoMemory
no_memory None made inputs f e h = h.0
no_memory (Some x) made inputs f e h = absurd cc

-- what a test that fails doesn't hold of
pub no_test : (b : Bool) (P : Type 0) → IsTrue b ↔ P → b ≡ false → P → ⊥
no_test b P both e p = let t = both.1 p in absurd cc

-- the tree of the whole numbers is far from the end of 128 bits
pub small_stamps : (set : Setting) (d : Column) (site : Site) (k : PlainTimestamp) (other : Tree) → is_flat d.dtype ≡ true → IsColumn d → IsInReach d site.budget → other ≡ timestamp (leaf_tree set d site) k → size other < 2 ^ 100
small_stamps set d site k other flat fit reach e =
    let few = reach.few in
    let least = size-leaf (chosen (children_of set site) set) d site flat in
    let most = small_plain d flat fit (omega (arith, few)) in
    rw e (omega (arith, least, most))
