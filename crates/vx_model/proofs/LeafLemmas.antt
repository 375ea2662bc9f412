-- The tree of a column is never larger than the plain one.
use Rattle.std.proofs.Common.{◌≡◌, ◌≢◌, ◌<◌, ◌≤◌, ◌*◌, pos, Bool, true, false, List, map, length, Option, Some, None, refl, ap, arith}
use Rattle.std.specs.Prelude.{◌||◌, ◌==◌, nat_lt, if◌then◌else◌, sum_by}
use Rattle.std.specs.List.{list_all}
use Rattle.std.proofs.Math.Nat.{mul-le-mul}
use Rattle.std.proofs.lemmas.Bool.{cond_both, eqb-false, ltb-true}
use Rattle.vx_base.specs.declared.dtype.Nullability.TheVariants.{NonNullable}
use Rattle.vx_base.specs.declared.ptype.PType.TheVariants.{I64}
use Rattle.vx_base.specs.Integers.{bytes_of}
use Rattle.vx_base.specs.PlainType.{PlainType, PlainFields, boolean, primitive, utf8, binary, is_leaf, is_flat}
use Rattle.vx_base.specs.PlainType as types
use Rattle.vx_base.specs.PlainScalar.{scalar}
use Rattle.vx_base.specs.PlainValue.{PlainValue, PlainValues, null, is_null}
use Rattle.vx_model.specs.Tree.{Tree, constant}
use Rattle.vx_model.specs.Tree as trees
use Rattle.vx_model.specs.Size.{size, sizes}
use Rattle.vx_model.specs.Column.{Column, column}
use Rattle.vx_model.specs.Nested.{first_within, rest_within, struct_rows, list_rows, elements, fixed_elements, offsets_type}
use Rattle.vx_model.specs.Offsets.{offsets_of}
use Rattle.vx_model.specs.Plain.{plain, plain_of, plain_fields, plain_offsets}
use Rattle.vx_model.specs.Site.{Site, fresh}
use Rattle.vx_model.specs.Leaf.{Chooses, one_value, one_value_tree, smaller_or_plain, chosen_or_plain, by_value, leaf}
use Rattle.vx_model.specs.Cascade.{Leaves, cascade, cascade_of, cascade_fields, is_one_value, is_better, narrow_offsets, offsets_site}
use Rattle.vx_model.specs.Laws.{NeverLarger}
use Rattle.vx_model.proofs.DecodeLemmas.{wholes-map-int, no_null-map-int}
use Rattle.vx_model.proofs.SizeLemmas.{size-plain_of-ge, bytes_of-range}
-- the law of counts stands in a file of its own
pub use Rattle.vx_model.proofs.ExtentLemmas.{counts_within_extents}

-- what holds of each case of the leaf holds of the leaf
pub leaf-cases : (P : Tree → Type 0) (chooses : Chooses) (c : Column) (site : Site)
    → P (plain c)
    → (length c.values ≢ 0 → list_all is_null c.values ≡ true → P (constant (scalar c.dtype null) (length c.values)))
    → ((v : PlainValue) → one_value c.values ≡ Some v → size (one_value_tree c v) < size (plain c) → P (one_value_tree c v))
    → ((t : Tree) → chooses c site ≡ Some t → size t < size (plain c) → P t)
    → P (leaf chooses c site)
leaf-cases P chooses c site whole nulls one chosen =
    cond_both (length c.values == 0) _ _ P (λ empty. whole)
    (λ full. cond_both (list_all is_null c.values) _ _ P (nulls (eqb-false _ _ full)) (λ some. of_sample site.sampled))
  where
    smaller : (t : Tree) → (size t < size (plain c) → P t) → P (smaller_or_plain c t)
    smaller t h = cond_both (nat_lt (size t) (size (plain c))) _ _ P (λ less. h (ltb-true _ _ less)) (λ more. whole)

    of_choice : (o : Option Tree) → chooses c site ≡ o → P (chosen_or_plain c o)
    of_choice None e = whole
    of_choice (Some t) e = smaller t (chosen t e)

    of_value : (o : Option PlainValue) → one_value c.values ≡ o → P (by_value chooses c site o)
    of_value None e = of_choice (chooses c site) refl
    of_value (Some v) e = smaller (one_value_tree c v) (one v e)

    of_sample : (b : Bool) → P (by_value chooses c site (if b then None else one_value c.values))
    of_sample true = of_choice (chooses c site) refl
    of_sample false = of_value (one_value c.values) refl

pub size-leaf : (chooses : Chooses) (c : Column) (site : Site) → is_flat c.dtype ≡ true → size (leaf chooses c site) ≤ size (plain c)
size-leaf chooses c site flat =
    leaf-cases (λ t. size t ≤ size (plain c)) chooses c site (omega arith)
    (λ some nulls. size-plain_of-ge c.dtype c.values flat (omega (arith, some)))
    (λ v e less. omega (arith, less))
    (λ t e less. omega (arith, less))

-- ---- the laws

-- a leaf type begins at the fresh site
pub cascade-leaf : (leaves : Leaves) (c : Column) → is_leaf c.dtype ≡ true → cascade leaves c ≡ leaves c fresh
cascade-leaf leaves c = of_type c.dtype
  where
    of_type : (t : PlainType) → is_leaf t ≡ true → cascade_of leaves t c.values ≡ leaves (column t c.values) fresh
    of_type (boolean n) h = refl
    of_type (primitive p n) h = refl
    of_type (utf8 n) h = refl
    of_type (binary n) h = refl
    of_type t h = absurd cc

-- the plain tree of the narrowed offsets of lists
plain-narrow : (rows : List (List PlainValue)) → plain (narrow_offsets rows) ≡ trees.primitive (offsets_type (sum_by length rows)) (map pos (offsets_of rows)) None NonNullable
plain-narrow rows = rw (wholes-map-int (map pos (offsets_of rows)), no_null-map-int (map pos (offsets_of rows))) refl

-- they are never larger than the plain offsets of 64 bits
narrow-smaller : (chooses : Chooses) (rows : List (List PlainValue)) → size (leaf chooses (narrow_offsets rows) offsets_site) ≤ size (plain_offsets rows)
narrow-smaller chooses rows =
    let own = size-leaf chooses (narrow_offsets rows) offsets_site refl in
    let narrow = ap size (plain-narrow rows) in
    let p = offsets_type (sum_by length rows) in
    let each : length (map pos (offsets_of rows)) * bytes_of p ≤ length (map pos (offsets_of rows)) * 8 = mul-le-mul (omega arith) (bytes_of-range p).1 in
    omega arith

mutual
  cascade-smaller : (chooses : Chooses) (t : PlainType) (vs : List PlainValue) → size (cascade_of (leaf chooses) t vs) ≤ size (plain_of t vs)
  cascade-smaller chooses types.null_type vs = omega arith
  cascade-smaller chooses (boolean n) vs = size-leaf chooses (column (boolean n) vs) fresh refl
  cascade-smaller chooses (primitive p n) vs = size-leaf chooses (column (primitive p n) vs) fresh refl
  cascade-smaller chooses (utf8 n) vs = size-leaf chooses (column (utf8 n) vs) fresh refl
  cascade-smaller chooses (binary n) vs = size-leaf chooses (column (binary n) vs) fresh refl
  cascade-smaller chooses (types.timestamp k n) vs =
      let own = column (types.timestamp k n) vs in
      let storage = column (primitive I64 n) vs in
      let over = trees.timestamp (leaf chooses storage fresh) k in
      cond_both (is_one_value (leaf chooses own fresh) || is_better own (leaf chooses own fresh) over) _ _ (λ t. size t ≤ size (plain own)) (λ stands. size-leaf chooses own fresh refl) (λ other. size-leaf chooses storage fresh refl)
  cascade-smaller chooses (types.structure fs n) vs = let inside = cascade_fields-smaller chooses fs (struct_rows fs vs) in omega arith
  cascade-smaller chooses (types.list t n) vs =
      let inside = cascade-smaller chooses t (elements vs) in
      let between = narrow-smaller chooses (list_rows vs) in
      omega arith
  cascade-smaller chooses (types.fixed_size_list t count n) vs = let inside = cascade-smaller chooses t (fixed_elements t count vs) in omega arith

  cascade_fields-smaller : (chooses : Chooses) (fs : PlainFields) (rs : List PlainValues) → sizes (cascade_fields (leaf chooses) fs rs) ≤ sizes (plain_fields fs rs)
  cascade_fields-smaller chooses types.none rs = omega arith
  cascade_fields-smaller chooses (types.more name t fs) rs =
      let first = cascade-smaller chooses t (map first_within rs) in
      let rest = cascade_fields-smaller chooses fs (map rest_within rs) in
      omega arith

pub never_larger : (chooses : Chooses) → NeverLarger (leaf chooses)
never_larger chooses c = cascade-smaller chooses c.dtype c.values
