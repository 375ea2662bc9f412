-- Measures by which the decoding by pieces and the making of plain trees end: eight for each type, and fewer for the calls at
-- one type. A tree whose children are columns within has the least, since the plain tree of any values is one.
use Rattle.std.proofs.Common.{◌≡◌, ◌<◌, ◌+◌, ◌*◌, ℕ, zero, suc, List, [], ◌∷◌, length, get_or, refl, ap, arith, false, Option, Some, None}
use Rattle.vx_base.specs.declared.dtype.Nullability.{Nullability}
use Rattle.vx_base.specs.PlainScalar.{PlainScalar}
use Rattle.vx_base.specs.PlainType.{PlainType, is_flat}
use Rattle.vx_base.specs.PlainType as types
use Rattle.vx_base.specs.PlainValue.{PlainValue}
use Rattle.vx_base.proofs.FallLemmas.{type_count, fields_count}
use Rattle.vx_model.specs.Plain.{plain_of}
use Rattle.vx_model.specs.Tree.{Tree, Validity, chunked, sparse_of, structure, list, fixed_size_list, nulls, list_of, of_list}
use Rattle.vx_model.specs.TreeType.{tree_type, field_types}
use Rattle.vx_model.proofs.PlainLemmas.{type-plain_of}
use Rattle.vx_array.specs.declared.array.Node.{Node}
use Rattle.vx_array.specs.declared.array.Node.TheVariants as nodes
use Rattle.vx_array.specs.TreeOf.{tree_of}

-- what a root adds to its type's eight
abbrev pub weight : Tree → ℕ
weight (structure names fields len valid n) = 0
weight (list elements offsets valid n) = 0
weight (fixed_size_list elements size len valid n) = 0
weight (nulls len) = 0
weight _ = 6

-- the measure of the types of trees
abbrev pub types_count : List Tree → ℕ
types_count [] = 0
types_count (t ∷ ts) = suc (type_count (tree_type t) + types_count ts)

pub fields-types : (names : List (List ℕ)) (ts : List Tree) → length names ≡ length (list_of (of_list ts)) → fields_count (field_types names (of_list ts)) ≡ types_count ts
fields-types [] [] e = refl
fields-types [] (t ∷ ts) e = absurd (omega arith)
fields-types (name ∷ names) [] e = absurd (omega arith)
fields-types (name ∷ names) (t ∷ ts) e = ap (λ n. suc (type_count (tree_type t) + n)) (fields-types names ts (omega arith))

pub type_falls : (ts : List Tree) (i : ℕ) (t : Tree) → i < length ts → t ≡ get_or ts i t → type_count (tree_type t) < types_count ts
type_falls [] i t h e = absurd (omega arith)
type_falls (u ∷ ts) zero t h e = rw e (omega arith)
type_falls (u ∷ ts) (suc i) t h e = let k = type_falls ts i t (omega arith) e in omega (arith, k)

pub light : (t : PlainType) (vs : List PlainValue) → is_flat t ≡ false → weight (plain_of t vs) ≡ 0
light types.null_type vs f = refl
light (types.structure fs n) vs f = refl
light (types.list t n) vs f = refl
light (types.fixed_size_list t size n) vs f = refl
light t vs f = absurd cc

pub at_most_six : (t : Tree) → weight t < 7
at_most_six (structure names fields len valid n) = omega arith
at_most_six (list elements offsets valid n) = omega arith
at_most_six (fixed_size_list elements size len valid n) = omega arith
at_most_six (nulls len) = omega arith
at_most_six t = omega arith

weight-sparse : (len offset : ℕ) (indices values : Tree) (fill : PlainScalar) (o : Option Tree) → weight (sparse_of (chunked len offset indices values o) fill) ≡ 6
weight-sparse len offset indices values fill None = refl
weight-sparse len offset indices values fill (Some chunks) = refl

-- a root that is none of those has six
pub heavy : (n : Node) → ((len : _) → n ≡ nodes.Null len → ⊥) → ((names : _) (fields : _) (len : _) (valid : _) (m : _) → n ≡ nodes.Struct names fields len valid m → ⊥)
    → ((elements : _) (offsets : _) (valid : _) (m : _) → n ≡ nodes.List elements offsets valid m → ⊥) → ((elements : _) (size : _) (len : _) (valid : _) (m : _) → n ≡ nodes.FixedSizeList elements size len valid m → ⊥) → weight (tree_of n) ≡ 6
heavy (nodes.Null len) b c d e = absurd (b len refl)
heavy (nodes.Struct names fields len valid m) b c d e = absurd (c names fields len valid m refl)
heavy (nodes.List elements offsets valid m) b c d e = absurd (d elements offsets valid m refl)
heavy (nodes.FixedSizeList elements size len valid m) b c d e = absurd (e elements size len valid m refl)
heavy (nodes.BitPacked p width bs len valid None m) b c d e = refl
heavy (nodes.BitPacked p width bs len valid (Some patches) m) b c d e = refl
heavy (nodes.BitPackedV2 p bs offsets len valid None m) b c d e = refl
heavy (nodes.BitPackedV2 p bs offsets len valid (Some patches) m) b c d e = refl
heavy (nodes.Sparse patches fill) b c d e = weight-sparse patches.value.array_len patches.value.offset patches.value.indices patches.value.values fill patches.value.chunks
heavy n b c d e = refl

-- ---- what a tree's columns within have less

pub struct-lighter : (self : Tree) (names : List (List ℕ)) (ts : List Tree) (len : ℕ) (valid : Validity) (n : Nullability) → self ≡ structure names (of_list ts) len valid n → length names ≡ length (list_of (of_list ts)) → 8 * types_count ts + 7 < 8 * type_count (tree_type self) + weight self
struct-lighter self names ts len valid n e named = omega (arith, ap (λ t. type_count (tree_type t)) e, ap weight e, fields-types names ts named)

pub list-lighter : (self elements offsets : Tree) (valid : Validity) (n : Nullability) → self ≡ list elements offsets valid n → 8 * type_count (tree_type elements) + 7 < 8 * type_count (tree_type self) + weight self
list-lighter self elements offsets valid n e = omega (arith, ap (λ t. type_count (tree_type t)) e, ap weight e)

pub fixed-lighter : (self elements : Tree) (size len : ℕ) (valid : Validity) (n : Nullability) → self ≡ fixed_size_list elements size len valid n → 8 * type_count (tree_type elements) + 7 < 8 * type_count (tree_type self) + weight self
fixed-lighter self elements size len valid n e = omega (arith, ap (λ t. type_count (tree_type t)) e, ap weight e)

-- the plain tree of values of a nested type has the measure of its type alone
pub plain-lighter : (tree : Tree) (t : PlainType) (vs : List PlainValue) → tree ≡ plain_of t vs → is_flat t ≡ false → 8 * type_count (tree_type tree) + weight tree ≡ 8 * type_count t
plain-lighter tree t vs e f = omega (arith, ap (λ u. type_count (tree_type u)) e, ap type_count (type-plain_of t vs), ap weight e, light t vs f)
