-- The plain data of a type at each of its variants.
use Rattle.std.proofs.Common.{◌≡◌, sym, ap, ◌∙◌, Box, Global}
use Rattle.vx_base.specs.declared.dtype.DType.{DType}
use Rattle.vx_base.specs.declared.dtype.DType.TheVariants as variants
use Rattle.vx_base.specs.declared.dtype.DType.TheViews as views
use Rattle.vx_base.specs.declared.dtype.DType.TheViews.{rolls-Null, rolls-Bool, rolls-Primitive, rolls-Binary, rolls-Timestamp, rolls-List}
use Rattle.vx_base.specs.declared.dtype.DType.TheOpen.{DType-F}
use Rattle.vx_base.specs.declared.dtype.DType.TheFolds.{fold-roll-DType}
use Rattle.vx_base.specs.declared.dtype.Nullability.{Nullability}
use Rattle.vx_base.specs.declared.ptype.PType.{PType}
use Rattle.vx_base.specs.PlainType.{PlainType, null_type, boolean, primitive, binary, timestamp, list}
use Rattle.vx_base.specs.Timestamps.{PlainTimestamp}
use Rattle.vx_base.specs.TypeOf.{type_of, type_step, fields_step, FieldList}
use Rattle.vx_base.proofs.FieldLemmas.{type_of-Struct, type_of-Utf8, type_of-FixedSizeList}

pub type_of-Null : type_of variants.Null ≡ null_type
type_of-Null = ap type_of (sym rolls-Null) ∙ fold-roll-DType PlainType FieldList type_step fields_step DType-F.Null

pub type_of-Bool : (n : Nullability) → type_of (variants.Bool n) ≡ boolean n
type_of-Bool n = ap type_of (sym (rolls-Bool n)) ∙ fold-roll-DType PlainType FieldList type_step fields_step (DType-F.Bool n)

pub type_of-Primitive : (p : PType) (n : Nullability) → type_of (variants.Primitive p n) ≡ primitive p n
type_of-Primitive p n = ap type_of (sym (rolls-Primitive p n)) ∙ fold-roll-DType PlainType FieldList type_step fields_step (DType-F.Primitive p n)

pub type_of-Binary : (n : Nullability) → type_of (variants.Binary n) ≡ binary n
type_of-Binary n = ap type_of (sym (rolls-Binary n)) ∙ fold-roll-DType PlainType FieldList type_step fields_step (DType-F.Binary n)

pub type_of-Timestamp : (k : PlainTimestamp) (n : Nullability) → type_of (variants.Timestamp k n) ≡ timestamp k n
type_of-Timestamp k n = ap type_of (sym (rolls-Timestamp k n)) ∙ fold-roll-DType PlainType FieldList type_step fields_step (DType-F.Timestamp k n)

pub type_of-List : (t : Box DType Global) (n : Nullability) → type_of (views.List t n) ≡ list (type_of t.value) n
type_of-List t n = ap type_of (sym (rolls-List t n)) ∙ fold-roll-DType PlainType FieldList type_step fields_step (DType-F.List t n)

pub ruleset types = (type_of-Null, type_of-Bool, type_of-Primitive, type_of-Utf8, type_of-Binary, type_of-Timestamp, type_of-Struct, type_of-List, type_of-FixedSizeList)
