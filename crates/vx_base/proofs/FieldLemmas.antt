-- Types with fields as plain data.
use Rattle.std.proofs.Common.{◌≡◌, ◌<◌, ℕ, List, [], ◌∷◌, map, length, get_or, refl, sym, ap, ◌∙◌, Option, Some, None, Bor, Box, Global, option_map, arith, false}
use Rattle.std.proofs.lemmas.List.{get_or-map}
use Rattle.std.specs.Option.{option_copied}
use Rattle.std.specs.Prelude.{if◌then◌else◌}
use Rattle.vx_base.specs.PlainType.{PlainType, PlainFields, none, more, of_fields, list_of_fields, utf8, structure, fixed_size_list, is_nullable}
use Rattle.vx_base.specs.Defaults.{default_of, field_defaults, field_list_defaults, null_or_default}
use Rattle.vx_base.specs.PlainValue.{null, items, of_list}
use Rattle.vx_base.specs.PlainValue as vals
use Rattle.vx_base.specs.TypeOf.{type_of, field_of, fields_of, type_step, fields_step, FieldList}
use Rattle.vx_base.specs.declared.dtype.DType.{DType}
use Rattle.vx_base.specs.declared.dtype.Fields.{Fields}
use Rattle.vx_base.specs.declared.dtype.DType.TheVariants as variants
use Rattle.vx_base.specs.declared.dtype.DType.TheViews.{out-Fields, Struct, rolls-Struct, rolls-Utf8, FixedSizeList, rolls-FixedSizeList}
use Rattle.vx_base.specs.declared.dtype.DType.TheOpen.{DType-F}
use Rattle.vx_base.specs.declared.dtype.Nullability.{Nullability}
use Rattle.vx_base.specs.declared.dtype.DType.TheFolds.{fold_out-Fields, fold-roll-DType}

pub fields_of-out : (fs : Fields) → fields_of fs ≡ map field_of (out-Fields fs).items.items
fields_of-out = fold_out-Fields PlainType FieldList type_step fields_step

pub option_map-copied : {A B : Type 0} (f : A → B) (o : Option (Bor A)) → option_map (λ r. f r.now) o ≡ option_map f (option_copied o)
option_map-copied f None = refl
option_map-copied f (Some r) = refl

pub list_of-of_fields : (fs : List (List ℕ × PlainType)) → list_of_fields (of_fields fs) ≡ fs
list_of-of_fields [] = refl
list_of-of_fields (f ∷ fs) = ap (λ r. f ∷ r) (list_of-of_fields fs)

pub of_fields-list_of : (fs : PlainFields) → of_fields (list_of_fields fs) ≡ fs
of_fields-list_of none = refl
of_fields-list_of (more name t fs) = ap (more name t) (of_fields-list_of fs)

pub of_fields_inj : (xs ys : List (List ℕ × PlainType)) → of_fields xs ≡ of_fields ys → xs ≡ ys
of_fields_inj xs ys e = sym (list_of-of_fields xs) ∙ ap list_of_fields e ∙ list_of-of_fields ys

-- at each index, the items of two lists with equal images have equal images
pub mapped_same : {A B : Type 0} (f : A → B) (xs ys : List A) (i : ℕ) (x y : A) → i < length xs → length xs ≡ length ys → x ≡ get_or xs i x → y ≡ get_or ys i y → map f xs ≡ map f ys → f x ≡ f y
mapped_same f xs ys i x y h l ex ey e =
    ap f ex ∙ sym (get_or-map f xs i x (f x) h) ∙ ap (λ zs. get_or zs i (f x)) e ∙ get_or-map f ys i y (f x) (omega arith) ∙ sym (ap f ey)

pub type_of-Struct : (fs : Fields) (n : Nullability) → type_of (Struct fs n) ≡ structure (of_fields (fields_of fs)) n
type_of-Struct fs n = ap type_of (sym (rolls-Struct fs n)) ∙ fold-roll-DType PlainType FieldList type_step fields_step (DType-F.Struct fs n)

pub ruleset structures = (type_of-Struct)

pub type_of-Utf8 : (n : Nullability) → type_of (variants.Utf8 n) ≡ utf8 n
type_of-Utf8 n = ap type_of (sym (rolls-Utf8 n)) ∙ fold-roll-DType PlainType FieldList type_step fields_step (DType-F.Utf8 n)

pub type_of-FixedSizeList : (t : Box DType Global) (size : ℕ) (n : Nullability) → type_of (FixedSizeList t size n) ≡ fixed_size_list (type_of t.value) size n
type_of-FixedSizeList t size n = ap type_of (sym (rolls-FixedSizeList t size n)) ∙ fold-roll-DType PlainType FieldList type_step fields_step (DType-F.FixedSizeList t size n)

-- ---- defaults

pub field_defaults-of_fields : (fs : List (List ℕ × PlainType)) → field_defaults (of_fields fs) ≡ of_list (field_list_defaults fs)
field_defaults-of_fields [] = refl
field_defaults-of_fields (f ∷ fs) = ap (vals.more (null_or_default f.1)) (field_defaults-of_fields fs)

pub null_or_default-none : (t : PlainType) → is_nullable t ≡ false → null_or_default t ≡ default_of t
null_or_default-none t e = ap (λ b. if b then null else default_of t) e

-- the default of a struct's type, where it isn't nullable
pub default_of-Struct : (fs : Fields) (n : Nullability) → default_of (type_of (Struct fs n)) ≡ items (of_list (field_list_defaults (fields_of fs)))
default_of-Struct fs n = ap default_of (type_of-Struct fs n) ∙ ap items (field_defaults-of_fields (fields_of fs))
