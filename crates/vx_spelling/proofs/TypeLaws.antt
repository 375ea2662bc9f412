-- The laws of types.
use Rattle.std.proofs.Common.{◌≡◌, ℕ, zero, suc, ◌<◌, ◌≤◌, List, [], ◌∷◌, ◌++◌, length, Some, refl, sym, ap, subst, ◌∙◌, arith}
use Rattle.vx_base.specs.declared.dtype.Nullability.{Nullability}
use Rattle.vx_base.specs.PlainType.{PlainType, PlainFields, null_type, boolean, primitive, utf8, binary, timestamp, structure, list, fixed_size_list, none, more, of_fields}
use Rattle.vx_codec.specs.Format.{Format, IsLawful, both}
use Rattle.vx_codec.specs.Lists.{spell_all, AllFit}
use Rattle.vx_codec.specs.Varint.{varint}
use Rattle.vx_codec.proofs.FormatLaws.{some_is, both_lawful, sum_lawful, made_round_trip, made_round_trip_as, made_canonical}
use Rattle.vx_codec.proofs.ListLaws.{counted_lawful}
use Rattle.vx_codec.proofs.NumberLaws.{enumerated_lawful, name_is, nothing_is}
use Rattle.vx_spelling.specs.declared.kinds.TypeKind.{TypeKind}
use Rattle.vx_spelling.specs.declared.kinds.TypeKind.TheVariants as kinds
use Rattle.vx_spelling.specs.Fields.{nullability, ptype, name, timestamp_kind, list_size}
use Rattle.vx_spelling.specs.TypeSpelling.{type_kind, type_kind_number, type_kind_from, kind_of_type, count_fields, type_body, field_types_body, type_text, type_depth, field_types_depth, FieldTypesFit, TypeFitsAt, types_by, type_fields, primitive_type_of, timestamp_type_of, struct_type_of, list_type_of, fixed_type_of, type_behind, type_at, type_format}
use Rattle.vx_spelling.proofs.FieldLaws.{nullability_lawful, ptype_lawful, name_lawful, timestamp_kind_lawful, list_size_lawful}

type_kind_some : (k : TypeKind) → (type_kind_number k < 256) × (type_kind_from (type_kind_number k) ≡ Some k)
type_kind_some kinds.Null = (omega arith, refl)
type_kind_some kinds.Bool = (omega arith, refl)
type_kind_some kinds.Primitive = (omega arith, refl)
type_kind_some kinds.Utf8 = (omega arith, refl)
type_kind_some kinds.Binary = (omega arith, refl)
type_kind_some kinds.Timestamp = (omega arith, refl)
type_kind_some kinds.Struct = (omega arith, refl)
type_kind_some kinds.List = (omega arith, refl)
type_kind_some kinds.FixedSizeList = (omega arith, refl)

pub type_kind_lawful : IsLawful type_kind
type_kind_lawful =
    enumerated_lawful type_kind_number type_kind_from type_kind_some
    (λ n b. name_is type_kind_number n 0 kinds.Null b _ refl (name_is type_kind_number n 1 kinds.Bool b _ refl (name_is type_kind_number n 2 kinds.Primitive b _ refl
    (name_is type_kind_number n 3 kinds.Utf8 b _ refl (name_is type_kind_number n 4 kinds.Binary b _ refl (name_is type_kind_number n 5 kinds.Timestamp b _ refl
    (name_is type_kind_number n 6 kinds.Struct b _ refl (name_is type_kind_number n 7 kinds.List b _ refl (name_is type_kind_number n 8 kinds.FixedSizeList b _ refl (nothing_is n type_kind_number b))))))))))

pub type_depth_some : (t : PlainType) → 0 < type_depth t
type_depth_some null_type = omega arith
type_depth_some (boolean n) = omega arith
type_depth_some (primitive p n) = omega arith
type_depth_some (utf8 n) = omega arith
type_depth_some (binary n) = omega arith
type_depth_some (timestamp k n) = omega arith
type_depth_some (structure fs n) = omega arith
type_depth_some (list t n) = omega arith
type_depth_some (fixed_size_list t size n) = omega arith

-- ---- fields

abbrev pairs_of : PlainFields → List (List ℕ × PlainType)
pairs_of none = []
pairs_of (more field t fs) = (field, t) ∷ pairs_of fs

of_pairs : (fs : PlainFields) → of_fields (pairs_of fs) ≡ fs
of_pairs none = refl
of_pairs (more field t fs) = ap (more field t) (of_pairs fs)

count_of : (fs : List (List ℕ × PlainType)) → count_fields (of_fields fs) ≡ length fs
count_of [] = refl
count_of (f ∷ fs) = ap suc (count_of fs)

body_of : (d : ℕ) (fs : List (List ℕ × PlainType)) → field_types_body (of_fields fs) ≡ spell_all (both name (type_format d)).spell fs
body_of d [] = refl
body_of d (f ∷ fs) = ap (λ (r : List ℕ). (name.spell f.0 ++ type_text f.1) ++ r) (body_of d fs)

fit_in : (d : ℕ) (fs : List (List ℕ × PlainType)) → AllFit (both name (type_format d)).Fits fs → (field_types_depth (of_fields fs) ≤ d) × FieldTypesFit (of_fields fs)
fit_in d [] h = (omega arith, tt)
fit_in d (f ∷ fs) h =
    let ih = fit_in d fs h.1 in
    let a : type_depth f.1 ≤ d = h.0.1.0 in
    (omega arith, (h.0.0, (h.0.1.1, ih.1)))

fit_out : (d : ℕ) (fs : List (List ℕ × PlainType)) → field_types_depth (of_fields fs) ≤ d → FieldTypesFit (of_fields fs) → AllFit (both name (type_format d)).Fits fs
fit_out d [] le h = tt
fit_out d (f ∷ fs) le h = ((h.0, (omega arith, h.1.0)), fit_out d fs (omega arith) h.1.1)

abbrev struct_parts : ℕ → Format (Nullability × List (List ℕ × PlainType))
struct_parts d = both nullability (type_fields (type_format d))

struct_lawful : (d : ℕ) → IsLawful (type_format d) → IsLawful (struct_parts d)
struct_lawful d law = both_lawful nullability (type_fields (type_format d)) nullability_lawful (counted_lawful (both name (type_format d)) (both_lawful name (type_format d) name_lawful law))

struct_body : (d : ℕ) (fs : List (List ℕ × PlainType)) (n : Nullability) → type_body (structure (of_fields fs) n) ≡ (struct_parts d).spell (n, fs)
struct_body d fs n = rw (count_of fs, body_of d fs) refl

struct_round_trip : (d : ℕ) → IsLawful (type_format d) → (fs : List (List ℕ × PlainType)) (n : Nullability) (rest : List ℕ) → TypeFitsAt (suc d) (structure (of_fields fs) n)
    → type_behind (types_by (type_at d)) kinds.Struct (type_body (structure (of_fields fs) n) ++ rest) ≡ Some (structure (of_fields fs) n, rest)
struct_round_trip d law fs n rest h =
    made_round_trip_as (struct_parts d) struct_type_of (struct_lawful d law) (n, fs) (structure (of_fields fs) n) (type_body (structure (of_fields fs) n)) rest
    (tt, (subst varint.Fits (count_of fs) h.1.0, (refl, fit_out d fs (omega arith) h.1.1))) (struct_body d fs n) refl

-- ---- each kind, both ways

module _ (d : ℕ) (law : IsLawful (type_format d)) where
  abbrev fixed_parts : Format (Nullability × (ℕ × PlainType))
  fixed_parts = both nullability (both list_size (type_format d))

  fixed_lawful : IsLawful fixed_parts
  fixed_lawful = both_lawful nullability (both list_size (type_format d)) nullability_lawful (both_lawful list_size (type_format d) list_size_lawful law)

  type_round_trip : (t : PlainType) (rest : List ℕ) → TypeFitsAt (suc d) t → type_behind (types_by (type_at d)) (kind_of_type t) (type_body t ++ rest) ≡ Some (t, rest)
  type_round_trip null_type rest h = refl
  type_round_trip (boolean n) rest h = made_round_trip nullability boolean nullability_lawful n rest tt
  type_round_trip (primitive p n) rest h = made_round_trip (both nullability ptype) primitive_type_of (both_lawful nullability ptype nullability_lawful ptype_lawful) (n, p) rest (tt, tt)
  type_round_trip (utf8 n) rest h = made_round_trip nullability utf8 nullability_lawful n rest tt
  type_round_trip (binary n) rest h = made_round_trip nullability binary nullability_lawful n rest tt
  type_round_trip (timestamp k n) rest h =
      made_round_trip (both nullability timestamp_kind) timestamp_type_of (both_lawful nullability timestamp_kind nullability_lawful timestamp_kind_lawful) (n, k) rest (tt, h.1)
  type_round_trip (structure fs n) rest h =
      subst (λ (gs : PlainFields). TypeFitsAt (suc d) (structure gs n) → type_behind (types_by (type_at d)) kinds.Struct (type_body (structure gs n) ++ rest) ≡ Some (structure gs n, rest)) (of_pairs fs)
      (λ k. struct_round_trip d law (pairs_of fs) n rest k) h
  type_round_trip (list t n) rest h =
      made_round_trip (both nullability (type_format d)) list_type_of (both_lawful nullability (type_format d) nullability_lawful law) (n, t) rest (tt, (omega arith, h.1))
  type_round_trip (fixed_size_list t size n) rest h = made_round_trip fixed_parts fixed_type_of fixed_lawful (n, (size, t)) rest (tt, (h.1.0, (omega arith, h.1.1)))

  abbrev IsRead : List ℕ → TypeKind → PlainType × List ℕ → Type 0
  IsRead bytes k x = (bytes ≡ type_body x.0 ++ x.1) × (kind_of_type x.0 ≡ k) × TypeFitsAt (suc d) x.0

  type_canonical : (k : TypeKind) (bytes : List ℕ) (x : PlainType × List ℕ) → type_behind (types_by (type_at d)) k bytes ≡ Some x → IsRead bytes k x
  type_canonical kinds.Null bytes x e = let made : PlainType × List ℕ = (null_type, bytes) in subst (IsRead bytes kinds.Null) (some_is made x e) (refl, refl, (omega arith, tt))
  type_canonical kinds.Bool bytes x e = made_canonical nullability boolean nullability_lawful bytes (IsRead bytes kinds.Bool) (λ n rest h b. (b, refl, (omega arith, tt))) x e
  type_canonical kinds.Primitive bytes x e =
      made_canonical (both nullability ptype) primitive_type_of (both_lawful nullability ptype nullability_lawful ptype_lawful) bytes (IsRead bytes kinds.Primitive) (λ p rest h b. (b, refl, (omega arith, tt))) x e
  type_canonical kinds.Utf8 bytes x e = made_canonical nullability utf8 nullability_lawful bytes (IsRead bytes kinds.Utf8) (λ n rest h b. (b, refl, (omega arith, tt))) x e
  type_canonical kinds.Binary bytes x e = made_canonical nullability binary nullability_lawful bytes (IsRead bytes kinds.Binary) (λ n rest h b. (b, refl, (omega arith, tt))) x e
  type_canonical kinds.Timestamp bytes x e =
      made_canonical (both nullability timestamp_kind) timestamp_type_of (both_lawful nullability timestamp_kind nullability_lawful timestamp_kind_lawful) bytes (IsRead bytes kinds.Timestamp)
      (λ p rest h b. (b, refl, (omega arith, h.1))) x e
  type_canonical kinds.Struct bytes x e =
      made_canonical (struct_parts d) struct_type_of (struct_lawful d law) bytes (IsRead bytes kinds.Struct)
      (λ p rest h b.
      let f = fit_in d p.1 h.1.1.1 in
      let le : field_types_depth (of_fields p.1) ≤ d = f.0 in
      (b ∙ ap (λ (r : List ℕ). r ++ rest) (sym (struct_body d p.1 p.0)), refl, (omega arith, (subst varint.Fits (sym (count_of p.1)) h.1.0, f.1)))) x e
  type_canonical kinds.List bytes x e =
      made_canonical (both nullability (type_format d)) list_type_of (both_lawful nullability (type_format d) nullability_lawful law) bytes (IsRead bytes kinds.List)
      (λ p rest h b. let le : type_depth p.1 ≤ d = h.1.0 in (b, refl, (omega arith, h.1.1))) x e
  type_canonical kinds.FixedSizeList bytes x e =
      made_canonical fixed_parts fixed_type_of fixed_lawful bytes (IsRead bytes kinds.FixedSizeList)
      (λ p rest h b. let le : type_depth p.1.1 ≤ d = h.1.1.0 in (b, refl, (omega arith, (h.1.0, h.1.1.1)))) x e

pub type_lawful : (d : ℕ) → IsLawful (type_format d)
type_lawful zero = record {
  round_trip = λ t rest h. let p = type_depth_some t in let le : type_depth t ≤ 0 = h.0 in absurd (omega arith);
  canonical = λ bytes x e. absurd cc;
}
type_lawful (suc d) =
    sum_lawful type_kind kind_of_type type_body (type_behind (types_by (type_at d))) (TypeFitsAt (suc d)) type_kind_lawful (λ t h. tt) (type_round_trip d (type_lawful d)) (type_canonical d (type_lawful d))
