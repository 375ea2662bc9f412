-- Steps of loops over the fields of types.
use Rattle.std.proofs.Common.{◌≡◌, ◌<◌, ◌≤◌, ◌+◌, ◌++◌, ◌∷◌, ℕ, zero, suc, max, Bool, true, false, List, [], length, map, get_or, drop, refl, sym, ap, ◌∙◌, arith}
use Rattle.std.specs.Prelude.{nat_le}
use Rattle.std.proofs.lemmas.Bool.Decides.{nat_tests}
use Rattle.std.proofs.lemmas.List.{at_drop_more}
use Rattle.vx_base.specs.declared.dtype.DType.{DType}
use Rattle.vx_base.specs.declared.dtype.Nullability.{Nullability}
use Rattle.vx_base.specs.PlainType.{PlainType, structure, list, fixed_size_list, of_fields}
use Rattle.vx_base.specs.TypeOf.{FieldList, type_of, field_of}
use Rattle.vx_codec.specs.Varint.{varint}
use Rattle.vx_spelling.specs.Fields.{name, nullability}
use Rattle.vx_spelling.specs.TypeSpelling.{count_fields, field_types_body, field_types_depth, type_depth, type_text}

pub count_fields-of : (fs : FieldList) → count_fields (of_fields fs) ≡ length fs
count_fields-of [] = refl
count_fields-of (f ∷ fs) = ap suc (count_fields-of fs)

pub depth_more : (fs : List (List ℕ × DType)) (i : ℕ) (f : List ℕ × DType) → i < length fs → f ≡ get_or fs i f
    → field_types_depth (of_fields (map field_of (drop i fs))) ≡ max (type_depth (type_of f.1)) (field_types_depth (of_fields (map field_of (drop (i + 1) fs))))
depth_more fs i f h e =
    at_drop_more (λ gs. field_types_depth (of_fields (map field_of gs))) fs i f h
    ∙ ap (λ (g : List ℕ × DType). max (type_depth (type_of g.1)) (field_types_depth (of_fields (map field_of (drop (i + 1) fs))))) (sym e)

-- the types of the fields that are left are no deeper than all
pub depth_left : (fs : List (List ℕ × DType)) (i : ℕ) → field_types_depth (of_fields (map field_of (drop i fs))) ≤ field_types_depth (of_fields (map field_of fs))
depth_left fs zero = omega arith
depth_left [] (suc i) = omega arith
depth_left (f ∷ fs) (suc i) = omega (arith, depth_left fs i)

-- the type of a field is no deeper than all
pub field_depth : (fs : List (List ℕ × DType)) (i : ℕ) (f : List ℕ × DType) → i < length fs → f ≡ get_or fs i f → type_depth (type_of f.1) ≤ field_types_depth (of_fields (map field_of fs))
field_depth fs i f h e = omega (arith, depth_more fs i f h e, depth_left fs i)

pub field_depth_at : (fs : List (List ℕ × DType)) (i : ℕ) (f : List ℕ × DType) → i < length fs → type_depth (type_of (get_or fs i f).1) ≤ field_types_depth (of_fields (map field_of fs))
field_depth_at fs i f h =
    let more : field_types_depth (of_fields (map field_of (drop i fs))) ≡ max (type_depth (type_of (get_or fs i f).1)) (field_types_depth (of_fields (map field_of (drop (i + 1) fs)))) =
    at_drop_more (λ gs. field_types_depth (of_fields (map field_of gs))) fs i f h in
    omega (arith, more, depth_left fs i)

pub nests-next : (fs : List (List ℕ × DType)) (i : ℕ) (f : List ℕ × DType) (limit : ℕ) (total : Bool) → i < length fs → f ≡ get_or fs i f → nat_le (type_depth (type_of f.1)) limit ≡ true
    → nat_le (field_types_depth (of_fields (map field_of (drop i fs)))) limit ≡ total → nat_le (field_types_depth (of_fields (map field_of (drop (i + 1) fs)))) limit ≡ total
nests-next fs i f limit total h e t so_far =
    let m = depth_more fs i f h e in
    grind (arith, nat_tests, m)

pub nests-stop : (fs : List (List ℕ × DType)) (i : ℕ) (f : List ℕ × DType) (limit : ℕ) (total : Bool) → i < length fs → f ≡ get_or fs i f → nat_le (type_depth (type_of f.1)) limit ≡ false
    → nat_le (field_types_depth (of_fields (map field_of (drop i fs)))) limit ≡ total → false ≡ total
nests-stop fs i f limit total h e t so_far =
    let m = depth_more fs i f h e in
    grind (arith, nat_tests, m)

pub fields_text_more : (fs : List (List ℕ × DType)) (i : ℕ) (f : List ℕ × DType) → i < length fs → f ≡ get_or fs i f
    → field_types_body (of_fields (map field_of (drop i fs))) ≡ (name.spell f.0 ++ type_text (type_of f.1)) ++ field_types_body (of_fields (map field_of (drop (i + 1) fs)))
fields_text_more fs i f h e =
    at_drop_more (λ gs. field_types_body (of_fields (map field_of gs))) fs i f h
    ∙ ap (λ (g : List ℕ × DType). (name.spell g.0 ++ type_text (type_of g.1)) ++ field_types_body (of_fields (map field_of (drop (i + 1) fs)))) (sym e)

-- ---- the spelling of a nested type

pub text-structure : (t : PlainType) (fs : FieldList) (n : Nullability) (count : ℕ) → t ≡ structure (of_fields fs) n → count ≡ length fs
    → type_text t ≡ (6 ∷ nullability.spell n) ++ (varint.spell count ++ field_types_body (of_fields fs))
text-structure t fs n count is of = ap type_text is ∙ ap (λ (k : ℕ). (6 ∷ nullability.spell n) ++ (varint.spell k ++ field_types_body (of_fields fs))) (count_fields-of fs ∙ sym of)

pub text-list : (t : PlainType) (items inner : PlainType) (n : Nullability) → t ≡ list items n → inner ≡ items → type_text t ≡ (7 ∷ nullability.spell n) ++ type_text inner
text-list t items inner n is of = ap type_text is ∙ ap (λ (s : PlainType). (7 ∷ nullability.spell n) ++ type_text s) (sym of)

pub text-fixed_size_list : (t : PlainType) (items inner : PlainType) (size count : ℕ) (n : Nullability) → t ≡ fixed_size_list items size n → inner ≡ items → count ≡ size
    → type_text t ≡ (8 ∷ nullability.spell n) ++ (varint.spell count ++ type_text inner)
text-fixed_size_list t items inner size count n is of counts = ap type_text is ∙ (λ i. (8 ∷ nullability.spell n) ++ (varint.spell (sym counts i) ++ type_text (sym of i)))
