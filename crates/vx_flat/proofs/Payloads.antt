-- The bytes of the values within a value, one value more at a time.
use Rattle.std.proofs.Common.{◌≡◌, ◌∙◌, ◌<◌, ◌≤◌, ◌+◌, ℕ, zero, suc, List, [], ◌∷◌, length, map, take, get_or, min, refl, sym, ap, arith, add-one}
use Rattle.vx_base.specs.declared.dtype.DType.{DType}
use Rattle.vx_base.specs.declared.value.Value.{Value}
use Rattle.vx_base.specs.PlainType.{PlainType, of_fields}
use Rattle.vx_base.specs.PlainValue.{of_list}
use Rattle.vx_base.specs.TypeOf.{type_of, value_of, field_of}
use Rattle.vx_model.specs.Size.{payload, fields_payload, items_payload}

items_payload-suc : (t : PlainType) (vs : List Value) (i : ℕ) (v : Value) → i < length vs → v ≡ get_or vs i v
    → items_payload t (of_list (map value_of (take (suc i) vs))) ≡ items_payload t (of_list (map value_of (take i vs))) + payload t (value_of v)
items_payload-suc t [] i v l e = absurd (omega arith)
items_payload-suc t (w ∷ vs) zero v l e = let same = ap (λ x. payload t (value_of x)) e in omega arith
items_payload-suc t (w ∷ vs) (suc i) v l e = let rest = items_payload-suc t vs i v (omega arith) e in omega arith

pub items_payload-next : (t : PlainType) (vs : List Value) (i : ℕ) (v : Value) → i < length vs → v ≡ get_or vs i v
    → items_payload t (of_list (map value_of (take (i + 1) vs))) ≡ items_payload t (of_list (map value_of (take i vs))) + payload t (value_of v)
items_payload-next t vs i v l e = ap (λ k. items_payload t (of_list (map value_of (take k vs)))) (add-one i) ∙ items_payload-suc t vs i v l e

fields_payload-suc : (fs : List (List ℕ × DType)) (vs : List Value) (i : ℕ) (f : List ℕ × DType) (v : Value) → i < length fs → i < length vs → f ≡ get_or fs i f → v ≡ get_or vs i v
    → fields_payload (of_fields (map field_of (take (suc i) fs))) (of_list (map value_of vs)) ≡ fields_payload (of_fields (map field_of (take i fs))) (of_list (map value_of vs)) + payload (type_of f.1) (value_of v)
fields_payload-suc [] vs i f v l k e d = absurd (omega arith)
fields_payload-suc (g ∷ fs) [] i f v l k e d = absurd (omega arith)
fields_payload-suc (g ∷ fs) (w ∷ vs) zero f v l k e d = let same : payload (type_of g.1) (value_of w) ≡ payload (type_of f.1) (value_of v) = λ j. payload (type_of (sym e j).1) (value_of (sym d j)) in omega arith
fields_payload-suc (g ∷ fs) (w ∷ vs) (suc i) f v l k e d = let rest = fields_payload-suc fs vs i f v (omega arith) (omega arith) e d in omega arith

-- of a struct's values the first ones, by the first fields
pub fields_payload-next : (fs : List (List ℕ × DType)) (vs : List Value) (i : ℕ) (f : List ℕ × DType) (v : Value) → i < length fs → i < length vs → f ≡ get_or fs i f → v ≡ get_or vs i v
    → fields_payload (of_fields (map field_of (take (i + 1) fs))) (of_list (map value_of vs)) ≡ fields_payload (of_fields (map field_of (take i fs))) (of_list (map value_of vs)) + payload (type_of f.1) (value_of v)
fields_payload-next fs vs i f v l k e d = ap (λ n. fields_payload (of_fields (map field_of (take n fs))) (of_list (map value_of vs))) (add-one i) ∙ fields_payload-suc fs vs i f v l k e d

-- which are all, where the fields or the values end
pub fields_payload-all : (fs : List (List ℕ × DType)) (vs : List Value) (i : ℕ) → min (length fs) (length vs) ≤ i
    → fields_payload (of_fields (map field_of (take i fs))) (of_list (map value_of vs)) ≡ fields_payload (of_fields (map field_of fs)) (of_list (map value_of vs))
fields_payload-all [] vs zero l = refl
fields_payload-all [] vs (suc i) l = refl
fields_payload-all (f ∷ fs) [] zero l = refl
fields_payload-all (f ∷ fs) [] (suc i) l = refl
fields_payload-all (f ∷ fs) (v ∷ vs) zero l = absurd (omega arith)
fields_payload-all (f ∷ fs) (v ∷ vs) (suc i) l = ap (λ n. payload (type_of f.1) (value_of v) + n) (fields_payload-all fs vs i (omega arith))
