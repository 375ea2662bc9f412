-- Steps of the writer of values.
use Rattle.std.proofs.Common.{◌≡◌, ◌<◌, ◌+◌, ◌++◌, ◌∷◌, ℕ, suc, List, [], length, map, get_or, drop, refl, sym, ap, ◌∙◌}
use Rattle.std.proofs.lemmas.List.{at_drop_more}
use Rattle.vx_base.specs.declared.dtype.DType.{DType}
use Rattle.vx_base.specs.declared.value.Value.{Value}
use Rattle.vx_base.specs.declared.dtype.Nullability.{Nullability}
use Rattle.vx_base.specs.PlainType.{PlainType, list, of_fields}
use Rattle.vx_base.specs.PlainValue.{PlainValue, items, of_list}
use Rattle.vx_base.specs.TypeOf.{type_of, value_of, field_of}
use Rattle.vx_codec.specs.Varint.{varint}
use Rattle.vx_spelling.specs.ValueSpelling.{count_values, each_field_text, each_text, value_text}
use Rattle.vx_file.specs.Writing.{content_text}

pub each_text_more : (t : PlainType) (vs : List Value) (i : ℕ) (v : Value) → i < length vs → v ≡ get_or vs i v
    → each_text (of_list (map value_of (drop i vs))) t ≡ value_text (value_of v) t ++ each_text (of_list (map value_of (drop (i + 1) vs))) t
each_text_more t vs i v h e =
    at_drop_more (λ ws. each_text (of_list (map value_of ws)) t) vs i v h ∙ ap (λ (w : Value). value_text (value_of w) t ++ each_text (of_list (map value_of (drop (i + 1) vs))) t) (sym e)

pub each_field_more : (fs : List (List ℕ × DType)) (vs : List Value) (i : ℕ) (f : List ℕ × DType) (v : Value) → i < length fs → i < length vs → v ≡ get_or vs i v
    → each_field_text (of_list (map value_of (drop i vs))) (of_fields (map field_of (drop i fs)))
    ≡ value_text (value_of v) (type_of (get_or fs i f).1) ++ each_field_text (of_list (map value_of (drop (i + 1) vs))) (of_fields (map field_of (drop (i + 1) fs)))
each_field_more fs vs i f v h k e =
    at_drop_more (λ gs. each_field_text (of_list (map value_of (drop i vs))) (of_fields (map field_of gs))) fs i f h
    ∙ at_drop_more (λ ws. each_field_text (of_list (map value_of ws)) (of_fields (field_of (get_or fs i f) ∷ map field_of (drop (i + 1) fs)))) vs i v k
    ∙ ap (λ (w : Value). value_text (value_of w) (type_of (get_or fs i f).1) ++ each_field_text (of_list (map value_of (drop (i + 1) vs))) (of_fields (map field_of (drop (i + 1) fs)))) (sym e)

count_values-of : (vs : List PlainValue) → count_values (of_list vs) ≡ length vs
count_values-of [] = refl
count_values-of (v ∷ vs) = ap suc (count_values-of vs)

-- a list behind its length
pub content-list : (v : PlainValue) (t : PlainType) (vs : List PlainValue) (within inner : PlainType) (n : Nullability) (count : ℕ) → v ≡ items (of_list vs) → t ≡ list within n → inner ≡ within → count ≡ length vs
    → content_text v t ≡ varint.spell count ++ each_text (of_list vs) inner
content-list v t vs within inner n count a b c d =
    (λ i. content_text (a i) (b i)) ∙ (λ i. varint.spell (count_values-of vs i) ++ each_text (of_list vs) (sym c i)) ∙ ap (λ (k : ℕ). varint.spell k ++ each_text (of_list vs) inner) (sym d)
