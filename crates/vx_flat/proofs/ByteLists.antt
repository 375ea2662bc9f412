-- The elements of lists, list by list: what is made of them so far, and what is left.
use Rattle.std.proofs.Common.{◌≡◌, ◌∙◌, ◌<◌, ◌+◌, ◌++◌, ℕ, List, [], ◌∷◌, Bool, length, map, take, drop, get_or, sym, ap, arith}
use Rattle.std.specs.Prelude.{◌||◌}
use Rattle.std.specs.List.{list_any}
use Rattle.std.proofs.lemmas.List.{append_assoc, append-nil, map-append, length-append, length-map, take_more, drop_more}
use Rattle.std.proofs.lemmas.List.Folds.{list_any-append}
use Rattle.vx_base.specs.declared.value.Value.{Value}
use Rattle.vx_base.specs.PlainValue.{PlainValue, bytes_or_empty, items_or_empty}
use Rattle.vx_base.specs.TypeOf.{value_of}
use Rattle.vx_model.specs.Nested.{elements}

-- ---- of lists that are lent

elements-push : (vs : List Value) (v : Value) → elements (map value_of (vs ++ v ∷ [])) ≡ elements (map value_of vs) ++ items_or_empty (value_of v)
elements-push [] v = append-nil (items_or_empty (value_of v))
elements-push (w ∷ vs) v = ap (λ es. items_or_empty (value_of w) ++ es) (elements-push vs v) ∙ sym (append_assoc (items_or_empty (value_of w)) (elements (map value_of vs)) (items_or_empty (value_of v)))

module _ (vs : List Value) (i : ℕ) (v : Value) (l : i < length vs) (at : v ≡ get_or vs i v) where
  pub elements-taken : elements (map value_of (take (i + 1) vs)) ≡ elements (map value_of (take i vs)) ++ items_or_empty (value_of v)
  elements-taken = ap (λ ws. elements (map value_of ws)) (take_more vs i v l ∙ ap (λ w. take i vs ++ w ∷ []) (sym at)) ∙ elements-push (take i vs) v

  pub mapped-taken : {B : Type 0} (f : PlainValue → B) → map f (elements (map value_of (take (i + 1) vs))) ≡ map f (elements (map value_of (take i vs))) ++ map f (items_or_empty (value_of v))
  mapped-taken f = ap (map f) elements-taken ∙ map-append f (elements (map value_of (take i vs))) (items_or_empty (value_of v))

  pub length-taken : length (elements (map value_of (take (i + 1) vs))) ≡ length (elements (map value_of (take i vs))) + length (items_or_empty (value_of v))
  length-taken = ap length elements-taken ∙ length-append (elements (map value_of (take i vs))) (items_or_empty (value_of v))

  pub any-left : (p : PlainValue → Bool) → list_any p (elements (map value_of (drop i vs))) ≡ (list_any p (items_or_empty (value_of v)) || list_any p (elements (map value_of (drop (i + 1) vs))))
  any-left p =
      ap (λ ws. list_any p (elements (map value_of ws))) (drop_more vs i v l ∙ ap (λ w. w ∷ drop (i + 1) vs) (sym at))
      ∙ list_any-append p (items_or_empty (value_of v)) (elements (map value_of (drop (i + 1) vs)))

-- ---- of lists that are moved

module _ (rows new : List (List ℕ)) (left rest : List Value) (v : Value) (all : List PlainValue) (next : left ≡ v ∷ rest) (more : new ≡ rows ++ map bytes_or_empty (items_or_empty (value_of v))) where
  pub rows-more : rows ++ map bytes_or_empty (elements (map value_of left)) ≡ map bytes_or_empty (elements all) → new ++ map bytes_or_empty (elements (map value_of rest)) ≡ map bytes_or_empty (elements all)
  rows-more h =
      ap (λ rs. rs ++ map bytes_or_empty (elements (map value_of rest))) more ∙ append_assoc rows (map bytes_or_empty (items_or_empty (value_of v))) (map bytes_or_empty (elements (map value_of rest)))
      ∙ ap (λ rs. rows ++ rs) (sym (map-append bytes_or_empty (items_or_empty (value_of v)) (elements (map value_of rest))))
      ∙ ap (λ vs. rows ++ map bytes_or_empty (elements (map value_of vs))) (sym next) ∙ h

  pub rows-longer : length rows + length (items_or_empty (value_of v)) ≡ length new
  rows-longer =
      let a = length-map (items_or_empty (value_of v)) bytes_or_empty in
      omega (arith, ap length more, length-append rows (map bytes_or_empty (items_or_empty (value_of v))))
