-- Values one by one: each lies in the type that all do, and what stands within structs and lists is laid out in its order.
use Rattle.std.proofs.Common.{◌≡◌, ◌∙◌, ◌<◌, ◌+◌, ◌++◌, ℕ, zero, suc, List, [], ◌∷◌, length, map, take, drop, get_or, set, refl, sym, ap, true, false, arith}
use Rattle.std.specs.Prelude.{replicate}
use Rattle.std.specs.List.{list_all}
use Rattle.std.proofs.lemmas.Bool.{and_parts}
use Rattle.std.proofs.lemmas.List.{append_assoc, append-nil, map-append, map-set, get_or-map, drop_more, take_more_set, drop-set-lt, length-append, length-map}
use Rattle.vx_base.specs.declared.ptype.PType.{PType}
use Rattle.vx_base.specs.declared.value.Value.{Value}
use Rattle.vx_base.specs.Integers.{lies_in}
use Rattle.vx_base.specs.PlainValue.{PlainValue, PlainValues, null, truth, int, bytes, items, is_null, of_list, whole_or_zero, items_or_empty}
use Rattle.vx_base.specs.TypeOf.{value_of}
use Rattle.vx_base.proofs.WithinLemmas.{of_list-list_of, list_of-of_list}
use Rattle.vx_model.specs.Nested.{within, first_within, rest_within, list_rows, elements}
use Rattle.vx_model.specs.Offsets.{offsets_from, offsets_of}
use Rattle.vx_flat.specs.Columns.{columns_of, with_row}

pub whole_held : (p : PType) (vs : List Value) (i : ℕ) (v : Value) → i < length vs → v ≡ get_or vs i v → list_all (lies_in p) (map whole_or_zero (map value_of vs)) ≡ true → lies_in p (whole_or_zero (value_of v)) ≡ true
whole_held p [] i v l e h = absurd (omega arith)
whole_held p (w ∷ vs) zero v l e h = ap (λ x. lies_in p (whole_or_zero (value_of x))) e ∙ (and_parts (lies_in p (whole_or_zero (value_of w))) _ h).0
whole_held p (w ∷ vs) (suc i) v l e h = whole_held p vs i v (omega arith) e (and_parts (lies_in p (whole_or_zero (value_of w))) _ h).1

pub ruleset held = (whole_held)

-- ---- the fields' values of each struct

pub within-of_list : (v : PlainValue) → of_list (items_or_empty v) ≡ within v
within-of_list (items vs) = of_list-list_of vs
within-of_list v = refl

-- columns without a row
pub columns-none : (n : ℕ) → replicate n [] ≡ columns_of n []
columns-none zero = refl
columns-none (suc n) = ap (λ cs. [] ∷ cs) (columns-none n)

columns-row : (n : ℕ) (rows : List PlainValues) (row : PlainValues) → with_row (columns_of n rows) row ≡ columns_of n (rows ++ row ∷ [])
columns-row zero rows row = refl
columns-row (suc n) rows row =
    (λ i. sym (map-append first_within rows (row ∷ [])) i ∷ with_row (columns_of n (map rest_within rows)) (rest_within row))
    ∙ ap (λ cs. map first_within (rows ++ row ∷ []) ∷ cs) (columns-row n (map rest_within rows) (rest_within row) ∙ ap (columns_of n) (sym (map-append rest_within rows (row ∷ []))))

-- the columns with each of some rows more
abbrev pub with_rows : List (List PlainValue) → List PlainValues → List (List PlainValue)
with_rows cs [] = cs
with_rows cs (row ∷ rows) = with_rows (with_row cs row) rows

columns-rows : (n : ℕ) (before rows : List PlainValues) → with_rows (columns_of n before) rows ≡ columns_of n (before ++ rows)
columns-rows n before [] = ap (columns_of n) (sym (append-nil before))
columns-rows n before (row ∷ rows) = ap (λ cs. with_rows cs rows) (columns-row n before row) ∙ columns-rows n (before ++ row ∷ []) rows ∙ ap (columns_of n) (append_assoc before (row ∷ []) rows)

pub columns-all : (n : ℕ) (rows : List PlainValues) → with_rows (columns_of n []) rows ≡ columns_of n rows
columns-all n rows = columns-rows n [] rows

row-more : (all now : List (List PlainValue)) (i : ℕ) (c : List PlainValue) (row next : PlainValues) (v : PlainValue) → i < length now → c ≡ get_or now i c → v ≡ first_within row → next ≡ rest_within row
    → take i now ++ with_row (drop i now) row ≡ all
    → take (i + 1) (set now i (c ++ v ∷ [])) ++ with_row (drop (i + 1) (set now i (c ++ v ∷ []))) next ≡ all
row-more all now i c row next v l at first rest h =
    let new = c ++ v ∷ [] in
    (λ j. take_more_set now i new l j ++ with_row (drop-set-lt (i + 1) now i new (omega arith) j) (rest j))
    ∙ append_assoc (take i now) (new ∷ []) (with_row (drop (i + 1) now) (rest_within row))
    ∙ ap (λ w. take i now ++ (c ++ w ∷ []) ∷ with_row (drop (i + 1) now) (rest_within row)) first
    ∙ ap (λ cs. take i now ++ with_row cs row) (sym (drop_more now i c l ∙ ap (λ d. d ∷ drop (i + 1) now) (sym at))) ∙ h

-- one column more has its value of a row, where its items are that value and the others
pub row-pushed : {D : Type 0} (columns : List D) (its : D → List Value) (i : ℕ) (q p : D) (v : Value) (row next : PlainValues) (all : List (List PlainValue))
    → i < length columns → q ≡ get_or columns i q → its p ≡ its q ++ v ∷ [] → value_of v ≡ first_within row → next ≡ rest_within row
    → take i (map (λ d. map value_of (its d)) columns) ++ with_row (drop i (map (λ d. map value_of (its d)) columns)) row ≡ all
    → take (i + 1) (map (λ d. map value_of (its d)) (set columns i p)) ++ with_row (drop (i + 1) (map (λ d. map value_of (its d)) (set columns i p))) next ≡ all
row-pushed {D} columns its i q p v row next all l at pushed first rest h =
    let seen = λ (d : D). map value_of (its d) in
    let now = map seen columns in
    let here : get_or now i (seen q) ≡ seen q = get_or-map seen columns i q (seen q) l ∙ ap seen (sym at) in
    let long : i < length now = (let same = length-map columns seen in omega arith) in
    let more : seen p ≡ seen q ++ value_of v ∷ [] = ap (map value_of) pushed ∙ map-append value_of (its q) (v ∷ []) in
    let all_now : map seen (set columns i p) ≡ set now i (seen q ++ value_of v ∷ []) = map-set seen columns i p ∙ ap (set now i) more in
    (λ j. take (i + 1) (all_now j) ++ with_row (drop (i + 1) (all_now j)) next) ∙ row-more all now i (seen q) row next (value_of v) long (sym here) first rest h

-- ---- the offsets between rows

-- where each row ends, if the first one begins here
abbrev pub ends_from : {A : Type 0} → ℕ → List (List A) → List ℕ
ends_from here [] = []
ends_from here (row ∷ rows) = (here + length row) ∷ ends_from (here + length row) rows

pub offsets_from-ends : {A : Type 0} (here : ℕ) (rows : List (List A)) → offsets_from here rows ≡ here ∷ ends_from here rows
offsets_from-ends here [] = refl
offsets_from-ends here (row ∷ rows) = ap (λ os. here ∷ os) (offsets_from-ends (here + length row) rows)

-- the items of one list more
module _ (items new : List Value) (left rest : List Value) (v : Value) (all : List PlainValue) (next : left ≡ v ∷ rest) (more : map value_of new ≡ map value_of items ++ items_or_empty (value_of v)) where
  pub elements-more : map value_of items ++ elements (map value_of left) ≡ elements all → map value_of new ++ elements (map value_of rest) ≡ elements all
  elements-more h =
      ap (λ vs. vs ++ elements (map value_of rest)) more ∙ append_assoc (map value_of items) (items_or_empty (value_of v)) (elements (map value_of rest))
      ∙ ap (λ vs. map value_of items ++ elements (map value_of vs)) (sym next) ∙ h

  pub items-longer : length items + length (items_or_empty (value_of v)) ≡ length new
  items-longer =
      let a = length-map new value_of in
      let b = length-map items value_of in
      omega (arith, ap length more, length-append (map value_of items) (items_or_empty (value_of v)))

-- the end of one list more, where its items end
pub ends-more : (here now : ℕ) (left rest : List Value) (v : Value) (all : List PlainValue) (offsets : List ℕ) → left ≡ v ∷ rest → here + length (items_or_empty (value_of v)) ≡ now
    → offsets ++ ends_from here (list_rows (map value_of left)) ≡ offsets_of (list_rows all)
    → (offsets ++ now ∷ []) ++ ends_from now (list_rows (map value_of rest)) ≡ offsets_of (list_rows all)
ends-more here now left rest v all offsets next longer h =
    append_assoc offsets (now ∷ []) (ends_from now (list_rows (map value_of rest)))
    ∙ ap (λ n. offsets ++ n ∷ ends_from n (list_rows (map value_of rest))) (sym longer)
    ∙ ap (λ vs. offsets ++ ends_from here (list_rows (map value_of vs))) (sym next) ∙ h

-- ---- values within one that is lent

pub ruleset lent = (list_of-of_list)
