-- The columns of a type, one after the other, and whether their extents are few.
use Rattle.std.proofs.Common.{◌≡◌, ◌<◌, ◌+◌, ◌-◌, ◌^◌, ◌∙◌, ◌&&◌, ℕ, suc, List, ◌∷◌, length, map, drop, get_or, min, true, refl, sym, ap, arith}
use Rattle.std.specs.List.{list_all}
use Rattle.std.proofs.lemmas.Bool.Decides.{nat_tests}
use Rattle.std.proofs.lemmas.List.{drop_more}
use Rattle.std.proofs.lemmas.List.Folds.{list_all-append}
use Rattle.vx_base.specs.declared.dtype.DType.{DType}
use Rattle.vx_base.specs.declared.dtype.Nullability.{Nullability}
use Rattle.vx_base.specs.PlainType.{PlainType, of_fields}
use Rattle.vx_base.specs.PlainType as types
use Rattle.vx_base.specs.TypeOf.{type_of, field_of}
use Rattle.vx_model.specs.Extents.{extents}
use Rattle.vx_model.specs.Rows.{rows}
use Rattle.vx_model.specs.Tree.{Tree, Validity, list}
use Rattle.vx_model.specs.TreeType.{tree_type}
use Rattle.vx_model.specs.WellFormed.{WellFormed}
use Rattle.vx_array.specs.TreeWays.{by_ways, by_fields, extent_at, items_extent}
use Rattle.vx_array.proofs.TreeWays.{extents-ways, inner_ways}
use Rattle.vx_document.specs.Writing.{is_few, extents_are_few}
use Rattle.vx_flat.specs.Ways.{PlainWay, here, field, inside}

pub few-ways : (t : Tree) → WellFormed t → extents_are_few t ≡ list_all is_few (by_ways (tree_type t) (λ w. extent_at w t))
few-ways t w = ap (list_all is_few) (extents-ways t w)

pub ways-inner : (t : PlainType) (f : PlainWay → ℕ) → list_all is_few (by_ways t f) ≡ (is_few (f here) && list_all is_few (inner_ways t f))
ways-inner types.null_type f = refl
ways-inner (types.boolean n) f = refl
ways-inner (types.primitive p n) f = refl
ways-inner (types.utf8 n) f = refl
ways-inner (types.binary n) f = refl
ways-inner (types.timestamp k n) f = refl
ways-inner (types.structure fs n) f = refl
ways-inner (types.list t n) f = refl
ways-inner (types.fixed_size_list t size n) f = refl

-- those of lists are few where those of the items are
pub items-few : (t s u : PlainType) (f : PlainWay → ℕ) → t ≡ s → inner_ways s f ≡ by_ways u (λ w. f (inside w)) → is_few (f here) ≡ true → list_all is_few (by_ways t f) ≡ list_all is_few (by_ways u (λ w. f (inside w)))
items-few t s u f typed within own = ap (λ t. list_all is_few (by_ways t f)) typed ∙ ways-inner s f ∙ ap (λ b. b && list_all is_few (inner_ways s f)) own ∙ ap (list_all is_few) within

-- an extent that is cut off is within the limit where it itself is
pub few-least : (k : ℕ) → is_few (min k (2 ^ 64 - 1)) ≡ is_few k
few-least k = grind (arith, nat_tests)

-- the field at a place, and those behind
pub fields-next : (g : ℕ → PlainWay → ℕ) (fs : List (List ℕ × DType)) (i : ℕ) (f : List ℕ × DType) → i < length fs → f ≡ get_or fs i f
    → list_all is_few (by_fields (of_fields (map field_of (drop i fs))) (λ k. g (i + k))) ≡ (list_all is_few (by_ways (type_of f.1) (g i)) && list_all is_few (by_fields (of_fields (map field_of (drop (i + 1) fs))) (λ k. g (i + 1 + k))))
fields-next g fs i f l e =
    let next = drop_more fs i f l ∙ ap (λ h. h ∷ drop (i + 1) fs) (sym e) in
    let here : i + 0 ≡ i = omega arith in
    let rest = of_fields (map field_of (drop (i + 1) fs)) in
    ap (λ gs. list_all is_few (by_fields (of_fields (map field_of gs)) (λ k. g (i + k)))) next
    ∙ list_all-append is_few (by_ways (type_of f.1) (g (i + 0))) (by_fields rest (λ k. g (i + suc k)))
    ∙ (λ j. list_all is_few (by_ways (type_of f.1) (g (here j))) && list_all is_few (by_fields rest (λ k. g (later k j))))
  where
    later : (k : ℕ) → i + suc k ≡ i + 1 + k
    later k = omega arith

-- the extent at the end of a way of lists, by their elements
pub extent-list : (w : PlainWay) (elements offsets : Tree) (valid : Validity) (n : Nullability) → items_extent w (length (rows offsets) - 1) elements ≡ extent_at w (list elements offsets valid n)
extent-list here elements offsets valid n = refl
extent-list (field i w) elements offsets valid n = refl
extent-list (inside w) elements offsets valid n = refl
