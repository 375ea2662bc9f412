-- From values to items of any kind: pieces that hide the null rows of values hide the same rows of items.
use Rattle.std.proofs.Common.{◌≡◌, ℕ, pos, List, ◌∙◌, map, length, refl, sym, ap, true, Some, None}
use Rattle.std.specs.Prelude.{slice_index_or}
use Rattle.std.specs.List.{range_with_len}
use Rattle.std.proofs.lemmas.Bool.{eqb-true}
use Rattle.std.proofs.lemmas.List.FromFn.{fill_by_all, length-map-range_with_len}
use Rattle.std.proofs.lemmas.Simd.{map-map}
use Rattle.vx_base.specs.PlainValue.{PlainValue, null, int}
use Rattle.vx_model.specs.Decoded.{zeroed_by}
use Rattle.vx_model.specs.Refusals.{validity_length}
use Rattle.vx_model.specs.Rows.{valid_rows}
use Rattle.vx_model.specs.Tree.{Validity}
use Rattle.vx_model.proofs.DecodeLemmas.{map-masked_rows}
use Rattle.vx_pieces.specs.declared.piece.Piece.{Piece}
use Rattle.vx_pieces.specs.Pieces.{pieced, are_pieces, Gives}
use Rattle.vx_pieces.proofs.PieceLemmas.{map-pieced}

-- the row numbers of a column, as values
abbrev numbers : ℕ → List PlainValue
numbers len = map (λ i. int (pos i)) (range_with_len 0 len)

length-numbers : (len : ℕ) → length (numbers len) ≡ len
length-numbers len = length-map-range_with_len (λ i. int (pos i)) 0 len

module _ {A : Type 0} (item : A) (xs : List A) where
  -- the item in the row that a value numbers
  abbrev numbered : PlainValue → A
  numbered (int (pos i)) = slice_index_or xs i item
  numbered _ = item

  all_numbered : map numbered (numbers (length xs)) ≡ xs
  all_numbered =
      map-map numbered (λ i. int (pos i)) (range_with_len 0 (length xs))
      ∙ sym (fill_by_all (λ i. slice_index_or xs i item) xs (length xs) item refl (λ i l. refl))

map-valid : {A : Type 0} (f : PlainValue → A) (valid : Validity) (vs : List PlainValue) → validity_length valid (length vs) ≡ true → map f (valid_rows valid vs) ≡ zeroed_by (f null) valid (map f vs)
map-valid f None vs h = refl
map-valid f (Some bits) vs h = map-masked_rows f bits vs (eqb-true (length bits) (length vs) h)

module _ (ps : List Piece) (valid : Validity) (out : List Piece) (hides : (values : List PlainValue) → are_pieces (length values) ps ≡ true → validity_length valid (length values) ≡ true → Gives null out values (pieced null ps (valid_rows valid values)))
    {A : Type 0} (item : A) (xs : List A) (own : are_pieces (length xs) ps ≡ true) (bits : validity_length valid (length xs) ≡ true) where
  abbrev values : List PlainValue
  values = numbers (length xs)

  long : validity_length valid (length values) ≡ true
  long = ap (validity_length valid) (length-numbers (length xs)) ∙ bits

  given : Gives null out values (pieced null ps (valid_rows valid values))
  given = hides values (ap (λ len. are_pieces len ps) (length-numbers (length xs)) ∙ own) long

  -- items with a default in the rows that aren't valid
  pub carried : pieced item out xs ≡ pieced item ps (zeroed_by item valid xs)
  carried =
      let f = numbered item xs in
      ap (pieced item out) (sym (all_numbered item xs)) ∙ sym (map-pieced f null out values) ∙ ap (map f) given.gives ∙ map-pieced f null ps (valid_rows valid values)
      ∙ ap (pieced item ps) (map-valid f valid values long ∙ ap (zeroed_by item valid) (all_numbered item xs))

  pub carried_within : are_pieces (length xs) out ≡ true
  carried_within = ap (λ len. are_pieces len out) (sym (length-numbers (length xs))) ∙ given.within
