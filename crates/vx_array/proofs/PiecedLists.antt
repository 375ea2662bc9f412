-- Pieces of lists: the elements take the inner pieces of those that hide the null lists.
use Rattle.std.proofs.Common.{◌≡◌, ◌<◌, ◌≤◌, ◌+◌, ◌-◌, ◌^◌, ◌∙◌, ℕ, ℤ, pos, negsuc, List, [], ◌∷◌, length, map, refl, sym, ap, arith, true, None}
use Rattle.std.specs.Prelude.{◌&&◌, nat_le, nat_lt, not, slice_index_or}
use Rattle.std.specs.List.{list_all}
use Rattle.std.proofs.lemmas.Bool.{and_from, and_parts, leb-true, lt-ltb, ltb-true}
use Rattle.std.proofs.lemmas.List.{length-map}
use Rattle.vx_base.specs.declared.dtype.Nullability.{Nullability}
use Rattle.vx_base.specs.declared.dtype.Nullability.TheVariants.{NonNullable, Nullable}
use Rattle.vx_base.specs.declared.ptype.PType.TheVariants.{U64}
use Rattle.vx_base.specs.Defaults.{null_or_default}
use Rattle.vx_base.specs.Integers.{lies_in}
use Rattle.vx_base.specs.PlainType.{PlainType, allows_null}
use Rattle.vx_base.specs.PlainType as types
use Rattle.vx_base.specs.PlainValue.{PlainValue, null, int, items_or_empty}
use Rattle.vx_model.specs.Nested.{concatenated, elements, list_rows}
use Rattle.vx_model.specs.Offsets.{offsets_of}
use Rattle.vx_model.specs.Plain.{validity, plain_of}
use Rattle.vx_model.specs.Refusals.{kept, list_refusal, validity_length}
use Rattle.vx_model.specs.Rows.{rows, cut_at, valid_rows}
use Rattle.vx_model.specs.Tree.{Tree, Validity, list, primitive}
use Rattle.vx_model.specs.TreeType.{tree_type}
use Rattle.vx_model.specs.WellFormed.{WellFormed, lies_between}
use Rattle.vx_model.proofs.DecodeLemmas.{kept-validity}
use Rattle.vx_model.proofs.ListLemmas.{length-list, validity-list, items-list}
use Rattle.vx_model.proofs.MadeLemmas.{has_length}
use Rattle.vx_model.proofs.PartLemmas.{concatenated-cut_at}
use Rattle.vx_model.proofs.PlainAdmittedLemmas.{list_admitted}
use Rattle.vx_model.proofs.VarBinLemmas.{length-cut_at}
use Rattle.vx_pieces.specs.declared.piece.Piece.{Piece}
use Rattle.vx_pieces.specs.Bits.{pieced_validity}
use Rattle.vx_pieces.specs.Lengths.{lengths_between, sums_from}
use Rattle.vx_pieces.specs.Pieces.{Gives, pieced, are_pieces, inner_pieces}
use Rattle.vx_pieces.proofs.CarriedLemmas.{carried, carried_within}
use Rattle.vx_pieces.proofs.InnerLemmas.{are_inner_pieces, concatenated-pieced}
use Rattle.vx_pieces.proofs.LengthLemmas.{offsets-pieced, begins-at}
use Rattle.vx_pieces.proofs.PieceLemmas.{map-pieced}
use Rattle.vx_array.specs.PlainPieced.{plain_pieced}
use Rattle.vx_array.proofs.PiecedRows.{given_rows, given_fit, given_bits}
use Rattle.vx_array.proofs.PlainLists.{cut-back}

-- numbers that are equal as values
same_numbers : (ns ms : List ℕ) → map int (map pos ns) ≡ map int (map pos ms) → ns ≡ ms
same_numbers ns ms e = sym (back ns) ∙ ap (map number) e ∙ back ms
  where
    number : PlainValue → ℕ
    number (int (pos k)) = k
    number _ = 0

    back : (ks : List ℕ) → map number (map int (map pos ks)) ≡ ks
    back [] = refl
    back (k ∷ ks) = ap (λ rest. k ∷ rest) (back ks)

-- offsets into fewer than 2^64 items are words of 64 bits
pub words_lie : (len : ℕ) (zs : List ℤ) → len < 2 ^ 64 → list_all (lies_between 0 (len + 1)) (map int zs) ≡ true → list_all (lies_in U64) zs ≡ true
words_lie len [] l h = refl
words_lie len (pos n ∷ zs) l h =
    let b = and_parts (nat_le 0 n && nat_lt n (len + 1)) (list_all (lies_between 0 (len + 1)) (map int zs)) h in
    let below : n < len + 1 = ltb-true n (len + 1) (and_parts (nat_le 0 n) (nat_lt n (len + 1)) b.0).1 in
    and_from _ _ (lt-ltb _ _ (omega arith)) (words_lie len zs l b.1)
words_lie len (negsuc n ∷ zs) l h = absurd cc

-- a filled list has no items
filled-list : (t : PlainType) (n : Nullability) → items_or_empty (null_or_default (types.list t n)) ≡ []
filled-list t NonNullable = refl
filled-list t Nullable = refl

module _ (inside offsets : Tree) (valid : Validity) (n : Nullability) (w : WellFormed (list inside offsets valid n)) (ps : List Piece) (own : are_pieces (length (rows offsets) - 1) ps ≡ true) (out : List Piece)
    (hides : (values : List PlainValue) → are_pieces (length values) ps ≡ true → validity_length valid (length values) ≡ true → Gives null out values (pieced null ps (valid_rows valid values))) where
  abbrev tree : Tree
  tree = list inside offsets valid n

  abbrev parts : List (List PlainValue)
  parts = cut_at (rows offsets) (rows inside)

  count : length parts ≡ length (rows offsets) - 1
  count = length-cut_at (rows offsets) (rows inside)

  within_parts : are_pieces (length parts) ps ≡ true
  within_parts = ap (λ k. are_pieces k ps) count ∙ own

  bits_parts : validity_length valid (length parts) ≡ true
  bits_parts = ap (validity_length valid) count ∙ has_length valid (length (rows offsets) - 1) n w.2.validity

  within_tree : are_pieces (length (rows tree)) ps ≡ true
  within_tree = ap (λ k. are_pieces k ps) (length-list inside offsets valid n w) ∙ own

  some : 1 ≤ length (rows offsets)
  some = leb-true 1 (length (rows offsets)) w.2.some

  within_out : are_pieces (length parts) out ≡ true
  within_out = carried_within ps valid out hides [] parts within_parts bits_parts

  lists : list_rows (given_rows tree w ps within_tree) ≡ pieced [] out parts
  lists =
      map-pieced items_or_empty (null_or_default (tree_type tree)) ps (rows tree)
      ∙ (λ i. pieced (filled-list (tree_type inside) n i) ps (items-list inside offsets valid n w i))
      ∙ sym (carried ps valid out hides [] parts within_parts bits_parts)

  whole : concatenated parts ≡ rows inside
  whole = concatenated-cut_at (rows offsets) (rows inside) w.2.ends some

  module _ (words : List ℕ) (e : map int (map pos words) ≡ rows offsets) where
    own_words : words ≡ offsets_of parts
    own_words = same_numbers words (offsets_of parts) (e ∙ sym (cut-back (rows offsets) (rows inside) w.2.ends some))

    long : length words ≡ length (rows offsets)
    long = sym (length-map words pos) ∙ sym (length-map (map pos words) int) ∙ ap length e

    pub some_words : 1 ≤ length words
    some_words = omega (arith, long, some)

    pub lists_within : are_pieces (length words - 1) out ≡ true
    lists_within = ap (λ k. are_pieces (k - 1) out) long ∙ ap (λ k. are_pieces k out) (sym count) ∙ within_out

    abbrev begin : ℕ → ℕ
    begin row = slice_index_or words row 0

    abbrev item : PlainValue
    item = null_or_default (tree_type inside)

    pub elements_within : are_pieces (length (rows inside)) (inner_pieces begin 0 out) ≡ true
    elements_within = ap (λ xs. are_pieces (length xs) (inner_pieces begin 0 out)) (sym whole) ∙ are_inner_pieces parts begin (begins-at parts words own_words) item 0 out within_out

    items_of_lists : elements (given_rows tree w ps within_tree) ≡ pieced item (inner_pieces begin 0 out) (rows inside)
    items_of_lists =
        ap concatenated lists ∙ concatenated-pieced parts begin (begins-at parts words own_words) item 0 out within_out ∙ ap (pieced item (inner_pieces begin 0 out)) whole

    -- over the elements' plain tree and the offsets
    pub record IsListPieced (made_inside : Tree) (ends : List ℕ) (bits : Validity) : Type 0 where
      pub admitted : list_refusal made_inside (primitive U64 (map pos ends) None NonNullable) bits n ≡ None
      pub made : list made_inside (primitive U64 (map pos ends) None NonNullable) (kept bits) n ≡ plain_pieced ps tree

    pub list_pieced : (made_inside : Tree) (ends : List ℕ) (bits : Validity) → made_inside ≡ plain_pieced (inner_pieces begin 0 out) inside → ends ≡ sums_from 0 (pieced 0 out (lengths_between words))
        → bits ≡ pieced_validity (not (allows_null n)) ps valid (length (rows offsets) - 1) → IsListPieced made_inside ends bits
    list_pieced made_inside ends bits m o b =
        let vs = given_rows tree w ps within_tree in
        let items : made_inside ≡ plain_of (tree_type inside) (elements vs) = m ∙ ap (plain_of (tree_type inside)) (sym items_of_lists) in
        let places : ends ≡ offsets_of (list_rows vs) = o ∙ offsets-pieced out parts words own_words ∙ ap offsets_of (sym lists) in
        let own_bits : bits ≡ validity vs =
        b ∙ given_bits tree w ps within_tree valid (length (rows offsets) - 1) (not (allows_null n)) (validity-list inside offsets valid n w) (length-list inside offsets valid n w) refl in
        record {
          admitted = (λ i. list_refusal (items i) (primitive U64 (map pos (places i)) None NonNullable) (own_bits i) n) ∙ list_admitted (tree_type inside) n vs (given_fit tree w ps within_tree);
          made = λ i. list (items i) (primitive U64 (map pos (places i)) None NonNullable) ((ap kept own_bits ∙ kept-validity vs) i) n;
        }
