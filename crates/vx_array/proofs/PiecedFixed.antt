-- Pieces of fixed-size lists: the elements take the inner pieces of those that hide the null lists.
use Rattle.std.proofs.Common.{◌≡◌, ◌≤◌, ◌*◌, ◌∙◌, ℕ, zero, suc, List, [], ◌∷◌, length, map, take, refl, sym, ap, Bool, true, None}
use Rattle.std.specs.Prelude.{not, replicate, ◌==◌}
use Rattle.std.specs.List.{list_all}
use Rattle.std.proofs.lemmas.Bool.{and_parts, and_from}
use Rattle.std.proofs.lemmas.List.{length-take-le}
use Rattle.vx_base.specs.declared.dtype.Nullability.{Nullability}
use Rattle.vx_base.specs.declared.dtype.Nullability.TheVariants.{NonNullable, Nullable}
use Rattle.vx_base.specs.Defaults.{default_of, null_or_default, or_default}
use Rattle.vx_base.specs.PlainType.{PlainType, allows_null}
use Rattle.vx_base.specs.PlainType as types
use Rattle.vx_base.specs.PlainValue.{PlainValue, null, items_or_empty}
use Rattle.vx_base.proofs.WithinLemmas.{list_of-of_list}
use Rattle.vx_model.specs.Decoded.{zeroed_by}
use Rattle.vx_model.specs.Nested.{concatenated, fixed_elements, fixed_rows, list_rows}
use Rattle.vx_model.specs.Plain.{validity, plain_of}
use Rattle.vx_model.specs.Refusals.{kept, fixed_size_list_refusal, validity_length}
use Rattle.vx_model.specs.Rows.{rows, parts_of, valid_rows}
use Rattle.vx_model.specs.Tree.{Tree, Validity, fixed_size_list}
use Rattle.vx_model.specs.TreeType.{tree_type}
use Rattle.vx_model.specs.WellFormed.{WellFormed}
use Rattle.vx_model.proofs.DecodeLemmas.{kept-validity}
use Rattle.vx_model.proofs.FixedSizeListLemmas.{length-fixed_size_list, validity-fixed_size_list, items-fixed_size_list}
use Rattle.vx_model.proofs.MadeLemmas.{has_length}
use Rattle.vx_model.proofs.NestedLemmas.{length-concatenated}
use Rattle.vx_model.proofs.PartLemmas.{concatenated-parts_of, length-parts_of, parts_of-sized}
use Rattle.vx_model.proofs.PlainAdmittedLemmas.{fixed_size_list_admitted}
use Rattle.vx_pieces.specs.declared.piece.Piece.{Piece}
use Rattle.vx_pieces.specs.Bits.{pieced_validity}
use Rattle.vx_pieces.specs.Pieces.{Gives, pieced, are_pieces, inner_pieces, pieces_count}
use Rattle.vx_pieces.proofs.CarriedLemmas.{carried, carried_within}
use Rattle.vx_pieces.proofs.InnerLemmas.{are_inner_pieces, concatenated-pieced}
use Rattle.vx_pieces.proofs.PieceLemmas.{map-pieced}
use Rattle.vx_array.specs.PlainPieced.{plain_pieced}
use Rattle.vx_array.proofs.PiecedRows.{given_rows, given_fit, given_count, given_bits}

take-passes : {A : Type 0} (test : A → Bool) (n : ℕ) (xs : List A) → list_all test xs ≡ true → list_all test (take n xs) ≡ true
take-passes test zero xs h = refl
take-passes test (suc n) [] h = refl
take-passes test (suc n) (x ∷ xs) h = let b = and_parts (test x) (list_all test xs) h in and_from _ _ b.0 (take-passes test n xs b.1)

-- the first element of each list of one size
pub begins-sized : {A : Type 0} (size : ℕ) (parts : List (List A)) → list_all (λ part. length part == size) parts ≡ true → (k : ℕ) → k ≤ length parts → k * size ≡ length (concatenated (take k parts))
begins-sized size parts h k l = sym (length-concatenated size (take k parts) (take-passes (λ part. length part == size) k parts h) ∙ ap (λ m. m * size) (length-take-le k parts l))

-- a filled list has defaults as its items
filled-fixed : (t : PlainType) (size : ℕ) (n : Nullability) → items_or_empty (or_default (default_of (types.fixed_size_list t size NonNullable)) (null_or_default (types.fixed_size_list t size n))) ≡ replicate size (null_or_default t)
filled-fixed t size NonNullable = list_of-of_list (replicate size (null_or_default t))
filled-fixed t size Nullable = list_of-of_list (replicate size (null_or_default t))

module _ (inside : Tree) (size len : ℕ) (valid : Validity) (n : Nullability) (w : WellFormed (fixed_size_list inside size len valid n)) (ps : List Piece) (own : are_pieces len ps ≡ true) (out : List Piece)
    (hides : (values : List PlainValue) → are_pieces (length values) ps ≡ true → validity_length valid (length values) ≡ true → Gives null out values (pieced null ps (valid_rows valid values))) where
  abbrev tree : Tree
  tree = fixed_size_list inside size len valid n

  abbrev t : PlainType
  t = tree_type inside

  abbrev item : PlainValue
  item = null_or_default t

  abbrev parts : List (List PlainValue)
  parts = parts_of size len (rows inside)

  count : length parts ≡ len
  count = length-parts_of size len (rows inside)

  within_parts : are_pieces (length parts) ps ≡ true
  within_parts = ap (λ k. are_pieces k ps) count ∙ own

  bits_parts : validity_length valid (length parts) ≡ true
  bits_parts = ap (validity_length valid) count ∙ has_length valid len n w.1.validity

  within_tree : are_pieces (length (rows tree)) ps ≡ true
  within_tree = ap (λ k. are_pieces k ps) (length-fixed_size_list inside size len valid n w) ∙ own

  within_out : are_pieces (length parts) out ≡ true
  within_out = carried_within ps valid out hides (replicate size item) parts within_parts bits_parts

  lists : list_rows (fixed_rows t size (given_rows tree w ps within_tree)) ≡ pieced (replicate size item) out parts
  lists =
      let default = default_of (types.fixed_size_list t size NonNullable) in
      let copies : items_or_empty default ≡ replicate size item = list_of-of_list (replicate size item) in
      ap (map items_or_empty) (map-pieced (or_default default) (null_or_default (tree_type tree)) ps (rows tree))
      ∙ map-pieced items_or_empty (or_default default (null_or_default (tree_type tree))) ps (map (or_default default) (rows tree))
      ∙ (λ i. pieced (filled-fixed t size n i) ps (items-fixed_size_list inside size len valid n w t i))
      ∙ ap (λ d. pieced (replicate size item) ps (zeroed_by d valid parts)) copies
      ∙ sym (carried ps valid out hides (replicate size item) parts within_parts bits_parts)

  whole : concatenated parts ≡ rows inside
  whole = concatenated-parts_of size len (rows inside) w.1.lengths

  begins : (k : ℕ) → k ≤ length parts → k * size ≡ length (concatenated (take k parts))
  begins = begins-sized size parts (parts_of-sized size len (rows inside) w.1.lengths)

  abbrev pub inner : List Piece
  inner = inner_pieces (λ row. row * size) size out

  pub fixed_within : are_pieces (length (rows inside)) inner ≡ true
  fixed_within = ap (λ xs. are_pieces (length xs) inner) (sym whole) ∙ are_inner_pieces parts (λ row. row * size) begins item size out within_out

  items_of_lists : fixed_elements t size (given_rows tree w ps within_tree) ≡ pieced item inner (rows inside)
  items_of_lists = ap concatenated lists ∙ concatenated-pieced parts (λ row. row * size) begins item size out within_out ∙ ap (pieced item inner) whole

  -- over the elements' plain tree
  pub record IsFixedPieced (made_inside : Tree) (rows : ℕ) (bits : Validity) : Type 0 where
    pub admitted : fixed_size_list_refusal made_inside size rows bits n ≡ None
    pub made : fixed_size_list made_inside size rows (kept bits) n ≡ plain_pieced ps tree

  pub fixed_pieced : (made_inside : Tree) (rows : ℕ) (bits : Validity) → made_inside ≡ plain_pieced inner inside → rows ≡ pieces_count ps → bits ≡ pieced_validity (not (allows_null n)) ps valid len → IsFixedPieced made_inside rows bits
  fixed_pieced made_inside rows bits m r b =
      let vs = given_rows tree w ps within_tree in
      let items : made_inside ≡ plain_of t (fixed_elements t size vs) = m ∙ ap (plain_of t) (sym items_of_lists) in
      let long : rows ≡ length vs = r ∙ given_count tree w ps within_tree in
      let own_bits : bits ≡ validity vs =
      b ∙ given_bits tree w ps within_tree valid len (not (allows_null n)) (validity-fixed_size_list inside size len valid n w) (length-fixed_size_list inside size len valid n w) refl in
      record {
        admitted = (λ i. fixed_size_list_refusal (items i) size (long i) (own_bits i) n) ∙ fixed_size_list_admitted t size n vs (given_fit tree w ps within_tree);
        made = λ i. fixed_size_list (items i) size (long i) ((ap kept own_bits ∙ kept-validity vs) i) n;
      }
