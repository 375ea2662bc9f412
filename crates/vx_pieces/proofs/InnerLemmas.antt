-- The elements of lists that pieces give are the inner pieces' items of all elements.
use Rattle.std.proofs.Common.{◌≡◌, ◌≤◌, ℕ, ◌+◌, ◌-◌, ◌∙◌, true, List, [], ◌∷◌, ◌++◌, length, take, drop, refl, sym, ap, arith}
use Rattle.std.specs.Prelude.{replicate, nat_le}
use Rattle.std.proofs.Math.Seq.{take-add, take-append_seam, drop-append_seam}
use Rattle.std.proofs.lemmas.Bool.{and_parts, and_from, leb-true, le-leb}
use Rattle.std.proofs.lemmas.List.{take-append-drop, length-append}
use Rattle.vx_base.specs.Masks.{rows_between}
use Rattle.vx_model.specs.Nested.{concatenated}
use Rattle.vx_model.proofs.JoinedLemmas.{concatenated-append}
use Rattle.vx_pieces.specs.declared.piece.Piece.{Piece}
use Rattle.vx_pieces.specs.declared.piece.Piece.TheVariants.{Rows, Filled}
use Rattle.vx_pieces.specs.Pieces.{piece_items, pieced, is_piece, are_pieces, inner_piece, inner_pieces, repeated}
use Rattle.vx_pieces.proofs.RepeatLemmas.{concatenated-repeated, concatenated-copies}

-- the elements of the first lists, and of those behind
split_elements : {A : Type 0} (s : ℕ) (rows : List (List A)) → concatenated rows ≡ concatenated (take s rows) ++ concatenated (drop s rows)
split_elements s rows = ap concatenated (sym (take-append-drop s rows)) ∙ concatenated-append (take s rows) (drop s rows)

module _ {A : Type 0} (rows : List (List A)) (begin : ℕ → ℕ) (begins : (k : ℕ) → k ≤ length rows → begin k ≡ length (concatenated (take k rows))) (x : A) (size : ℕ) where
  -- the elements of consecutive lists
  between : (s m : ℕ) → s + m ≤ length rows → concatenated (take m (drop s rows)) ≡ rows_between (concatenated rows) (begin s) (begin (s + m))
  between s m l =
      let first = begins s (omega arith) in
      let last = begins (s + m) l ∙ ap length (ap concatenated (take-add s m rows) ∙ concatenated-append (take s rows) (take m (drop s rows))) ∙ length-append (concatenated (take s rows)) (concatenated (take m (drop s rows))) in
      let count : begin (s + m) - begin s ≡ length (concatenated (take m (drop s rows))) = omega arith in
      let behind : drop (begin s) (concatenated rows) ≡ concatenated (drop s rows) = (λ i. drop (first i) (split_elements s rows i)) ∙ drop-append_seam (concatenated (take s rows)) (concatenated (drop s rows)) in
      sym ((λ i. take (count i) (behind i)) ∙ ap (take (length (concatenated (take m (drop s rows))))) (split_elements m (drop s rows))
      ∙ take-append_seam (concatenated (take m (drop s rows))) (concatenated (drop m (drop s rows))))

  concatenated-piece : (p : Piece) → is_piece (length rows) p ≡ true → concatenated (piece_items (replicate size x) rows p) ≡ piece_items x (concatenated rows) (inner_piece begin size p)
  concatenated-piece (Rows start end times) h =
      let b = and_parts (nat_le start end) (nat_le end (length rows)) h in
      let rising = leb-true start end b.0 in
      let within = leb-true end (length rows) b.1 in
      let whole : start + (end - start) ≡ end = omega arith in
      concatenated-repeated times (rows_between rows start end)
      ∙ ap (repeated times) (between start (end - start) (omega arith) ∙ ap (λ e. rows_between (concatenated rows) (begin start) (begin e)) whole)
  concatenated-piece (Filled count) h = concatenated-copies count size x

  is_inner_piece : (p : Piece) → is_piece (length rows) p ≡ true → is_piece (length (concatenated rows)) (inner_piece begin size p) ≡ true
  is_inner_piece (Rows start end times) h =
      let b = and_parts (nat_le start end) (nat_le end (length rows)) h in
      let rising = leb-true start end b.0 in
      let within = leb-true end (length rows) b.1 in
      let first = begins start (omega arith) in
      let last = begins end within in
      let whole : start + (end - start) ≡ end = omega arith in
      let parts : length (concatenated (take end rows)) ≡ length (concatenated (take start rows)) + length (concatenated (take (end - start) (drop start rows))) =
      ap (λ e. length (concatenated (take e rows))) (sym whole) ∙ ap length (ap concatenated (take-add start (end - start) rows) ∙ concatenated-append (take start rows) (take (end - start) (drop start rows)))
      ∙ length-append (concatenated (take start rows)) (concatenated (take (end - start) (drop start rows))) in
      let all : length (concatenated rows) ≡ length (concatenated (take end rows)) + length (concatenated (drop end rows)) = ap length (split_elements end rows) ∙ length-append (concatenated (take end rows)) (concatenated (drop end rows)) in
      and_from _ _ (le-leb (begin start) (begin end) (omega arith)) (le-leb (begin end) (length (concatenated rows)) (omega arith))
  is_inner_piece (Filled count) h = refl

  -- inner pieces are in bounds of the elements
  pub are_inner_pieces : (ps : List Piece) → are_pieces (length rows) ps ≡ true → are_pieces (length (concatenated rows)) (inner_pieces begin size ps) ≡ true
  are_inner_pieces [] h = refl
  are_inner_pieces (p ∷ ps) h = let b = and_parts (is_piece (length rows) p) (are_pieces (length rows) ps) h in and_from _ _ (is_inner_piece p b.0) (are_inner_pieces ps b.1)

  -- where row k begins at element `begin k`, the elements of the lists that pieces give, with lists of `size` copies of x for
  -- fillings, are what the inner pieces give of all elements, with x for a filling
  pub concatenated-pieced : (ps : List Piece) → are_pieces (length rows) ps ≡ true → concatenated (pieced (replicate size x) ps rows) ≡ pieced x (inner_pieces begin size ps) (concatenated rows)
  concatenated-pieced [] h = refl
  concatenated-pieced (p ∷ ps) h =
      let b = and_parts (is_piece (length rows) p) (are_pieces (length rows) ps) h in
      concatenated-append (piece_items (replicate size x) rows p) (pieced (replicate size x) ps rows) ∙ (λ i. concatenated-piece p b.0 i ++ concatenated-pieced ps b.1 i)
