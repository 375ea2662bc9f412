-- The validity of the rows that pieces give, and pieces that are a whole column.
use Rattle.std.proofs.Common.{◌≡◌, ℕ, ◌-◌, List, [], ◌∷◌, ◌++◌, ◌∙◌, length, take, refl, sym, ap, arith, Bool, true, false, cond, Some, None}
use Rattle.std.specs.Prelude.{◌&&◌, ◌||◌, ◌==◌, not, replicate}
use Rattle.std.specs.List.{list_any}
use Rattle.std.proofs.lemmas.Bool.{and_parts, and_from, or_parts, eqb-true, le-leb}
use Rattle.std.proofs.lemmas.List.{append-nil, take_all}
use Rattle.vx_base.specs.Masks.{rows_between}
use Rattle.vx_base.specs.PlainValue.{PlainValue, null, truth, int, bytes, items, is_null}
use Rattle.vx_model.specs.Plain.{validity, valid_bits}
use Rattle.vx_model.specs.Refusals.{kept}
use Rattle.vx_model.proofs.DecodeLemmas.{all_valid_bits}
use Rattle.vx_pieces.specs.declared.piece.Piece.{Piece}
use Rattle.vx_pieces.specs.declared.piece.Piece.TheVariants.{Rows, Filled}
use Rattle.vx_pieces.specs.Bits.{bits_of, pieced_validity, is_filled, have_filled, is_whole, are_whole}
use Rattle.vx_pieces.specs.Pieces.{piece_items, pieced, are_pieces, repeated}
use Rattle.vx_pieces.proofs.PieceLemmas.{map-pieced, all-pieced}
use Rattle.vx_pieces.proofs.RepeatLemmas.{all-replicate, repeated-once}

-- ---- where every row is valid

same_items : {A : Type 0} (x y : A) (p : Piece) (xs : List A) → is_filled p ≡ false → piece_items x xs p ≡ piece_items y xs p
same_items x y (Rows start end times) xs h = refl
same_items x y (Filled count) xs h = absurd cc

-- without fillings no filling counts
same_pieced : {A : Type 0} (x y : A) (ps : List Piece) (xs : List A) → have_filled ps ≡ false → pieced x ps xs ≡ pieced y ps xs
same_pieced x y [] xs h = refl
same_pieced x y (p ∷ ps) xs h = let b = or_parts (is_filled p) (have_filled ps) h in λ i. same_items x y p xs b.0 i ++ same_pieced x y ps xs b.1 i

none-valid : (ps : List Piece) (len : ℕ) → None ≡ pieced_validity true ps None len
none-valid ps len = ap (λ b. cond b None (Some (pieced true ps (replicate len true)))) (sym (all-pieced (λ b. b) true ps (replicate len true) refl (all-replicate (λ b. b) len true refl)))

none-unfilled : (filling : Bool) (ps : List Piece) (len : ℕ) → have_filled ps ≡ false → None ≡ pieced_validity filling ps None len
none-unfilled filling ps len h = none-valid ps len ∙ ap (λ bits. kept (Some bits)) (same_pieced true filling ps (replicate len true) h)

pub none-all : (filling : Bool) (ps : List Piece) (len : ℕ) → (filling || not (have_filled ps)) ≡ true → None ≡ pieced_validity filling ps None len
none-all true ps len h = none-valid ps len
none-all false ps len h = none-unfilled false ps len (turned (have_filled ps) h)
  where
    turned : (b : Bool) → not b ≡ true → b ≡ false
    turned true e = absurd cc
    turned false e = refl

-- ---- as the validity of rows

kept-bits : (vs : List PlainValue) → kept (Some (valid_bits vs)) ≡ validity vs
kept-bits vs = ap (λ b. cond b None (Some (valid_bits vs))) (all_valid_bits vs) ∙ turned (list_any is_null vs)
  where
    turned : (b : Bool) → cond (not b) None (Some (valid_bits vs)) ≡ cond b (Some (valid_bits vs)) None
    turned true = refl
    turned false = refl

all-true : (vs : List PlainValue) → list_any is_null vs ≡ false → replicate (length vs) true ≡ valid_bits vs
all-true [] h = refl
all-true (null ∷ vs) h = absurd cc
all-true (truth b ∷ vs) h = ap (λ bits. true ∷ bits) (all-true vs h)
all-true (int z ∷ vs) h = ap (λ bits. true ∷ bits) (all-true vs h)
all-true (bytes bs ∷ vs) h = ap (λ bits. true ∷ bits) (all-true vs h)
all-true (items within ∷ vs) h = ap (λ bits. true ∷ bits) (all-true vs h)

bits-validity : (vs : List PlainValue) → bits_of (validity vs) (length vs) ≡ valid_bits vs
bits-validity vs = by_any (list_any is_null vs) refl
  where
    by_any : (b : Bool) → list_any is_null vs ≡ b → bits_of (cond b (Some (valid_bits vs)) None) (length vs) ≡ valid_bits vs
    by_any true e = refl
    by_any false e = all-true vs e

-- of the rows that pieces give, with this value for a filled row
pub validity-pieced : (filling : Bool) (ps : List Piece) (v : PlainValue) (vs : List PlainValue) → not (is_null v) ≡ filling → pieced_validity filling ps (validity vs) (length vs) ≡ validity (pieced v ps vs)
validity-pieced filling ps v vs e =
    ap (λ bits. kept (Some (pieced filling ps bits))) (bits-validity vs)
    ∙ ap (λ x. kept (Some (pieced x ps (valid_bits vs)))) (sym e)
    ∙ ap (λ bits. kept (Some bits)) (sym (map-pieced (λ w. not (is_null w)) v ps vs))
    ∙ kept-bits (pieced v ps vs)

-- ---- a whole column

whole-piece : {A : Type 0} (x : A) (p : Piece) (xs : List A) → is_whole (length xs) p ≡ true → pieced x (p ∷ []) xs ≡ xs
whole-piece x (Rows start end times) xs h =
    let b = and_parts (start == 0) (end == length xs && times == 1) h in
    let c = and_parts (end == length xs) (times == 1) b.1 in
    let first = eqb-true start 0 b.0 in
    let last = eqb-true end (length xs) c.0 in
    let once = eqb-true times 1 c.1 in
    let all : length xs - 0 ≡ length xs = omega arith in
    append-nil (repeated times (rows_between xs start end))
    ∙ (λ i. repeated (once i) (rows_between xs (first i) (last i)))
    ∙ repeated-once (rows_between xs 0 (length xs))
    ∙ ap (λ n. take n xs) all ∙ take_all (length xs) xs (omega arith)
whole-piece x (Filled count) xs h = absurd cc

-- the column itself
pub pieced-whole : {A : Type 0} (x : A) (ps : List Piece) (xs : List A) → are_whole (length xs) ps ≡ true → pieced x ps xs ≡ xs
pieced-whole x [] xs h = absurd cc
pieced-whole x (p ∷ []) xs h = whole-piece x p xs h
pieced-whole x (p ∷ q ∷ ps) xs h = absurd cc

-- all rows once
pub pieced-all : {A : Type 0} (x : A) (xs : List A) → pieced x (Rows 0 (length xs) 1 ∷ []) xs ≡ xs
pieced-all x xs =
    let all : length xs - 0 ≡ length xs = omega arith in
    append-nil (repeated 1 (rows_between xs 0 (length xs))) ∙ repeated-once (rows_between xs 0 (length xs)) ∙ ap (λ n. take n xs) all ∙ take_all (length xs) xs (omega arith)

pub are_pieces-all : (len : ℕ) → are_pieces len (Rows 0 len 1 ∷ []) ≡ true
are_pieces-all len = and_from _ _ (and_from _ _ (le-leb 0 len (omega arith)) (le-leb len len (omega arith))) refl
