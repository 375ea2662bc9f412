-- The items that pieces give: of appended pieces, under a function, their number, and what holds of all of them.
use Rattle.std.proofs.Common.{◌≡◌, ◌≤◌, ℕ, ◌-◌, ◌*◌, ◌∙◌, Bool, true, List, [], ◌∷◌, ◌++◌, map, length, drop, refl, sym, ap, arith}
use Rattle.std.specs.Prelude.{◌&&◌, nat_le}
use Rattle.std.specs.List.{list_all}
use Rattle.std.proofs.lemmas.Bool.{and_parts, and_from, leb-true}
use Rattle.std.proofs.lemmas.Grind.{flat_map-append}
use Rattle.std.proofs.lemmas.List.{append-nil, map-append, take-map, drop-map, length-append, length-take-le, length-drop, length-replicate}
use Rattle.std.proofs.lemmas.List.Folds.{list_all-append}
use Rattle.std.proofs.lemmas.List.Sums.{sum_by-cons}
use Rattle.vx_base.specs.Masks.{rows_between}
use Rattle.vx_model.proofs.GatheredLemmas.{all-gathered}
use Rattle.vx_pieces.specs.declared.piece.Piece.{Piece}
use Rattle.vx_pieces.specs.declared.piece.Piece.TheVariants.{Rows, Filled}
use Rattle.vx_pieces.specs.Pieces.{piece_items, pieced, is_piece, are_pieces, piece_count, pieces_count, repeated}
use Rattle.vx_pieces.proofs.RepeatLemmas.{length-repeated, map-replicate, map-repeated, all-replicate, all-repeated}

-- ---- appended pieces

pub pieced-append : {A : Type 0} (item : A) (ps others : List Piece) (xs : List A) → pieced item (ps ++ others) xs ≡ pieced item ps xs ++ pieced item others xs
pieced-append item ps others xs = flat_map-append (piece_items item xs) ps others

pub are_pieces-append : (len : ℕ) (ps others : List Piece) → are_pieces len (ps ++ others) ≡ (are_pieces len ps && are_pieces len others)
are_pieces-append len ps others = list_all-append (is_piece len) ps others

pub pieced-last : {A : Type 0} (item : A) (ps : List Piece) (p : Piece) (xs : List A) → pieced item (ps ++ p ∷ []) xs ≡ pieced item ps xs ++ piece_items item xs p
pieced-last item ps p xs = pieced-append item ps (p ∷ []) xs ∙ ap (λ ys. pieced item ps xs ++ ys) (append-nil (piece_items item xs p))

-- ---- under a function

map-piece : {A B : Type 0} (f : A → B) (x : A) (xs : List A) (p : Piece) → map f (piece_items x xs p) ≡ piece_items (f x) (map f xs) p
map-piece f x xs (Rows start end times) = map-repeated f times (rows_between xs start end) ∙ ap (repeated times) (simp (take-map, drop-map))
map-piece f x xs (Filled count) = map-replicate f count x

pub map-pieced : {A B : Type 0} (f : A → B) (x : A) (ps : List Piece) (xs : List A) → map f (pieced x ps xs) ≡ pieced (f x) ps (map f xs)
map-pieced f x [] xs = refl
map-pieced f x (p ∷ ps) xs = map-append f (piece_items x xs p) (pieced x ps xs) ∙ (λ i. map-piece f x xs p i ++ map-pieced f x ps xs i)

-- ---- their number

pub length-between : {A : Type 0} (xs : List A) (start end : ℕ) → start ≤ end → end ≤ length xs → length (rows_between xs start end) ≡ end - start
length-between xs start end rising within =
    let left = length-drop start xs in
    length-take-le (end - start) (drop start xs) (omega arith)

pub length-piece : {A : Type 0} (x : A) (xs : List A) (p : Piece) → is_piece (length xs) p ≡ true → length (piece_items x xs p) ≡ piece_count p
length-piece x xs (Rows start end times) h =
    let b = and_parts (nat_le start end) (nat_le end (length xs)) h in
    length-repeated times (rows_between xs start end) ∙ ap (λ n. times * n) (length-between xs start end (leb-true start end b.0) (leb-true end (length xs) b.1))
length-piece x xs (Filled count) h = length-replicate count x

pub length-pieced : {A : Type 0} (x : A) (ps : List Piece) (xs : List A) → are_pieces (length xs) ps ≡ true → length (pieced x ps xs) ≡ pieces_count ps
length-pieced x [] xs h = refl
length-pieced x (p ∷ ps) xs h =
    let b = and_parts (is_piece (length xs) p) (are_pieces (length xs) ps) h in
    let first = length-piece x xs p b.0 in
    let rest = length-pieced x ps xs b.1 in
    let both = length-append (piece_items x xs p) (pieced x ps xs) in
    let sums = sum_by-cons piece_count p ps in
    omega arith

-- ---- what holds of all of them

all-between : {A : Type 0} (test : A → Bool) (start end : ℕ) (xs : List A) → list_all test xs ≡ true → list_all test (rows_between xs start end) ≡ true
all-between test start end xs h =
    let one = all-gathered test ((start, end) ∷ []) xs h in
    (and_parts (list_all test (rows_between xs start end)) true (sym (list_all-append test (rows_between xs start end) []) ∙ one)).0

all-piece : {A : Type 0} (test : A → Bool) (x : A) (p : Piece) (xs : List A) → test x ≡ true → list_all test xs ≡ true → list_all test (piece_items x xs p) ≡ true
all-piece test x (Rows start end times) xs own h = all-repeated test times (rows_between xs start end) (all-between test start end xs h)
all-piece test x (Filled count) xs own h = all-replicate test count x own

pub all-pieced : {A : Type 0} (test : A → Bool) (x : A) (ps : List Piece) (xs : List A) → test x ≡ true → list_all test xs ≡ true → list_all test (pieced x ps xs) ≡ true
all-pieced test x [] xs own h = refl
all-pieced test x (p ∷ ps) xs own h =
    list_all-append test (piece_items x xs p) (pieced x ps xs) ∙ and_from _ _ (all-piece test x p xs own h) (all-pieced test x ps xs own h)
