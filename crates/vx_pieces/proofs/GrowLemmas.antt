-- Pieces that grow at their end.
use Rattle.std.proofs.Common.{◌≡◌, ◌<◌, ◌≤◌, ◌+◌, ◌-◌, ◌∙◌, ℕ, zero, suc, Bool, true, false, cond, List, [], ◌∷◌, ◌++◌, length, take, drop, get_or, refl, sym, ap, subst, arith, append_assoc}
use Rattle.std.specs.Prelude.{◌&&◌, replicate, Result, Ok, Err}
use Rattle.std.proofs.Math.Seq.{take-add}
use Rattle.std.proofs.lemmas.Bool.{and_parts, and_from, le-leb}
use Rattle.std.proofs.lemmas.List.{drop-drop, replicate-append-replicate}
use Rattle.vx_base.specs.declared.error.VortexError.{VortexError}
use Rattle.vx_base.specs.Answers.{OrMemory}
use Rattle.vx_base.specs.Masks.{rows_between}
use Rattle.vx_base.specs.PlainValue.{PlainValue, null}
use Rattle.vx_model.specs.Rows.{row_at, masked_rows}
use Rattle.vx_pieces.specs.declared.piece.Piece.{Piece}
use Rattle.vx_pieces.specs.declared.piece.Piece.TheVariants.{Rows, Filled}
use Rattle.vx_pieces.specs.Kept.{kept_items}
use Rattle.vx_pieces.specs.Pieces.{piece_items, pieced, is_piece, are_pieces, Gives}
use Rattle.vx_pieces.proofs.PieceLemmas.{pieced-last, are_pieces-append}
use Rattle.vx_pieces.proofs.RepeatLemmas.{repeated-once}

-- ---- ranges of rows one behind the other

pub between-behind : {A : Type 0} (xs : List A) (s m e : ℕ) → s ≤ m → m ≤ e → rows_between xs s e ≡ rows_between xs s m ++ rows_between xs m e
between-behind xs s m e l k =
    let whole : e - s ≡ (m - s) + (e - m) = omega arith in
    let place : s + (m - s) ≡ m = omega arith in
    ap (λ n. take n (drop s xs)) whole ∙ take-add (m - s) (e - m) (drop s xs)
    ∙ ap (λ ys. rows_between xs s m ++ take (e - m) ys) (drop-drop (m - s) s xs ∙ ap (λ n. drop n xs) place)

-- the range of one row
pub between-one : (vs : List PlainValue) (row : ℕ) → row < length vs → rows_between vs row (row + 1) ≡ row_at vs row ∷ []
between-one [] row l = absurd (omega arith)
between-one (v ∷ vs) zero l = refl
between-one (v ∷ vs) (suc row) l =
    let same : (suc row + 1) - suc row ≡ (row + 1) - row = omega arith in
    ap (λ n. take n (drop row vs)) same ∙ between-one vs row (omega arith)

-- ---- one piece behind the others

gives-last : (item : PlainValue) (ps : List Piece) (p : Piece) (vs rows : List PlainValue) → pieced item ps vs ++ piece_items item vs p ≡ rows → are_pieces (length vs) ps ≡ true → is_piece (length vs) p ≡ true → Gives item (ps ++ p ∷ []) vs rows
gives-last item ps p vs rows e h k = record {
  gives = pieced-last item ps p vs ∙ e;
  within = are_pieces-append (length vs) ps (p ∷ []) ∙ and_from _ _ h (and_from _ _ k refl);
}

before-last : (item : PlainValue) (ps : List Piece) (p : Piece) (vs rows : List PlainValue) → Gives item (ps ++ p ∷ []) vs rows → pieced item ps vs ++ piece_items item vs p ≡ rows
before-last item ps p vs rows g = sym (pieced-last item ps p vs) ∙ g.gives

within-last : (item : PlainValue) (ps : List Piece) (p : Piece) (vs rows : List PlainValue) → Gives item (ps ++ p ∷ []) vs rows → are_pieces (length vs) ps ≡ true
within-last item ps p vs rows g = (and_parts (are_pieces (length vs) ps) (is_piece (length vs) p && true) (sym (are_pieces-append (length vs) ps (p ∷ [])) ∙ g.within)).0

-- ---- rows behind a range of rows

pub rows-within : (item : PlainValue) (ps : List Piece) (vs rows : List PlainValue) (s m e : ℕ) → s ≤ m → m ≤ e → e ≤ length vs → Gives item (ps ++ Rows s m 1 ∷ []) vs rows → Gives item (ps ++ Rows s e 1 ∷ []) vs (rows ++ rows_between vs m e)
rows-within item ps vs rows s m e l k n g =
    let before = ap (λ ys. pieced item ps vs ++ ys) (sym (repeated-once (rows_between vs s m))) ∙ before-last item ps (Rows s m 1) vs rows g in
    gives-last item ps (Rows s e 1) vs (rows ++ rows_between vs m e)
    (ap (λ ys. pieced item ps vs ++ ys) (repeated-once (rows_between vs s e) ∙ between-behind vs s m e l k) ∙ sym (append_assoc (pieced item ps vs) (rows_between vs s m) (rows_between vs m e)) ∙ ap (λ ys. ys ++ rows_between vs m e) before)
    (within-last item ps (Rows s m 1) vs rows g) (and_from _ _ (le-leb s e (omega arith)) (le-leb e (length vs) n))

-- ---- fillings behind fillings

pub filled-within : (item : PlainValue) (ps : List Piece) (vs rows : List PlainValue) (m n : ℕ) → Gives item (ps ++ Filled m ∷ []) vs rows → Gives item (ps ++ Filled (m + n) ∷ []) vs (rows ++ replicate n item)
filled-within item ps vs rows m n g =
    gives-last item ps (Filled (m + n)) vs (rows ++ replicate n item)
    (ap (λ ys. pieced item ps vs ++ ys) (sym (replicate-append-replicate m n item)) ∙ sym (append_assoc (pieced item ps vs) (replicate m item) (replicate n item)) ∙ ap (λ ys. ys ++ replicate n item) (before-last item ps (Filled m) vs rows g))
    (within-last item ps (Filled m) vs rows g) refl

-- ---- one row, from a range of one row

pub row-added : {A : Type 0} (r : Result A VortexError) (before after : List Piece) (row : ℕ)
    → OrMemory r (λ _. (item : PlainValue) (values rows : List PlainValue) → row + 1 ≤ length values → Gives item before values rows → Gives item after values (rows ++ rows_between values row (row + 1)))
    → OrMemory r (λ _. (item : PlainValue) (values rows : List PlainValue) → row < length values → Gives item before values rows → Gives item after values (rows ++ row_at values row ∷ []))
row-added (Ok a) before after row h = λ item values rows l g. subst (λ ys. Gives item after values (rows ++ ys)) (between-one values row l) (h item values rows (omega arith) g)
row-added (Err e) before after row h = h

-- ---- the next row, kept or masked

pub kept-next : (keep : List Bool) (vs : List PlainValue) (i : ℕ) → i < length keep → length vs ≡ length keep
    → kept_items (take (i + 1) keep) vs ≡ cond (get_or keep i false) (kept_items (take i keep) vs ++ row_at vs i ∷ []) (kept_items (take i keep) vs)
kept-next [] vs i l e = absurd (omega arith)
kept-next (b ∷ keep) [] i l e = absurd (omega arith)
kept-next (true ∷ keep) (v ∷ vs) zero l e = refl
kept-next (false ∷ keep) (v ∷ vs) zero l e = refl
kept-next (true ∷ keep) (v ∷ vs) (suc i) l e = let same : suc i + 1 ≡ suc (i + 1) = omega arith in ap (λ k. kept_items (take k (true ∷ keep)) (v ∷ vs)) same ∙ ap (λ rest. v ∷ rest) (kept-next keep vs i (omega arith) (omega arith)) ∙ moved (get_or keep i false)
  where
    moved : (b : Bool) → v ∷ cond b (kept_items (take i keep) vs ++ row_at vs i ∷ []) (kept_items (take i keep) vs) ≡ cond b (v ∷ kept_items (take i keep) vs ++ row_at vs i ∷ []) (v ∷ kept_items (take i keep) vs)
    moved true = refl
    moved false = refl
kept-next (false ∷ keep) (v ∷ vs) (suc i) l e = let same : suc i + 1 ≡ suc (i + 1) = omega arith in ap (λ k. kept_items (take k (false ∷ keep)) (v ∷ vs)) same ∙ kept-next keep vs i (omega arith) (omega arith)

pub masked-next : (keep : List Bool) (vs : List PlainValue) (i : ℕ) → i < length keep → length vs ≡ length keep
    → masked_rows (take (i + 1) keep) vs ≡ masked_rows (take i keep) vs ++ cond (get_or keep i false) (row_at vs i) null ∷ []
masked-next [] vs i l e = absurd (omega arith)
masked-next (b ∷ keep) [] i l e = absurd (omega arith)
masked-next (b ∷ keep) (v ∷ vs) zero l e = refl
masked-next (b ∷ keep) (v ∷ vs) (suc i) l e = let same : suc i + 1 ≡ suc (i + 1) = omega arith in ap (λ k. masked_rows (take k (b ∷ keep)) (v ∷ vs)) same ∙ ap (λ rest. cond b v null ∷ rest) (masked-next keep vs i (omega arith) (omega arith))
