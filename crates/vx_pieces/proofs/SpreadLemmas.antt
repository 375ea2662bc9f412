-- Pieces of fewer rows than they give.
use Rattle.std.proofs.Common.{◌≡◌, ◌<◌, ◌≤◌, ◌+◌, ◌-◌, ◌*◌, ◌∙◌, ℕ, zero, suc, Bool, true, false, List, [], ◌∷◌, ◌++◌, length, map, take, get_or, refl, sym, ap, arith}
use Rattle.std.proofs.Math.Nat.{zero-mul, suc-mul}
use Rattle.std.specs.Prelude.{nat_le, replicate}
use Rattle.std.proofs.lemmas.Bool.{and_parts, and_from, leb-true, le-leb}
use Rattle.std.proofs.lemmas.List.{drop-replicate, take-replicate, replicate-append-replicate}
use Rattle.vx_base.specs.Masks.{rows_between}
use Rattle.vx_base.specs.PlainValue.{PlainValue, null, truth, int, bytes, items}
use Rattle.vx_model.specs.Plain.{valid_bits}
use Rattle.vx_model.specs.Rows.{row_at, masked_rows}
use Rattle.vx_pieces.specs.declared.piece.Piece.{Piece}
use Rattle.vx_pieces.specs.declared.piece.Piece.TheVariants.{Rows, Filled}
use Rattle.vx_pieces.specs.Kept.{kept_items}
use Rattle.vx_pieces.specs.Pieces.{piece_items, pieced, is_piece, are_pieces, repeated, in_one_row}
use Rattle.vx_pieces.proofs.RepeatLemmas.{repeated-one}

-- ---- the kept rows

-- a kept row stands behind those that are kept before it
pub kept-row : (keep : List Bool) (vs : List PlainValue) (i : ℕ) → i < length keep → length vs ≡ length keep → get_or keep i false ≡ true → row_at (kept_items keep vs) (length (kept_items (take i keep) vs)) ≡ row_at vs i
kept-row [] vs i l e h = absurd (omega arith)
kept-row (b ∷ keep) [] i l e h = absurd (omega arith)
kept-row (true ∷ keep) (v ∷ vs) zero l e h = refl
kept-row (false ∷ keep) (v ∷ vs) zero l e h = absurd cc
kept-row (true ∷ keep) (v ∷ vs) (suc i) l e h = kept-row keep vs i (omega arith) (omega arith) h
kept-row (false ∷ keep) (v ∷ vs) (suc i) l e h = kept-row keep vs i (omega arith) (omega arith) h

pub kept-below : (keep : List Bool) (vs : List PlainValue) (i : ℕ) → i < length keep → length vs ≡ length keep → get_or keep i false ≡ true → length (kept_items (take i keep) vs) < length (kept_items keep vs)
kept-below [] vs i l e h = absurd (omega arith)
kept-below (b ∷ keep) [] i l e h = absurd (omega arith)
kept-below (true ∷ keep) (v ∷ vs) zero l e h = omega arith
kept-below (false ∷ keep) (v ∷ vs) zero l e h = absurd cc
kept-below (true ∷ keep) (v ∷ vs) (suc i) l e h = let k = kept-below keep vs i (omega arith) (omega arith) h in omega (arith, k)
kept-below (false ∷ keep) (v ∷ vs) (suc i) l e h = kept-below keep vs i (omega arith) (omega arith) h

-- ---- values by their own validity

pub masked-own : (vs : List PlainValue) → masked_rows (valid_bits vs) vs ≡ vs
masked-own [] = refl
masked-own (null ∷ vs) = ap (λ ws. null ∷ ws) (masked-own vs)
masked-own (truth b ∷ vs) = ap (λ ws. truth b ∷ ws) (masked-own vs)
masked-own (int z ∷ vs) = ap (λ ws. int z ∷ ws) (masked-own vs)
masked-own (bytes bs ∷ vs) = ap (λ ws. bytes bs ∷ ws) (masked-own vs)
masked-own (items within ∷ vs) = ap (λ ws. items within ∷ ws) (masked-own vs)

-- ---- equal rows

repeated-replicate : {A : Type 0} (times n : ℕ) (x : A) → repeated times (replicate n x) ≡ replicate (times * n) x
repeated-replicate zero n x = ap (λ k. replicate k x) (sym (zero-mul n))
repeated-replicate (suc times) n x =
    let more : n + times * n ≡ suc times * n = omega (arith, suc-mul times n) in
    ap (λ ys. replicate n x ++ ys) (repeated-replicate times n x) ∙ replicate-append-replicate n (times * n) x ∙ ap (λ k. replicate k x) more

equal-between : {A : Type 0} (len start end : ℕ) (x : A) → end ≤ len → rows_between (replicate len x) start end ≡ replicate (end - start) x
equal-between len start end x l = ap (take (end - start)) (drop-replicate start len x) ∙ take-replicate (end - start) (len - start) x (omega arith)

one-row-piece : {A : Type 0} (item x : A) (len : ℕ) (p : Piece) → is_piece len p ≡ true → piece_items item (x ∷ []) (in_one_row p) ≡ piece_items item (replicate len x) p
one-row-piece item x len (Rows start end times) h =
    let within = leb-true end len (and_parts (nat_le start end) (nat_le end len) h).1 in
    repeated-one (times * (end - start)) x ∙ sym (repeated-replicate times (end - start) x) ∙ ap (repeated times) (sym (equal-between len start end x within))
one-row-piece item x len (Filled count) h = refl

pub one-row-pieces : {A : Type 0} (item x : A) (len : ℕ) (ps : List Piece) → are_pieces len ps ≡ true → pieced item (map in_one_row ps) (x ∷ []) ≡ pieced item ps (replicate len x)
one-row-pieces item x len [] h = refl
one-row-pieces item x len (p ∷ ps) h = let b = and_parts (is_piece len p) (are_pieces len ps) h in λ i. one-row-piece item x len p b.0 i ++ one-row-pieces item x len ps b.1 i

pub are_one-row-pieces : (ps : List Piece) → are_pieces 1 (map in_one_row ps) ≡ true
are_one-row-pieces [] = refl
are_one-row-pieces (Rows start end times ∷ ps) = and_from _ _ (and_from _ _ (le-leb 0 1 (omega arith)) (le-leb 1 1 (omega arith))) (are_one-row-pieces ps)
are_one-row-pieces (Filled count ∷ ps) = are_one-row-pieces ps
