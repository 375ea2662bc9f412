-- Rows under a mask: ranges of them, and runs of equal bits.
use Rattle.std.proofs.Common.{◌≡◌, ◌≤◌, ◌<◌, ◌+◌, ◌-◌, ◌∙◌, ℕ, zero, suc, Bool, true, false, cond, List, [], ◌∷◌, ◌++◌, length, take, drop, get_or, refl, sym, ap, subst, arith, append_assoc}
use Rattle.std.specs.Prelude.{replicate}
use Rattle.std.proofs.lemmas.List.{append-nil, replicate-append-replicate, take_more}
use Rattle.vx_base.specs.Masks.{rows_between}
use Rattle.vx_base.specs.PlainValue.{PlainValue, null}
use Rattle.vx_model.specs.Rows.{masked_rows}
use Rattle.vx_pieces.specs.declared.piece.Piece.{Piece}
use Rattle.vx_pieces.specs.Pieces.{Gives, piece_items, pieced, repeated}
use Rattle.vx_pieces.proofs.GrowLemmas.{between-behind}
use Rattle.vx_pieces.proofs.PieceLemmas.{length-between, pieced-last}
use Rattle.vx_pieces.proofs.RepeatLemmas.{repeated-next}

-- ---- ranges

masked-take : (n : ℕ) (mask : List Bool) (vs : List PlainValue) → length vs ≡ length mask → take n (masked_rows mask vs) ≡ masked_rows (take n mask) (take n vs)
masked-take zero mask vs e = refl
masked-take (suc n) [] vs e = refl
masked-take (suc n) (b ∷ mask) [] e = absurd (omega arith)
masked-take (suc n) (b ∷ mask) (v ∷ vs) e = ap (λ rest. cond b v null ∷ rest) (masked-take n mask vs (omega arith))

masked-drop : (n : ℕ) (mask : List Bool) (vs : List PlainValue) → length vs ≡ length mask → drop n (masked_rows mask vs) ≡ masked_rows (drop n mask) (drop n vs)
masked-drop zero mask vs e = refl
masked-drop (suc n) [] vs e = refl
masked-drop (suc n) (b ∷ mask) [] e = absurd (omega arith)
masked-drop (suc n) (b ∷ mask) (v ∷ vs) e = masked-drop n mask vs (omega arith)

drop-lengths : {A B : Type 0} (n : ℕ) (xs : List A) (ys : List B) → length xs ≡ length ys → length (drop n xs) ≡ length (drop n ys)
drop-lengths zero xs ys e = e
drop-lengths (suc n) [] [] e = refl
drop-lengths (suc n) [] (y ∷ ys) e = absurd (omega arith)
drop-lengths (suc n) (x ∷ xs) [] e = absurd (omega arith)
drop-lengths (suc n) (x ∷ xs) (y ∷ ys) e = drop-lengths n xs ys (omega arith)

masked-between : (mask : List Bool) (vs : List PlainValue) (s e : ℕ) → length vs ≡ length mask → rows_between (masked_rows mask vs) s e ≡ masked_rows (rows_between mask s e) (rows_between vs s e)
masked-between mask vs s e l = ap (take (e - s)) (masked-drop s mask vs l) ∙ masked-take (e - s) (drop s mask) (drop s vs) (drop-lengths s vs mask l)

-- ---- runs

masked-copies : (b : Bool) (n : ℕ) (vs : List PlainValue) → length vs ≡ n → masked_rows (replicate n b) vs ≡ cond b vs (replicate n null)
masked-copies true zero [] e = refl
masked-copies false zero [] e = refl
masked-copies b zero (v ∷ vs) e = absurd (omega arith)
masked-copies b (suc n) [] e = absurd (omega arith)
masked-copies true (suc n) (v ∷ vs) e = ap (λ rest. v ∷ rest) (masked-copies true n vs (omega arith))
masked-copies false (suc n) (v ∷ vs) e = ap (λ rest. null ∷ rest) (masked-copies false n vs (omega arith))

-- where the bits of a range are equal, its rows are all there or all null
pub masked-run : (mask : List Bool) (vs : List PlainValue) (s e : ℕ) (b : Bool) → length vs ≡ length mask → s ≤ e → e ≤ length mask → rows_between mask s e ≡ replicate (e - s) b
    → rows_between (masked_rows mask vs) s e ≡ cond b (rows_between vs s e) (replicate (e - s) null)
masked-run mask vs s e b l rising within run =
    masked-between mask vs s e l ∙ ap (λ bits. masked_rows bits (rows_between vs s e)) run
    ∙ masked-copies b (e - s) (rows_between vs s e) (length-between vs s e rising (omega arith))

-- no row
pub between-none : {A : Type 0} (xs : List A) (s : ℕ) → rows_between xs s s ≡ []
between-none xs s = let none : s - s ≡ 0 = omega arith in ap (λ n. take n (drop s xs)) none

-- one row more
pub bits-one : (mask : List Bool) (row : ℕ) → row < length mask → rows_between mask row (row + 1) ≡ get_or mask row false ∷ []
bits-one [] row l = absurd (omega arith)
bits-one (b ∷ mask) zero l = refl
bits-one (b ∷ mask) (suc row) l =
    let same : (suc row + 1) - suc row ≡ (row + 1) - row = omega arith in
    ap (λ n. take n (drop row mask)) same ∙ bits-one mask row (omega arith)

-- a run is extended by an equal bit
pub run-next : (mask : List Bool) (first row : ℕ) (b : Bool) → first ≤ row → row < length mask → get_or mask row false ≡ b → rows_between mask first row ≡ replicate (row - first) b
    → rows_between mask first (row + 1) ≡ replicate (row + 1 - first) b
run-next mask first row b l k same run =
    let count : (row - first) + 1 ≡ row + 1 - first = omega arith in
    between-behind mask first row (row + 1) l (omega arith)
    ∙ (λ i. run i ++ (bits-one mask row k ∙ ap (λ c. c ∷ []) same) i)
    ∙ replicate-append-replicate (row - first) 1 b ∙ ap (λ n. replicate n b) count

-- the first row of a run
pub run-first : (mask : List Bool) (row : ℕ) → row < length mask → rows_between mask row (row + 1) ≡ replicate (row + 1 - row) (get_or mask row false)
run-first mask row l = let one : 1 ≡ row + 1 - row = omega arith in bits-one mask row l ∙ ap (λ n. replicate n (get_or mask row false)) one

pub run-none : (mask : List Bool) (row : ℕ) (b : Bool) → rows_between mask row row ≡ replicate (row - row) b
run-none mask row b = let none : 0 ≡ row - row = omega arith in between-none mask row ∙ ap (λ n. replicate n b) none

-- ---- pieces that grow by rows under a mask

-- nothing is appended
pub gives-none : (ps : List Piece) (vs rows more : List PlainValue) → more ≡ [] → Gives null ps vs rows → Gives null ps vs (rows ++ more)
gives-none ps vs rows more e g = subst (λ rs. Gives null ps vs rs) (sym (ap (λ ys. rows ++ ys) e ∙ append-nil rows)) g

-- a run behind the rows before it
pub gives-run : (ps : List Piece) (mask : List Bool) (vs rows : List PlainValue) (start row next : ℕ) (bit : Bool) → length vs ≡ length mask → start ≤ row → row ≤ next → next ≤ length mask → rows_between mask row next ≡ replicate (next - row) bit
    → Gives null ps vs ((rows ++ rows_between (masked_rows mask vs) start row) ++ cond bit (rows_between vs row next) (replicate (next - row) null)) → Gives null ps vs (rows ++ rows_between (masked_rows mask vs) start next)
gives-run ps mask vs rows start row next bit l begun rising within run g =
    let masked = masked_rows mask vs in
    let whole : rows_between masked start row ++ cond bit (rows_between vs row next) (replicate (next - row) null) ≡ rows_between masked start next =
    ap (λ ys. rows_between masked start row ++ ys) (sym (masked-run mask vs row next bit l rising within run)) ∙ sym (between-behind masked start row next begun rising) in
    subst (λ rs. Gives null ps vs rs) (append_assoc rows (rows_between masked start row) _ ∙ ap (λ ys. rows ++ ys) whole) g

-- a block once more
pub gives-block : (ps : List Piece) (vs rows block : List PlainValue) (time : ℕ) → Gives null ps vs ((rows ++ repeated time block) ++ block) → Gives null ps vs (rows ++ repeated (time + 1) block)
gives-block ps vs rows block time g = subst (λ rs. Gives null ps vs rs) (append_assoc rows (repeated time block) block ∙ ap (λ ys. rows ++ ys) (sym (repeated-next time block))) g

-- a piece more
pub gives-piece : (out ps : List Piece) (i : ℕ) (other : Piece) (masked vs : List PlainValue) → i < length ps → Gives null out vs (pieced null (take i ps) masked ++ piece_items null masked (get_or ps i other)) → Gives null out vs (pieced null (take (i + 1) ps) masked)
gives-piece out ps i other masked vs l g =
    subst (λ rs. Gives null out vs rs) (sym (ap (λ qs. pieced null qs masked) (take_more ps i other l) ∙ pieced-last null (take i ps) (get_or ps i other) masked)) g
