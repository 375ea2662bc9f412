-- Lengths of consecutive lists, their prefix sums, and the lists that pieces give.
use Rattle.std.proofs.Common.{◌≡◌, ◌≤◌, ◌<◌, ◌+◌, ◌-◌, ◌∙◌, ℕ, zero, suc, List, [], ◌∷◌, ◌++◌, map, length, take, get_or, refl, sym, ap, arith, add_assoc, add-zero, zero-add}
use Rattle.std.specs.Prelude.{slice_index_or}
use Rattle.std.proofs.lemmas.List.{length-append, take_more}
use Rattle.vx_model.specs.Nested.{concatenated}
use Rattle.vx_model.specs.Offsets.{offsets_from, offsets_of}
use Rattle.vx_pieces.specs.declared.piece.Piece.{Piece}
use Rattle.vx_pieces.specs.Lengths.{lengths_between, sums_from}
use Rattle.vx_pieces.specs.Pieces.{pieced}
use Rattle.vx_pieces.proofs.PieceLemmas.{map-pieced}

-- ---- differences between offsets

pub lengths-first : (os : List ℕ) → 1 ≤ length os → [] ≡ lengths_between (take 1 os)
lengths-first [] l = absurd (omega arith)
lengths-first (begin ∷ os) l = refl

lengths-behind : (os : List ℕ) (i : ℕ) → i + 1 < length os → lengths_between (take (i + 1 + 1) os) ≡ lengths_between (take (i + 1) os) ++ (get_or os (i + 1) 0 - get_or os i 0) ∷ []
lengths-behind [] i l = absurd (omega arith)
lengths-behind (begin ∷ []) i l = absurd (omega arith)
lengths-behind (begin ∷ end ∷ os) zero l = refl
lengths-behind (begin ∷ end ∷ os) (suc i) l =
    let whole : suc i + 1 + 1 ≡ suc (suc (i + 1)) = omega arith in
    let part : suc (suc i) ≡ suc i + 1 = omega arith in
    let place : suc i + 1 ≡ suc (i + 1) = omega arith in
    let rest : i + 1 + 1 ≡ suc (i + 1) = omega arith in
    let less : i + 1 ≡ suc i = omega arith in
    ap (λ n. lengths_between (take n (begin ∷ end ∷ os))) whole
    ∙ ap (λ others. (end - begin) ∷ others)
    (ap (λ n. lengths_between (take n (end ∷ os))) (sym rest) ∙ lengths-behind (end ∷ os) i (omega arith) ∙ (λ k. lengths_between (take (less k) (end ∷ os)) ++ (get_or (end ∷ os) (i + 1) 0 - get_or (end ∷ os) i 0) ∷ []))
    ∙ (λ k. lengths_between (take (part k) (begin ∷ end ∷ os)) ++ (get_or (begin ∷ end ∷ os) (sym place k) 0 - get_or (end ∷ os) i 0) ∷ [])

pub lengths-next : (os : List ℕ) (i : ℕ) → 1 ≤ i → i < length os → lengths_between (take (i + 1) os) ≡ lengths_between (take i os) ++ (get_or os i 0 - get_or os (i - 1) 0) ∷ []
lengths-next os i some l =
    let here : i - 1 + 1 ≡ i = omega arith in
    (λ k. lengths_between (take (sym here k + 1) os)) ∙ lengths-behind os (i - 1) (omega arith) ∙ (λ k. lengths_between (take (here k) os) ++ (get_or os (here k) 0 - get_or os (i - 1) 0) ∷ [])

pub length-lengths : (os : List ℕ) → length (lengths_between os) ≡ length os - 1
length-lengths [] = omega arith
length-lengths (begin ∷ []) = omega arith
length-lengths (begin ∷ end ∷ os) = let rest = length-lengths (end ∷ os) in omega arith

-- ---- prefix sums

-- where the lengths end
abbrev pub end_from : ℕ → List ℕ → ℕ
end_from here [] = here
end_from here (n ∷ ns) = end_from (here + n) ns

pub end_from-more : (here : ℕ) (ns : List ℕ) (n : ℕ) → end_from here (ns ++ n ∷ []) ≡ end_from here ns + n
end_from-more here [] n = refl
end_from-more here (m ∷ ns) n = end_from-more (here + m) ns n

sums_from-more : (here : ℕ) (ns : List ℕ) (n : ℕ) → sums_from here (ns ++ n ∷ []) ≡ sums_from here ns ++ (end_from here ns + n) ∷ []
sums_from-more here [] n = refl
sums_from-more here (m ∷ ns) n = ap (λ rest. here ∷ rest) (sums_from-more (here + m) ns n)

pub end-next : (here : ℕ) (ns : List ℕ) (i : ℕ) → i < length ns → end_from here (take (i + 1) ns) ≡ end_from here (take i ns) + get_or ns i 0
end-next here ns i l = ap (end_from here) (take_more ns i 0 l) ∙ end_from-more here (take i ns) (get_or ns i 0)

pub sums-next : (here : ℕ) (ns : List ℕ) (i : ℕ) → i < length ns → sums_from here (take (i + 1) ns) ≡ sums_from here (take i ns) ++ (end_from here (take i ns) + get_or ns i 0) ∷ []
sums-next here ns i l = ap (sums_from here) (take_more ns i 0 l) ∙ sums_from-more here (take i ns) (get_or ns i 0)

-- ---- offsets of lists

pub offsets-sums : {A : Type 0} (here : ℕ) (rows : List (List A)) → offsets_from here rows ≡ sums_from here (map length rows)
offsets-sums here [] = refl
offsets-sums here (row ∷ rows) = ap (λ rest. here ∷ rest) (offsets-sums (here + length row) rows)

pub lengths-sums : (here : ℕ) (ns : List ℕ) → lengths_between (sums_from here ns) ≡ ns
lengths-sums here [] = refl
lengths-sums here (n ∷ []) = let own : here + n - here ≡ n = omega arith in ap (λ m. m ∷ []) own
lengths-sums here (n ∷ m ∷ ns) = let own : here + n - here ≡ n = omega arith in λ i. own i ∷ lengths-sums (here + n) (m ∷ ns) i

-- the offsets of the lists that pieces give, an empty list for each filling
pub offsets-pieced : {A : Type 0} (ps : List Piece) (rows : List (List A)) (os : List ℕ) → os ≡ offsets_of rows → sums_from 0 (pieced 0 ps (lengths_between os)) ≡ offsets_of (pieced [] ps rows)
offsets-pieced ps rows os e =
    let counts : lengths_between os ≡ map length rows = ap lengths_between (e ∙ offsets-sums 0 rows) ∙ lengths-sums 0 (map length rows) in
    ap (λ ns. sums_from 0 (pieced 0 ps ns)) counts ∙ ap (sums_from 0) (sym (map-pieced length [] ps rows)) ∙ sym (offsets-sums 0 (pieced [] ps rows))

-- the first element of each list
offset-from : {A : Type 0} (here : ℕ) (rows : List (List A)) (k : ℕ) → k ≤ length rows → slice_index_or (offsets_from here rows) k 0 ≡ here + length (concatenated (take k rows))
offset-from here [] zero l = sym (add-zero here)
offset-from here [] (suc k) l = absurd (omega arith)
offset-from here (row ∷ rows) zero l = sym (add-zero here)
offset-from here (row ∷ rows) (suc k) l =
    let both = length-append row (concatenated (take k rows)) in
    offset-from (here + length row) rows k (omega arith) ∙ add_assoc here (length row) (length (concatenated (take k rows))) ∙ ap (λ n. here + n) (sym both)

pub begins-at : {A : Type 0} (rows : List (List A)) (os : List ℕ) → os ≡ offsets_of rows → (k : ℕ) → k ≤ length rows → slice_index_or os k 0 ≡ length (concatenated (take k rows))
begins-at rows os e k l = ap (λ ns. slice_index_or ns k 0) e ∙ offset-from 0 rows k l ∙ zero-add _
