-- Rows concatenated and cut at their offsets are the rows again, and the offsets are accepted.
use Rattle.std.proofs.Common.{◌≡◌, ◌<◌, ◌≤◌, ◌+◌, ◌-◌, ◌++◌, ◌∙◌, ℕ, zero, suc, pos, List, [], ◌∷◌, length, map, take, drop, refl, sym, ap, true, arith, add-one, add_assoc, zero-add, add-zero, subst}
use Rattle.std.specs.Prelude.{slice_index_or}
use Rattle.std.specs.List.{list_all}
use Rattle.std.proofs.Math.Seq.{take-append_seam, drop-append_seam}
use Rattle.std.proofs.lemmas.Bool.{and_from, eq-eqb, lt-ltb, ltb-true}
use Rattle.std.proofs.lemmas.Bool.Decides.{nat_tests}
use Rattle.std.proofs.lemmas.Int.{ints}
use Rattle.std.proofs.lemmas.List.{append_assoc, append-nil, length-append, length-map, same_lists, get_or_default, take_more}
use Rattle.vx_base.specs.declared.ptype.PType.{PType}
use Rattle.vx_base.specs.Integers.{lies_in}
use Rattle.vx_base.specs.Masks.{rows_between}
use Rattle.vx_base.specs.PlainValue.{PlainValue, int}
use Rattle.vx_model.specs.Nested.{concatenated}
use Rattle.vx_model.specs.Offsets.{offsets_from, offsets_of, offset_values}
use Rattle.vx_model.specs.Rows.{offset_at, cut_at}
use Rattle.vx_model.specs.WellFormed.{lies_between, never_falls, are_offsets}
use Rattle.vx_model.proofs.VarBinLemmas.{length-cut_at, cut_at-at}

-- offsets as values
abbrev values : List ℕ → List PlainValue
values os = map int (map pos os)

-- ---- the offset at an index

pub length-offsets_from : {A : Type 0} (here : ℕ) (rows : List (List A)) → length (offsets_from here rows) ≡ length rows + 1
length-offsets_from here [] = refl
length-offsets_from here (row ∷ rows) = let rest = length-offsets_from (here + length row) rows in omega arith

pub length-offset_values : {A : Type 0} (rows : List (List A)) → length (offset_values rows) ≡ length rows + 1
length-offset_values rows = length-map (map pos (offsets_of rows)) int ∙ length-map (offsets_of rows) pos ∙ length-offsets_from 0 rows

first_offset : {A : Type 0} (here : ℕ) (rows : List (List A)) → offset_at (values (offsets_from here rows)) 0 ≡ here
first_offset here [] = refl
first_offset here (row ∷ rows) = refl

last_offset : {A : Type 0} (here : ℕ) (rows : List (List A)) → offset_at (values (offsets_from here rows)) (length rows) ≡ here + length (concatenated rows)
last_offset here [] = omega arith
last_offset here (row ∷ rows) = last_offset (here + length row) rows ∙ add_assoc here (length row) (length (concatenated rows)) ∙ ap (λ n. here + n) (sym (length-append row (concatenated rows)))

-- ---- cut at its offsets, each row comes back

seam : {A : Type 0} (before row behind : List A) → rows_between (before ++ (row ++ behind)) (length before) (length before + length row) ≡ row
seam before row behind =
    let own : length before + length row - length before ≡ length row = omega arith in
    ap (λ n. take n (drop (length before) (before ++ (row ++ behind)))) own ∙ ap (take (length row)) (drop-append_seam before (row ++ behind)) ∙ take-append_seam row behind

cut_row : {A : Type 0} (before : List A) (rows : List (List A)) (i : ℕ) → i < length rows
    → rows_between (before ++ concatenated rows) (offset_at (values (offsets_from (length before) rows)) i) (offset_at (values (offsets_from (length before) rows)) (suc i)) ≡ slice_index_or rows i []
cut_row before [] i l = absurd (omega arith)
cut_row before (row ∷ rows) zero l =
    ap (rows_between (before ++ (row ++ concatenated rows)) (length before)) (first_offset (length before + length row) rows) ∙ seam before row (concatenated rows)
cut_row before (row ∷ rows) (suc i) l =
    let from = length-append before row in
    let rest = cut_row (before ++ row) rows i (omega arith) in
    (λ k. rows_between (sym (append_assoc before row (concatenated rows)) k) (offset_at (values (offsets_from (sym from k) rows)) i) (offset_at (values (offsets_from (sym from k) rows)) (suc i))) ∙ rest

pub cut_joined : {A : Type 0} (rows : List (List A)) → cut_at (offset_values rows) (concatenated rows) ≡ rows
cut_joined rows =
    let os = offset_values rows in
    let count : length os - 1 ≡ length rows = omega (arith, length-offset_values rows) in
    let cut = cut_at os (concatenated rows) in
    let same = length-cut_at os (concatenated rows) ∙ count in
    same_lists cut rows same (λ i d l.
    let within : i < length os - 1 = subst (λ n. i < n) (length-cut_at os (concatenated rows)) l in
    get_or_default cut i d [] l ∙ cut_at-at os (concatenated rows) i within ∙ ap (λ n. rows_between (concatenated rows) (offset_at os i) (offset_at os n)) (add-one i)
    ∙ cut_row [] rows i (omega (arith, count)) ∙ get_or_default rows i [] d (omega (arith, count)))

-- ---- the offsets are accepted

values_between : {A : Type 0} (len here : ℕ) (rows : List (List A)) → here + length (concatenated rows) ≤ len → list_all (lies_between 0 (len + 1)) (values (offsets_from here rows)) ≡ true
values_between len here [] l = grind (arith, nat_tests)
values_between len here (row ∷ rows) l =
    let whole = length-append row (concatenated rows) in
    and_from _ _ (grind (arith, nat_tests)) (values_between len (here + length row) rows (omega arith))

rising : {A : Type 0} (here : ℕ) (rows : List (List A)) → never_falls (values (offsets_from here rows)) ≡ true
rising here [] = refl
rising here (row ∷ []) = and_from _ _ (grind (arith, nat_tests, ints)) refl
rising here (row ∷ next ∷ rows) = and_from _ _ (grind (arith, nat_tests, ints)) (rising (here + length row) (next ∷ rows))

pub joined_offsets : {A : Type 0} (rows : List (List A)) → are_offsets (length (concatenated rows)) (offset_values rows) ≡ true
joined_offsets rows =
    let count : length (offset_values rows) - 1 ≡ length rows = omega (arith, length-offset_values rows) in
    let last : offset_at (offset_values rows) (length (offset_values rows) - 1) ≡ length (concatenated rows) = ap (offset_at (offset_values rows)) count ∙ last_offset 0 rows ∙ zero-add _ in
    and_from _ _ (and_from _ _ (and_from _ _ (values_between (length (concatenated rows)) 0 rows (omega arith)) (eq-eqb _ _ (first_offset 0 rows))) (eq-eqb _ _ last)) (rising 0 rows)

-- ---- the offsets are in the range of each type that has their end in range

below-lies : (p : PType) (n end : ℕ) → n ≤ end → lies_in p (pos end) ≡ true → lies_in p (pos n) ≡ true
below-lies p n end l h = lt-ltb _ _ (let e = ltb-true _ _ h in omega arith)

pub offsets_lie : {A : Type 0} (p : PType) (end here : ℕ) (rows : List (List A)) → here + length (concatenated rows) ≤ end → lies_in p (pos end) ≡ true → list_all (lies_in p) (map pos (offsets_from here rows)) ≡ true
offsets_lie p end here [] l h = and_from _ _ (below-lies p here end (omega arith) h) refl
offsets_lie p end here (row ∷ rows) l h =
    let whole = length-append row (concatenated rows) in
    and_from _ _ (below-lies p here end (omega arith) h) (offsets_lie p end (here + length row) rows (omega arith) h)

-- ---- with one row more

offsets_from-more : {A : Type 0} (here : ℕ) (rows : List (List A)) (row : List A) → offsets_from here (rows ++ row ∷ []) ≡ offsets_from here rows ++ (here + length (concatenated rows) + length row) ∷ []
offsets_from-more here [] row = ap (λ n. here ∷ (n + length row) ∷ []) (sym (add-zero here))
offsets_from-more here (first ∷ rows) row =
    let whole : here + length first + length (concatenated rows) ≡ here + length (first ++ concatenated rows) = omega (arith, length-append first (concatenated rows)) in
    ap (λ os. here ∷ os) (offsets_from-more (here + length first) rows row) ∙ ap (λ n. here ∷ (offsets_from (here + length first) rows ++ (n + length row) ∷ [])) whole

-- the last offset is the number of bytes
pub offsets_of-more : {A : Type 0} (rows : List (List A)) (row : List A) → offsets_of (rows ++ row ∷ []) ≡ offsets_of rows ++ (length (concatenated rows) + length row) ∷ []
offsets_of-more rows row = offsets_from-more 0 rows row ∙ ap (λ n. offsets_of rows ++ (n + length row) ∷ []) (zero-add _)

pub concatenated-append : {A : Type 0} (rows others : List (List A)) → concatenated (rows ++ others) ≡ concatenated rows ++ concatenated others
concatenated-append [] others = refl
concatenated-append (row ∷ rows) others = ap (λ r. row ++ r) (concatenated-append rows others) ∙ sym (append_assoc row (concatenated rows) (concatenated others))

pub concatenated-more : {A : Type 0} (rows : List (List A)) (row : List A) → concatenated (rows ++ row ∷ []) ≡ concatenated rows ++ row
concatenated-more rows row = concatenated-append rows (row ∷ []) ∙ ap (λ r. concatenated rows ++ r) (append-nil row)

-- the rows before an index, and the row there
pub concatenated-next : {A : Type 0} (rows : List (List A)) (i : ℕ) (row : List A) → i < length rows → row ≡ slice_index_or rows i row → concatenated (take (i + 1) rows) ≡ concatenated (take i rows) ++ row
concatenated-next rows i row l e = ap concatenated (take_more rows i row l ∙ ap (λ r. take i rows ++ r ∷ []) (sym e)) ∙ concatenated-more (take i rows) row

pub offsets_of-next : {A : Type 0} (rows : List (List A)) (i : ℕ) (row : List A) → i < length rows → row ≡ slice_index_or rows i row → offsets_of (take (i + 1) rows) ≡ offsets_of (take i rows) ++ (length (concatenated (take i rows)) + length row) ∷ []
offsets_of-next rows i row l e = ap offsets_of (take_more rows i row l ∙ ap (λ r. take i rows ++ r ∷ []) (sym e)) ∙ offsets_of-more (take i rows) row
