-- The rows of a column of bytes, and the codes of those that were seen.
use Rattle.std.proofs.Common.{◌≡◌, ◌<◌, ◌∙◌, ℕ, Bool, true, false, cond, not, List, [], ◌∷◌, ◌++◌, length, map, Some, None, pos, refl, sym, ap, inl, inr}
use Rattle.std.specs.Prelude.{◌||◌, filter, nat_lt, slice_index_or, Result, Ok, Err}
use Rattle.std.specs.List.{list_all}
use Rattle.std.proofs.lemmas.Bool.{and_from, and_parts, cases_lt, eqb-true, lt-ltb}
use Rattle.std.proofs.lemmas.List.{get_or-map, get_or_past, length-map, map-append}
use Rattle.vx_base.specs.Answers.{OrMemory}
use Rattle.vx_base.specs.PlainValue.{PlainValue, bytes, is_null, null, whole_or_zero}
use Rattle.vx_base.specs.declared.error.VortexError.{VortexError}
use Rattle.vx_model.specs.Refusals.{validity_length}
use Rattle.vx_model.specs.Rows.{is_valid_at, row_at, valid_rows}
use Rattle.vx_model.specs.Tree.{Validity}
use Rattle.vx_model.proofs.RowLemmas.{length-masked_rows, row_at-masked_rows}
use Rattle.vx_schemes_text.specs.Dictionary.Codebook.{AreCodesOf}
use Rattle.vx_schemes_text.specs.Dictionary.Distinct.{all-appearing, all_among, among, rows-among}
use Rattle.vx_schemes_text.specs.Dictionary.Tree.{appearing, code_in}
use Rattle.vx_schemes_text.proofs.AppearanceLemmas.{appearing-more, code-stays, with_value}

-- what follows of an answer, or it is NoMemory
pub follows : {A : Type 0} (result : Result A VortexError) (P Q : A → Type 0) → ((x : A) → P x → Q x) → OrMemory result P → OrMemory result Q
follows (Ok x) P Q f h = f x h
follows (Err e) P Q f h = h

-- the value in a row of bytes
pub row-bytes : (rows : List (List ℕ)) (valid : Validity) (i : ℕ) → validity_length valid (length rows) ≡ true → i < length rows
    → row_at (valid_rows valid (map bytes rows)) i ≡ cond (is_valid_at valid i) (bytes (slice_index_or rows i [])) null
row-bytes rows None i mask l = get_or-map bytes rows i [] null l
row-bytes rows (Some bits) i mask l =
    row_at-masked_rows bits (map bytes rows) i (eqb-true (length bits) (length rows) mask ∙ sym (length-map rows bytes))
    ∙ ap (λ r. cond (slice_index_or bits i false) r null) (get_or-map bytes rows i [] null l)

-- there are as many values as rows
pub length-bytes : (rows : List (List ℕ)) (valid : Validity) → validity_length valid (length rows) ≡ true → length (valid_rows valid (map bytes rows)) ≡ length rows
length-bytes rows None mask = length-map rows bytes
length-bytes rows (Some bits) mask = length-masked_rows bits (map bytes rows) (eqb-true (length bits) (length rows) mask ∙ sym (length-map rows bytes)) ∙ length-map rows bytes

-- ---- codes of rows

-- each value that was seen is null or among the distinct ones, so its code stays as others are seen
pub codes-stay : (seen values : List PlainValue) (v : PlainValue) → all_among (appearing seen) values ≡ true → map (code_in (appearing (seen ++ v ∷ []))) values ≡ map (code_in (appearing seen)) values
codes-stay seen [] v h = refl
codes-stay seen (w ∷ values) v h =
    let b = and_parts (is_null w || among (appearing seen) w) (all_among (appearing seen) values) h in
    let first : code_in (appearing (seen ++ v ∷ [])) w ≡ code_in (appearing seen) w = ap (λ ds. code_in ds w) (appearing-more seen v) ∙ pick (is_null v) b.0 in
    let rest = codes-stay seen values v b.1 in
    λ i. first i ∷ rest i
  where
    pick : (n : Bool) → (is_null w || among (appearing seen) w) ≡ true → code_in (cond n (appearing seen) (with_value (appearing seen) v)) w ≡ code_in (appearing seen) w
    pick true e = refl
    pick false e = code-stays (appearing seen) w v e

-- the codes of the values seen, and of one more
pub codes-more : (seen : List PlainValue) (v : PlainValue) (codes : List ℕ) (code : ℕ) → AreCodesOf seen codes → pos code ≡ whole_or_zero (code_in (appearing (seen ++ v ∷ [])) v) → AreCodesOf (seen ++ v ∷ []) (codes ++ code ∷ [])
codes-more seen v codes code before here =
    let f = λ (w : PlainValue). code_in (appearing (seen ++ v ∷ [])) w in
    let others = ap (map whole_or_zero) (sym (codes-stay seen seen v (rows-among seen))) in
    map-append pos codes (code ∷ []) ∙ (λ i. (before ∙ others) i ++ here i ∷ []) ∙ sym (map-append whole_or_zero (map f seen) (f v ∷ [])) ∙ ap (map whole_or_zero) (sym (map-append f seen (v ∷ [])))

-- ---- the rows of the first appearances

-- a row that has a value is in bounds
in-bounds : (values : List PlainValue) (row : ℕ) → not (is_null (row_at values row)) ≡ true → nat_lt row (length values) ≡ true
in-bounds values row some =
    elim (cases_lt row (length values)) [
      | inl l ↦ lt-ltb row (length values) l
      | inr g ↦ absurd (let none : row_at values row ≡ null = get_or_past values row null g in let clash : false ≡ true = sym (ap (λ v. not (is_null v)) none) ∙ some in cc)
    ]

all-in-bounds : (values : List PlainValue) (numbers : List ℕ) → list_all (λ v. not (is_null v)) (map (row_at values) numbers) ≡ true → list_all (λ row. nat_lt row (length values)) numbers ≡ true
all-in-bounds values [] h = refl
all-in-bounds values (row ∷ numbers) h =
    let b = and_parts (not (is_null (row_at values row))) (list_all (λ v. not (is_null v)) (map (row_at values) numbers)) h in
    and_from _ _ (in-bounds values row b.0) (all-in-bounds values numbers b.1)

-- no distinct value is null
appearing-some : (vs : List PlainValue) → list_all (λ v. not (is_null v)) (appearing vs) ≡ true
appearing-some vs = all-appearing (λ v. not (is_null v)) (filter (λ v. not (is_null v)) vs) (kept vs)
  where
    kept : (ws : List PlainValue) → list_all (λ v. not (is_null v)) (filter (λ v. not (is_null v)) ws) ≡ true
    kept [] = refl
    kept (w ∷ ws) = pick (is_null w) refl (kept ws)
      where
        pick : (b : Bool) → is_null w ≡ b → list_all (λ v. not (is_null v)) (filter (λ v. not (is_null v)) ws) ≡ true
            → list_all (λ v. not (is_null v)) (cond (not b) (w ∷ filter (λ v. not (is_null v)) ws) (filter (λ v. not (is_null v)) ws)) ≡ true
        pick true e rest = rest
        pick false e rest = and_from _ _ (ap not e) rest

pub firsts-within : (values seen : List PlainValue) (numbers : List ℕ) → map (row_at values) numbers ≡ appearing seen → list_all (λ row. nat_lt row (length values)) numbers ≡ true
firsts-within values seen numbers are = all-in-bounds values numbers (ap (list_all (λ v. not (is_null v))) are ∙ appearing-some seen)
