-- Rows that are filled by runs or by patches: the steps of the loops that fill them, and other items at the same places.
use Rattle.std.proofs.Common.{◌≡◌, ◌≢◌, inl, inr, ◌<◌, ◌≤◌, ◌+◌, ◌-◌, ◌^◌, ◌++◌, ◌∙◌, ℕ, zero, suc, ℤ, pos, negsuc, List, [], ◌∷◌, map, length, get_or, take, set, replicate, Option, Some, None, true, refl, sym, ap, subst, arith, add-one, ⊎_elim}
use Rattle.std.specs.Prelude.{unwrap_or}
use Rattle.std.specs.List.{list_all, range_with_len}
use Rattle.std.proofs.Math.ListN.{get_or-map}
use Rattle.std.proofs.lemmas.Bool.{cond-true, cond-false, lt-ltb, le-ltb, eqb-true, cases_lt, cases_eq}
use Rattle.std.proofs.lemmas.List.{get_or-map as get_or-map-within, take_all, get_or-replicate, get_or-take, get_or-set_same, get_or-set_other, length-map, length-replicate, length-set}
use Rattle.std.proofs.lemmas.List.FromFn.{fill_by_all, length-map-range_with_len, get_or-map-range_with_len}
use Rattle.std.proofs.lemmas.List.Quantifiers.{position-Some}
use Rattle.std.proofs.lemmas.Simd.{map-map}
use Rattle.vx_base.specs.declared.ptype.PType.{PType}
use Rattle.vx_base.specs.Integers.{bits_in}
use Rattle.vx_base.specs.PlainValue.{PlainValue, null, int}
use Rattle.vx_blocks.proofs.Ranges.{map-range_part}
use Rattle.vx_model.specs.Refusals.{kept}
use Rattle.vx_model.specs.Rows.{row_at, below, is_index, index_of, place_of, offset_at}
use Rattle.vx_model.specs.WellFormed.{ascend}
use Rattle.vx_model.proofs.PatchLemmas.{ascend_parts, place-found}
use Rattle.vx_model.proofs.RunEndLemmas.{EndsBefore, last_end, is_behind, ends-rise}
use Rattle.vx_values.specs.Placed.{placed, run_of_row, by_runs, patch_place, by_patches, validity_by_patches}

-- other items at the same places
pub map-placed : {A B : Type 0} (f : A → B) (place : ℕ → ℕ) (n : ℕ) (items : List A) (other : A) → map f (placed place n items other) ≡ placed place n (map f items) (f other)
map-placed f place n items other = map-map f (λ i. get_or items (place i) other) (range_with_len 0 n) ∙ (λ j. map (λ i. sym (get_or-map f items (place i) other) j) (range_with_len 0 n))

pub by_runs-is : {A : Type 0} (ends : List PlainValue) (items : List A) (other : A) → by_runs ends items other ≡ placed (run_of_row ends) (last_end ends) items other
unfolding by_runs
by_runs-is ends items other = refl

pub by_patches-is : {A : Type 0} (is : List PlainValue) (offset len : ℕ) (items : List A) (fill : A) → by_patches is offset len items fill ≡ placed (λ i. patch_place is (offset + i)) len items fill
unfolding by_patches
by_patches-is is offset len items fill = refl

-- what rows stand for, by what their items do
pub stand-by_runs : {A B : Type 0} (f : A → B) (ends : List PlainValue) (items rows : List A) (other : A) (value : B) → rows ≡ by_runs ends items other → f other ≡ value → map f rows ≡ by_runs ends (map f items) value
stand-by_runs f ends items rows other value is own =
    ap (map f) (is ∙ by_runs-is ends items other) ∙ map-placed f (run_of_row ends) (last_end ends) items other ∙ ap (placed (run_of_row ends) (last_end ends) (map f items)) own ∙ sym (by_runs-is ends (map f items) value)

pub stand-by_patches : {A B : Type 0} (f : A → B) (is : List PlainValue) (offset len : ℕ) (items rows : List A) (fill : A) (value : B) → rows ≡ by_patches is offset len items fill → f fill ≡ value → map f rows ≡ by_patches is offset len (map f items) value
stand-by_patches f is offset len items rows fill value same own =
    let place : ℕ → ℕ = λ i. patch_place is (offset + i) in
    ap (map f) (same ∙ by_patches-is is offset len items fill) ∙ map-placed f place len items fill ∙ ap (placed place len (map f items)) own ∙ sym (by_patches-is is offset len (map f items) value)

-- a valid fill and valid patches
all_true : (place : ℕ → ℕ) (start n count : ℕ) → list_all (λ bit. bit) (map (λ i. get_or (replicate count true) (place i) true) (range_with_len start n)) ≡ true
all_true place start zero count = refl
all_true place start (suc n) count = rw (each count (place start), all_true place (start + 1) n count) refl
  where
    each : (count k : ℕ) → get_or (replicate count true) k true ≡ true
    each zero k = refl
    each (suc count) zero = refl
    each (suc count) (suc k) = each count k

pub all_valid : (is : List PlainValue) (offset len : ℕ) → validity_by_patches is offset len None true ≡ None
all_valid is offset len =
    ap (λ bits. kept (Some bits)) (by_patches-is is offset len (replicate (length is) true) true) ∙ cond-true _ _ _ (all_true (λ i. patch_place is (offset + i)) 0 len (length is))

-- ---- numbers that ascend, of any integer type

-- a number as a natural one
pub ascending_whole : (low high : ℕ) (xs : List ℤ) (k : ℕ) → ascend low high (map int xs) ≡ true → k < length xs → get_or xs k (pos 0) ≡ pos (offset_at (map int xs) k)
ascending_whole low high [] k e l = absurd (omega arith)
ascending_whole low high (pos n ∷ xs) zero e l = refl
ascending_whole low high (pos n ∷ xs) (suc k) e l = ascending_whole (n + 1) high xs k (ascend_parts low high n (map int xs) e).2 (omega arith)
ascending_whole low high (negsuc n ∷ xs) k e l = absurd cc

-- the bits of an item are the number itself
pub ascending_bits : {T : Type 0} (whole : T → ℤ) (p : PType) (low high : ℕ) (items : List T) (i : ℕ) (x : T) → ascend low high (map int (map whole items)) ≡ true → i < length items → x ≡ get_or items i x → bits_in p (whole x) ≡ offset_at (map int (map whole items)) i
ascending_bits whole p low high items i x h l e =
    ap (bits_in p) (ap whole e ∙ sym (get_or-map-within whole items i x (pos 0) l) ∙ ascending_whole low high (map whole items) i h (omega (arith, length-map items whole)))

-- ---- rows by runs

run_of_row-place : (ends : List PlainValue) (i place : ℕ) → place < length ends → EndsBefore ends i place → i < offset_at ends place → run_of_row ends i ≡ place
run_of_row-place [] i place l b a = absurd (omega arith)
run_of_row-place (v ∷ ends) i zero l b a = cond-true _ _ _ (is_behind v i ∙ lt-ltb _ _ a)
run_of_row-place (v ∷ ends) i (suc place) l b a =
    cond-false _ _ _ (is_behind v i ∙ le-ltb _ _ (b 0 (omega arith))) ∙ ap suc (run_of_row-place ends i place (omega arith) (λ k m. b (suc k) (omega arith)) a)

module _ {A : Type 0} (ends : List PlainValue) (items : List A) (other : A) where
  -- the rows of the runs before this one are filled
  pub record AreFilled (rows : List A) (run : ℕ) : Type 0 where
    pub begin : 0 < run → length rows ≡ offset_at ends (run - 1)
    pub none : run ≡ 0 → length rows ≡ 0
    pub filled : rows ≡ placed (run_of_row ends) (length rows) items other

  pub filled-none : (rows : List A) → rows ≡ [] → AreFilled rows 0
  filled-none rows is = subst (λ r. AreFilled r 0) (sym is) (record { begin = λ some. absurd (omega arith); none = λ first. refl; filled = refl })

  -- there is room for the next run
  pub filled-room : (rows : List A) (run n : ℕ) → ascend 1 (2 ^ 64) ends ≡ true → run < length ends → n ≡ offset_at ends run → AreFilled rows run → length rows ≤ n
  filled-room rows run n e l end w = elim (cases_lt 0 run) [
    | inl some ↦ let rising = ends-rise 1 (2 ^ 64) ends (run - 1) run e (omega arith) l in let b = w.begin some in omega arith
    | inr first ↦ let b = w.none (omega arith) in omega arith
  ]

  -- a run more
  pub filled-more : (rows made : List A) (x : A) (run n len : ℕ) → ascend 1 (2 ^ 64) ends ≡ true → run < length ends → n ≡ offset_at ends run → len ≡ length rows → x ≡ get_or items run other → made ≡ rows ++ replicate (n - len) x → AreFilled rows run
      → AreFilled made (run + 1)
  filled-more rows made x run n len e l end long item is w =
      let place = run_of_row ends in
      let f = λ (i : ℕ). get_or items (place i) other in
      let room = filled-room rows run n e l end w in
      let count = n - length rows in
      let rest : n - len ≡ count = omega arith in
      let all : length rows + count ≡ n = omega arith in
      let there = λ (k : ℕ) (m : k < count). (
      let before : EndsBefore ends (length rows + k) run = λ (j : ℕ) (o : j < run). (let b = w.begin (omega arith) in elim (cases_lt j (run - 1)) [
        | inl less ↦ let rising = ends-rise 1 (2 ^ 64) ends j (run - 1) e less (omega arith) in omega arith
        | inr more ↦ let same : j ≡ run - 1 = omega arith in let here = ap (offset_at ends) same in omega arith
      ]) in
      get_or-replicate count k x other m ∙ item ∙ sym (ap (λ r. get_or items r other) (run_of_row-place ends (length rows + k) run l before (omega arith)))
      ) in
      let filled : made ≡ placed place n items other =
      is ∙ (λ i. w.filled i ++ replicate (rest i) x) ∙ map-range_part f other (length rows) count (replicate count x) (length-replicate count x) there ∙ ap (below f) all in
      let size : length made ≡ n = ap length filled ∙ length-map-range_with_len f 0 n in
      let here : offset_at ends run ≡ offset_at ends (run + 1 - 1) = (let same : run ≡ run + 1 - 1 = omega arith in ap (offset_at ends) same) in
      record {
        begin = λ some. size ∙ end ∙ here;
        none = λ first. absurd (omega arith);
        filled = filled ∙ sym (ap (below f) size);
      }

  -- a run more, by `resize`
  pub filled-resized : (rows made : List A) (x : A) (run n len : ℕ) → ascend 1 (2 ^ 64) ends ≡ true → run < length ends → n ≡ offset_at ends run → len ≡ length rows → x ≡ get_or items run other → made ≡ take n rows ++ replicate (n - len) x
      → AreFilled rows run → AreFilled made (run + 1)
  filled-resized rows made x run n len e l end long item is w =
      filled-more rows made x run n len e l end long item (is ∙ ap (λ xs. xs ++ replicate (n - len) x) (take_all n rows (filled-room rows run n e l end w))) w

  -- behind the last run all rows are filled
  pub filled-all : (rows : List A) (run : ℕ) → run ≡ length ends → AreFilled rows run → rows ≡ by_runs ends items other
  filled-all rows run e w = w.filled ∙ ap (λ n. placed (run_of_row ends) n items other) (all ends e w.begin w.none) ∙ sym (by_runs-is ends items other)
    where
      all : (vs : List PlainValue) → run ≡ length vs → (0 < run → length rows ≡ offset_at vs (run - 1)) → (run ≡ 0 → length rows ≡ 0) → length rows ≡ offset_at vs (length vs - 1)
      all [] same begin none = none same
      all (v ∷ vs) same begin none = let last : run - 1 ≡ length (v ∷ vs) - 1 = omega arith in begin (omega arith) ∙ ap (offset_at (v ∷ vs)) last

-- ---- rows by patches

-- an index as a natural number
ascending_index : (low high : ℕ) (is : List PlainValue) (k : ℕ) → ascend low high is ≡ true → k < length is → index_of (row_at is k) ≡ Some (offset_at is k)
ascending_index low high [] k e l = absurd (omega arith)
ascending_index low high (int (pos n) ∷ is) zero e l = refl
ascending_index low high (int (pos n) ∷ is) (suc k) e l = ascending_index (n + 1) high is k (ascend_parts low high n is e).2 (omega arith)
ascending_index low high (v ∷ is) k e l = absurd cc

own_index : (v : PlainValue) (n k : ℕ) → is_index v n ≡ true → index_of v ≡ Some k → n ≡ k
own_index (int (pos m)) n k e f = let same : m ≡ k = cc in sym (eqb-true m n e) ∙ same
own_index v n k e f = absurd cc

-- the place of a patch is that of its index alone
place_of-index : (low high : ℕ) (is : List PlainValue) (n k : ℕ) → ascend low high is ≡ true → k < length is → patch_place is n ≡ k → n ≡ offset_at is k
place_of-index low high is n k e l = pick (place_of is n) refl
  where
    pick : (o : Option ℕ) → place_of is n ≡ o → unwrap_or o (length is) ≡ k → n ≡ offset_at is k
    pick (Some j) f same =
        let p = position-Some (λ v. is_index v n) is j null f in
        own_index (row_at is k) n (offset_at is k) (ap (λ i. is_index (row_at is i) n) (sym same) ∙ p.1) (ascending_index low high is k e l)
    pick None f same = absurd (omega arith)

take_other : {A : Type 0} (items : List A) (k j : ℕ) (d : A) → j ≢ k → get_or (take (suc k) items) j d ≡ get_or (take k items) j d
take_other [] zero j d n = refl
take_other [] (suc k) j d n = refl
take_other (x ∷ items) zero zero d n = absurd (n refl)
take_other (x ∷ items) zero (suc j) d n = refl
take_other (x ∷ items) (suc k) zero d n = refl
take_other (x ∷ items) (suc k) (suc j) d n = take_other items k j d (λ e. n (ap suc e))

get_or-other : {A : Type 0} (items : List A) (k : ℕ) (d e : A) → k < length items → get_or items k d ≡ get_or items k e
get_or-other [] k d e l = absurd (omega arith)
get_or-other (x ∷ items) zero d e l = refl
get_or-other (x ∷ items) (suc k) d e l = get_or-other items k d e (omega arith)

module _ {A : Type 0} (is : List PlainValue) (offset len : ℕ) (items : List A) (fill : A) where
  -- the rows with the first k patches
  abbrev pub patched_to : ℕ → List A
  patched_to k = placed (λ i. patch_place is (offset + i)) len (take k items) fill

  filled_rows : (start n : ℕ) → replicate n fill ≡ map (λ i. fill) (range_with_len start n)
  filled_rows start zero = refl
  filled_rows start (suc n) = ap (λ xs. fill ∷ xs) (filled_rows (start + 1) n)

  pub patched-none : (rows : List A) → rows ≡ replicate len fill → rows ≡ patched_to 0
  patched-none rows e = e ∙ filled_rows 0 len

  -- an empty list made as long as there are rows
  pub patched-resized : (rows old : List A) (room : ℕ) → old ≡ [] → room ≡ 0 → rows ≡ take len old ++ replicate (len - room) fill → rows ≡ patched_to 0
  patched-resized rows old room none empty is =
      let all : len - room ≡ len = omega arith in
      patched-none rows (is ∙ (λ i. take len (none i) ++ replicate (all i) fill) ∙ ap (λ xs. xs ++ replicate len fill) (take_all len [] (omega arith)))

  pub patched-all : (rows : List A) (k : ℕ) → length items ≤ k → rows ≡ patched_to k → rows ≡ by_patches is offset len items fill
  patched-all rows k l e = e ∙ ap (λ xs. placed (λ i. patch_place is (offset + i)) len xs fill) (take_all k items l) ∙ sym (by_patches-is is offset len items fill)

  pub length-patched : (rows : List A) (k : ℕ) → rows ≡ patched_to k → length rows ≡ len
  length-patched rows k e = ap length e ∙ length-map-range_with_len _ 0 len

  -- a patch more
  pub patched-next : (rows : List A) (k row : ℕ) (x : A) → ascend offset (offset + len) is ≡ true → k < length is → offset + row ≡ offset_at is k → row < len → x ≡ get_or items k x → k < length items → rows ≡ patched_to k → set rows row x ≡ patched_to (k + 1)
  patched-next rows k row x e l at within item some same =
      ap (λ xs. set xs row x) same ∙ fill_by_all f (set (patched_to k) row x) len fill (length-set (patched_to k) row x ∙ long) each
    where
      f : ℕ → A
      f i = get_or (take (k + 1) items) (patch_place is (offset + i)) fill

      long : length (patched_to k) ≡ len
      long = length-map-range_with_len _ 0 len

      here : patch_place is (offset + row) ≡ k
      here = ap (λ o. unwrap_or o (length is)) (place-found offset (offset + len) is (offset + row) k e l (ascending_index offset (offset + len) is k e l ∙ ap Some (sym at)))

      value : x ≡ get_or (take (k + 1) items) k fill
      value = item ∙ get_or-other items k x fill some ∙ sym (get_or-take (k + 1) items k fill (omega arith))

      each : (i : ℕ) → i < len → get_or (set (patched_to k) row x) i fill ≡ f i
      each i m =
          ⊎_elim
          (λ s. subst (λ q. get_or (set (patched_to k) row x) q fill ≡ f q) (sym s) (get_or-set_same (patched_to k) row x fill (omega (arith, long)) ∙ value ∙ ap (λ p. get_or (take (k + 1) items) p fill) (sym here)))
          (λ s. get_or-set_other (patched_to k) row i x fill s ∙ get_or-map-range_with_len _ 0 len i i fill m (omega arith) ∙ sym (ap (λ n. get_or (take n items) (patch_place is (offset + i)) fill) (add-one k)
          ∙ take_other items k (patch_place is (offset + i)) fill (λ p. s (let own = place_of-index offset (offset + len) is (offset + i) k e l p in omega arith))))
          (cases_eq i row)
