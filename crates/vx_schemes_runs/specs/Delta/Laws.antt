-- Bases and differences of a column's rows are columns, few and small, and their sums give the rows back.
use Rattle.std.proofs.Common.{◌≡◌, ◌<◌, ◌+◌, ◌*◌, ◌%◌, ◌∙◌, ℕ, zero, suc, ℤ, pos, Bool, true, false, cond, List, [], ◌∷◌, length, map, get_or, Option, None, Some, refl, sym, ap, subst, arith}
use Rattle.std.specs.Prelude.{◌==◌, nat_le, ◌||◌, ◌&&◌, not, All}
use Rattle.std.specs.List.{list_all, list_any, range_with_len}
use Rattle.std.proofs.lemmas.Bool.{and_from, and_parts, or_parts, cond_both, eq-eqb}
use Rattle.std.proofs.lemmas.List.{length-map, ext_get_or}
use Rattle.std.proofs.lemmas.List.Elements.{All-from_recursion, All-from_get_or, recursion_from_All}
use Rattle.std.proofs.lemmas.List.FromFn.{length-map-range_with_len, get_or-map-range_with_len}
use Rattle.vx_base.specs.declared.error.VortexError.TheVariants.{MismatchedTypes, LengthMismatch}
use Rattle.vx_base.specs.declared.ptype.PType.{PType}
use Rattle.vx_base.specs.declared.dtype.Nullability.{Nullability}
use Rattle.vx_base.specs.declared.dtype.Nullability.TheVariants.{NonNullable}
use Rattle.vx_base.specs.Answers.{unless}
use Rattle.vx_base.specs.Integers.{lies_in}
use Rattle.vx_base.specs.IntegersIn.{integer_in}
use Rattle.vx_base.specs.Packed.{block_count}
use Rattle.vx_base.specs.PlainScalar.{fits}
use Rattle.vx_base.specs.PlainType.{is_integer, integer_of, nullability_of, same_type, stored_type}
use Rattle.vx_base.specs.PlainType as types
use Rattle.vx_base.specs.PlainValue.{PlainValue, null, int, cell, is_null, whole_or_zero}
use Rattle.vx_base.specs.Storable.{same_refl}
use Rattle.vx_base.specs.Undelta.{undelta, undelta_row}
use Rattle.vx_base.proofs.FitLemmas.{lies_in-zero}
use Rattle.vx_base.proofs.IntegerLemmas.{by_integer, by_cells}
use Rattle.vx_base.proofs.WrapLemmas.{wrap-held}
use Rattle.vx_blocks.specs.Deltas.{filled_after, filled, bases, delta, deltas}
use Rattle.vx_blocks.specs.Optional.{optional_rows}
use Rattle.vx_blocks.proofs.DeltaRows.{length-filled_after}
use Rattle.vx_blocks.proofs.DeltasBack.{gives_back_deltas}
use Rattle.vx_model.specs.Column.{Column, IsColumn, column, column_of}
use Rattle.vx_model.specs.Plain.{validity, valid_bits}
use Rattle.vx_model.specs.Refusals.{delta_refusal, validity_length, validity_allowed}
use Rattle.vx_model.specs.Rows.{rows, valid_rows, is_valid_at, summed_up, block_rows}
use Rattle.vx_model.specs.Tree as trees
use Rattle.vx_model.specs.Tree.{Tree}
use Rattle.vx_model.specs.TreeType.{tree_type}
use Rattle.vx_model.specs.WellFormed.{WellFormed, is_whole_type}
use Rattle.vx_model.proofs.DecodeLemmas.{wholes-map-int, kept-validity, items_admitted, length-valid_bits}
use Rattle.vx_model.proofs.DeltaLemmas.{delta_accepted, length-delta, row_at-delta}
use Rattle.vx_model.proofs.MadeLemmas.{ints_fit}
use Rattle.vx_model.proofs.PackedLemmas.{passed}
use Rattle.vx_model.proofs.PlainLemmas.{rows-plain_of, wholes_lie_in}
use Rattle.vx_model.proofs.RowLemmas.{row_at-cells}
use Rattle.vx_scheme.specs.Lawful.{IsPart}
use Rattle.vx_schemes_common.specs.Pairs.{pair_of}
use Rattle.vx_schemes_common.specs.StandsFor.{StandsFor}
use Rattle.vx_schemes_runs.specs.Delta.Tree.{delta_bases, delta_differences, delta_or_plain}

-- ---- the filled rows

-- by whole numbers and truth values
pub optional-integers : (p : PType) (n : Nullability) (vs : List PlainValue) → list_all (fits (types.primitive p n)) vs ≡ true → optional_rows (map whole_or_zero vs) (valid_bits vs) ≡ map integer_in vs
optional-integers p n = by_cells p n (λ ws. optional_rows (map whole_or_zero ws) (valid_bits ws) ≡ map integer_in ws) (λ os f. of_cells os)
  where
    of_cells : (os : List (Option ℤ)) → optional_rows (map whole_or_zero (map cell os)) (valid_bits (map cell os)) ≡ map integer_in (map cell os)
    of_cells [] = refl
    of_cells (None ∷ os) = ap (λ rest. None ∷ rest) (of_cells os)
    of_cells (Some z ∷ os) = ap (λ rest. Some z ∷ rest) (of_cells os)

filled-held : (p : PType) (n : Nullability) (vs : List PlainValue) (last : ℤ) → list_all (fits (types.primitive p n)) vs ≡ true → lies_in p last ≡ true → list_all (lies_in p) (filled_after last (map integer_in vs)) ≡ true
filled-held p n [] last h k = refl
filled-held p n (null ∷ vs) last h k = and_from _ _ k (filled-held p n vs last (and_parts (fits (types.primitive p n) null) _ h).1 k)
filled-held p n (int z ∷ vs) last h k = let b = and_parts (lies_in p z) _ h in and_from _ _ b.0 (filled-held p n vs z b.1 b.0)
filled-held p n (v ∷ vs) last h k = absurd cc

pub length-filled : (vs : List PlainValue) → length (filled (map integer_in vs)) ≡ length vs
length-filled vs = length-filled_after (pos 0) (map integer_in vs) ∙ length-map vs integer_in

-- ---- bases and differences are of the type

held_at : (p : PType) (zs : List ℤ) (i : ℕ) → list_all (lies_in p) zs ≡ true → lies_in p (get_or zs i (pos 0)) ≡ true
held_at p [] i h = lies_in-zero p
held_at p (z ∷ zs) zero h = (and_parts (lies_in p z) (list_all (lies_in p) zs) h).0
held_at p (z ∷ zs) (suc i) h = held_at p zs i (and_parts (lies_in p z) (list_all (lies_in p) zs) h).1

all-made : (q : ℤ → Bool) (f : ℕ → ℤ) (a n : ℕ) → ((i : ℕ) → q (f i) ≡ true) → list_all q (map f (range_with_len a n)) ≡ true
all-made q f a zero h = refl
all-made q f a (suc n) h = and_from _ _ (h a) (all-made q f (a + 1) n h)

pub deltas-held : (p : PType) (zs : List ℤ) → list_all (lies_in p) (deltas p zs) ≡ true
deltas-held p zs = all-made (lies_in p) (delta p zs) 0 (1024 * block_count (length zs)) each
  where
    each : (i : ℕ) → lies_in p (delta p zs i) ≡ true
    each i = cond_both ((i % 1024 == 0) || nat_le (length zs) i) (pos 0) _ (λ z. lies_in p z ≡ true) (λ e. lies_in-zero p) (λ e. wrap-held p _)

pub bases-held : (p : PType) (zs : List ℤ) → list_all (lies_in p) zs ≡ true → list_all (lies_in p) (bases zs) ≡ true
bases-held p zs h = all-made (lies_in p) (λ block. get_or zs (1024 * block) (pos 0)) 0 (block_count (length zs)) (λ block. held_at p zs (1024 * block) h)

pub length-bases : (zs : List ℤ) → length (bases zs) ≡ block_count (length zs)
length-bases zs = length-map-range_with_len (λ block. get_or zs (1024 * block) (pos 0)) 0 (block_count (length zs))

pub length-deltas : (p : PType) (zs : List ℤ) → length (deltas p zs) ≡ 1024 * block_count (length zs)
length-deltas p zs = length-map-range_with_len (delta p zs) 0 (1024 * block_count (length zs))

-- ---- validity, row by row

bits_set : (vs : List PlainValue) (i : ℕ) → i < length vs → list_any is_null vs ≡ false → get_or (valid_bits vs) i false ≡ true
bits_set [] i l e = absurd (omega arith)
bits_set (v ∷ vs) zero l e = ap not (or_parts (is_null v) (list_any is_null vs) e).0
bits_set (v ∷ vs) (suc i) l e = bits_set vs i (omega arith) (or_parts (is_null v) (list_any is_null vs) e).1

set_at : (vs : List PlainValue) (i : ℕ) → i < length vs → is_valid_at (validity vs) i ≡ true → get_or (valid_bits vs) i false ≡ true
set_at vs i l v = by_null (list_any is_null vs) refl v
  where
    by_null : (b : Bool) → list_any is_null vs ≡ b → is_valid_at (cond b (Some (valid_bits vs)) None) i ≡ true → get_or (valid_bits vs) i false ≡ true
    by_null true some set = set
    by_null false none set = bits_set vs i l none

-- ---- the sums

module _ (p : PType) (n : Nullability) (vs : List PlainValue) (h : list_all (fits (types.primitive p n)) vs ≡ true) where
  abbrev numbers : List ℤ
  numbers = filled (map integer_in vs)

  abbrev wholes : List ℤ
  wholes = map whole_or_zero vs

  abbrev of_type : Column
  of_type = column (types.primitive p n) vs

  pub numbers-held : list_all (lies_in p) numbers ≡ true
  numbers-held = filled-held p n vs (pos 0) h (lies_in-zero p)

  summed-back : (i : ℕ) → i < length vs → is_valid_at (validity vs) i ≡ true → undelta_row p (bases numbers) (deltas p numbers) i ≡ get_or wholes i (pos 0)
  summed-back i l set =
      let long : length wholes ≡ length vs = length-map vs whole_or_zero in
      let same : length (valid_bits vs) ≡ length wholes = length-valid_bits vs ∙ sym long in
      let held : All (λ z. lies_in p z ≡ true) wholes = All-from_get_or (λ z. lies_in p z ≡ true) wholes (pos 0) (λ k below. held_at p wholes k (wholes_lie_in p n vs h)) in
      let back = gives_back_deltas p wholes (valid_bits vs) same held i (omega (arith, long, l)) (set_at vs i l set) in
      let moved = subst (λ os. get_or (undelta p (bases (filled os)) (deltas p (filled os))) i (pos 0) ≡ get_or wholes i (pos 0)) (optional-integers p n vs h) back in
      sym (get_or-map-range_with_len (undelta_row p (bases numbers) (deltas p numbers)) 0 (length (deltas p numbers)) i i (pos 0) (omega (arith, length-deltas p numbers, length-filled vs, l)) (omega arith)) ∙ moved

  -- the validity is admitted
  admitted-validity : (validity_length (validity vs) (length vs) ≡ true) × (validity_allowed (validity vs) n ≡ true)
  admitted-validity =
      let checked = passed _ _ _ (items_admitted whole_or_zero (types.primitive p n) vs h) in
      (subst (λ k. validity_length (validity vs) k ≡ true) (length-map vs whole_or_zero) checked.0, (passed _ _ _ checked.1).0)

  module _ (firsts steps : Tree) (b : column_of firsts ≡ delta_bases of_type) (d : column_of steps ≡ delta_differences of_type) where
    firsts-typed : tree_type firsts ≡ types.primitive p NonNullable
    firsts-typed = ap (λ c. c.dtype) b

    steps-typed : tree_type steps ≡ types.primitive p NonNullable
    steps-typed = ap (λ c. c.dtype) d

    firsts-rows : rows firsts ≡ map int (bases numbers)
    firsts-rows = ap (λ c. c.values) b

    steps-rows : rows steps ≡ map int (deltas p numbers)
    steps-rows = ap (λ c. c.values) d

    pub typed-admitted : delta_refusal firsts steps (length vs) (validity vs) n ≡ None
    typed-admitted =
        let alike = (λ i. is_whole_type (firsts-typed i) && same_type (steps-typed i) (firsts-typed i)) ∙ same_refl stored_type (types.primitive p NonNullable) (types.primitive p NonNullable) refl in
        let blocks : block_count (length numbers) ≡ block_count (length vs) = ap block_count (length-filled vs) in
        let few : length (rows firsts) ≡ block_count (length vs) = ap length firsts-rows ∙ length-map (bases numbers) int ∙ length-bases numbers ∙ blocks in
        let all : length (rows steps) ≡ block_rows * length (rows firsts) = ap length steps-rows ∙ length-map (deltas p numbers) int ∙ length-deltas p numbers ∙ ap (λ k. 1024 * k) (blocks ∙ sym few) in
        let lengths = and_from _ _ (eq-eqb _ _ few) (and_from _ _ (eq-eqb _ _ all) admitted-validity.0) in
        λ i. unless (alike i) MismatchedTypes (unless (lengths i) LengthMismatch (unless (admitted-validity.1 i) MismatchedTypes None))

    abbrev joined : Tree
    joined = trees.delta firsts steps (length vs) (validity vs) n

    joined-well : WellFormed firsts → WellFormed steps → WellFormed joined
    joined-well w u = subst (λ valid. WellFormed (trees.delta firsts steps (length vs) valid n)) (kept-validity vs) (delta_accepted firsts steps (length vs) (validity vs) n typed-admitted w u)

    sum-is : (i : ℕ) → i < length vs → (valid : Bool) → is_valid_at (validity vs) i ≡ valid → cond valid (summed_up (integer_of (tree_type firsts)) (rows firsts) (rows steps) i) null ≡ cond valid (int (get_or wholes i (pos 0))) null
    sum-is i l false set = refl
    sum-is i l true set =
        let bs : map whole_or_zero (rows firsts) ≡ bases numbers = ap (map whole_or_zero) firsts-rows ∙ wholes-map-int (bases numbers) in
        let ds : map whole_or_zero (rows steps) ≡ deltas p numbers = ap (map whole_or_zero) steps-rows ∙ wholes-map-int (deltas p numbers) in
        ap int ((λ k. undelta_row (integer_of (firsts-typed k)) (bs k) (ds k) i) ∙ summed-back i l set)

    joined-rows : WellFormed joined → rows joined ≡ vs
    joined-rows w =
        let long = length-delta firsts steps (length vs) (validity vs) n w in
        let back = rows-plain_of (types.primitive p n) vs h in
        let bits = subst (λ k. validity_length (validity vs) k ≡ true) (sym (length-map vs whole_or_zero)) admitted-validity.0 in
        ext_get_or null (rows joined) (valid_rows (validity vs) (map int wholes)) (long ∙ sym (ap length back))
        (λ i l.
        let within : i < length vs = omega (arith, long, l) in
        row_at-delta firsts steps (length vs) (validity vs) n w i within ∙ sum-is i within (is_valid_at (validity vs) i) refl
        ∙ sym (row_at-cells (validity vs) wholes i bits (omega (arith, within, length-map vs whole_or_zero))))
        ∙ back

    typed-stands : WellFormed firsts → WellFormed steps → StandsFor joined of_type
    typed-stands w u = let well = joined-well w u in (well, λ i. column (types.primitive (integer_of (firsts-typed i)) n) (joined-rows well i))

-- ---- of any column of integers

pub delta-small : (c : Column) → is_integer c.dtype ≡ true → IsColumn c → All (IsPart c) (delta_bases c ∷ delta_differences c ∷ [])
delta-small c j h =
    by_integer (λ t. list_all (fits t) c.values ≡ true → All (IsPart (column t c.values)) (delta_bases (column t c.values) ∷ delta_differences (column t c.values) ∷ [])) of_type c.dtype j h
  where
    of_type : (p : PType) (n : Nullability) → list_all (fits (types.primitive p n)) c.values ≡ true
        → All (IsPart (column (types.primitive p n) c.values)) (delta_bases (column (types.primitive p n) c.values) ∷ delta_differences (column (types.primitive p n) c.values) ∷ [])
    of_type p n k =
        let zs = filled (map integer_in c.values) in
        let own = column (types.primitive p n) c.values in
        let firsts : IsPart own (delta_bases own) = record { column = ints_fit p NonNullable (bases zs) (bases-held p zs (numbers-held p n c.values k)); leaf = refl; rows = omega (arith, length-map (bases zs) int, length-bases zs, length-filled c.values) } in
        let steps : IsPart own (delta_differences own) = record { column = ints_fit p NonNullable (deltas p zs) (deltas-held p zs); leaf = refl; rows = omega (arith, length-map (deltas p zs) int, length-deltas p zs, length-filled c.values) } in
        All-from_recursion (IsPart own) (delta_bases own ∷ delta_differences own ∷ []) (firsts, (steps, tt))

pub delta-admitted : (c : Column) (firsts steps : Tree) → is_integer c.dtype ≡ true → IsColumn c → column_of firsts ≡ delta_bases c → column_of steps ≡ delta_differences c
    → delta_refusal firsts steps (length c.values) (validity c.values) (nullability_of c.dtype) ≡ None
delta-admitted c firsts steps j h b d =
    by_integer (λ t. list_all (fits t) c.values ≡ true → column_of firsts ≡ delta_bases (column t c.values) → column_of steps ≡ delta_differences (column t c.values) → delta_refusal firsts steps (length c.values) (validity c.values) (nullability_of t) ≡ None)
    (λ p n k. typed-admitted p n c.values k firsts steps) c.dtype j h b d

pub delta-stands : (c : Column) (firsts steps : Tree) → is_integer c.dtype ≡ true → IsColumn c → WellFormed firsts → WellFormed steps → column_of firsts ≡ delta_bases c → column_of steps ≡ delta_differences c
    → StandsFor (trees.delta firsts steps (length c.values) (validity c.values) (nullability_of c.dtype)) c
delta-stands c firsts steps j h w u b d =
    by_integer (λ t. list_all (fits t) c.values ≡ true → column_of firsts ≡ delta_bases (column t c.values) → column_of steps ≡ delta_differences (column t c.values) → StandsFor (trees.delta firsts steps (length c.values) (validity c.values) (nullability_of t)) (column t c.values))
    (λ p n k first second. typed-stands p n c.values k firsts steps first second w u) c.dtype j h b d

-- the trees of the parts, joined
pub delta-joined : (c : Column) (trees : List Tree) → is_integer c.dtype ≡ true → IsColumn c → All WellFormed trees → map column_of trees ≡ delta_bases c ∷ delta_differences c ∷ [] → StandsFor (delta_or_plain c (pair_of trees)) c
delta-joined c [] j h well fit = absurd cc
delta-joined c (firsts ∷ []) j h well fit = absurd cc
delta-joined c (firsts ∷ steps ∷ []) j h well fit =
    let each = recursion_from_All WellFormed (firsts ∷ steps ∷ []) well in
    let b : column_of firsts ≡ delta_bases c = cc in
    let d : column_of steps ≡ delta_differences c = cc in
    delta-stands c firsts steps j h each.0 each.1.0 b d
delta-joined c (firsts ∷ steps ∷ tree ∷ trees) j h well fit = absurd cc
