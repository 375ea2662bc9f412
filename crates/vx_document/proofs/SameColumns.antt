-- Nodes over other children of the same columns have the same column, and their constructors admit them.
use Rattle.std.proofs.Common.{◌≡◌, ◌∙◌, ◌<◌, ◌+◌, ◌*◌, ◌-◌, ◌++◌, ◌∷◌, [], append_assoc, drop, get_or, ℕ, List, length, map, Bool, true, None, Some, Option, Ok, Err, Result, refl, sym, ap}
use Rattle.std.specs.Prelude.{◌==◌, ◌&&◌, not, nat_le}
use Rattle.std.specs.List.{list_all, list_any}
use Rattle.std.proofs.lemmas.List.{length-map, map-append, drop_more}
use Rattle.std.proofs.lemmas.Bool.{eq-eqb}
use Rattle.vx_base.specs.Answers.{Makes, MakesSurely, OrMemory, unless}
use Rattle.vx_base.specs.declared.dtype.Nullability.{Nullability}
use Rattle.vx_base.specs.declared.error.Refused.{Refused}
use Rattle.vx_base.specs.declared.error.VortexError.{VortexError}
use Rattle.vx_base.specs.declared.error.VortexError.TheVariants.{MismatchedTypes, LengthMismatch, OutOfBounds, IndicesNotAscending}
use Rattle.vx_base.specs.PlainScalar.{PlainScalar, fits}
use Rattle.vx_base.specs.PlainType.{PlainType, is_nullable, is_flat, is_integer, is_bytes, same_type}
use Rattle.vx_base.specs.PlainType as types
use Rattle.vx_base.specs.PlainValue.{is_null, bytes, items}
use Rattle.vx_model.specs.Column.{Column, column, column_of}
use Rattle.vx_model.specs.Refusals.{kept, structure_refusal, validity_length, validity_allowed, texts_refusal, var_bin_refusal, masked_refusal, dict_refusal, list_refusal, fixed_size_list_refusal, patches_refusal, sparse_refusal}
use Rattle.vx_model.specs.Rows.{rows, valid_rows, masked_rows, looked_up, cut_at, list_value, parts_of, below, patched, field_rows, each_before}
use Rattle.vx_model.specs.Tree.{Tree, Validity, PlainPatches, list_of, patches, sparse_of, var_bin, masked, dict, structure, list, fixed_size_list}
use Rattle.vx_model.specs.Tree as trees
use Rattle.vx_model.specs.TreeType.{dict_type, field_types}
use Rattle.vx_model.specs.WellFormed.{WellFormed, IsValidityOf, all_have_rows, ascend, are_offsets, is_place}
use Rattle.vx_model.proofs.AdmittedLemmas.{kept-same, structure-admitted, list-admitted, fixed_size_list-admitted, patches-admitted, sparse-admitted}
use Rattle.vx_model.proofs.MadeLemmas.{has_length}
use Rattle.vx_model.proofs.SparseLemmas.{rows-sparse_of, type-sparse_of, parts-sparse_of}
use Rattle.vx_model.proofs.TreesLemmas.{list_of-of_list}
use Rattle.vx_model.proofs.VarBinLemmas.{length-cut_at}
use Rattle.vx_document.specs.Accepted.{IsAccepted}

-- ---- the answer of a constructor that admits its inputs

pub accepted : {I : Type 0} (refusal : Option VortexError) (made : Tree) (inputs : I) (r : Result Tree (Refused I)) (result : Result Tree VortexError) (c : Column)
    → refusal ≡ None → column_of made ≡ c → Makes refusal made inputs r → IsAccepted r result → OrMemory result (λ a. column_of a ≡ c)
accepted None made inputs (Ok a) result c e same h is = rw is (ap column_of h ∙ same)
accepted None made inputs (Err refused) result c e same h is = rw is h.0
accepted (Some x) made inputs r result c e same h is = absurd cc

-- and of one that allocates nothing
pub made_surely : {I : Type 0} (refusal : Option VortexError) (made x : PlainPatches) (inputs : I) (r : Result PlainPatches (Refused I)) → refusal ≡ None → MakesSurely refusal made inputs r → r ≡ Ok x → x ≡ made
made_surely None made x inputs r e h is = rw is at h
made_surely (Some y) made x inputs r e h is = absurd cc

pub refused_never : {I : Type 0} (refusal : Option VortexError) (made : PlainPatches) (inputs : I) (r : Result PlainPatches (Refused I)) (x : Refused I) → refusal ≡ None → MakesSurely refusal made inputs r → r ≡ Err x → ⊥
refused_never None made inputs r x e h is = rw is at h
refused_never (Some y) made inputs r x e h is = absurd cc

-- well-formed validity is allowed
allowed : (valid : Validity) (len : ℕ) (n : Nullability) → IsValidityOf valid len n → validity_allowed valid n ≡ true
allowed None len n h = refl
allowed (Some bits) len n h = rw h.1 refl

-- ---- the nodes

module _ (e o f p : Tree) (same : column_of f ≡ column_of e) (offsets : column_of p ≡ column_of o) (valid : Validity) (n : Nullability) (w : WellFormed (list e o valid n)) where
  pub list_admitted : list_refusal f p valid n ≡ None
  list_admitted =
      (λ i. unless (is_integer (offsets i).dtype && not (is_nullable (offsets i).dtype)) MismatchedTypes
      (unless (nat_le 1 (length (offsets i).values) && validity_length valid (length (offsets i).values - 1)) LengthMismatch
      (unless (are_offsets (length (same i).values) (offsets i).values) OutOfBounds
      (unless (validity_allowed valid n) MismatchedTypes None))))
      ∙ list-admitted e o valid n w

  pub list_same : column_of (list f p (kept valid) n) ≡ column_of (list e o valid n)
  list_same = λ i. column (types.list (same i).dtype n) (valid_rows (kept-same valid _ n w.2.validity i) (map list_value (cut_at (offsets i).values (same i).values)))

module _ (e f : Tree) (same : column_of f ≡ column_of e) (size len : ℕ) (valid : Validity) (n : Nullability) (w : WellFormed (fixed_size_list e size len valid n)) where
  pub fixed_admitted : fixed_size_list_refusal f size len valid n ≡ None
  fixed_admitted =
      (λ i. unless (length (same i).values == len * size && validity_length valid len) LengthMismatch (unless (validity_allowed valid n) MismatchedTypes None))
      ∙ fixed_size_list-admitted e size len valid n w

  pub fixed_same : column_of (fixed_size_list f size len (kept valid) n) ≡ column_of (fixed_size_list e size len valid n)
  fixed_same = λ i. column (types.fixed_size_list (same i).dtype size n) (valid_rows (kept-same valid len n w.1.validity i) (map list_value (parts_of size len (same i).values)))

module _ (e f : Tree) (same : column_of f ≡ column_of e) (mask : List Bool) (w : WellFormed (masked e mask)) where
  pub masked_admitted : masked_refusal f mask ≡ None
  masked_admitted =
      (λ i. unless (is_flat (same i).dtype && is_nullable (same i).dtype) MismatchedTypes
      (unless (length mask == length (same i).values) LengthMismatch (unless (not (list_any is_null (same i).values)) MismatchedTypes None)))
      ∙ (
      let own = w.1 in
      let flat = own.flat in
      let nullable = own.nullable in
      let lengths = eq-eqb _ _ own.lengths in
      let no_null = own.no_null in
      rw (flat, nullable, lengths, no_null) refl
      )

  pub masked_same : column_of (masked f mask) ≡ column_of (masked e mask)
  masked_same = λ i. column (same i).dtype (masked_rows mask (same i).values)

module _ (c v d u : Tree) (codes : column_of d ≡ column_of c) (values : column_of u ≡ column_of v) (w : WellFormed (dict c v)) where
  pub dict_admitted : dict_refusal d u ≡ None
  dict_admitted =
      (λ i. unless (is_integer (codes i).dtype && is_flat (values i).dtype) MismatchedTypes (unless (list_all (is_place (length (values i).values)) (codes i).values) OutOfBounds None))
      ∙ (
      let own = w.2 in
      let codes_type = own.codes_type in
      let values_type = own.values_type in
      let places = own.places in
      rw (codes_type, values_type, places) refl
      )

  pub dict_same : column_of (dict d u) ≡ column_of (dict c v)
  dict_same = λ i. column (dict_type (codes i).dtype (values i).dtype) (map (looked_up (values i).values) (codes i).values)

module _ (o p : Tree) (offsets : column_of p ≡ column_of o) (bs : List ℕ) (valid : Validity) (t : PlainType) (w : WellFormed (var_bin o bs valid t)) where
  keep : kept valid ≡ valid
  keep = kept-same valid _ _ w.1.values.validity

  own_admitted : var_bin_refusal o bs valid t ≡ None
  own_admitted =
      let own = w.1 in
      let typed = own.offsets_type in
      let not_null = own.not_null in
      let of_bytes = own.values.byte_type in
      let some = own.some in
      let count = length-cut_at (rows o) bs in
      let bits = ap (validity_length valid) (sym count) ∙ has_length valid _ _ own.values.validity in
      let ends = own.ends in
      let short = own.values.short in
      let allows = allowed valid _ _ own.values.validity in
      let fitting = ap (λ v. list_all (fits t) (valid_rows v (map bytes (cut_at (rows o) bs)))) keep ∙ w.2 in
      rw (typed, not_null, of_bytes, some, bits, ends, short, allows, fitting) refl

  pub var_bin_admitted : var_bin_refusal p bs valid t ≡ None
  var_bin_admitted =
      (λ i. unless (is_integer (offsets i).dtype && not (is_nullable (offsets i).dtype) && is_bytes t) MismatchedTypes
      (unless (nat_le 1 (length (offsets i).values) && validity_length valid (length (offsets i).values - 1)) LengthMismatch
      (unless (are_offsets (length bs) (offsets i).values) OutOfBounds (texts_refusal t (cut_at (offsets i).values bs) valid))))
      ∙ own_admitted

  pub var_bin_same : column_of (var_bin p bs (kept valid) t) ≡ column_of (var_bin o bs valid t)
  var_bin_same = λ i. column t (valid_rows (keep i) (map bytes (cut_at (offsets i).values bs)))

-- ---- structs

-- lists of trees with the same columns
types_same : (names : List (List ℕ)) (ts us : List Tree) → map column_of us ≡ map column_of ts → field_types names (trees.of_list us) ≡ field_types names (trees.of_list ts)
types_same [] ts us e = refl
types_same (name ∷ names) [] [] e = refl
types_same (name ∷ names) [] (u ∷ us) e = absurd cc
types_same (name ∷ names) (t ∷ ts) [] e = absurd cc
types_same (name ∷ names) (t ∷ ts) (u ∷ us) e =
    let first : column_of u ≡ column_of t = cc in
    let rest : map column_of us ≡ map column_of ts = cc in
    λ i. types.more name (first i).dtype (types_same names ts us rest i)

rows_same : (len : ℕ) (ts us : List Tree) → map column_of us ≡ map column_of ts → field_rows (trees.of_list us) len ≡ field_rows (trees.of_list ts) len
rows_same len [] [] e = refl
rows_same len [] (u ∷ us) e = absurd cc
rows_same len (t ∷ ts) [] e = absurd cc
rows_same len (t ∷ ts) (u ∷ us) e =
    let first : column_of u ≡ column_of t = cc in
    let rest : map column_of us ≡ map column_of ts = cc in
    λ i. each_before (first i).values (rows_same len ts us rest i)

lengths_same : (len : ℕ) (ts us : List Tree) → map column_of us ≡ map column_of ts → all_have_rows len (trees.of_list us) ≡ all_have_rows len (trees.of_list ts)
lengths_same len [] [] e = refl
lengths_same len [] (u ∷ us) e = absurd cc
lengths_same len (t ∷ ts) [] e = absurd cc
lengths_same len (t ∷ ts) (u ∷ us) e =
    let first : column_of u ≡ column_of t = cc in
    let rest : map column_of us ≡ map column_of ts = cc in
    λ i. (length (first i).values == len) && lengths_same len ts us rest i

as_many : (ts us : List Tree) → map column_of us ≡ map column_of ts → length (list_of (trees.of_list us)) ≡ length (list_of (trees.of_list ts))
as_many ts us e = ap length (list_of-of_list us) ∙ sym (length-map us column_of) ∙ ap length e ∙ length-map ts column_of ∙ sym (ap length (list_of-of_list ts))

module _ (names : List (List ℕ)) (ts us : List Tree) (same : map column_of us ≡ map column_of ts) (len : ℕ) (valid : Validity) (n : Nullability) (w : WellFormed (structure names (trees.of_list ts) len valid n)) where
  pub structure_admitted : structure_refusal names (trees.of_list us) len valid n ≡ None
  structure_admitted =
      (λ i. unless (length names == as_many ts us same i && (lengths_same len ts us same i && validity_length valid len)) LengthMismatch (unless (validity_allowed valid n) MismatchedTypes None))
      ∙ structure-admitted names (trees.of_list ts) len valid n w

  pub structure_same : column_of (structure names (trees.of_list us) len (kept valid) n) ≡ column_of (structure names (trees.of_list ts) len valid n)
  structure_same = λ i. column (types.structure (types_same names ts us same i) n) (valid_rows (kept-same valid len n w.1.validity i) (map items (rows_same len ts us same i)))

-- ---- a fill and patches

module _ (p : PlainPatches) (fill : PlainScalar) (is vs : Tree) (indices : column_of is ≡ column_of p.indices) (values : column_of vs ≡ column_of p.values) (w : WellFormed (sparse_of p fill)) where
  pub patches_admitted : patches_refusal (patches p.array_len p.offset is vs) ≡ None
  patches_admitted =
      (λ i. unless (is_integer (indices i).dtype && not (is_nullable (indices i).dtype)) MismatchedTypes
      (unless (length (indices i).values == length (values i).values) LengthMismatch
      (unless (ascend p.offset (p.offset + p.array_len) (indices i).values) IndicesNotAscending None)))
      ∙ patches-admitted p (parts-sparse_of p fill w).0

  pub sparse_admitted : sparse_refusal (patches p.array_len p.offset is vs) fill ≡ None
  sparse_admitted = (λ i. unless (same_type (values i).dtype fill.dtype) MismatchedTypes None) ∙ sparse-admitted p fill w

  pub sparse_same : column_of (sparse_of (patches p.array_len p.offset is vs) fill) ≡ column_of (sparse_of p fill)
  sparse_same =
      let here = patches p.array_len p.offset is vs in
      let read =
      rows-sparse_of here fill ∙ (λ i. below (λ k. patched (indices i).values (values i).values fill.value (p.offset + k)) p.array_len) ∙ sym (rows-sparse_of p fill) in
      λ i. column ((type-sparse_of here fill ∙ sym (type-sparse_of p fill)) i) (read i)

-- ---- one tree more of a list

pub columns_more : (xs : List Tree) (i : ℕ) (x t : Tree) (made more : List Tree) → i < length xs → x ≡ get_or xs i x → column_of t ≡ column_of x → more ≡ made ++ t ∷ []
    → map column_of more ++ map column_of (drop (i + 1) xs) ≡ map column_of made ++ map column_of (drop i xs)
columns_more xs i x t made more within read same longer =
    let rest = map column_of (drop (i + 1) xs) in
    ap (λ l. map column_of l ++ rest) longer
    ∙ ap (λ l. l ++ rest) (map-append column_of made (t ∷ []))
    ∙ append_assoc (map column_of made) (column_of t ∷ []) rest
    ∙ ap (λ u. map column_of made ++ u ∷ rest) same
    ∙ ap (λ l. map column_of made ++ map column_of l) (ap (λ y. y ∷ drop (i + 1) xs) read ∙ sym (drop_more xs i x within))
