-- Nodes of well-formed trees are admitted by their constructors, which keep their validity.
use Rattle.std.proofs.Common.{◌≡◌, ◌∙◌, ◌*◌, ℕ, ℤ, ap, sym, length, true, List, None, Some, refl}
use Rattle.std.specs.Prelude.{◌==◌}
use Rattle.std.proofs.lemmas.Bool.{eq-eqb}
use Rattle.vx_base.specs.declared.dtype.Nullability.{Nullability}
use Rattle.vx_base.specs.declared.ptype.PType.{PType}
use Rattle.vx_base.specs.PlainScalar.{PlainScalar}
use Rattle.vx_base.specs.PlainType.{is_integer, is_nullable, integer_of, stored_type}
use Rattle.vx_base.specs.PlainType as types
use Rattle.vx_base.specs.Timestamps.{PlainTimestamp}
use Rattle.vx_base.specs.Storable.{same_refl}
use Rattle.vx_model.specs.Refusals.{validity_allowed, kept, structure_refusal, list_refusal, fixed_size_list_refusal, patches_refusal, chunked_refusal, sparse_refusal, run_end_refusal, rle_refusal, sequence_refusal, delta_refusal, datetime_parts_refusal, for_v2_refusal}
use Rattle.vx_model.specs.Tree.{Tree, Trees, Validity, PlainPatches, sparse_of, structure, list, fixed_size_list, run_end, rle, sequence, delta, datetime_parts, frame_of_reference_v2}
use Rattle.vx_model.specs.WellFormed.{WellFormed, WellFormedPatches, IsValidityOf, differences_type}
use Rattle.vx_model.specs.TreeType.{tree_type}
use Rattle.vx_model.specs.Rows.{rows, block_rows}
use Rattle.vx_model.proofs.MadeLemmas.{has_length}
use Rattle.vx_model.proofs.SparseLemmas.{parts-sparse_of}

-- ---- validity that is well formed

pub kept-same : (valid : Validity) (len : ℕ) (n : Nullability) → IsValidityOf valid len n → kept valid ≡ valid
kept-same None len n h = refl
kept-same (Some bits) len n h = rw h.2 refl

allowed-same : (valid : Validity) (len : ℕ) (n : Nullability) → IsValidityOf valid len n → validity_allowed valid n ≡ true
allowed-same None len n h = refl
allowed-same (Some bits) len n h = rw h.1 refl

-- ---- the nodes

pub structure-admitted : (names : List (List ℕ)) (fields : Trees) (len : ℕ) (valid : Validity) (n : Nullability) → WellFormed (structure names fields len valid n) → structure_refusal names fields len valid n ≡ None
structure-admitted names fields len valid n w =
    let own = w.1 in
    let named = eq-eqb _ _ own.named in
    let bits = has_length valid len n own.validity in
    let allowed = allowed-same valid len n own.validity in
    let rows = own.lengths in
    rw (named, rows, bits, allowed) refl

pub list-admitted : (elements offsets : Tree) (valid : Validity) (n : Nullability) → WellFormed (list elements offsets valid n) → list_refusal elements offsets valid n ≡ None
list-admitted elements offsets valid n w =
    let own = w.2 in
    let typed = own.offsets_type in
    let not_null = own.not_null in
    let some = own.some in
    let ends = own.ends in
    let bits = has_length valid _ n own.validity in
    let allowed = allowed-same valid _ n own.validity in
    rw (typed, not_null, some, bits, ends, allowed) refl

pub fixed_size_list-admitted : (elements : Tree) (size len : ℕ) (valid : Validity) (n : Nullability) → WellFormed (fixed_size_list elements size len valid n) → fixed_size_list_refusal elements size len valid n ≡ None
fixed_size_list-admitted elements size len valid n w =
    let own = w.1 in
    let lengths = eq-eqb _ _ own.lengths in
    let bits = has_length valid len n own.validity in
    let allowed = allowed-same valid len n own.validity in
    rw (lengths, bits, allowed) refl

-- ---- patches, and the nodes whose rows stand for others

pub patches-admitted : (p : PlainPatches) → WellFormedPatches p → patches_refusal p ≡ None
patches-admitted p w =
    let own = w.2 in
    let typed = own.indices_type in
    let not_null = own.not_null in
    let lengths = eq-eqb _ _ own.lengths in
    let ascending = own.ascending in
    rw (typed, not_null, lengths, ascending) refl

pub chunked-admitted : (p : PlainPatches) (chunks : Tree) → WellFormedPatches (record p { chunks = Some chunks }) → chunked_refusal p chunks ≡ None
chunked-admitted p chunks w =
    let own = w.2 in
    let beside = w.3.1 in
    let typed = own.indices_type in
    let not_null = own.not_null in
    let chunks_typed = beside.chunks_type in
    let lengths = eq-eqb _ _ own.lengths in
    let chunks_lengths = eq-eqb _ _ beside.lengths in
    let ascending = own.ascending in
    let counted = beside.counted in
    rw (typed, not_null, chunks_typed, lengths, chunks_lengths, ascending, counted) refl

pub sparse-admitted : (p : PlainPatches) (fill : PlainScalar) → WellFormed (sparse_of p fill) → sparse_refusal p fill ≡ None
sparse-admitted p fill w = rw (same_refl stored_type (tree_type p.values) fill.dtype (parts-sparse_of p fill w).1.values_type) refl

-- ---- parts of timestamps, integers packed in blocks, and frames of reference

pub datetime_parts-admitted : (k : PlainTimestamp) (n : Nullability) (days seconds subseconds : Tree) → WellFormed (datetime_parts k n days seconds subseconds) → datetime_parts_refusal k n days seconds subseconds ≡ None
datetime_parts-admitted k n days seconds subseconds w =
    let own = w.3 in
    let typed = same_refl stored_type (tree_type days) (types.primitive (integer_of (tree_type days)) n) own.days_type in
    let of_seconds = own.seconds_type in
    let of_subseconds = own.subseconds_type in
    let seconds_length = eq-eqb _ _ own.seconds_length in
    let subseconds_length = eq-eqb _ _ own.subseconds_length in
    let canonical = own.canonical in
    rw (typed, of_seconds, of_subseconds, seconds_length, subseconds_length, canonical) refl

pub for_v2-admitted : (encoded references : Tree) → WellFormed (frame_of_reference_v2 encoded references) → for_v2_refusal encoded references ≡ None
for_v2-admitted encoded references w =
    let own = w.2 in
    let of_references = own.references_type in
    let typed = same_refl stored_type (tree_type encoded) (differences_type (tree_type references) (tree_type encoded)) own.encoded_type in
    let lengths = eq-eqb _ _ own.lengths in
    rw (of_references, typed, lengths) refl

pub run_end-admitted : (ends values : Tree) → WellFormed (run_end ends values) → run_end_refusal ends values ≡ None
run_end-admitted ends values w =
    let own = w.2 in
    let of_ends = own.ends_type in
    let not_null = own.not_null in
    let of_values = own.values_type in
    let lengths = eq-eqb _ _ own.lengths in
    let rising = own.rising in
    rw (of_ends, not_null, of_values, lengths, rising) refl

pub rle-admitted : (values indices offsets : Tree) (len : ℕ) → WellFormed (rle values indices offsets len) → rle_refusal values indices offsets len ≡ None
rle-admitted values indices offsets len w =
    let own = w.3 in
    let of_values = own.values_type in
    let of_indices = own.indices_type in
    let of_offsets = own.offsets_type in
    let indices_not_null = own.indices_not_null in
    let offsets_not_null = own.offsets_not_null in
    let indices_length = eq-eqb _ _ own.indices_length in
    let offsets_length = eq-eqb _ _ own.offsets_length in
    let places = own.places in
    rw (of_values, of_indices, indices_not_null, of_offsets, offsets_not_null, indices_length, offsets_length, places) refl

pub sequence-admitted : (p : PType) (n : Nullability) (first step : ℤ) (len : ℕ) → WellFormed (sequence p n first step len) → sequence_refusal p first step len ≡ None
sequence-admitted p n first step len w =
    let own = w.0 in
    let step_held = own.step_held in
    let rows_held = own.rows_held in
    rw (step_held, rows_held) refl

pub delta-admitted : (bases deltas : Tree) (len : ℕ) (valid : Validity) (n : Nullability) → WellFormed (delta bases deltas len valid n) → delta_refusal bases deltas len valid n ≡ None
delta-admitted bases deltas len valid n w =
    let own = w.2 in
    let integers = ap is_integer own.bases_type in
    let not_null = ap is_nullable own.bases_type in
    let typed = same_refl stored_type (tree_type deltas) (tree_type bases) own.deltas_type in
    let bases_length = eq-eqb _ _ own.bases_length in
    let deltas_length : (length (rows deltas) == block_rows * length (rows bases)) ≡ true = eq-eqb _ _ (own.deltas_length ∙ ap (λ k. block_rows * k) (sym own.bases_length)) in
    let bits = has_length valid len n own.validity in
    let allowed = allowed-same valid len n own.validity in
    rw (integers, not_null, typed, deltas_length, bases_length, bits, allowed) refl
