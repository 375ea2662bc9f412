-- Differences: their rows, and that a constructor's tree is well formed.
use Rattle.std.proofs.Common.{◌≡◌, ◌<◌, ◌+◌, ◌*◌, ◌∙◌, ℕ, zero, suc, map, length, refl, ap, true, false, cond, None}
use Rattle.std.specs.Prelude.{is_some}
use Rattle.std.specs.List.{list_any, range_with_len}
use Rattle.std.proofs.lemmas.Bool.{and_parts, eqb-true}
use Rattle.vx_base.specs.Packed.{block_count}
use Rattle.vx_base.specs.declared.dtype.Nullability.{Nullability}
use Rattle.vx_base.specs.declared.dtype.Nullability.TheVariants.{NonNullable}
use Rattle.vx_base.specs.PlainScalar.{fits}
use Rattle.vx_base.specs.PlainType.{PlainType, integer_of, stored_type}
use Rattle.vx_base.specs.PlainType as types
use Rattle.vx_base.specs.PlainValue.{PlainValue, null, is_null}
use Rattle.vx_base.specs.Storable.{same_path}
use Rattle.vx_base.proofs.WrapLemmas.{wrap-held}
use Rattle.vx_model.specs.Plain.{validity}
use Rattle.vx_model.specs.Refusals.{kept, delta_refusal}
use Rattle.vx_model.specs.Rows.{rows, row_at, is_valid_at, below, summed_up, block_rows}
use Rattle.vx_model.specs.Tree.{Tree, Validity, delta}
use Rattle.vx_model.specs.TreeType.{tree_type}
use Rattle.vx_model.specs.WellFormed.{WellFormed, IsValidityOf, is_whole_type}
use Rattle.vx_model.proofs.DecodeLemmas.{any_null-valid_rows, validity-valid_rows}
use Rattle.vx_model.proofs.MadeLemmas.{kept_validity, valid_fit}
use Rattle.vx_model.proofs.PackedLemmas.{length-valid_below, bits_of_below, row_at-valid_below, below-passes, passed}

-- the sums of a node's rows
abbrev pub sums_of : Tree → Tree → ℕ → PlainValue
sums_of bases deltas = summed_up (integer_of (tree_type bases)) (rows bases) (rows deltas)

module _ (bases deltas : Tree) (len : ℕ) (valid : Validity) (n : Nullability) (h : WellFormed (delta bases deltas len valid n)) where
  pub length-delta : length (rows (delta bases deltas len valid n)) ≡ len
  length-delta = length-valid_below valid (sums_of bases deltas) len n h.2.validity

  pub row_at-delta : (i : ℕ) → i < len → row_at (rows (delta bases deltas len valid n)) i ≡ cond (is_valid_at valid i) (summed_up (integer_of (tree_type bases)) (rows bases) (rows deltas) i) null
  row_at-delta i l = row_at-valid_below valid (sums_of bases deltas) len n i h.2.validity l

  bits : IsValidityOf valid (length (below (sums_of bases deltas) len)) n
  bits = bits_of_below valid (sums_of bases deltas) len n h.2.validity

  no_null : (start count : ℕ) → list_any is_null (map (sums_of bases deltas) (range_with_len start count)) ≡ false
  no_null start zero = refl
  no_null start (suc count) = no_null (start + 1) count

  pub any_null-delta : list_any is_null (rows (delta bases deltas len valid n)) ≡ is_some valid
  any_null-delta = any_null-valid_rows valid (below (sums_of bases deltas) len) n bits (no_null 0 len)

  pub validity-delta : validity (rows (delta bases deltas len valid n)) ≡ valid
  validity-delta = validity-valid_rows valid (below (sums_of bases deltas) len) n bits (no_null 0 len)

pub ruleset delta_reads = (length-delta, row_at-delta)

-- ---- a constructor's tree is well formed, where nothing is refused

-- a type of integers without nulls
pub whole_type : (t : PlainType) → is_whole_type t ≡ true → t ≡ types.primitive (integer_of t) NonNullable
whole_type (types.primitive p NonNullable) h = refl
whole_type t h = absurd cc

pub delta_accepted : (bases deltas : Tree) (len : ℕ) (valid : Validity) (n : Nullability) → delta_refusal bases deltas len valid n ≡ None → WellFormed bases → WellFormed deltas → WellFormed (delta bases deltas len (kept valid) n)
delta_accepted bases deltas len valid n h w u =
    let typed = passed _ _ _ h in
    let lengths = passed _ _ _ typed.1 in
    let allowed = passed _ _ _ lengths.1 in
    let own = and_parts _ _ typed.0 in
    let both = and_parts _ _ lengths.0 in
    let rest = and_parts _ _ both.1 in
    let of_bases = eqb-true (length (rows bases)) (block_count len) both.0 in
    let of_deltas = eqb-true (length (rows deltas)) (block_rows * length (rows bases)) rest.0 in
    let bits = kept_validity valid len n rest.1 allowed.0 in
    let p = integer_of (tree_type bases) in (
      w,
      u,
      record {
        bases_type = whole_type (tree_type bases) own.0;
        deltas_type = same_path stored_type _ _ own.1;
        bases_length = of_bases;
        deltas_length = of_deltas ∙ ap (λ k. block_rows * k) of_bases;
        validity = bits;
      },
      valid_fit (kept valid) (types.primitive p n) len (below (sums_of bases deltas) len) bits (below-passes (fits (types.primitive p n)) (sums_of bases deltas) len (λ i l. wrap-held p _)),
    )
