-- Blocks of runs: their rows, and that a constructor's tree is well formed.
use Rattle.std.proofs.Common.{◌≡◌, ◌<◌, ◌*◌, ◌/◌, ◌∙◌, ℕ, ℤ, pos, List, length, ap, sym, arith, true, None}
use Rattle.std.specs.Prelude.{◌+ℤ◌}
use Rattle.std.specs.List.{list_all}
use Rattle.std.proofs.lemmas.Bool.{and_parts, eqb-true, not-true}
use Rattle.vx_base.specs.Packed.{block_count}
use Rattle.vx_base.specs.PlainScalar.{fits}
use Rattle.vx_base.specs.PlainValue.{PlainValue, int, whole_or_zero}
use Rattle.vx_model.specs.Refusals.{rle_refusal}
use Rattle.vx_model.specs.Rows.{rows, row_at, below, looked_up, block_rows, rle_place}
use Rattle.vx_model.specs.Tree.{Tree, rle}
use Rattle.vx_model.specs.TreeType.{tree_type}
use Rattle.vx_model.specs.WellFormed.{WellFormed, is_place}
use Rattle.vx_model.proofs.DictLemmas.{IsCode, code_is}
use Rattle.vx_model.proofs.FrameOfReferenceLemmas.{row_passes}
use Rattle.vx_model.proofs.MadeLemmas.{rows_fit}
use Rattle.vx_model.proofs.PackedLemmas.{length-below, row_at-below, below-passes, passed}
use Rattle.vx_model.proofs.RunEndLemmas.{IsRowOf, row_of-passes}

module _ (values indices offsets : Tree) (len : ℕ) where
  abbrev row_of : ℕ → PlainValue
  row_of i = looked_up (rows values) (rle_place (rows offsets) (rows indices) i)

  pub length-rle : length (rows (rle values indices offsets len)) ≡ len
  length-rle = length-below row_of len

  pub row_at-rle : (i : ℕ) → i < len → row_at (rows (rle values indices offsets len)) i ≡ looked_up (rows values) (rle_place (rows offsets) (rows indices) i)
  row_at-rle i l = row_at-below row_of len i l

pub ruleset rle_reads = (length-rle, row_at-rle)

-- ---- each row is a row of the values

-- where all indices are in bounds, each is
place_at : (vs os is : List PlainValue) (len i : ℕ) → list_all (is_place (length vs)) (below (rle_place os is) len) ≡ true → i < len → is_place (length vs) (rle_place os is i) ≡ true
place_at vs os is len i h l =
    let within : i < length (below (rle_place os is) len) = rw (length-below (rle_place os is) len) l in
    ap (is_place (length vs)) (sym (row_at-below (rle_place os is) len i l)) ∙ row_passes (is_place (length vs)) (below (rle_place os is) len) i within h

found : (vs : List PlainValue) (z : ℤ) → IsCode vs z → IsRowOf vs (looked_up vs (int z))
found vs z c = record { place = c.place; within = c.within; is = ap (λ y. looked_up vs (int y)) c.is }

-- a row of any values of which the indices are in bounds
pub rle-some : (vs os is : List PlainValue) (len i : ℕ) → list_all (is_place (length vs)) (below (rle_place os is) len) ≡ true → i < len → IsRowOf vs (looked_up vs (rle_place os is i))
rle-some vs os is len i h l = found vs _ (code_is vs _ (place_at vs os is len i h l))

-- ---- a constructor's tree is well formed, where nothing is refused

pub rle_accepted : (values indices offsets : Tree) (len : ℕ) → rle_refusal values indices offsets len ≡ None → WellFormed values → WellFormed indices → WellFormed offsets → WellFormed (rle values indices offsets len)
rle_accepted values indices offsets len h v w u =
    let typed = passed _ _ _ h in
    let lengths = passed _ _ _ typed.1 in
    let places = passed _ _ _ lengths.1 in
    let of_values = and_parts _ _ typed.0 in
    let others = and_parts _ _ of_values.1 in
    let of_indices = and_parts _ _ others.0 in
    let of_offsets = and_parts _ _ others.1 in
    let both = and_parts _ _ lengths.0 in (
      v,
      w,
      u,
      record {
        values_type = of_values.0;
        indices_type = of_indices.0;
        offsets_type = of_offsets.0;
        indices_not_null = not-true _ of_indices.1;
        offsets_not_null = not-true _ of_offsets.1;
        indices_length = eqb-true (length (rows indices)) (block_rows * block_count len) both.0;
        offsets_length = eqb-true (length (rows offsets)) (block_count len) both.1;
        places = places.0;
      },
      below-passes (fits (tree_type values)) (row_of values indices offsets len) len
          (λ i l. row_of-passes (fits (tree_type values)) (rows values) (row_of values indices offsets len i) (rle-some (rows values) (rows offsets) (rows indices) len i places.0 l) (rows_fit values v)),
    )

-- ---- the indices of a node

-- the block of a row is in bounds
pub block-within : (len i : ℕ) → i < len → (i / block_rows < block_count len) × (i < block_rows * block_count len)
block-within len i l = (omega arith, omega arith)

module _ (values indices offsets : Tree) (len i : ℕ) (h : WellFormed (rle values indices offsets len)) (l : i < len) where
  -- the offset of its block and its own index are in bounds
  pub rle-within : (i / block_rows < length (rows offsets)) × (i < length (rows indices))
  rle-within =
      let both = block-within len i l in
      let offset = h.3.offsets_length in
      let index = h.3.indices_length in
      (omega (arith, both.0), omega (arith, both.1))

  -- their sum is in bounds of the values
  pub rle-code : IsCode (rows values) (whole_or_zero (row_at (rows offsets) (i / block_rows)) +ℤ whole_or_zero (row_at (rows indices) i))
  rle-code = code_is (rows values) _ (place_at (rows values) (rows offsets) (rows indices) len i h.3.places l)

  -- and the row is that value
  pub row_at-rle_place : (place : ℕ) → whole_or_zero (row_at (rows offsets) (i / block_rows)) +ℤ whole_or_zero (row_at (rows indices) i) ≡ pos place
      → (place < length (rows values)) × (row_at (rows (rle values indices offsets len)) i ≡ row_at (rows values) place)
  row_at-rle_place place e =
      let c = rle-code in
      let own = c.is in
      let same : c.place ≡ place = let both : pos c.place ≡ pos place = sym own ∙ e in cc in
      (let within = c.within in omega arith, row_at-rle values indices offsets len i l ∙ ap (λ y. looked_up (rows values) (int y)) e)
