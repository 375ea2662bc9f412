-- Differences from the reference of a block: their rows, and that a constructor's tree is well formed.
use Rattle.std.proofs.Common.{◌≡◌, ◌<◌, ◌/◌, ℕ, ℤ, pos, ◌+ℤ◌, List, length, map, ap, true, None}
use Rattle.std.specs.List.{list_any}
use Rattle.std.proofs.lemmas.Bool.{and_parts, eqb-true}
use Rattle.vx_base.specs.declared.ptype.PType.{PType}
use Rattle.vx_base.specs.Integers.{lies_in}
use Rattle.vx_base.specs.PlainScalar.{fits}
use Rattle.vx_base.specs.PlainType.{PlainType, is_integer, integer_of, nullability_of, stored_type}
use Rattle.vx_base.specs.PlainType as types
use Rattle.vx_base.specs.PlainValue.{PlainValue, null, int, is_null, whole_or_zero}
use Rattle.vx_base.specs.Storable.{same_path}
use Rattle.vx_base.specs.Wrapping.{wrap}
use Rattle.vx_base.proofs.WrapLemmas.{wrap-held}
use Rattle.vx_model.specs.Decoded.{zeroed_by}
use Rattle.vx_model.specs.Plain.{validity}
use Rattle.vx_model.specs.Refusals.{for_v2_refusal}
use Rattle.vx_model.specs.Rows.{rows, row_at, below, each_int, block_rows, moved_in_block}
use Rattle.vx_model.specs.Tree.{Tree, frame_of_reference_v2}
use Rattle.vx_model.specs.TreeType.{tree_type}
use Rattle.vx_model.specs.WellFormed.{WellFormed}
use Rattle.vx_model.proofs.FrameOfReferenceLemmas.{row_fits}
use Rattle.vx_model.proofs.NumberedLemmas.{length-each_row, row_at-each_row, any_null-each_row, validity-each_row, wholes-each_row}
use Rattle.vx_model.proofs.PackedLemmas.{below-passes, passed}

-- a difference of row i plus the reference of its block, wrapped
abbrev pub moved_whole : PType → List PlainValue → ℕ → ℤ → ℤ
moved_whole p references i z = wrap p (whole_or_zero (row_at references (i / block_rows)) +ℤ z)

module _ (encoded references : Tree) where
  abbrev own : ℕ → ℤ → ℤ
  own = moved_whole (integer_of (tree_type references)) (rows references)

  pub length-frame_of_reference_v2 : length (rows (frame_of_reference_v2 encoded references)) ≡ length (rows encoded)
  length-frame_of_reference_v2 = length-each_row own (rows encoded)

  pub row_at-frame_of_reference_v2 : (i : ℕ) → i < length (rows encoded) → row_at (rows (frame_of_reference_v2 encoded references)) i ≡ moved_in_block (integer_of (tree_type references)) (rows references) (rows encoded) i
  row_at-frame_of_reference_v2 i l = row_at-each_row own (rows encoded) i l

  pub any_null-frame_of_reference_v2 : list_any is_null (rows (frame_of_reference_v2 encoded references)) ≡ list_any is_null (rows encoded)
  any_null-frame_of_reference_v2 = any_null-each_row own (rows encoded)

  pub validity-frame_of_reference_v2 : validity (rows (frame_of_reference_v2 encoded references)) ≡ validity (rows encoded)
  validity-frame_of_reference_v2 = validity-each_row own (rows encoded)

  pub wholes-frame_of_reference_v2 : map whole_or_zero (rows (frame_of_reference_v2 encoded references))
      ≡ zeroed_by (pos 0) (validity (rows encoded)) (below (λ i. moved_whole (integer_of (tree_type references)) (rows references) i (whole_or_zero (row_at (rows encoded) i))) (length (rows encoded)))
  wholes-frame_of_reference_v2 = wholes-each_row own (rows encoded)

pub ruleset frame_of_reference_v2_reads = (length-frame_of_reference_v2, row_at-frame_of_reference_v2)

-- a difference that is null, or one of the integers of its nullability
moved_fits : (q : PType) (t : PlainType) (f : ℤ → ℤ) (v : PlainValue) → is_integer t ≡ true → fits t v ≡ true → ((z : ℤ) → lies_in q (f z) ≡ true) → fits (types.primitive q (nullability_of t)) (each_int f v) ≡ true
moved_fits q (types.primitive p n) f null e h held = h
moved_fits q (types.primitive p n) f (int z) e h held = held z
moved_fits q (types.primitive p n) f v e h held = absurd cc
moved_fits q t f v e h held = absurd cc

pub for_v2_accepted : (encoded references : Tree) → for_v2_refusal encoded references ≡ None → WellFormed encoded → WellFormed references → WellFormed (frame_of_reference_v2 encoded references)
for_v2_accepted encoded references h w u =
    let typed = passed _ _ _ h in
    let lengths = passed _ _ _ typed.1 in
    let both = and_parts _ _ typed.0 in
    let p = integer_of (tree_type references) in
    let encoded_type = same_path stored_type _ _ both.1 in (
      w,
      u,
      record { references_type = both.0; encoded_type = encoded_type; lengths = eqb-true _ _ lengths.0 },
      below-passes (fits (types.primitive p (nullability_of (tree_type encoded)))) (moved_in_block p (rows references) (rows encoded)) (length (rows encoded)) (λ i l.
          moved_fits p (tree_type encoded) (moved_whole p (rows references) i) (row_at (rows encoded) i) (ap is_integer encoded_type) (row_fits encoded i w l) (λ z. wrap-held p _)),
    )
