use Rattle.std.proofs.Common.{◌∙◌, ap, subst}
use Rattle.vx_base.specs.Answers.{Answers}
use Rattle.vx_base.specs.PlainValue.{bytes, int, truth}
use Rattle.vx_base.proofs.FitLemmas.{lies_in-zero}
use Rattle.vx_model.specs.Refusals.{validity_length}
use Rattle.vx_pieces.specs.Pieces.{are_pieces}
use Rattle.vx_values.specs.ValuesOf.{values_of}
use Rattle.vx_array.proofs.PiecedFlat.{bits_long, bool_pieced, ints_pieced, views_pieced, within_items}
use Rattle.vx_array.proofs.array.ArrayRef.decoded_pieces.Goals as goal

pub pieced_validity-requires : goal.pieced_validity-requires
pieced_validity-requires c =
    let d = c.in_ok-values.field-0 in
    record {
      pieces = ap (λ len. are_pieces len c.args.pieces.now) c.len.ensures ∙ c.requires.pieces;
      bits = ap (validity_length d.valid) c.len.ensures ∙ bits_long c.args.self.now c.known.ensures c.requires.flat c.args.pieces.now c.requires.pieces d c.in_ok-values.ensures;
    }

pub pieced_bits-requires : goal.pieced_bits-requires
pieced_bits-requires c = within_items _ c.known.ensures c.requires.flat c.args.pieces.now c.requires.pieces _ c.in_ok-values.ensures truth _ (ap values_of c.in-Bits.is)

pub bool_of-requires : goal.bool_of-requires
bool_of-requires c = (bool_pieced _ c.known.ensures c.requires.flat c.args.pieces.now c.requires.pieces _ c.in_ok-values.ensures _ c.dtype-dtype.ensures _ c.len.ensures _ c.is_nullable.ensures _ c.in_ok-valid.ensures _ _ _ c.in-Bits.is c.in_ok-truths-in-Bits.ensures c.nullability.ensures).admitted

pub returns-in-Bits : goal.returns-in-Bits
returns-in-Bits c = c.bool_of.ensures ∙ (bool_pieced _ c.known.ensures c.requires.flat c.args.pieces.now c.requires.pieces _ c.in_ok-values.ensures _ c.dtype-dtype.ensures _ c.len.ensures _ c.is_nullable.ensures _ c.in_ok-valid.ensures _ _ _ c.in-Bits.is c.in_ok-truths-in-Bits.ensures c.nullability.ensures).made

pub pieced_ints-requires : goal.pieced_ints-requires
pieced_ints-requires c =
    record {
      pieces = within_items _ c.known.ensures c.requires.flat c.args.pieces.now c.requires.pieces _ c.in_ok-values.ensures int _ (ap values_of c.in-Ints.is);
      filling = lies_in-zero _;
    }

pub typed_integers-requires : goal.typed_integers-requires
typed_integers-requires c =
    let is = ints_pieced _ c.known.ensures c.requires.flat c.args.pieces.now c.requires.pieces _ c.in_ok-values.ensures _ c.dtype-dtype.ensures _ c.len.ensures _ c.is_nullable.ensures _ c.in_ok-valid.ensures _ _ c.in-Ints.is c.in_ok-wholes-in-Ints.ensures.0 c.in_ok-wholes-in-Ints.ensures.1 in
    record { admitted = is.admitted; stamped = is.stamped }

pub returns-in-Ints : goal.returns-in-Ints
returns-in-Ints c =
    let is = ints_pieced _ c.known.ensures c.requires.flat c.args.pieces.now c.requires.pieces _ c.in_ok-values.ensures _ c.dtype-dtype.ensures _ c.len.ensures _ c.is_nullable.ensures _ c.in_ok-valid.ensures _ _ c.in-Ints.is c.in_ok-wholes-in-Ints.ensures.0 c.in_ok-wholes-in-Ints.ensures.1 in
    subst (λ tree. Answers c.typed_integers.result tree) is.made c.typed_integers.ensures

pub pieced_bytes-requires : goal.pieced_bytes-requires
pieced_bytes-requires c = within_items _ c.known.ensures c.requires.flat c.args.pieces.now c.requires.pieces _ c.in_ok-values.ensures bytes _ (ap values_of c.in-Bytes.is)

pub var_bin_view_of-requires : goal.var_bin_view_of-requires
var_bin_view_of-requires c = (views_pieced _ c.known.ensures c.requires.flat c.args.pieces.now c.requires.pieces _ c.in_ok-values.ensures _ c.dtype-dtype.ensures _ c.len.ensures _ c.is_nullable.ensures _ c.in_ok-valid.ensures _ _ _ c.in-Bytes.is c.in_ok-texts-in-Bytes.ensures c.in_ok-copy-in-Bytes.ensures).admitted

pub returns : goal.returns
returns c = c.var_bin_view_of.ensures ∙ (views_pieced _ c.known.ensures c.requires.flat c.args.pieces.now c.requires.pieces _ c.in_ok-values.ensures _ c.dtype-dtype.ensures _ c.len.ensures _ c.is_nullable.ensures _ c.in_ok-valid.ensures _ _ _ c.in-Bytes.is c.in_ok-texts-in-Bytes.ensures c.in_ok-copy-in-Bytes.ensures).made
