use Rattle.std.proofs.Common.{◌∙◌, pos, ap, length, map}
use Rattle.std.proofs.lemmas.List.FromFn.{length-map-range_with_len}
use Rattle.vx_base.specs.Packed.{packed_row}
use Rattle.vx_base.specs.PlainValue.{int}
use Rattle.vx_base.specs.ZigZag.{unzigzag}
use Rattle.vx_model.specs.Decoded.{zeroed_by}
use Rattle.vx_model.specs.Refusals.{validity_length}
use Rattle.vx_model.specs.Rows.{below}
use Rattle.vx_values.specs.ValuesOf.{ints}
use Rattle.vx_flat.proofs.zig_zag.decoded_zig_zag_words.Goals as goal

pub unzigzagged_words-requires-clause-sized : goal.unzigzagged_words-requires-clause-sized
unzigzagged_words-requires-clause-sized c = ap length c.as_slice.ensures ∙ c.requires.sized

pub behind-requires : goal.behind-requires
behind-requires c =
    let len = ap length c.in_ok-values.ensures.1 ∙ length-map-range_with_len _ 0 c.args.len in
    (λ i. validity_length (c.in_ok-copy_validity.ensures i) (len i)) ∙ c.requires.bits

pub returns : goal.returns
returns c =
    let made = c.in_ok-values.ensures in
    let wholes = made.1 ∙ ap (λ bytes. below (λ i. unzigzag (packed_row bytes c.args.width i)) c.args.len) c.as_slice.ensures in
    let valid = c.in_ok-copy_validity.ensures in
    let h = c.behind.ensures in
    (h.0 ∙ ap ints made.0, h.1 ∙ (λ i. map int (zeroed_by (pos 0) (valid i) (wholes i))), h.2 ∙ valid)
