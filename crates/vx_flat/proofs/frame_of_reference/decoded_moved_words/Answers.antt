use Rattle.std.proofs.Common.{◌∙◌, pos, ap, length, map}
use Rattle.std.proofs.lemmas.List.FromFn.{length-map-range_with_len}
use Rattle.vx_base.specs.PlainValue.{int}
use Rattle.vx_model.specs.Decoded.{zeroed_by}
use Rattle.vx_model.specs.Refusals.{validity_length}
use Rattle.vx_values.specs.ValuesOf.{ints}
use Rattle.vx_flat.proofs.frame_of_reference.decoded_moved_words.Goals as goal

pub behind-requires : goal.behind-requires
behind-requires c =
    let len = ap length c.in_ok-values.ensures.1 ∙ length-map-range_with_len _ 0 c.args.len in
    (λ i. validity_length (c.in_ok-copy_validity.ensures i) (len i)) ∙ c.requires.bits

pub returns : goal.returns
returns c =
    let made = c.in_ok-values.ensures in
    let valid = c.in_ok-copy_validity.ensures in
    let h = c.behind.ensures in
    (h.0 ∙ ap ints made.0, h.1 ∙ (λ i. map int (zeroed_by (pos 0) (valid i) (made.1 i))), h.2 ∙ valid)
