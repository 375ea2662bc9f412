use Rattle.std.proofs.Common.{◌∙◌, length, ap}
use Rattle.std.proofs.lemmas.List.FromFn.{length-map-range_with_len}
use Rattle.vx_model.specs.Refusals.{validity_length}
use Rattle.vx_flat.proofs.datetime_parts.decoded_parts.Goals as goal

pub behind-requires : goal.behind-requires
behind-requires c = ap (validity_length c.args.valid) (ap length c.in_ok-sums.ensures.1 ∙ length-map-range_with_len _ 0 _) ∙ c.requires.bits
