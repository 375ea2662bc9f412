use Rattle.std.proofs.Common.{◌∙◌, refl}
use Rattle.std.proofs.lemmas.Result.{MatchResult-weaker}
use Rattle.vx_array.proofs.Decodings.{lent_integers}
use Rattle.vx_array.proofs.RunRows.{block_places-rows}
use Rattle.vx_array.proofs.node.rle_rows.decoded_have_places.Goals as goal

pub returns : goal.returns
returns c =
    let numbers = c.in_ok-numbers in
    let begins = c.in_ok-begins in
    let xs = c.as_ints.result.now in
    let ys = c.as_ints-2.result.now in
    let is = lent_integers _ c.args.indices.now numbers.numbers xs numbers.field-0-1 refl c.as_ints.ensures numbers.ensures in
    let os = lent_integers _ c.args.offsets.now begins.begins ys begins.field-0-1 refl c.as_ints-2.ensures begins.ensures in
    MatchResult-weaker c.sums_are_places.result c.sums_are_places.ensures
    (λ held same. same ∙ block_places-rows c.args.values c.args.len c.args.indices.now c.args.offsets.now xs ys numbers.field-0-1 begins.field-0-1 is os) (λ e n. n)
