use Rattle.std.proofs.Common.{rules, ◌<◌, ◌+◌, ◌^◌, ◌∙◌, ap, length, map, refl}
use Rattle.std.specs.List.{list_all}
use Rattle.std.proofs.lemmas.Result.{MatchResult-weaker}
use Rattle.vx_base.specs.PlainValue.{int}
use Rattle.vx_model.specs.Rows.{rows}
use Rattle.vx_model.specs.WellFormed.{lies_between}
use Rattle.vx_model.proofs.OffsetLemmas.{all_between}
use Rattle.vx_values.specs.IntsOf.{wholes_of}
use Rattle.vx_array.specs.Lent.{lent}
use Rattle.vx_array.proofs.Decodings.{wholes-rows}
use Rattle.vx_array.proofs.PiecedLists.{words_lie}
use Rattle.vx_array.proofs.nested.made.offset_words.Goals as goal

pub in_unsigned-requires : goal.in_unsigned-requires
in_unsigned-requires c =
    let offsets = c.args.offsets.now in
    let len = length (rows c.args.elements.now) in
    let got = c.in_ok-ints in
    let few : len < 2 ^ 64 = search rules in
    let wholes = ap (λ xs. map int (wholes_of xs)) c.as_ints.ensures ∙ wholes-rows offsets (lent got.ints) got.field-0-1 c.known.ensures c.requires.integers c.requires.not_null got.ensures in
    record { unsigned = refl; held = words_lie len (wholes_of c.as_ints.result.now) few (ap (list_all (lies_between 0 (len + 1))) wholes ∙ all_between len (rows offsets) c.requires.ends) }

pub returns : goal.returns
returns c =
    let offsets = c.args.offsets.now in
    let got = c.in_ok-ints in
    let wholes = ap (λ xs. map int (wholes_of xs)) c.as_ints.ensures ∙ wholes-rows offsets (lent got.ints) got.field-0-1 c.known.ensures c.requires.integers c.requires.not_null got.ensures in
    MatchResult-weaker c.in_unsigned.result c.in_unsigned.ensures (λ words h. (h.0, ap (map int) h.1 ∙ wholes)) (λ e n. n)
