use Rattle.std.proofs.Common.{◌≡◌, ◌∙◌, true, length, map, replicate, sym, ap, rules, subst}
use Rattle.std.specs.Prelude.{nat_lt, unwrap_or}
use Rattle.std.specs.List.{list_all}
use Rattle.std.proofs.lemmas.List.{length-map}
use Rattle.vx_base.specs.Packed.{packed_number, packed_size}
use Rattle.vx_base.proofs.BytesLemmas.{bytes_in-is}
use Rattle.vx_values.specs.Differences.{packed_differences}
use Rattle.vx_values.proofs.DifferenceRows as rows
use Rattle.vx_values.proofs.DifferenceRows.{packed-is}
use Rattle.vx_values.proofs.ints.difference_blocks.packed.Goals as goal

pub returns : goal.returns
returns g c =
    let items = c.args.items.now in
    let whole = g.T.Integer.whole in
    let width = c.args.width in
    let same = length-map items whole in
    let all = unwrap_or c.args.valid.now (replicate (length (map whole items)) true) in
    let long : length all ≡ length items = ap (λ k. length (unwrap_or c.args.valid.now (replicate k true))) same ∙ rows.bits-long c.args.valid.now (length items) c.requires.same in
    let of = rows.rows whole g.T.Integer.kind (whole c.in-Some.reference) width items all in
    let reference : whole c.in-Some.reference ≡ c.args.reference = search rules in
    let known = subst (λ l. list_all (λ byte. nat_lt byte 256) l ≡ true) c.as_slice.ensures.value c.known_bytes.ensures in
    let size = c.in_ok-packed.ensures.size ∙ ap (packed_size width) (rows.rows-length whole g.T.Integer.kind (whole c.in-Some.reference) width items all long ∙ sym same) in
    c.from_vec.ensures ∙ bytes_in-is c.in_ok-packed.packed.items (packed_size width (length (map whole items))) (packed_number width of) known size c.in_ok-packed.ensures.number
    ∙ packed-is g.T.Integer.kind (whole c.in-Some.reference) (map whole items) c.args.valid.now width ∙ ap (λ z. packed_differences g.T.Integer.kind z (map whole items) c.args.valid.now width) reference
