use Rattle.std.proofs.Common.{◌≡◌, ◌∙◌, length, map, take, pos, ap, arith, ℤ, List}
use Rattle.std.proofs.lemmas.List.{length-take-le}
use Rattle.std.proofs.lemmas.List.FromFn.{length-map-range_with_len}
use Rattle.vx_base.specs.PlainValue.{int}
use Rattle.vx_base.specs.Undelta.{undelta, undelta_row}
use Rattle.vx_base.specs.declared.ptype.PType.{PType}
use Rattle.vx_model.specs.Decoded.{zeroed_by}
use Rattle.vx_model.specs.Refusals.{validity_length}
use Rattle.vx_values.specs.IntsOf.{ptype_of, wholes_of}
use Rattle.vx_values.specs.ValuesOf.{ints}
use Rattle.vx_flat.proofs.delta.decoded_delta.Goals as goal

long : (p : PType) (bs ds : List ℤ) → length (undelta p bs ds) ≡ length ds
long p bs ds = length-map-range_with_len (undelta_row p bs ds) 0 (length ds)

pub truncated-rows-requires : goal.truncated-rows-requires
truncated-rows-requires c =
    let made = ap length c.rows_from.ensures.wholes ∙ long (ptype_of c.args.bases.now) (wholes_of c.args.bases.now) (wholes_of c.args.deltas) in
    omega (arith, made, c.requires.enough)

pub behind-requires : goal.behind-requires
behind-requires c =
    let made = ap length c.rows_from.ensures.wholes ∙ long (ptype_of c.args.bases.now) (wholes_of c.args.bases.now) (wholes_of c.args.deltas) in
    let len = ap length c.truncated-rows.ensures.wholes ∙ length-take-le c.args.len (wholes_of c.rows_from.result) (omega (arith, made, c.requires.enough)) in
    (λ i. validity_length (c.in_ok-copy_validity.ensures i) (len i)) ∙ c.requires.bits

pub returns : goal.returns
returns c =
    let wholes = c.truncated-rows.ensures.wholes ∙ ap (take c.args.len) c.rows_from.ensures.wholes in
    let valid = c.in_ok-copy_validity.ensures in
    let h = c.behind.ensures in
    (h.0 ∙ ap ints (c.truncated-rows.ensures.ptype ∙ c.rows_from.ensures.ptype), h.1 ∙ (λ i. map int (zeroed_by (pos 0) (valid i) (wholes i))), h.2 ∙ valid)
