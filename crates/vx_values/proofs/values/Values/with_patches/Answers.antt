use Rattle.std.proofs.Common.{◌∙◌, map, ap, sym, FitsSigned, rules}
use Rattle.std.specs.Int.{w128}
use Rattle.std.proofs.lemmas.Int.{to_z-of_z}
use Rattle.vx_base.specs.Defaults.{default_of, or_default}
use Rattle.vx_base.specs.PlainValue.{truth, int, bytes, truth_or_false, whole_or_zero, bytes_or_empty}
use Rattle.vx_values.specs.IntsOf.{wholes_of}
use Rattle.vx_values.specs.Placed.{by_patches}
use Rattle.vx_values.specs.ValuesOf.{ints, kind_in, values_of}
use Rattle.vx_values.proofs.Fills.{fill-truth, fill-int, fill-bytes}
use Rattle.vx_values.proofs.Placed.{stand-by_patches}
use Rattle.vx_values.proofs.values.Values.with_patches.Goals as goal

pub returns-in_ok-rows-in-Bits : goal.returns-in_ok-rows-in-Bits
returns-in_ok-rows-in-Bits c =
    let is = map int (wholes_of c.args.indices.now) in
    let fill = c.args.fill.now in
    let value = or_default (default_of fill.dtype) fill.value in
    let kind = ap kind_in c.in-Bits.is in
    let item = ap truth (c.truth.ensures ∙ ap truth_or_false c.cell-cell.ensures) ∙ fill-truth fill.dtype fill.value c.requires.flat c.known.ensures (sym kind ∙ c.requires.kind) in (
      sym kind,
      stand-by_patches truth is c.args.offset c.args.len c.in-Bits.bits c.in_ok-rows-in-Bits.rows c.truth.result value c.in_ok-rows-in-Bits.ensures item
          ∙ ap (λ vs. by_patches is c.args.offset c.args.len vs value) (sym (ap values_of c.in-Bits.is)),
    )

pub returns-in_ok-rows-in-Ints : goal.returns-in_ok-rows-in-Ints
returns-in_ok-rows-in-Ints c =
    let is = map int (wholes_of c.args.indices.now) in
    let fill = c.args.fill.now in
    let value = or_default (default_of fill.dtype) fill.value in
    let kind = ap kind_in c.in-Ints.is in
    let made = c.in_ok-rows-in-Ints in
    let near : FitsSigned w128 c.whole.result = search rules in
    let item = ap int (to_z-of_z w128 c.whole.result near ∙ c.whole.ensures ∙ ap whole_or_zero c.cell-cell.ensures) ∙ fill-int fill.dtype fill.value _ c.requires.flat c.known.ensures (sym kind ∙ c.requires.kind) in (
      ap ints made.ensures.0 ∙ sym kind,
      stand-by_patches int is c.args.offset c.args.len (wholes_of c.in-Ints.ints) (wholes_of made.rows) _ value made.ensures.1 item ∙ ap (λ vs. by_patches is c.args.offset c.args.len vs value) (sym (ap values_of c.in-Ints.is)),
    )

pub returns-in_ok-rows-in-Bytes : goal.returns-in_ok-rows-in-Bytes
returns-in_ok-rows-in-Bytes c =
    let is = map int (wholes_of c.args.indices.now) in
    let fill = c.args.fill.now in
    let value = or_default (default_of fill.dtype) fill.value in
    let kind = ap kind_in c.in-Bytes.is in
    let item = ap bytes (c.bytes.ensures ∙ ap bytes_or_empty c.cell-cell.ensures) ∙ fill-bytes fill.dtype fill.value c.requires.flat c.known.ensures (sym kind ∙ c.requires.kind) in (
      sym kind,
      stand-by_patches bytes is c.args.offset c.args.len c.in-Bytes.rows c.in_ok-rows-in-Bytes.rows c.bytes.result.now value c.in_ok-rows-in-Bytes.ensures item
          ∙ ap (λ vs. by_patches is c.args.offset c.args.len vs value) (sym (ap values_of c.in-Bytes.is)),
    )
