use Rattle.std.proofs.Common.{◌+◌, ◌∙◌, length, arith}
use Rattle.std.proofs.lemmas.Result.{MatchResult-weaker}
use Rattle.vx_base.specs.Masks.{rows_between}
use Rattle.vx_values.proofs.Offsets.{offset_bits, offsets_part}
use Rattle.vx_values.proofs.byte_rows.piece.Goals as goal

pub part-requires : goal.part-requires
part-requires g c =
    let whole = g.T.Integer.whole in
    let kind = g.T.Integer.kind in
    let os = c.args.offsets.now in
    let len = length c.args.bytes.now in
    let start = c.to_bits-start.ensures.value ∙ offset_bits whole kind len os c.args.row c.index-offsets-row.result c.requires.ends (omega arith) c.index-offsets-row.is in
    let end = c.to_bits-end.ensures.value ∙ offset_bits whole kind len os (c.args.row + 1) c.index-offsets-row-2.result c.requires.ends c.requires.within c.index-offsets-row-2.is in
    rw (start, end) (offsets_part whole kind len os c.args.row c.requires.ends c.requires.within)

pub returns : goal.returns
returns g c =
    let whole = g.T.Integer.whole in
    let kind = g.T.Integer.kind in
    let os = c.args.offsets.now in
    let bytes = c.args.bytes.now in
    let start = c.to_bits-start.ensures.value ∙ offset_bits whole kind (length bytes) os c.args.row c.index-offsets-row.result c.requires.ends (omega arith) c.index-offsets-row.is in
    let end = c.to_bits-end.ensures.value ∙ offset_bits whole kind (length bytes) os (c.args.row + 1) c.index-offsets-row-2.result c.requires.ends c.requires.within c.index-offsets-row-2.is in
    MatchResult-weaker c.row_of.result c.row_of.ensures (λ row is. is ∙ c.part.ensures ∙ (λ i. rows_between bytes (start i) (end i))) (λ _ is. is)
