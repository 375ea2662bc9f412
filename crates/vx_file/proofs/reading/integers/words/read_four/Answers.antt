use Rattle.std.proofs.Common.{◌∙◌, arith}
use Rattle.std.specs.Int.{w32}
use Rattle.vx_file.proofs.Words.{four_bytes, word_found}
use Rattle.vx_file.proofs.reading.integers.words.read_four.Goals as goal

pub returns-in-Some-clause-read : goal.returns-in-Some-clause-read
returns-in-Some-clause-read c =
    let cut = c.in-Some.ensures.cases in
    word_found 4 w32 c.args.bytes.now c.in-Some.word.now c.in-Some.rest.now c.from.result four_bytes (λ i. (c.type_inv.bytes i).fits) cut.0 cut.1 (omega (arith, cut.2)) (c.from.ensures ∙ c.from_le_bytes.ensures)
