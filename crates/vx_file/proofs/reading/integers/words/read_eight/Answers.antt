use Rattle.std.proofs.Common.{arith}
use Rattle.std.specs.Int.{w64}
use Rattle.vx_file.proofs.Words.{eight_bytes, word_found}
use Rattle.vx_file.proofs.reading.integers.words.read_eight.Goals as goal

pub returns-in-Some-clause-read : goal.returns-in-Some-clause-read
returns-in-Some-clause-read c =
    let cut = c.in-Some.ensures.cases in
    word_found 8 w64 c.args.bytes.now c.in-Some.word.now c.in-Some.rest.now c.from_le_bytes.result eight_bytes (λ i. (c.type_inv.bytes i).fits) cut.0 cut.1 (omega (arith, cut.2)) c.from_le_bytes.ensures
