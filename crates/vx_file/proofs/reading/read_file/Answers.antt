use Rattle.std.proofs.Common.{List, ℕ, subst}
use Rattle.vx_file.specs.Answers.{ReadsFile}
use Rattle.vx_spelling.specs.FileSpelling.{file_at}
use Rattle.vx_file.proofs.FileAnswers.{file_found, file_again}
use Rattle.vx_file.proofs.reading.read_file.Goals as goal

pub returns-clause-found : goal.returns-clause-found
returns-clause-found c =
    let read = subst (λ (b : List ℕ). ReadsFile (λ ts. ts) c.read_whole.result (file_at b)) c.as_slice.ensures c.read_whole.ensures in
    file_found c.args.bytes.now c.read_whole.result read

pub returns-clause-again : goal.returns-clause-again
returns-clause-again c =
    let read = subst (λ (b : List ℕ). ReadsFile (λ ts. ts) c.read_whole.result (file_at b)) c.as_slice.ensures c.read_whole.ensures in
    λ ts fits is. file_again c.args.bytes.now ts c.read_whole.result fits is read
