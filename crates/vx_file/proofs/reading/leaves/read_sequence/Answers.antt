use Rattle.std.proofs.Common.{rules, ◌≡◌, refl, of_z, to_z}
use Rattle.std.specs.Int.{w128}
use Rattle.std.specs.Int.RustNames.{FitsSigned}
use Rattle.std.specs.Prelude.{Err}
use Rattle.std.proofs.lemmas.Int.{to_z-of_z}
use Rattle.vx_base.specs.Answers.{SurelyDecided}
use Rattle.vx_model.specs.Refusals.{sequence_refusal}
use Rattle.vx_model.specs.Tree.{sequence}
use Rattle.vx_spelling.specs.LeafParts.{SequenceParts, sequence_ok, sequence_of}
use Rattle.vx_file.proofs.MakeSteps.{is_refused_alone}
use Rattle.vx_file.proofs.reading.leaves.read_sequence.Goals as goal

pub returns-in-Err : goal.returns-in-Err
returns-in-Err c =
    let p = c.in_ok-ptype.ptype in
    let n = c.in_ok-nullability.nullability in
    let first = c.in_ok-first.first in
    let step = c.in_ok-step.step in
    let len = c.in_ok-len.len in
    let parts : SequenceParts = ((p, n), ((first, step), len)) in
    let first_fits : FitsSigned w128 first = search rules in
    let step_fits : FitsSigned w128 step = search rules in
    let passed : SurelyDecided (sequence_refusal p (to_z w128 (of_z w128 first)) (to_z w128 (of_z w128 step)) len) (λ tree. tree ≡ sequence p n (to_z w128 (of_z w128 first)) (to_z w128 (of_z w128 step)) len) (Err c.in-Err.error) = c.in-Err.ensures in
    let refused = rw (to_z-of_z w128 first first_fits, to_z-of_z w128 step step_fits) at passed in
    rw (c.in_ok-ptype.ensures, c.in_ok-nullability.ensures, c.in_ok-first.ensures, c.in_ok-step.ensures, c.in_ok-len.ensures)
    (is_refused_alone (sequence_refusal p first step len) sequence_ok sequence_of parts c.in_ok-len.rest.now (λ tree. tree ≡ sequence p n first step len) c.in-Err.error c.refusal.result refl c.refusal.ensures refused)
