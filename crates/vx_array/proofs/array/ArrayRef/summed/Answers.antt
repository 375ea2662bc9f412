use Rattle.std.proofs.Common.{◌≡◌, ap, subst}
use Rattle.vx_base.specs.Answers.{OrMemory}
use Rattle.vx_model.specs.Column.{column_of}
use Rattle.vx_model.proofs.MadeLemmas.{rows_fit}
use Rattle.vx_array.proofs.MadePlain.{made-kept}
use Rattle.vx_array.proofs.array.ArrayRef.summed.Goals as goal

pub returns-in-Ok : goal.returns-in-Ok
returns-in-Ok c =
    let own = column_of c.args.self.now in
    let kept = made-kept own c.canonical_flat.result (rows_fit c.args.self.now c.known.ensures) c.canonical_flat.ensures in
    let same : column_of c.in-Ok.plain ≡ own = subst (λ r. OrMemory r (λ tree. column_of tree ≡ own)) c.in-Ok.is kept in
    (ap (λ k. k.values) same, ap (λ k. k.dtype) same)
