use Rattle.std.proofs.Common.{◌≡◌, ◌∙◌, true, arith, length}
use Rattle.std.proofs.lemmas.Bool.{lt-ltb}
use Rattle.std.specs.Prelude.{nat_lt}
use Rattle.vx_base.specs.PlainScalar.{scalar, fits}
use Rattle.vx_base.specs.TypeOf.{type_of, value_of}
use Rattle.vx_model.specs.Rows.{rows}
use Rattle.vx_model.proofs.FrameOfReferenceLemmas.{row_fits}
use Rattle.vx_array.proofs.ValueAt.{scalar_given, scalar_never}
use Rattle.vx_array.proofs.array.ArrayRef.scalar_at.Goals as goal

pub returns-in-Ok : goal.returns-in-Ok
returns-in-Ok c =
    let inside : nat_lt c.args.row (length (rows c.args.self.now)) ≡ true = lt-ltb _ _ (omega arith) in
    let typed = c.in_ok-copy.ensures ∙ c.dtype.ensures in
    let fitting : fits (type_of c.in_ok-copy.field-0) (value_of c.in_ok-value.value) ≡ true =
    (λ k. fits (typed k) (c.in_ok-value.ensures k)) ∙ row_fits c.args.self.now c.args.row c.known.ensures (omega arith) in
    rw inside (scalar_given _ _ _ fitting c.in-Ok.scalar c.in-Ok.ensures ∙ (λ k. scalar (typed k) (c.in_ok-value.ensures k)))

pub returns-in-Err : goal.returns-in-Err
returns-in-Err c =
    let typed = c.in_ok-copy.ensures ∙ c.dtype.ensures in
    let fitting : fits (type_of c.in_ok-copy.field-0) (value_of c.in_ok-value.value) ≡ true =
    (λ k. fits (typed k) (c.in_ok-value.ensures k)) ∙ row_fits c.args.self.now c.args.row c.known.ensures (omega arith) in
    absurd (scalar_never (type_of c.in_ok-copy.field-0) (value_of c.in_ok-value.value) (c.in_ok-copy.field-0, c.in_ok-value.value) fitting c.in-Err.refused c.in-Err.ensures)
