use Rattle.std.proofs.Common.{◌≡◌, ◌∙◌, ◌⊎◌, sym, ap, subst, None, Some}
use Rattle.vx_base.specs.declared.error.VortexError.TheVariants.{NoMemory}
use Rattle.vx_base.specs.PlainType as types
use Rattle.vx_base.specs.TypeOf.{type_of}
use Rattle.vx_model.specs.Column.{column, column_of}
use Rattle.vx_model.specs.Tree.{Tree}
use Rattle.vx_values.proofs.Types.{type_of-Timestamp}
use Rattle.vx_temporal.specs.Joined.{joined, parts_refusal}
use Rattle.vx_temporal.specs.Split.{divisor_in}
use Rattle.vx_temporal.proofs.Joins.{made-parts, refused-parts}
use Rattle.vx_temporal.proofs.joining.parts_array.Goals as goal

pub returns-in-Ok : goal.returns-in-Ok
returns-in-Ok c =
    let t = type_of c.args.dtype.now in
    let n = c.in-Timestamp.nullability in
    let typed : t ≡ types.timestamp c.in_ok-own_kind.own_kind n = ap type_of c.in-Timestamp.is ∙ type_of-Timestamp c.in-Timestamp.kind n ∙ ap (λ k. types.timestamp k n) (sym c.in_ok-own_kind.ensures) in
    subst (λ (p : Tree × Tree × Tree). (parts_refusal t p.0 p.1 p.2 ≡ None) × (column_of c.in-Ok.array ≡ column t (joined (divisor_in t) p.0 p.1 p.2))) (λ i. (c.in_ok-days.ensures i, c.in_ok-seconds.ensures i, c.in_ok-subseconds.ensures i))
    (made-parts t c.in_ok-own_kind.own_kind n c.in_ok-days.days c.in_ok-seconds.seconds c.in_ok-subseconds.subseconds _ typed c.in-Ok.array c.in-Ok.ensures)

pub returns-in-Err : goal.returns-in-Err
returns-in-Err c =
    let t = type_of c.args.dtype.now in
    let n = c.in-Timestamp.nullability in
    let f = c.in-Err.refused in
    let typed : t ≡ types.timestamp c.in_ok-own_kind.own_kind n = ap type_of c.in-Timestamp.is ∙ type_of-Timestamp c.in-Timestamp.kind n ∙ ap (λ k. types.timestamp k n) (sym c.in_ok-own_kind.ensures) in
    subst (λ (p : Tree × Tree × Tree). (f.error ≡ NoMemory) ⊎ (parts_refusal t p.0 p.1 p.2 ≡ Some f.error)) (λ i. (c.in_ok-days.ensures i, c.in_ok-seconds.ensures i, c.in_ok-subseconds.ensures i))
    (refused-parts t c.in_ok-own_kind.own_kind n c.in_ok-days.days c.in_ok-seconds.seconds c.in_ok-subseconds.subseconds _ typed f c.in-Err.ensures)
