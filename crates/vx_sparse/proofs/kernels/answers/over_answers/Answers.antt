use Rattle.std.proofs.Common.{◌≡◌, ◌∙◌, length, rules, sym, ap, subst, true}
use Rattle.std.specs.Prelude.{nat_lt}
use Rattle.vx_base.specs.Answers.{Answers}
use Rattle.vx_model.specs.Rows.{rows}
use Rattle.vx_model.specs.Tree.{sparse}
use Rattle.vx_sparse.proofs.kernels.answers.over_answers.Goals as goal

pub returns-in_err-fill : goal.returns-in_err-fill
returns-in_err-fill c =
    let some : nat_lt 0 (length (rows c.args.fills.now)) ≡ true = ap (nat_lt 0) c.requires.one in
    let e = rw some at c.in_err-fill.ensures in
    search rules

pub over_patches-requires-clause-lengths : goal.over_patches-requires-clause-lengths
over_patches-requires-clause-lengths c = c.requires.lengths

pub over_patches-requires-clause-typed : goal.over_patches-requires-clause-typed
over_patches-requires-clause-typed c =
    let some : nat_lt 0 (length (rows c.args.fills.now)) ≡ true = ap (nat_lt 0) c.requires.one in
    let e = rw some at c.in_ok-fill.ensures in
    c.requires.typed ∙ ap (λ s. s.dtype) (sym e)

pub returns : goal.returns
returns c =
    let some : nat_lt 0 (length (rows c.args.fills.now)) ≡ true = ap (nat_lt 0) c.requires.one in
    let e = rw some at c.in_ok-fill.ensures in
    let p = c.args.patches.now in
    subst (Answers c.over_patches.result) (ap (sparse p.array_len p.offset p.indices c.args.values) e) c.over_patches.ensures
