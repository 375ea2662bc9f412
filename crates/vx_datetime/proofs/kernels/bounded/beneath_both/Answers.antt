use Rattle.std.proofs.Common.{◌≡◌, ◌∙◌, ap, length, subst, sym}
use Rattle.std.specs.Prelude.{IfSome}
use Rattle.std.proofs.lemmas.Result.{MatchResult-weaker}
use Rattle.vx_base.specs.declared.dtype.Nullability.TheVariants.{Nullable}
use Rattle.vx_base.specs.PlainType as types
use Rattle.vx_model.specs.Column.{column}
use Rattle.vx_model.specs.Rows.{rows, valid_rows}
use Rattle.vx_model.specs.TreeType.{tree_type}
use Rattle.vx_datetime.proofs.FurtherNulls.{valid-long}
use Rattle.vx_datetime.proofs.kernels.bounded.beneath_both.Goals as goal

pub beneath-requires-2-clause-lengths : goal.beneath-requires-2-clause-lengths
beneath-requires-2-clause-lengths c =
    let as_long : length (rows c.in_ok-lower.lower) ≡ length (rows c.args.tree) = ap (λ k. length k.values) c.in_ok-lower.ensures.answer ∙ valid-long c.args.low.now (rows c.args.tree) c.requires.low in
    subst (λ n. IfSome c.args.high.now (λ bits. length bits ≡ n)) (sym as_long) c.requires.high

pub beneath-requires-2-clause-nullable : goal.beneath-requires-2-clause-nullable
beneath-requires-2-clause-nullable c =
    let typed : tree_type c.in_ok-lower.lower ≡ tree_type c.args.tree = ap (λ k. k.dtype) c.in_ok-lower.ensures.answer in
    subst (λ t. IfSome c.args.high.now (λ bits. t ≡ types.boolean Nullable)) (sym typed) c.requires.high_nullable

pub returns-clause-answer : goal.returns-clause-answer
returns-clause-answer c =
    let same = c.in_ok-lower.ensures.answer in
    MatchResult-weaker c.beneath-2.result c.beneath-2.ensures.answer
    (λ out is. is ∙ (λ i. column (same i).dtype (valid_rows c.args.high.now (same i).values))) (λ e is. is)
