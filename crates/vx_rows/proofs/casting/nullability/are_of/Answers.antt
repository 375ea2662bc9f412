use Rattle.std.proofs.Common.{◌∙◌, sym}
use Rattle.vx_base.specs.TypeOf.{type_of}
use Rattle.vx_model.specs.Rows.{rows}
use Rattle.vx_model.specs.TreeType.{tree_type}
use Rattle.vx_model.proofs.MadeLemmas.{rows_fit}
use Rattle.vx_rows.proofs.BaseLemmas.{null-test, nullable-fit}
use Rattle.vx_rows.proofs.casting.nullability.are_of.Goals as goal

pub returns-then-is_nullable : goal.returns-then-is_nullable
returns-then-is_nullable c =
    let t = c.args.array.now in
    sym (nullable-fit (tree_type t) (type_of c.args.dtype.now) c.requires (rows t) (sym c.is_nullable.ensures ∙ c.if-is_nullable.true) (rows_fit t c.known.ensures))

pub returns : goal.returns
returns c =
    let t = c.args.array.now in
    null-test (tree_type t) (type_of c.args.dtype.now) (rows t) c.in_ok-nulls.nulls c.requires (sym c.is_nullable.ensures ∙ c.if-is_nullable.false) (rows_fit t c.known.ensures) c.in_ok-nulls.ensures
