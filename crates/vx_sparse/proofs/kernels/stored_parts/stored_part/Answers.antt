use Rattle.std.proofs.Common.{ap, refl, subst}
use Rattle.std.proofs.lemmas.Bool.{and_from}
use Rattle.std.proofs.lemmas.List.{append-nil}
use Rattle.vx_base.specs.Answers.{Answers}
use Rattle.vx_base.specs.Masks.{rows_between}
use Rattle.vx_model.specs.Plain.{plain_of}
use Rattle.vx_model.specs.Rows.{rows}
use Rattle.vx_model.specs.TreeType.{tree_type}
use Rattle.vx_sparse.proofs.kernels.stored_parts.stored_part.Goals as goal

pub gather-requires-clause-parts : goal.gather-requires-clause-parts
gather-requires-clause-parts c = and_from _ _ c.requires.part refl

pub returns : goal.returns
returns c =
    let t = c.args.tree.now in
    subst (Answers c.gather.result) (ap (plain_of (tree_type t)) (append-nil (rows_between (rows t) c.args.start c.args.end))) c.gather.ensures
