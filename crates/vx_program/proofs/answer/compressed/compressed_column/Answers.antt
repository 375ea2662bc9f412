use Rattle.std.proofs.Common.{ap, subst, ◌∙◌}
use Rattle.std.proofs.lemmas.Result.{IfOk-weaker}
use Rattle.vx_program.specs.Answer.{counts_fit}
use Rattle.vx_program.specs.Compressed.{IsCompressed}
use Rattle.vx_program.proofs.answer.compressed.compressed_column.Goals as goal

pub compressed_array-requires : goal.compressed_array-requires
compressed_array-requires c = record { plain = c.in-Ok.ensures.plain; few = ap counts_fit c.in-Ok.ensures.kept ∙ c.requires }

pub returns-in-Ok : goal.returns-in-Ok
returns-in-Ok c = IfOk-weaker c.compressed_array.result _ _ (λ made h. subst (λ column. IsCompressed c.args.ctx.now column made) c.in-Ok.ensures.kept h) c.compressed_array.ensures
