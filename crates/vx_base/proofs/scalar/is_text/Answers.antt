use Rattle.std.proofs.Common.{◌∙◌}
use Rattle.vx_base.proofs.Utf8Lemmas.{is_ok-utf8}
use Rattle.vx_base.proofs.scalar.is_text.Goals as goal

pub returns : goal.returns
returns c = c.is_ok.ensures.value ∙ is_ok-utf8 c.args.bytes.now _ _ _ c.from_utf8.ensures.cases
