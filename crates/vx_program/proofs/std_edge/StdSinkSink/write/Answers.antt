use Rattle.std.proofs.Common.{subst}
use Rattle.vx_program.specs.Causes.{HasCause}
use Rattle.vx_program.proofs.std_edge.StdSinkSink.write.Goals as goal

pub returns-clause-cause : goal.returns-clause-cause
returns-clause-cause g c = subst (λ before. HasCause before c.after_flush.new.faults c.after_flush.result) c.in_ok-count.ensures.cause.same c.after_flush.ensures.cause
