use Rattle.std.proofs.Common.{true, refl}
use Rattle.vx_schemes_common.proofs.Produced.{one_part-produced}
use Rattle.vx_examples.specs.SpanFrame.{above_least, frame_over, span_frame}
use Rattle.vx_examples.proofs.span_frame.laws_of_span_frames.Goals as goal

pub returns : goal.returns
returns c = one_part-produced span_frame (λ c. true) above_least frame_over (λ c site. refl) (λ c site trees. refl) (λ c tree. refl)
