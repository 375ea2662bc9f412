use Rattle.std.proofs.Common.{◌≡◌, ◌∙◌, subst}
use Rattle.vx_buffers.specs.Answered.{Answered}
use Rattle.vx_buffers.specs.Given.{joined_at, offsets_tree}
use Rattle.vx_buffers.proofs.given.joined.Goals as goal

pub returns : goal.returns
returns c =
    let starts : c.in_ok-starts.starts ≡ offsets_tree c.args.offsets.now = c.in_ok-starts.ensures in
    let content : c.from_vec.result ≡ c.args.bytes.now = c.from_vec.ensures ∙ c.in_ok-content.ensures.items in
    subst (λ d. Answered d c.joined_at.result) (λ i. joined_at (starts i) (content i) c.args.mask (c.bytes_type.ensures i)) c.joined_at.ensures
