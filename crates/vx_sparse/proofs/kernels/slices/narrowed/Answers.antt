use Rattle.std.proofs.Common.{◌≡◌, ◌<◌, ◌≤◌, ◌∙◌, ◌+◌, ◌-◌, ◌/◌, length, ap, arith}
use Rattle.vx_model.specs.Rows.{offset_at, rows}
use Rattle.vx_sparse.proofs.PatchSearch.{sought-behind, sought-below}
use Rattle.vx_sparse.proofs.kernels.slices.narrowed.Goals as goal

pub returns-then-index-bound-clause-behind : goal.returns-then-index-bound-clause-behind
returns-then-index-bound-clause-behind c =
    let p = c.args.patches.now in
    let middle = c.args.low + (c.args.high - c.args.low) / 2 in
    let inside : middle < length (rows p.indices) = omega (arith, c.requires.some, c.requires.within) in
    let at : c.index_at-index.result ≡ offset_at (rows p.indices) middle = c.index_at-index.ensures ∙ ap (λ t. offset_at (rows t) middle) c.indices.ensures in
    let less : offset_at (rows p.indices) middle < c.args.bound = omega (arith, at, c.if-index-bound.true) in
    let past = sought-below p.offset (p.offset + p.array_len) c.args.bound (rows p.indices) c.known.ensures.2.ascending middle inside less in
    λ _. omega (arith, past)

pub returns-clause-before : goal.returns-clause-before
returns-clause-before c =
    let p = c.args.patches.now in
    let middle = c.args.low + (c.args.high - c.args.low) / 2 in
    let inside : middle < length (rows p.indices) = omega (arith, c.requires.some, c.requires.within) in
    let at : c.index_at-index.result ≡ offset_at (rows p.indices) middle = c.index_at-index.ensures ∙ ap (λ t. offset_at (rows t) middle) c.indices.ensures in
    let more : c.args.bound ≤ offset_at (rows p.indices) middle = omega (arith, at, c.if-index-bound.false) in
    λ _. sought-behind p.offset (p.offset + p.array_len) c.args.bound (rows p.indices) c.known.ensures.2.ascending middle inside more
