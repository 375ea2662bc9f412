use Rattle.std.proofs.Common.{◌≡◌, ◌∙◌, ◌^◌, ap, sym, arith, Some, None}
use Rattle.vx_model.specs.Rows.{rows, row_at, index_of}
use Rattle.vx_model.proofs.ChunkLemmas.{below-most}
use Rattle.vx_model.proofs.PatchLemmas.{ascend-index}
use Rattle.vx_array.proofs.ChunkCounts.{counts-below, counts-behind}
use Rattle.vx_array.proofs.patches.chunks.place_behind.Goals as goal
use Rattle.vx_array.proofs.patches.chunks.place_behind.Goals.{in_default-via-in-Some+else-index-bound, in_default-via-in_default}

pub returns-in-Some : goal.returns-in-Some
returns-in-Some c =
    let is = rows c.args.indices.now in
    let place = c.loop-place.place in
    let found : index_of (row_at is place) ≡ Some c.in-Some.index = sym (c.as_index.ensures ∙ ap index_of c.integer_at.ensures) ∙ c.in-Some.is in
    omega (arith, counts-behind 0 (2 ^ 65) c.args.bound is c.requires.rising place c.in-Some.index found c.if-index-bound.true, c.loop-place.invariant)

pub loop-place-preserved : goal.loop-place-preserved
loop-place-preserved c =
    let is = rows c.args.indices.now in
    let place = c.loop-place.place in
    let read = sym (c.as_index.ensures ∙ ap index_of c.integer_at.ensures) in
    elim c.in_default.branch [
      | in_default-via-in-Some+else-index-bound w ↦
          let found : index_of (row_at is place) ≡ Some w.in-Some.index = read ∙ w.in-Some.is in
          omega (arith, counts-below 0 (2 ^ 65) c.args.bound is c.requires.rising place w.in-Some.index found w.if-index-bound.false)
      | in_default-via-in_default w ↦
          let none : index_of (row_at is place) ≡ None = read ∙ w.in_default.is in
          absurd (ascend-index 0 (2 ^ 65) is place c.requires.rising (omega (arith, c.loop-place-test.true, c.len.ensures)) none)
    ]

pub returns : goal.returns
returns c =
    let is = rows c.args.indices.now in
    omega (arith, below-most 0 (2 ^ 65) c.args.bound is c.requires.rising, c.loop-place.invariant, c.loop-place-test.false, c.len.ensures)
