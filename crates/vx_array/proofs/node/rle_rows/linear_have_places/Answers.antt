use Rattle.std.proofs.Common.{◌≡◌, ◌∙◌, ◌<◌, ◌≤◌, ◌*◌, inl, inr, length, sym, subst, arith, true}
use Rattle.std.proofs.lemmas.Bool.{and_parts, cases_lt}
use Rattle.vx_model.specs.Rows.{rows, block_rows}
use Rattle.vx_array.specs.Linear.{has_place, block_end}
use Rattle.vx_array.proofs.LinearPlaces.{block-fails, blocks-pass, places-none}
use Rattle.vx_array.proofs.node.rle_rows.linear_have_places.Goals as goal

pub returns-then-blocks-eq0 : goal.returns-then-blocks-eq0
returns-then-blocks-eq0 c =
    let none : c.args.len ≡ 0 = omega (arith, c.requires.begins, c.len-blocks.ensures, c.if-blocks-eq0.true) in
    sym (places-none c.args.values (rows c.args.offsets.now) (rows c.args.indices.now) c.args.len none)

pub corners_are_places-requires-clause-some : goal.corners_are_places-requires-clause-some
corners_are_places-requires-clause-some c = omega (arith, c.requires.begins, c.len-blocks.ensures, c.if-blocks-eq0.false)

pub corners_are_places-requires-clause-linear_offsets : goal.corners_are_places-requires-clause-linear_offsets
corners_are_places-requires-clause-linear_offsets c = c.is_linear.ensures c.if-is_linear.true

pub returns-then-not-block_has_places : goal.returns-then-not-block_has_places
returns-then-not-block_has_places c =
    let within : block_rows * c.loop-block.block < c.args.len = omega (arith, c.requires.begins, c.len-blocks.ensures, c.loop-block-test.true) in
    sym (block-fails c.args.values (rows c.args.offsets.now) (rows c.args.indices.now) c.args.len c.loop-block.block within (sym c.block_has_places.ensures ∙ c.if-not-block_has_places.true))

pub loop-block-preserved : goal.loop-block-preserved
loop-block-preserved c b l =
    let os = rows c.args.offsets.now in
    let is = rows c.args.indices.now in
    let v = c.args.values in
    let own = and_parts (has_place v os is (block_rows * c.loop-block.block)) (has_place v os is (block_end c.args.len c.loop-block.block)) (sym c.block_has_places.ensures ∙ c.if-not-block_has_places.false) in
    elim (cases_lt b c.loop-block.block) [
      | inl less ↦ c.loop-block.invariant b less
      | inr more ↦
          let same : b ≡ c.loop-block.block = omega arith in
          subst (λ k. (has_place v os is (block_rows * k) ≡ true) × (has_place v os is (block_end c.args.len k) ≡ true)) (sym same) own
    ]

pub returns : goal.returns
returns c =
    let enough : c.args.len ≤ length (rows c.args.indices.now) = omega (arith, c.requires.enough) in
    sym (blocks-pass c.args.values (rows c.args.offsets.now) (rows c.args.indices.now) c.args.len c.requires.linear enough (λ b l. c.loop-block.invariant b (omega (arith, c.requires.begins, c.len-blocks.ensures, c.loop-block-test.false))))
