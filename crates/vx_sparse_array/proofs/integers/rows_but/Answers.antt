use Rattle.std.proofs.Common.{◌≡◌, ◌∙◌, true, map, sym, subst}
use Rattle.std.specs.Int.{w128}
use Rattle.std.proofs.lemmas.Int.{to_z-of_z}
use Rattle.std.proofs.lemmas.List.{length-map}
use Rattle.vx_base.specs.Answers.{Answers}
use Rattle.vx_model.specs.Refusals.{validity_length}
use Rattle.vx_sparse_array.proofs.IntegerRows.{found-by_bits, found-by_items}
use Rattle.vx_sparse_array.proofs.integers.rows_but.Goals as goal

pub returns-in-Some-valid : goal.returns-in-Some-valid
returns-in-Some-valid g c =
    let zs = map g.T.Integer.whole c.args.items.now in
    let long = length-map c.args.items.now g.T.Integer.whole in
    let mask = subst (λ n. validity_length c.args.valid.now n ≡ true) (sym long) c.requires.mask in
    subst (Answers c.null_or_other_rows.result) (found-by_bits c.args.valid.now _ _ zs _ _ c.args.fill c.in-Some-valid.is c.as_slice.ensures (sym long) (c.in-Some.ensures ∙ to_z-of_z w128 c.args.fill c.ranges.fill) mask) c.null_or_other_rows.ensures

pub returns-in-None : goal.returns-in-None
returns-in-None g c =
    let zs = map g.T.Integer.whole c.args.items.now in
    let long = length-map c.args.items.now g.T.Integer.whole in
    let mask = subst (λ n. validity_length c.args.valid.now n ≡ true) (sym long) c.requires.mask in
    subst (Answers c.other_rows.result) (found-by_items c.args.valid.now zs _ _ c.args.fill c.in-None.is (sym long) (c.in-Some.ensures ∙ to_z-of_z w128 c.args.fill c.ranges.fill) mask) c.other_rows.ensures
