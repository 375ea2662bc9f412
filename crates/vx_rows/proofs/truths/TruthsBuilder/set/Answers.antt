use Rattle.std.proofs.Common.{◌≡◌, ◌∙◌, Some, ap, arith, length, map, set}
use Rattle.std.proofs.lemmas.Bool.{eq-eqb}
use Rattle.vx_base.specs.PlainValue.{truth}
use Rattle.vx_model.specs.Rows.{masked_rows}
use Rattle.vx_rows.specs.Truths.{truth_or_null}
use Rattle.vx_rows.proofs.LentLemmas.{length-bits}
use Rattle.vx_rows.proofs.TruthLemmas.{set-rows}
use Rattle.vx_rows.proofs.truths.TruthsBuilder.set.Goals as goal

pub index_mut-requires : goal.index_mut-requires
index_mut-requires c =
    let a = c.self.inside in
    let long : length (masked_rows a.valid.items (map truth a.values.items)) ≡ length a.values.items = length-bits a.values.items (Some a.valid.items) (eq-eqb _ _ c.self.invariant) in
    omega (arith, c.requires, ap length c.self.view_is, long, a.values.ok.0)

pub index_mut-requires-2 : goal.index_mut-requires-2
index_mut-requires-2 c =
    let a = c.self.inside in
    let long : length (masked_rows a.valid.items (map truth a.values.items)) ≡ length a.values.items = length-bits a.values.items (Some a.valid.items) (eq-eqb _ _ c.self.invariant) in
    omega (arith, c.requires, ap length c.self.view_is, long, c.self.invariant, a.valid.ok.0)

pub returns : goal.returns
returns c =
    let a = c.self.inside in
    (λ i. masked_rows (set a.valid.items c.args.row (c.is_some.ensures i)) (map truth (set a.values.items c.args.row (c.unwrap_or.ensures i))))
    ∙ set-rows a.valid.items a.values.items c.args.row c.args.value c.self.invariant ∙ ap (λ rs. set rs c.args.row (truth_or_null c.args.value)) c.self.view_is
