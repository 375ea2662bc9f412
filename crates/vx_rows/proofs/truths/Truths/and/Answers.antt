use Rattle.std.proofs.Common.{◌∙◌, ap, length, map, sym}
use Rattle.std.specs.Prelude.{◌&&◌}
use Rattle.vx_base.specs.PlainValue.{truth}
use Rattle.vx_model.specs.Refusals.{validity_length}
use Rattle.vx_model.specs.Rows.{valid_rows}
use Rattle.vx_rows.specs.Pairs.{both_true, each_pair}
use Rattle.vx_rows.proofs.LentLemmas.{length-bits}
use Rattle.vx_rows.proofs.PairLemmas.{length-each_pair}
use Rattle.vx_rows.proofs.TruthLemmas.{both-long, both-rows}
use Rattle.vx_rows.proofs.truths.Truths.and.Goals as goal

pub and_bits-requires : goal.and_bits-requires
and_bits-requires c =
    let a = c.self.inside in
    let b = c.other.inside in
    sym (length-bits a.values a.valid c.self.invariant) ∙ ap length c.self.view_is ∙ c.requires ∙ sym (ap length c.other.view_is) ∙ length-bits b.values b.valid c.other.invariant

pub both_valid-requires-clause-right : goal.both_valid-requires-clause-right
both_valid-requires-clause-right c =
    let a = c.self.inside in
    let b = c.other.inside in
    let same = sym (length-bits a.values a.valid c.self.invariant) ∙ ap length c.self.view_is ∙ c.requires ∙ sym (ap length c.other.view_is) ∙ length-bits b.values b.valid c.other.invariant in
    ap (validity_length b.valid) (c.len.ensures ∙ same) ∙ c.other.invariant

pub new-requires : goal.new-requires
new-requires c =
    let a = c.self.inside in
    let b = c.other.inside in
    let same = sym (length-bits a.values a.valid c.self.invariant) ∙ ap length c.self.view_is ∙ c.requires ∙ sym (ap length c.other.view_is) ∙ length-bits b.values b.valid c.other.invariant in
    let long = ap length c.in_ok-values.ensures ∙ length-each_pair (λ x y. x && y) a.values b.values same in
    (λ i. validity_length (c.in_ok-valid.ensures i) (length c.in_ok-values.values)) ∙ both-long a.valid b.valid (length a.values) (length b.values) _ c.self.invariant c.other.invariant same long

pub returns : goal.returns
returns c =
    let a = c.self.inside in
    let b = c.other.inside in
    c.new.ensures ∙ (λ i. valid_rows (c.in_ok-valid.ensures i) (map truth (c.in_ok-values.ensures i))) ∙ both-rows a.valid b.valid a.values b.values
    ∙ (λ i. each_pair both_true (c.self.view_is i) (c.other.view_is i))
