use Rattle.std.proofs.Common.{◌≡◌, ◌∙◌, IsTrue, sym, subst, rules}
use Rattle.std.specs.List.{list_all}
use Rattle.vx_base.specs.Answers.{Answers}
use Rattle.vx_base.specs.declared.ptype.PType.TheVariants.{I32}
use Rattle.vx_base.specs.Integers.{lies_in}
use Rattle.vx_schemes_time.proofs.StoredLemmas.{narrowed-held, narrowed-made, narrowed-own}
use Rattle.vx_schemes_time.proofs.temporal.narrowing.narrowed_integers.Goals as goal

pub returns-then-eq : goal.returns-then-eq
returns-then-eq c =
    let same : c.narrowest_type-ptype.result ≡ I32 = search rules in
    narrowed-own c.args.part c.requires c.known.ensures c.stored_rows.result.now c.narrowest_type-ptype.result c.stored_rows.ensures c.narrowest_type-ptype.ensures same

pub in_type-requires : goal.in_type-requires
in_type-requires c =
    let q = c.narrowest_type-ptype.result in
    subst (λ xs. IsTrue (list_all (lies_in q) xs)) (c.stored_rows.ensures ∙ sym c.stored_rows-2.ensures)
    (narrowed-held c.args.part c.requires c.known.ensures c.stored_rows.result.now q c.stored_rows.ensures c.narrowest_type-ptype.ensures)

pub returns : goal.returns
returns c =
    let made = c.in_ok-values.ensures in
    subst (Answers c.with_integers.result)
    (narrowed-made c.args.part c.requires c.known.ensures c.stored_rows.result.now c.narrowest_type-ptype.result c.stored_rows.ensures c.narrowest_type-ptype.ensures _ _ made.0 (made.1 ∙ c.stored_rows-2.ensures ∙ sym c.stored_rows.ensures))
    c.with_integers.ensures
