use Rattle.std.proofs.Common.{◌∙◌, true, replicate, ap, sym, subst, arith, length}
use Rattle.std.specs.Prelude.{unwrap_or}
use Rattle.vx_base.specs.Answers.{Answers}
use Rattle.vx_model.specs.WellFormed.{WellFormed}
use Rattle.vx_values.specs.IntsOf.{ptype_of, wholes_of}
use Rattle.vx_schemes.specs.BitPacking.Tree.{packing_of}
use Rattle.vx_schemes_common.proofs.ColumnLemmas.{length_is}
use Rattle.vx_schemes_common.proofs.BitsLemmas.{length-all_bits, all_bits-allowed, all_bits-none}
use Rattle.vx_schemes.proofs.BitPacking.Tree.{packing-made, wholes-natural}
use Rattle.vx_schemes.proofs.integer.bit_packing.tree.bit_packing_tree.Goals as goal

pub packing-requires : goal.packing-requires
packing-requires c =
    let a = c.as_primitive-nullability in
    let t = c.args.plain.now in
    let p = ptype_of a.result.0.now in
    let xs = wholes_of a.result.0.now in
    let valid = a.result.1.now in
    let n = a.result.2 in
    let at = sym a.ensures.tree in
    let well = subst WellFormed a.ensures.tree a.ensures.well_formed in
    let bits = c.in_ok-valid.ensures ∙ ap (λ k. unwrap_or valid (replicate k true)) c.len.ensures in
    let long = length_is t p xs valid n well at c.requires.plain in
    record {
      held = a.ensures.well_formed.0.held;
      natural = wholes-natural t p xs valid n well at c.requires.plain c.requires.natural;
      same = rw bits (length-all_bits t p xs valid n well at c.requires.plain);
      few = omega (arith, long, c.requires.few);
      allowed = rw bits (all_bits-allowed t p xs valid n well at c.requires.plain);
      no_null = λ none. bits ∙ all_bits-none valid (length xs) (sym c.is_some-has_null.ensures ∙ none);
    }

pub returns-clause-answer : goal.returns-clause-answer
returns-clause-answer c =
    let a = c.as_primitive-nullability in
    let t = c.args.plain.now in
    let p = ptype_of a.result.0.now in
    let xs = wholes_of a.result.0.now in
    let valid = a.result.1.now in
    let n = a.result.2 in
    let well = subst WellFormed a.ensures.tree a.ensures.well_formed in
    let bits = c.in_ok-valid.ensures ∙ ap (λ k. unwrap_or valid (replicate k true)) c.len.ensures in
    subst (Answers c.packing.result) (ap (packing_of p n xs) bits ∙ packing-made t p xs valid n well (sym a.ensures.tree) c.requires.plain) c.packing.ensures.answer
