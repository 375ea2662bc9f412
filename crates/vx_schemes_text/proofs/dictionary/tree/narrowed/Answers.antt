use Rattle.std.proofs.Common.{◌≡◌, ◌-◌, pos, map, true, Some, arith, rules, ap, subst}
use Rattle.std.specs.Int.{w128}
use Rattle.std.specs.List.{list_all}
use Rattle.std.specs.Prelude.{FitsSigned, unwrap_or}
use Rattle.std.proofs.lemmas.Int.{to_z-of_z}
use Rattle.vx_base.specs.Integers.{lies_in}
use Rattle.vx_base.specs.Narrow.{narrow_of}
use Rattle.vx_base.specs.declared.ptype.PType.TheVariants.{U8}
use Rattle.vx_schemes_text.proofs.CodeParts.{codes-held}
use Rattle.vx_schemes_text.proofs.dictionary.tree.narrowed.Goals as goal

pub in_unsigned-requires-clause-held : goal.in_unsigned-requires-clause-held
in_unsigned-requires-clause-held c =
    let fits : FitsSigned w128 c.from.result = search rules in
    let narrow : narrow_of (pos 0) (pos (c.args.count - 1)) ≡ Some c.narrow_type-ptype.result = (rw (to_z-of_z w128 c.from.result fits, c.from.ensures) at c.narrow_type-ptype.ensures) in
    subst (λ p. list_all (lies_in p) (map pos c.args.codes) ≡ true) (ap (λ o. unwrap_or o U8) narrow) (codes-held c.args.count c.args.codes (omega (arith, c.requires.few)) c.requires.places)
