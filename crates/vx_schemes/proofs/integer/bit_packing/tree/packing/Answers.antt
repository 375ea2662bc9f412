use Rattle.std.proofs.Common.{◌≡◌, ◌≤◌, ◌∙◌, length, true, None, refl, ap, sym, subst}
use Rattle.std.specs.List.{list_all}
use Rattle.std.proofs.lemmas.Bool.{ne_eqb}
use Rattle.vx_base.specs.Integers.{bits_of, bytes_of}
use Rattle.vx_blocks.specs.Cost.{cost}
use Rattle.vx_values.specs.IntsOf.{ptype_of, wholes_of}
use Rattle.vx_schemes.specs.Widths.{widths_of}
use Rattle.vx_schemes.specs.BitPacking.FirstLeast.{first_least-le, narrow_width}
use Rattle.vx_schemes_common.proofs.BitsLemmas.{all_bits-true}
use Rattle.vx_schemes.proofs.integer.bit_packing.tree.packing.Goals as goal

pub packed_tree-requires-clause-narrow : goal.packed_tree-requires-clause-narrow
packed_tree-requires-clause-narrow c =
    let p = ptype_of c.args.values.now in
    let within : c.in_ok-width.width ≤ bits_of p = subst (λ w. w ≤ bits_of p) (sym c.in_ok-width.ensures.width) (first_least-le (cost (widths_of p (wholes_of c.args.values.now) c.args.valid) (bytes_of p)) (bits_of p)) in
    let all : c.bit_width.result ≡ bits_of p = c.bit_width.ensures.width ∙ ap bits_of c.ptype.ensures in
    narrow_width p c.in_ok-width.width within (ne_eqb c.in_ok-width.width (bits_of p) (λ e. c.if-width-bit_width.false (e ∙ sym all)))

pub packed_tree-requires-clause-no_null : goal.packed_tree-requires-clause-no_null
packed_tree-requires-clause-no_null c = λ none.
    subst (λ bits. list_all (λ bit. bit) bits ≡ true) (sym (c.requires.no_null none)) (all_bits-true None (length (wholes_of c.args.values.now)) refl)
