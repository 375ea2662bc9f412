use Rattle.std.proofs.Common.{◌≡◌, ◌≤◌, ◌+◌, ◌∙◌, ℕ, drop, ap, sym, subst}
use Rattle.std.specs.Prelude.{◌==◌, not}
use Rattle.std.specs.List.{list_any}
use Rattle.vx_base.specs.Integers.{bits_of, bytes_of}
use Rattle.vx_blocks.specs.Cost.{IsBest, cost}
use Rattle.vx_values.specs.IntsOf.{ptype_of, wholes_of}
use Rattle.vx_schemes.specs.Widths.{widths_of}
use Rattle.vx_schemes.specs.BitPacking.FirstLeast.{first_least-is}
use Rattle.vx_schemes.proofs.BitPacking.Wide.{none_counted, none_wider}
use Rattle.vx_schemes.proofs.WidthLemmas.{widths_of-is}
use Rattle.vx_schemes.proofs.integer.bit_packing.tree.best_width_of.Goals as goal

pub returns-clause-width : goal.returns-clause-width
returns-clause-width c =
    let p = ptype_of c.args.values.now in
    let widths = widths_of p (wholes_of c.args.values.now) c.args.valid.now in
    let counts : c.as_slice.result.now ≡ widths = c.as_slice.ensures.value ∙ widths_of-is p (wholes_of c.args.values.now) c.args.valid.now _ c.in_ok-counts.ensures.widths in
    let of_type = subst (λ q. IsBest (cost c.as_slice.result.now (bytes_of q)) (bits_of q) c.best_width-width.result) c.ptype.ensures c.best_width-width.ensures in
    first_least-is (cost widths (bytes_of p)) (bits_of p) c.best_width-width.result (subst (λ h. IsBest (cost h (bytes_of p)) (bits_of p) c.best_width-width.result) counts of_type)

pub returns-clause-wider : goal.returns-clause-wider
returns-clause-wider c = λ none.
    let p = ptype_of c.args.values.now in
    let within : c.best_width-width.result ≤ bits_of p = subst (λ q. c.best_width-width.result ≤ bits_of q) c.ptype.ensures c.best_width-width.ensures.within in
    let counts = c.in_ok-counts.counts.items in
    let few = none_counted (drop (c.best_width-width.result + 1) counts) (ap (λ l. list_any (λ (count : ℕ). not (count == 0)) (drop (c.best_width-width.result + 1) l)) (sym c.as_slice-2.ensures.value) ∙ sym c.counts_above-wider.ensures ∙ none) in
    none_wider p c.best_width-width.result (wholes_of c.args.values.now) c.args.valid.now counts c.requires.same c.requires.held c.requires.natural c.in_ok-counts.ensures.widths within few
