use Rattle.std.proofs.Common.{◌≡◌, ◌∙◌, ap, refl, sym}
use Rattle.std.specs.Prelude.{not}
use Rattle.std.specs.Ordering.{is_eq, is_ne}
use Rattle.std.specs.declared.cmp.Ordering.{Ordering}
use Rattle.std.specs.declared.cmp.Ordering.TheVariants.{Less, Equal, Greater}
use Rattle.std.proofs.lemmas.Map.Text.{is_eq-slice_cmp}
use Rattle.vx_rows.specs.Pairs.{bytes_hold}
use Rattle.vx_rows.proofs.kernels.byte_rows.bytes_hold.Goals as goal

pub returns-in-Eq : goal.returns-in-Eq
returns-in-Eq c = c.eq.ensures ∙ sym (is_eq-slice_cmp c.args.row.now c.args.value.now) ∙ sym (ap (λ o. bytes_hold o c.args.value.now c.args.row.now) c.in-Eq.is)

not-eq : (o : Ordering) → not (is_eq o) ≡ is_ne o
not-eq Less = refl
not-eq Equal = refl
not-eq Greater = refl

pub returns-in-NotEq : goal.returns-in-NotEq
returns-in-NotEq c = c.ne.ensures ∙ ap not (sym (is_eq-slice_cmp c.args.row.now c.args.value.now)) ∙ not-eq _ ∙ sym (ap (λ o. bytes_hold o c.args.value.now c.args.row.now) c.in-NotEq.is)
