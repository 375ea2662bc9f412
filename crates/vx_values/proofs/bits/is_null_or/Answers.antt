use Rattle.std.proofs.Common.{◌≡◌, ◌∙◌, sym, ap, refl, Bool, true, false}
use Rattle.std.proofs.Math.Bool.{beq}
use Rattle.vx_base.specs.PlainValue.{truth}
use Rattle.vx_model.specs.Leaf.{null_or}
use Rattle.vx_values.proofs.Cells.{row_at-valid, row_at-null, null_or-null}
use Rattle.vx_values.proofs.bits.is_null_or.Goals as goal

truths : (a b : Bool) → beq a b ≡ null_or (truth b) (truth a)
truths true true = refl
truths true false = refl
truths false true = refl
truths false false = refl

pub returns-then-is_valid : goal.returns-then-is_valid
returns-then-is_valid c =
    let row = row_at-valid truth c.args.bits.now c.args.valid.now c.args.row false c.requires.in_mask c.requires.in_bits (sym c.is_valid.ensures ∙ c.if-is_valid.true) in
    truths c.is_set.result c.args.bit ∙ ap (λ b. null_or (truth c.args.bit) (truth b)) c.is_set.ensures ∙ ap (null_or (truth c.args.bit)) (sym row)

pub returns-else-is_valid : goal.returns-else-is_valid
returns-else-is_valid c = null_or-null _ (truth c.args.bit) (row_at-null truth c.args.bits.now c.args.valid.now c.args.row false c.requires.in_mask c.requires.in_bits (sym c.is_valid.ensures ∙ c.if-is_valid.false))
