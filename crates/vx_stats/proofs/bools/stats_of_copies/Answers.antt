use Rattle.std.proofs.Common.{◌∙◌, ◌-◌, cond, replicate, sym, ap}
use Rattle.vx_base.specs.PlainType.{boolean, nullability_of}
use Rattle.vx_base.specs.PlainValue.{is_null, truth_or_false}
use Rattle.vx_model.proofs.MadeLemmas.{copies_fit}
use Rattle.vx_stats.specs.Bools.{are_equal}
use Rattle.vx_stats.proofs.RootLemmas.{bool_is_flat, bool-fit}
use Rattle.vx_stats.proofs.RowCountLemmas.{counts-copies, rest-copies}
use Rattle.vx_stats.proofs.TruthLemmas.{constant-counts, true-copies}
use Rattle.vx_stats.proofs.bools.stats_of_copies.Goals as goal

pub cell-requires : goal.cell-requires
cell-requires c = bool_is_flat c.args.value.now.dtype c.requires.bool

pub returns : goal.returns
returns c =
    let len = c.args.len in
    let t = c.args.value.now.dtype in
    let v = c.args.value.now.value in
    let counts = counts-copies len v in
    let some = c.copies_with-null_count.ensures ∙ ap (λ b. cond b len 0) c.is_null.ensures in
    let values = ap (λ n. len - n) some ∙ rest-copies (is_null v) len ∙ sym counts.1 in
    let trues = c.copies_with-true_count.ensures ∙ ap (λ b. cond b len 0) (c.truth.ensures ∙ ap truth_or_false c.cell.ensures) ∙ sym (true-copies len v) in
    let fit = copies_fit (boolean (nullability_of t)) v len (bool-fit t v c.requires.bool c.known.ensures) in
    λ i. record {
      null_count = (some ∙ sym counts.0) i;
      value_count = values i;
      true_count = trues i;
      is_constant = ((λ j. are_equal (values j) (trues j)) ∙ constant-counts (nullability_of t) (replicate len v) fit) i;
    }
