use Rattle.std.proofs.Common.{◌∙◌, true, sym, ap, subst}
use Rattle.std.specs.Prelude.{option_to_list}
use Rattle.vx_model.specs.Column.{column_of}
use Rattle.vx_scheme.specs.Asked.{FitParts}
use Rattle.vx_schemes_common.specs.OnePart.{part_where}
use Rattle.vx_schemes_text.specs.VarBin.Tree.{binary_offsets}
use Rattle.vx_schemes_text.proofs.SparseParts.{few-trees, tree-fits}
use Rattle.vx_schemes_text.proofs.binary.var_bin.joined_by.Goals as goal

pub only-requires : goal.only-requires
only-requires c = few-trees true (binary_offsets (column_of c.args.array.now)) c.args.trees c.requires.trees

pub var_bin_tree-requires-clause-offsets : goal.var_bin_tree-requires-clause-offsets
var_bin_tree-requires-clause-offsets c =
    let part = binary_offsets (column_of c.args.array.now) in
    (tree-fits true part c.in-Some.offsets (subst (FitParts (part_where true part)) (sym (ap option_to_list (sym c.in-Some.is) ∙ c.only.ensures)) c.requires.trees)).1
