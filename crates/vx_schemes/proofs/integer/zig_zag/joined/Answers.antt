use Rattle.std.proofs.Common.{◌≡◌, ◌∙◌, Bool, true, false, [], ◌∷◌, sym, ap, subst}
use Rattle.std.specs.Prelude.{not, option_to_list}
use Rattle.vx_base.specs.PlainType.{integer_of, is_unsigned}
use Rattle.vx_model.specs.Column.{Column, column_of}
use Rattle.vx_model.specs.Tree.{Tree}
use Rattle.vx_model.specs.TreeType.{tree_type}
use Rattle.vx_scheme.specs.Asked.{FitParts}
use Rattle.vx_schemes_common.specs.OnePart.{part_where}
use Rattle.vx_schemes.specs.ZigZag.Laws.{unsigned-not_signed}
use Rattle.vx_schemes.specs.ZigZag.Tree.{zigzags, zig_zag_made}
use Rattle.vx_schemes.proofs.integer.zig_zag.joined.Goals as goal

-- the part's tree has an unsigned type
part-unsigned : (c : Column) (tree : Tree) → FitParts (zig_zag_made c) (tree ∷ []) → is_unsigned (tree_type tree) ≡ true
part-unsigned c tree fit = by_test (not (is_unsigned c.dtype)) fit
  where
    by_test : (b : Bool) → FitParts (part_where b (zigzags c)) (tree ∷ []) → is_unsigned (tree_type tree) ≡ true
    by_test false h = absurd cc
    by_test true h = let same : column_of tree ≡ zigzags c = cc in ap (λ d. is_unsigned d.dtype) same ∙ unsigned-not_signed (integer_of c.dtype)

pub over-requires : goal.over-requires
over-requires c =
    let own = column_of c.args.array.now in
    part-unsigned own c.in-Some.words (subst (FitParts (zig_zag_made own)) (sym (ap option_to_list (sym c.in-Some.is) ∙ c.only.ensures)) c.requires.trees)
