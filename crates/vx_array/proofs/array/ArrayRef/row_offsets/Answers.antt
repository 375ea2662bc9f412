use Rattle.std.proofs.Common.{◌∙◌, None, ap, sym, map, pos}
use Rattle.vx_base.specs.declared.dtype.Nullability.TheVariants.{NonNullable}
use Rattle.vx_base.specs.declared.ptype.PType.TheVariants.{U64}
use Rattle.vx_model.specs.Offsets.{offsets_of}
use Rattle.vx_model.specs.Tree.{primitive}
use Rattle.vx_model.proofs.OffsetColumnLemmas.{plain-offsets}
use Rattle.vx_array.proofs.array.ArrayRef.row_offsets.Goals as goal

pub returns : goal.returns
returns c = c.primitive_of.ensures ∙ ap (λ os. primitive U64 (map pos os) None NonNullable) (c.in_ok-offsets.ensures ∙ ap offsets_of c.as_views.ensures.rows) ∙ sym (plain-offsets _)
