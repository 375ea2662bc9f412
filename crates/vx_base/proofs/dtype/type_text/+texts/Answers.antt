use Rattle.std.proofs.Common.{rules, arith, ◌++◌}
use Rattle.std.specs.Prelude.{codes}
use Rattle.std.proofs.Output.{has_written_append}
use Rattle.vx_base.specs.TypeOf.{type_of}
use Rattle.vx_base.specs.TypeText.{type_text}
use Rattle.vx_base.proofs.StepLemmas.{fields_text_more, joined_more}
use Rattle.vx_base.proofs.dtype.type_text.+texts.Goals as goal

pub write_fields-loop-field-preserved : goal.write_fields-loop-field-preserved
write_fields-loop-field-preserved g t c = (
  search rules,
  λ plain.
      let (done, wrote, more) = c.loop-field.invariant.1 plain in
      let one = c.write_field.ensures wrote.plain (search rules) in
      let f = c.field-item.result in
      let step = fields_text_more c.loop-field.before.now c.as_slice-field-items.result.now c.loop-field.field-index f (omega arith) c.field-item.is in (
        done ++ (c.loop-field.before.now ++ f.0 ++ codes ":" ++ type_text (type_of f.1)),
        has_written_append _ _ _ _ _ _ wrote one,
        joined_more _ _ _ _ _ step more,
      ),
)
