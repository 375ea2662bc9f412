use Rattle.std.proofs.Common.{rules}
use Rattle.std.proofs.lemmas.Option.{slice_get-map}
use Rattle.vx_base.specs.TypeOf.{field_of}
use Rattle.vx_base.proofs.FieldLemmas.{fields_of-out, option_map-copied}
use Rattle.vx_base.specs.declared.dtype.DType.TheViews.{the_lemmas}
use Rattle.vx_base.proofs.dtype.Fields.get.Goals as goal

pub returns : goal.returns
returns c = search (rules, the_lemmas, fields_of-out, slice_get-map, option_map-copied field_of c.item_at.result)
