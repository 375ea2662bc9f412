use Rattle.std.proofs.Common.{ap, sym, ◌∙◌, option_map, List, ℕ}
use Rattle.vx_base.specs.PlainType.{PlainType}
use Rattle.vx_base.specs.TypeOf.{type_of, fields_of}
use Rattle.vx_base.proofs.FieldLemmas.{type_of-Struct}
use Rattle.vx_flat.specs.Ways.{field_type}
use Rattle.vx_flat.proofs.ValueWayLemmas.{type_in-get}
use Rattle.vx_flat.proofs.counting.within.field_type.Goals as goal

pub returns-in-Some : goal.returns-in-Some
returns-in-Some c =
    let typed = ap type_of c.in-Struct.is ∙ type_of-Struct _ _ in
    ap (option_map (λ (f : List ℕ × PlainType). f.1)) c.in-Some.ensures ∙ sym (ap (field_type c.args.place) typed ∙ type_in-get (fields_of c.in-Struct.fields) c.args.place)

pub returns-in-None : goal.returns-in-None
returns-in-None c =
    let typed = ap type_of c.in-Struct.is ∙ type_of-Struct _ _ in
    ap (option_map (λ (f : List ℕ × PlainType). f.1)) c.in-None.ensures ∙ sym (ap (field_type c.args.place) typed ∙ type_in-get (fields_of c.in-Struct.fields) c.args.place)
