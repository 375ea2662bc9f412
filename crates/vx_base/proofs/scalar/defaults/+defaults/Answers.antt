use Rattle.std.proofs.Common.{ap, sym, ◌∙◌, ◌≡◌, false}
use Rattle.vx_base.proofs.FieldLemmas.{default_of-Struct, null_or_default-none}
use Rattle.vx_base.specs.Defaults.{default_of}
use Rattle.vx_base.specs.PlainType.{is_nullable}
use Rattle.vx_base.specs.PlainValue.{items, of_list}
use Rattle.vx_base.specs.TypeOf.{type_of}
use Rattle.vx_base.proofs.scalar.defaults.+defaults.Goals as goal

pub null_or_default-returns-in_ok-field_defaults-in-Struct : goal.null_or_default-returns-in_ok-field_defaults-in-Struct
null_or_default-returns-in_ok-field_defaults-in-Struct t c =
    let none : is_nullable (type_of c.args.dtype.now) ≡ false = sym c.is_nullable.ensures ∙ c.if-is_nullable.false in
    ap (λ vs. items (of_list vs)) c.in_ok-field_defaults-in-Struct.ensures
    ∙ sym (null_or_default-none _ none ∙ ap (λ s. default_of (type_of s)) c.in-Struct.is ∙ default_of-Struct _ _)
