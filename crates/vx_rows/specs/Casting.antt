-- What a cast answers.
use Rattle.std.specs.Prelude.{◌≡◌, List, None, Result}
use Rattle.std.specs.List.{list_all}
use Rattle.vx_base.specs.declared.error.VortexError.{VortexError}
use Rattle.vx_base.specs.declared.error.VortexError.TheVariants.{CastRefused}
use Rattle.vx_base.specs.Answers.{unless}
use Rattle.vx_base.specs.PlainScalar.{fits}
use Rattle.vx_base.specs.PlainType.{PlainType}
use Rattle.vx_base.specs.PlainValue.{PlainValue}
use Rattle.vx_model.specs.Column.{column, column_of}
use Rattle.vx_model.specs.Tree.{Tree}
use Rattle.vx_rules.specs.Outcomes.{Follows, outcome}

-- the column of these values in a type; CastRefused unless each is one of the type
abbrev pub IsCast : PlainType → List PlainValue → Result Tree VortexError → Type 0
IsCast t values result = Follows (outcome (unless (list_all (fits t) values) CastRefused None) (column t values)) (λ out c. column_of out ≡ c) result
