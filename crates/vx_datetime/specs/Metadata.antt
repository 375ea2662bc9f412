-- The metadata of timestamps in parts as bytes: a message of three numbers, which name the integer types of days, seconds and
-- subseconds.
use Rattle.std.specs.Prelude.{◌≡◌, ℕ, ℤ, pos, negsuc, nat_abs, nat_lt, Bool, false, List, Option, None, option_map}
use Rattle.vx_base.specs.Answers.{unless}
use Rattle.vx_base.specs.declared.error.VortexError.{VortexError}
use Rattle.vx_base.specs.declared.error.VortexError.TheVariants.{BadMetadata}
use Rattle.vx_base.specs.declared.ptype.PType.{PType}
use Rattle.vx_base.specs.PlainType.{integer_of, ptype_number}
use Rattle.vx_datetime.specs.declared.metadata.DateTimePartsMetadata.{DateTimePartsMetadata}
use Rattle.vx_datetime.specs.Parts.{parts_in}
use Rattle.vx_metadata.specs.Numbers.{numbers, three}
use Rattle.vx_model.specs.Tree.{Tree}
use Rattle.vx_model.specs.TreeType.{tree_type}

-- three numbers as metadata
abbrev pub by_numbers : ℤ → ℤ → ℤ → DateTimePartsMetadata
by_numbers days seconds subseconds = record { days_ptype = days; seconds_ptype = seconds; subseconds_ptype = subseconds }

-- the numbers of three integer types: unsigned before signed, each by width, from 0 to 7
abbrev pub of_ptypes : PType → PType → PType → DateTimePartsMetadata
of_ptypes days seconds subseconds = by_numbers (pos (ptype_number days)) (pos (ptype_number seconds)) (pos (ptype_number subseconds))

-- the metadata of a tree whose root is DateTimeParts: the integer types of its parts
abbrev pub metadata_in : Tree → Option DateTimePartsMetadata
metadata_in t = option_map (λ p. of_ptypes (integer_of (tree_type p.0)) (integer_of (tree_type p.1)) (integer_of (tree_type p.2))) (parts_in t)

-- whether an integer type has the number
abbrev pub names_ptype : ℤ → Bool
names_ptype (pos n) = nat_lt n 8
names_ptype (negsuc n) = false

-- why metadata have no spelling: one of their numbers names no integer type
abbrev pub spelling_refusal : DateTimePartsMetadata → Option VortexError
spelling_refusal m =
    unless (names_ptype m.days_ptype) BadMetadata (unless (names_ptype m.seconds_ptype) BadMetadata (unless (names_ptype m.subseconds_ptype) BadMetadata None))

-- the one spelling of metadata: fields 1, 2 and 3 are the numbers of the types of days, seconds and subseconds
abbrev pub spelling : DateTimePartsMetadata → List ℕ
spelling m = numbers.spell (three (nat_abs m.days_ptype) (nat_abs m.seconds_ptype) (nat_abs m.subseconds_ptype))

-- metadata that bytes spell, of an array with a number of children
pub record IsSpelled (bytes : List ℕ) (children : ℕ) (m : DateTimePartsMetadata) : Type 0 where
  pub named : spelling_refusal m ≡ None
  pub spelled : bytes ≡ spelling m
  pub count : children ≡ 3
