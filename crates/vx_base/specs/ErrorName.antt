-- The name of each error.
use Rattle.std.specs.Prelude.{ℕ, List, codes}
use Rattle.vx_base.specs.declared.error.VortexError.{VortexError}
use Rattle.vx_base.specs.declared.error.VortexError.TheVariants.{NoMemory, TooManyRows, MismatchedTypes, LengthMismatch, OutOfBounds, IndicesNotAscending, DayUnit, DaysOutOfRange, TimestampOutOfRange, PartsNotCanonical, CastRefused, ValueTooLong, DuplicateScheme, BadMetadata}

-- the name that `Display` prints
abbrev pub error_name : VortexError → List ℕ
error_name NoMemory = codes "NoMemory"
error_name TooManyRows = codes "TooManyRows"
error_name MismatchedTypes = codes "MismatchedTypes"
error_name LengthMismatch = codes "LengthMismatch"
error_name OutOfBounds = codes "OutOfBounds"
error_name IndicesNotAscending = codes "IndicesNotAscending"
error_name DayUnit = codes "DayUnit"
error_name DaysOutOfRange = codes "DaysOutOfRange"
error_name TimestampOutOfRange = codes "TimestampOutOfRange"
error_name PartsNotCanonical = codes "PartsNotCanonical"
error_name CastRefused = codes "CastRefused"
error_name ValueTooLong = codes "ValueTooLong"
error_name DuplicateScheme = codes "DuplicateScheme"
error_name BadMetadata = codes "BadMetadata"
