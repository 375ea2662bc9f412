-- What a call answers.
use Rattle.std.specs.Prelude.{◌≡◌, ◌⊎◌, Result, Ok, Err, Option, Some, None}
use Rattle.vx_base.specs.declared.error.VortexError.{VortexError}
use Rattle.vx_base.specs.declared.error.VortexError.TheVariants as errors
use Rattle.vx_buffers.specs.declared.refusal.Refusal.{Refusal}
use Rattle.vx_buffers.specs.declared.refusal.Refusal.TheVariants.{NoMemory, TooManyRows, ValidityLength, BadOffsets, ValueTooLong, NotUtf8, BadUnit, OtherType}

-- what a refusal of the library means to the caller whose rows it judged: texts mismatch their type where they aren't UTF-8,
-- offsets are out of bounds, days are no unit
abbrev pub refusal_of : VortexError → Refusal
refusal_of errors.NoMemory = NoMemory
refusal_of errors.TooManyRows = TooManyRows
refusal_of errors.MismatchedTypes = NotUtf8
refusal_of errors.LengthMismatch = ValidityLength
refusal_of errors.OutOfBounds = BadOffsets
refusal_of errors.IndicesNotAscending = OtherType
refusal_of errors.DayUnit = BadUnit
refusal_of errors.DaysOutOfRange = OtherType
refusal_of errors.TimestampOutOfRange = OtherType
refusal_of errors.PartsNotCanonical = OtherType
refusal_of errors.CastRefused = OtherType
refusal_of errors.ValueTooLong = ValueTooLong
refusal_of errors.DuplicateScheme = OtherType
refusal_of errors.BadMetadata = OtherType

-- what is due of a thing that the library refuses to make, or makes
abbrev pub unless_refused : {A : Type 0} → Option VortexError → A → Result A Refusal
unless_refused None made = Ok made
unless_refused (Some why) made = Err (refusal_of why)

-- what is due of a second step behind a first one
abbrev pub followed_by : {A B : Type 0} → Result A Refusal → (A → Result B Refusal) → Result B Refusal
followed_by (Ok a) next = next a
followed_by (Err why) next = Err why

-- A call answers what is due, and no other refusal than the one that is due. Want of memory alone has no cause: a call that
-- allocates may answer it at any time.
abbrev pub Answered : {A : Type 0} → Result A Refusal → Result A Refusal → Type 0
Answered due (Ok a) = due ≡ Ok a
Answered due (Err why) = (why ≡ NoMemory) ⊎ (due ≡ Err why)
