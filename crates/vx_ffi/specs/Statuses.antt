-- The status that C hears of what is due.
use Rattle.std.specs.Prelude.{◌≡◌, ◌⊎◌, ℕ, Result, Ok, Err}
use Rattle.vx_buffers.specs.declared.refusal.Refusal.{Refusal}
use Rattle.vx_buffers.specs.declared.refusal.Refusal.TheVariants.{NoMemory, TooManyRows, UnknownForm, ValidityLength, BadOffsets, ValueTooLong, NotUtf8, BadUnit, OtherType, BufferLength}
use Rattle.vx_ffi.specs.declared.failure.Failure.{Failure}
use Rattle.vx_ffi.specs.declared.failure.Failure.TheVariants.{Refused, NoWords, NoTree, NotStorable, BadFile, NotOneTree}

-- the status of a refusal of rows or buffers
abbrev pub refusal_number : Refusal → ℕ
refusal_number NoMemory = 1
refusal_number TooManyRows = 2
refusal_number UnknownForm = 4
refusal_number ValidityLength = 5
refusal_number BadOffsets = 6
refusal_number ValueTooLong = 7
refusal_number NotUtf8 = 8
refusal_number BadUnit = 9
refusal_number OtherType = 11
refusal_number BufferLength = 12

-- the status of a refusal
abbrev pub number_of : Failure → ℕ
number_of (Refused why) = refusal_number why
number_of NoWords = 3
number_of NoTree = 10
number_of NotStorable = 13
number_of BadFile = 14
number_of NotOneTree = 15

-- the status of what is due: 0 of an answer
abbrev pub status_of : {A : Type 0} → Result A Failure → ℕ
status_of (Ok a) = 0
status_of (Err why) = number_of why

-- a status is that of what is due, or that of want of memory
abbrev pub Told : {A : Type 0} → Result A Failure → ℕ → Type 0
Told due status = (status ≡ 1) ⊎ (status ≡ status_of due)
