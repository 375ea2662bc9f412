-- Which trees a file can hold, as a test; and what the reader of files answers.
use Rattle.std.specs.Prelude.{◌≡◌, Bool, ◌&&◌, List, Option, Some, None, Result, Ok, Err, nat_le}
use Rattle.std.specs.List.{list_all}
use Rattle.vx_codec.specs.declared.error.ReadError.{ReadError}
use Rattle.vx_codec.specs.declared.error.ReadError.TheVariants as reading
use Rattle.vx_file.specs.declared.error.FileError.{FileError}
use Rattle.vx_file.specs.declared.error.FileError.TheVariants.{NoMemory, NotStorable, BadFile}
use Rattle.vx_model.specs.Tree.{Tree}
use Rattle.vx_spelling.specs.Storable.{depth, all_within}

-- whether a well-formed tree is storable: at most 64 nodes on a path, and each node within the limits of rows and types
abbrev pub is_storable : Tree → Bool
is_storable t = nat_le (depth t) 64 && all_within t

-- whether each well-formed tree of a list is storable
abbrev pub are_storable : List Tree → Bool
are_storable ts = list_all is_storable ts

-- why a file is not read, by why its bytes aren't
abbrev pub file_error : ReadError → FileError
file_error reading.NoMemory = NoMemory
file_error reading.Malformed = BadFile

-- BadFile exactly where the bytes are no file; NoMemory has no cause, and NotStorable is for writers alone
abbrev pub ReadFails : FileError → Option (List Tree) → Type 0
ReadFails NoMemory read = Unit {0}
ReadFails NotStorable read = ⊥
ReadFails BadFile read = read ≡ None

-- Ok of the trees of the file; BadFile exactly where there is none; or NoMemory
abbrev pub ReadsFile : {X : Type 0} → (X → List Tree) → Result X FileError → Option (List Tree) → Type 0
ReadsFile view (Ok trees) read = read ≡ Some (view trees)
ReadsFile view (Err e) read = ReadFails e read
