-- The status and the output that the program answers its arguments and its input with.
use Rattle.std.specs.Prelude.{◌≡◌, ◌⊎◌, ◌++◌, ℕ, List, [], ◌∷◌, length, map, Bool, true, nat_lt, nat_le, if◌then◌else◌, Option, Some, None, IfSome, Result, Ok, Err, codes, String, string_bytes}
use Rattle.std.specs.declared.alloc.Global.{Global}
use Rattle.std.specs.List.{concat, list_all}
use Rattle.vx_base.specs.declared.error.VortexError.{VortexError}
use Rattle.vx_base.specs.declared.error.VortexError.TheVariants.{TooManyRows}
use Rattle.vx_base.specs.ErrorName.{error_name}
use Rattle.vx_model.specs.Tree.{Tree, of_list}
use Rattle.vx_model.specs.Column.{Column}
use Rattle.vx_model.specs.Extents.{counts, row_limit}
use Rattle.vx_model.specs.Plain.{plain}
use Rattle.vx_model.specs.Size.{nbytes}
use Rattle.vx_btrblocks.specs.Shipped.{shipped_tree}
use Rattle.vx_document.specs.Commands.{PlainCommand}
use Rattle.vx_document.specs.Document.{PlainDocument, document}
use Rattle.vx_document.specs.Listing.{listing, listings, sizes_line}
use Rattle.vx_document.specs.Writing.{documents_text, extents_are_few}
use Rattle.vx_file.specs.Answers.{are_storable}
use Rattle.vx_query.specs.Queries.{query_lines}
use Rattle.vx_spelling.specs.FileSpelling.{file_at, file_text}
use Rattle.vx_program.specs.Causes.{Rose}
use Rattle.vx_program.specs.Forms.{form_of, is_supported}
use Rattle.vx_program.specs.Reading.{limit}
use Rattle.vx_program.specs.declared.forms.Form.{Form}
use Rattle.vx_program.specs.declared.forms.Form.TheVariants.{Compress, Store, Show, Rows, Query}

-- the arguments as lists of bytes
abbrev pub texts_of : List (String Global) → List (List ℕ)
texts_of args = map string_bytes args

-- a status and an output
abbrev pub Reply : Type 0
Reply = ℕ × List ℕ

-- a refusal: its status, and its name in the text
abbrev pub refusal : ℕ → List ℕ → Reply
refusal status name = (status, concat (codes "refused: " ∷ name ∷ codes "\n" ∷ []))

-- ---- of a document's column, whose sample words place the samples

-- the rows of the column and of each nested one are within the row limit
abbrev pub counts_fit : Column → Bool
counts_fit c = list_all (λ count. nat_le count row_limit) (counts c.dtype c.values)

-- the listing of a tree, and the bytes of the plain tree and its own
abbrev pub report : ℕ → Tree → Reply
report plain_size tree = (0, listing [] tree ++ sizes_line plain_size (nbytes tree))

-- the reply of `compress`
unfoldable pub of_column : List ℕ → Column → Reply
of_column words c = if counts_fit c then report (nbytes (plain c)) (shipped_tree words c) else refusal 4 (error_name TooManyRows)

-- whether a tree can be stored
abbrev pub is_kept : Tree → Bool
is_kept tree = are_storable (tree ∷ [])

-- the file of the one tree
abbrev pub kept : Tree → Reply
kept tree = if is_kept tree then (0, file_text (tree ∷ [])) else refusal 4 (codes "NotStorable")

-- the reply of `store`
unfoldable pub stored : List ℕ → Column → Reply
stored words c = if counts_fit c then kept (shipped_tree words c) else refusal 4 (error_name TooManyRows)

-- the reply to a document, or to bytes that are none
abbrev pub of_document : (List ℕ → Column → Reply) → Option PlainDocument → Reply
of_document reply None = refusal 3 (codes "BadDocument")
of_document reply (Some d) = reply d.words d.column

-- ---- of a document's commands

-- the lines that commands print, or the first refusal
abbrev pub lines_reply : Result (List ℕ) VortexError → Reply
lines_reply (Ok lines) = (0, lines)
lines_reply (Err error) = refusal 4 (error_name error)

-- the reply of `query`: what the commands print of the column
unfoldable pub queried : List PlainCommand → Column → Reply
queried commands c = if counts_fit c then lines_reply (query_lines c commands) else refusal 4 (error_name TooManyRows)

-- the reply of `query` to a document, or to bytes that are none
abbrev pub of_commands : Option PlainDocument → Reply
of_commands None = refusal 3 (codes "BadDocument")
of_commands (Some d) = queried d.commands d.column

-- ---- of a file's trees

-- the reply of `show`: the listings, one after the other
abbrev pub shown : List Tree → Reply
shown trees = (0, listings [] (of_list trees))

-- a text that is not above the limit, so that it can be read again
abbrev pub within_limit : List ℕ → Reply
within_limit text = if nat_le (length text) limit then (0, text) else refusal 4 (codes "TooLong")

-- the reply of `rows`: the columns as documents, where no extent is above the limit
unfoldable pub written : List Tree → Reply
written trees = if list_all extents_are_few trees then within_limit (documents_text trees) else refusal 4 (error_name TooManyRows)

-- the reply to a file, or to bytes that are none
abbrev pub of_file : (List Tree → Reply) → Option (List Tree) → Reply
of_file reply None = refusal 3 (codes "BadFile")
of_file reply (Some trees) = reply trees

-- ---- of arguments and bytes

-- the reply of a form to bytes within the limit
unfoldable pub of_input : Form → List ℕ → Reply
of_input Compress bytes = of_document of_column (document bytes)
of_input Store bytes = of_document stored (document bytes)
of_input Show bytes = of_file shown (file_at bytes)
of_input Rows bytes = of_file written (file_at bytes)
of_input Query bytes = of_commands (document bytes)

-- the reply of a form to bytes
unfoldable pub of_bytes : Form → List ℕ → Reply
of_bytes form bytes = if nat_lt limit (length bytes) then refusal 7 (codes "TooLong") else of_input form bytes

-- the reply to a command line of this form, if it has one
abbrev pub of_form : Option Form → List ℕ → Reply
of_form None bytes = refusal 2 (codes "Usage")
of_form (Some form) bytes = of_bytes form bytes

-- the reply to these arguments and these bytes
unfoldable pub answer : List (List ℕ) → List ℕ → Reply
answer args bytes = of_form (form_of args) bytes

-- the reply to a failed read
abbrev pub read_fault : Reply
read_fault = refusal 5 (codes "ReadFault")

-- The reply answers the arguments and all bytes of the source, and the count of faults is as it was; or the command line is
-- supported, the reply is that of a failed read, and the count rose.
abbrev pub IsReply : Option (List ℕ) → ℕ → ℕ → List (List ℕ) → Reply → Type 0
IsReply left before now args reply =
    ((bytes : List ℕ) × IfSome left (λ all. bytes ≡ all) × (reply ≡ answer args bytes) × (now ≡ before))
    ⊎ ((is_supported args ≡ true) × (reply ≡ read_fault) × Rose before now)
