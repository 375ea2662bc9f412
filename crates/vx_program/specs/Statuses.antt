-- The cause of each status.
use Rattle.std.specs.Prelude.{◌≡◌, ◌≢◌, ◌↔◌, ◌⊎◌, ◌&&◌, ◌<◌, ◌≤◌, ◌+◌, ℕ, List, length, Bool, true, false, nat_le, Option, Some, None, IfSome, IsSomeAnd, is_ok}
use Rattle.std.specs.List.{list_all}
use Rattle.vx_model.specs.Tree.{Tree}
use Rattle.vx_btrblocks.specs.Shipped.{shipped_tree}
use Rattle.vx_document.specs.Document.{PlainDocument, document}
use Rattle.vx_document.specs.Writing.{documents_text, extents_are_few}
use Rattle.vx_query.specs.Queries.{query_lines}
use Rattle.vx_spelling.specs.FileSpelling.{file_at}
use Rattle.vx_program.specs.Answer.{counts_fit, is_kept}
use Rattle.vx_program.specs.Forms.{form_of, is_supported}
use Rattle.vx_program.specs.Reading.{limit}
use Rattle.vx_program.specs.declared.forms.Form.{Form}
use Rattle.vx_program.specs.declared.forms.Form.TheVariants.{Compress, Store, Show, Rows, Query}

-- The reply was written whole. Where it was not, the status is 1 or 6 instead of the reply's.
abbrev pub IsWritten : ℕ → Type 0
IsWritten status = (status ≢ 1) × (status ≢ 6)

-- the reply was written whole, and no read failed
abbrev pub IsAnswered : ℕ → Type 0
IsAnswered status = (status ≢ 1) × (status ≢ 5) × (status ≢ 6)

-- The status comes exactly where its cause holds of all bytes of the source, if they are known. Only 1, 5 and 6 may stand in
-- its place.
abbrev pub ComesExactly : ℕ → ℕ → Option (List ℕ) → (List ℕ → Type 0) → Type 0
ComesExactly status result left IsCause = IsAnswered result → IfSome left (λ all. result ≡ status ↔ IsCause all)

-- the statuses of replies that depend on all bytes of the source
abbrev pub RestsOnAll : ℕ → Type 0
RestsOnAll status = (status ≡ 0) ⊎ (status ≡ 3) ⊎ (status ≡ 4)

-- 2: the command line is not supported
abbrev pub IsUsage : List (List ℕ) → Type 0
IsUsage args = is_supported args ≡ false

-- 7: more bytes came than the limit
abbrev pub IsTooLong : List ℕ → Option (List ℕ) → Type 0
IsTooLong old None = ⊥
IsTooLong old (Some new) = limit + length new < length old

-- a supported command line and no more bytes than the limit
abbrev pub IsRead : List (List ℕ) → List ℕ → Type 0
IsRead args bytes = (is_supported args ≡ true) × (length bytes ≤ limit)

-- a command line of a form that has Cause, and no more bytes than the limit
abbrev pub Has : (Form → List ℕ → Type 0) → List (List ℕ) → List ℕ → Type 0
Has Cause args bytes = IsRead args bytes × IsSomeAnd (form_of args) (λ form. Cause form bytes)

-- 3: the bytes are not a document, or for the forms that read a file not a file
abbrev pub IsBad : Form → List ℕ → Type 0
IsBad Compress bytes = document bytes ≡ None
IsBad Store bytes = document bytes ≡ None
IsBad Show bytes = file_at bytes ≡ None
IsBad Rows bytes = file_at bytes ≡ None
IsBad Query bytes = document bytes ≡ None

-- 3, of a supported command line and at most the limit of bytes
abbrev pub IsBadInput : List (List ℕ) → List ℕ → Type 0
IsBadInput = Has IsBad

-- whether a document's columns are within the row limit and its compressed tree can be stored
abbrev pub can_be_stored : PlainDocument → Bool
can_be_stored d = counts_fit d.column && is_kept (shipped_tree d.words d.column)

-- whether a document's columns are within the row limit and none of its commands is refused
abbrev pub can_be_asked : PlainDocument → Bool
can_be_asked d = counts_fit d.column && is_ok (query_lines d.column d.commands)

-- whether no extent of a tree and no more bytes of its columns as documents are above the limit of the input
abbrev pub can_be_written : List Tree → Bool
can_be_written trees = list_all extents_are_few trees && nat_le (length (documents_text trees)) limit

-- 4: what each form refuses of what it read. `show` refuses nothing
abbrev pub Refuses : Form → List ℕ → Type 0
Refuses Compress bytes = IsSomeAnd (document bytes) (λ d. counts_fit d.column ≡ false)
Refuses Store bytes = IsSomeAnd (document bytes) (λ d. can_be_stored d ≡ false)
Refuses Show bytes = ⊥
Refuses Rows bytes = IsSomeAnd (file_at bytes) (λ trees. can_be_written trees ≡ false)
Refuses Query bytes = IsSomeAnd (document bytes) (λ d. can_be_asked d ≡ false)

-- 4, of a supported command line and at most the limit of bytes
abbrev pub IsRefused : List (List ℕ) → List ℕ → Type 0
IsRefused = Has Refuses

-- 0: what each form answers
abbrev pub Answers : Form → List ℕ → Type 0
Answers Compress bytes = IsSomeAnd (document bytes) (λ d. counts_fit d.column ≡ true)
Answers Store bytes = IsSomeAnd (document bytes) (λ d. can_be_stored d ≡ true)
Answers Show bytes = IsSomeAnd (file_at bytes) (λ trees. Unit {0})
Answers Rows bytes = IsSomeAnd (file_at bytes) (λ trees. can_be_written trees ≡ true)
Answers Query bytes = IsSomeAnd (document bytes) (λ d. can_be_asked d ≡ true)

-- 0, of a supported command line and at most the limit of bytes
abbrev pub IsAnswerable : List (List ℕ) → List ℕ → Type 0
IsAnswerable = Has Answers

-- ---- the causes of `compress`, by its document

-- the command line `compress`
abbrev pub IsCompress : List (List ℕ) → Type 0
IsCompress args = form_of args ≡ Some Compress

-- 3: the bytes are not a document
abbrev pub IsBadDocument : List (List ℕ) → List ℕ → Type 0
IsBadDocument args bytes = IsRead args bytes × (document bytes ≡ None)

-- 4: they are a document with a column above the row limit
abbrev pub HasTooManyRows : List (List ℕ) → List ℕ → Type 0
HasTooManyRows args bytes = IsRead args bytes × IsSomeAnd (document bytes) (λ d. counts_fit d.column ≡ false)

-- 0: they are a document, and each of its columns is within the row limit
abbrev pub IsCompressible : List (List ℕ) → List ℕ → Type 0
IsCompressible args bytes = IsRead args bytes × IsSomeAnd (document bytes) (λ d. counts_fit d.column ≡ true)
