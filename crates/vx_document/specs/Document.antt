-- What a document is: a column, the sample words that place its samples, and the commands on it, as JSON.
use Rattle.std.specs.Prelude.{ℕ, List, [], ◌∷◌, Option, Some, codes}
use Rattle.serde_json.specs.Data.{Data}
use Rattle.serde_json.specs.Find.{get_member, as_object}
use Rattle.vx_model.specs.Column.{Column, column}
use Rattle.vx_document.specs.Commands.{PlainCommand, commands_in}
use Rattle.vx_document.specs.Reading.{◌>>=◌, when, has_only, value_of}
use Rattle.vx_document.specs.RowsOf.{rows_of}
use Rattle.vx_document.specs.Types.{type_read}
use Rattle.vx_document.specs.Words.{words_in}

-- a column with its sample words and its commands
pub record PlainDocument : Type 0 where
  pub column : Column
  pub words : List ℕ
  pub commands : List PlainCommand

-- an object with a type, rows, sample words or a seed, perhaps commands, and no other key
unfoldable pub document_of : Data → Option PlainDocument
document_of d = do
  members ← as_object d
  _ ← when (has_only (codes "type" ∷ codes "rows" ∷ codes "words" ∷ codes "seed" ∷ codes "commands" ∷ []) members)
  type_data ← get_member (codes "type") members
  t ← type_read type_data
  rows_data ← get_member (codes "rows") members
  rows ← rows_of t rows_data
  words ← words_in (get_member (codes "words") members) (get_member (codes "seed") members)
  commands ← commands_in (get_member (codes "commands") members)
  Some (record { column = column t rows; words = words; commands = commands })

-- the document that the bytes are, or None
unfoldable pub document : List ℕ → Option PlainDocument
document bytes = value_of bytes >>= document_of
