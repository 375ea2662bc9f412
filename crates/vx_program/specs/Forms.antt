-- The supported command lines: one word each.
use Rattle.std.specs.Prelude.{ℕ, List, [], ◌∷◌, find, Bool, Option, None, is_some, codes}
use Rattle.std.specs.Str.{bytes_eq}
use Rattle.vx_program.specs.declared.forms.Form.{Form}
use Rattle.vx_program.specs.declared.forms.Form.TheVariants.{Compress, Store, Show, Rows, Query}

-- the word of a form
abbrev pub form_text : Form → List ℕ
form_text Compress = codes "compress"
form_text Store = codes "store"
form_text Show = codes "show"
form_text Rows = codes "rows"
form_text Query = codes "query"

-- the form with this word
unfoldable pub form_named : List ℕ → Option Form
form_named word = find (λ form. bytes_eq word (form_text form)) (Compress ∷ Store ∷ Show ∷ Rows ∷ Query ∷ [])

-- the form of a command line: that of its only argument
abbrev pub form_of : List (List ℕ) → Option Form
form_of [] = None
form_of (arg ∷ []) = form_named arg
form_of (arg ∷ next ∷ args) = None

-- whether the command line has a form
abbrev pub is_supported : List (List ℕ) → Bool
is_supported args = is_some (form_of args)
