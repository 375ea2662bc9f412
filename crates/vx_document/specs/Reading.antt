-- How values are read out of JSON, and what a function that reads answers.
use Rattle.std.specs.Prelude.{◌≡◌, ◌&&◌, List, [], ◌∷◌, ℕ, Bool, true, if◌then◌else◌, Option, Some, None, option_map, option_and_then, Result, Ok, Err}
use Rattle.std.specs.List.{list_any}
use Rattle.std.specs.Str.{is_utf8, bytes_eq}
use Rattle.serde_json.specs.Data.{Data, Items, no_items, item, Members, no_members, member}
use Rattle.serde_json.specs.Read.{read}
use Rattle.vx_document.specs.declared.document.unread.Unread.{Unread}
use Rattle.vx_document.specs.declared.document.unread.Unread.TheVariants.{NoMemory, BadDocument}

infixl 10 ◌>>=◌
-- f of what the first gives, or None where it gives none
abbrev pub ◌>>=◌ : {A B : Type 0} → Option A → (A → Option B) → Option B
o >>= f = option_and_then f o

-- a condition of going on
abbrev pub when : Bool → Option (Unit {0})
when b = if b then Some tt else None

-- the one value of JSON that the bytes are; None where they are not UTF-8 or not one value
unfoldable pub value_of : List ℕ → Option Data
value_of bytes = if is_utf8 bytes then read bytes else None

-- each item read by f; None where one isn't read
abbrev pub all_by : {A : Type 0} → (Data → Option A) → Items → Option (List A)
all_by f no_items = Some []
all_by f (item d ds) = option_and_then (λ x. option_map (λ xs. x ∷ xs) (all_by f ds)) (f d)

-- the items of a list of two
abbrev pub pair_of : {A : Type 0} → List A → Option (A × A)
pair_of (a ∷ b ∷ []) = Some (a, b)
pair_of _ = None

-- the key is one of these
abbrev pub is_one_of : List (List ℕ) → List ℕ → Bool
is_one_of names key = list_any (λ name. bytes_eq name key) names

-- each key of an object is one of these
abbrev pub has_only : List (List ℕ) → Members → Bool
has_only names no_members = true
has_only names (member key d ms) = is_one_of names key && has_only names ms

-- ---- what the readers answer

-- A function answers what reading gives, as view sees it, and BadDocument exactly where reading gives none. Only NoMemory
-- may stand in place of both.
abbrev pub Gives : {X Y : Type 0} → (X → Y) → Result X Unread → Option Y → Type 0
Gives view (Ok x) reading = reading ≡ Some (view x)
Gives view (Err NoMemory) reading = Unit {0}
Gives view (Err BadDocument) reading = reading ≡ None

-- As Gives, of a function whose answer is a form of what reading gives.
abbrev pub GivesForm : {X Y : Type 0} → (X → Y → Type 0) → Result X Unread → Option Y → Type 0
GivesForm {Y = Y} IsForm (Ok x) reading = (y : Y) × (reading ≡ Some y) × IsForm x y
GivesForm IsForm (Err NoMemory) reading = Unit {0}
GivesForm IsForm (Err BadDocument) reading = reading ≡ None
