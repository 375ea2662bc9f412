-- What the steps of an export answer.
use Rattle.std.specs.Prelude.{◌≡◌, ◌⊎◌, Option, Some, None, Result, Ok, Err}
use Rattle.vx_buffers.specs.declared.refusal.Refusal.{Refusal}
use Rattle.vx_buffers.specs.declared.refusal.Refusal.TheVariants.{NoMemory}
use Rattle.vx_ffi.specs.declared.failure.Failure.{Failure}
use Rattle.vx_ffi.specs.declared.failure.Failure.TheVariants.{Refused, NoTree}
use Rattle.vx_model.specs.Tree.{Tree}

-- an answer about rows or buffers as an export's
abbrev pub raised : {A : Type 0} → Result A Refusal → Result A Failure
raised (Ok a) = Ok a
raised (Err why) = Err (Refused why)

-- what is due of a second step behind a first one
abbrev pub followed_by : {A B : Type 0} → Result A Failure → (A → Result B Failure) → Result B Failure
followed_by (Ok a) next = next a
followed_by (Err why) next = Err why

-- A step answers what is due, and no other refusal than the one that is due. Want of memory alone has no cause: a step that
-- allocates may answer it at any time.
abbrev pub Settled : {A : Type 0} → Result A Failure → Result A Failure → Type 0
Settled due (Ok a) = due ≡ Ok a
Settled due (Err why) = (why ≡ Refused NoMemory) ⊎ (due ≡ Err why)

-- what a handle has is the tree that is due
abbrev pub Holds : Result Tree Failure → Option Tree → Type 0
Holds (Ok t) held = held ≡ Some t
Holds (Err why) held = ⊥

-- what a call on a handle answers, by what it answers of its tree
abbrev pub of_held : {A : Type 0} → Option Tree → (Tree → Result A Failure) → Result A Failure
of_held None answer = Err NoTree
of_held (Some t) answer = answer t
