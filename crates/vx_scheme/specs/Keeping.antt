-- The state of a bundle when the borrow of a statistic ends.
use Rattle.std.specs.Prelude.{◌≡◌, Bool, true, ⊤}
use mathlib.Core.Option.{none}
use Rattle.std.specs.Borrow.{follows_so, MutBor, Fml}
use Rattle.vx_scheme.specs.Bundle.{Bundle, SameArray, StaysKept}
use Rattle.vx_scheme.specs.contracts.array_and_stats.ArrayAndStats.{the_row}

-- the array, the options and what was kept are unchanged, and the statistics are kept where they were returned
pub record KeepsIntegers (answered : Bool) (old new : Bundle) : Type 0 where
  pub same : SameArray old new
  pub stays : StaysKept old new
  pub kept : answered ≡ true → new.integers_kept ≡ true

-- when the borrow of the statistics ends, the bundle keeps them
abbrev pub LendsIntegers : MutBor Bundle → Bool → Fml
LendsIntegers bundle answered = follows_so the_row the_row bundle.ghost_name none (λ _ _. ⊤) (λ v. KeepsIntegers answered bundle.now v)

-- nothing changes but that the summary is kept where it was returned
pub record KeepsSummary (answered : Bool) (old new : Bundle) : Type 0 where
  pub same : SameArray old new
  pub stays : old.summary_kept ≡ true → new.summary_kept ≡ true
  pub kept : answered ≡ true → new.summary_kept ≡ true
  pub integers : new.integers_kept ≡ old.integers_kept
  pub bools : new.bools_kept ≡ old.bools_kept
  pub strings : new.strings_kept ≡ old.strings_kept

-- when the borrow of the summary ends, the bundle keeps it
abbrev pub LendsSummary : MutBor Bundle → Bool → Fml
LendsSummary bundle answered = follows_so the_row the_row bundle.ghost_name none (λ _ _. ⊤) (λ v. KeepsSummary answered bundle.now v)

-- the array, the options and what was kept are unchanged, and the statistics of truth values are kept where they were returned
pub record KeepsBools (answered : Bool) (old new : Bundle) : Type 0 where
  pub same : SameArray old new
  pub stays : StaysKept old new
  pub kept : answered ≡ true → new.bools_kept ≡ true

-- when the borrow of the statistics ends, the bundle keeps them
abbrev pub LendsBools : MutBor Bundle → Bool → Fml
LendsBools bundle answered = follows_so the_row the_row bundle.ghost_name none (λ _ _. ⊤) (λ v. KeepsBools answered bundle.now v)

-- the array, the options and what was kept are unchanged, and the statistics of texts or binaries are kept where they were
-- returned
pub record KeepsStrings (answered : Bool) (old new : Bundle) : Type 0 where
  pub same : SameArray old new
  pub stays : StaysKept old new
  pub kept : answered ≡ true → new.strings_kept ≡ true

-- when the borrow of the statistics ends, the bundle keeps them
abbrev pub LendsStrings : MutBor Bundle → Bool → Fml
LendsStrings bundle answered = follows_so the_row the_row bundle.ghost_name none (λ _ _. ⊤) (λ v. KeepsStrings answered bundle.now v)
