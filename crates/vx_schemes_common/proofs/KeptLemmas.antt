-- Statistics of a column of a site are never refused.
use Rattle.std.proofs.Common.{◌≡◌, ◌≤◌, Bool, true, false, List, length, Option, Some, None, refl, arith}
use Rattle.std.specs.Prelude.{Ok, nat_lt}
use Rattle.std.proofs.lemmas.Bool.{lt-ltb}
use Rattle.vx_base.specs.Answers.{Decided, SurelyDecided}
use Rattle.vx_base.specs.declared.error.VortexError.{VortexError}
use Rattle.vx_base.specs.PlainValue.{PlainValue}
use Rattle.vx_scheme.specs.Asked.{most_rows}
use Rattle.vx_scheme.specs.Bundle.{KeptOrDecided}
use Rattle.vx_stats.specs.Stats.{stats_refusal}

pub no_refusal : (vs : List PlainValue) → length vs ≤ most_rows → stats_refusal vs ≡ None
no_refusal vs few = let within : nat_lt (length vs) 4294967296 ≡ true = lt-ltb _ _ (omega (arith, few)) in rw within refl

pub kept_or_decided : {A : Type 0} (kept : Bool) (refusal : Option VortexError) (P : A → Type 0) (a : A) → refusal ≡ None → KeptOrDecided kept refusal P (Ok a) → P a
kept_or_decided true refusal P a none h = h
kept_or_decided false None P a none h = h
kept_or_decided false (Some e) P a none h = absurd cc

pub surely_decided : {A : Type 0} (refusal : Option VortexError) (P : A → Type 0) (a : A) → refusal ≡ None → SurelyDecided refusal P (Ok a) → P a
surely_decided None P a none h = h
surely_decided (Some e) P a none h = absurd cc

pub decided : {A : Type 0} (refusal : Option VortexError) (P : A → Type 0) (a : A) → refusal ≡ None → Decided refusal P (Ok a) → P a
decided None P a e h = h
decided (Some x) P a e h = absurd cc
