-- Rows with a value.
use Rattle.std.proofs.Common.{◌≡◌, ◌<◌, ℕ, Bool, true, false, List, length, Option, Some, None, refl, arith}
use Rattle.std.specs.Prelude.{not, position, is_some}
use Rattle.std.specs.List.{list_all}
use Rattle.std.proofs.lemmas.List.Folds.{list_all_at}
use Rattle.std.proofs.lemmas.List.Quantifiers.{position-Some}
use Rattle.vx_base.specs.PlainValue.{PlainValue, null, is_null}

-- where a first value is found, there is a row, and not all rows are null
found : (vs : List PlainValue) → is_some (position (λ v. not (is_null v)) vs) ≡ true → (0 < length vs) × (list_all is_null vs ≡ false)
found vs h = by_first (position (λ v. not (is_null v)) vs) refl h
  where
    is_false : (b : Bool) → not b ≡ true → b ≡ false
    is_false true q = absurd cc
    is_false false q = refl

    by_first : (first : Option ℕ) → position (λ v. not (is_null v)) vs ≡ first → is_some first ≡ true → (0 < length vs) × (list_all is_null vs ≡ false)
    by_first None e s = absurd cc
    by_first (Some row) e s = let at = position-Some (λ v. not (is_null v)) vs row null e in (omega (arith, at.0), list_all_at is_null vs row null at.0 (is_false _ at.1))

pub some_row : (vs : List PlainValue) → is_some (position (λ v. not (is_null v)) vs) ≡ true → 0 < length vs
some_row vs h = (found vs h).0

pub some_value : (vs : List PlainValue) → is_some (position (λ v. not (is_null v)) vs) ≡ true → list_all is_null vs ≡ false
some_value vs h = (found vs h).1

pub ruleset values = (some_row, some_value)
