-- Kinds of timestamps: a unit, and the name of a time zone if there is one.
use Rattle.std.specs.Prelude.{◌≡◌, ℕ, ℤ, pos, List, Bool, Option, Some, None, is_some, cond, ◌==◌, refl}
use Rattle.std.specs.Coded.{Coded}
use Rattle.vx_base.specs.declared.timestamp.TimeUnit.{TimeUnit}
use Rattle.vx_base.specs.declared.timestamp.TimeUnit.TheVariants.{Nanoseconds, Microseconds, Milliseconds, Seconds, Days}
use Rattle.vx_base.specs.Storable.{Storable, code_of, stored_by, stored×, stored_option, stored_bytes}

-- the unit in which timestamps count, and the name of a time zone if there is one
pub record PlainTimestamp : Type 0 where
  pub unit : TimeUnit
  pub zone : Option (List ℕ)

-- a kind from its unit and zone
abbrev pub kind : TimeUnit → Option (List ℕ) → PlainTimestamp
kind u z = record { unit = u; zone = z }

-- the number of units in a second, None of days
abbrev pub divisor_of : TimeUnit → Option ℤ
divisor_of Nanoseconds = Some (pos 1_000_000_000)
divisor_of Microseconds = Some (pos 1_000_000)
divisor_of Milliseconds = Some (pos 1_000)
divisor_of Seconds = Some (pos 1)
divisor_of Days = None

-- whether a second is a whole number of units
abbrev pub divides : TimeUnit → Bool
divides u = is_some (divisor_of u)

-- ---- how the logic stores a kind
-- the number of a unit
abbrev pub unit_number : TimeUnit → ℕ
unit_number Nanoseconds = 0
unit_number Microseconds = 1
unit_number Milliseconds = 2
unit_number Seconds = 3
unit_number Days = 4

-- the unit with a number
abbrev pub unit_at : ℕ → TimeUnit
unit_at n = cond (n == 0) Nanoseconds (cond (n == 1) Microseconds (cond (n == 2) Milliseconds (cond (n == 3) Seconds Days)))

pub unit_at-number : (u : TimeUnit) → unit_at (unit_number u) ≡ u
unit_at-number Nanoseconds = refl
unit_at-number Microseconds = refl
unit_at-number Milliseconds = refl
unit_at-number Seconds = refl
unit_at-number Days = refl

-- a unit and a zone, as a pair
abbrev pub stored_parts : Storable (TimeUnit × Option (List ℕ))
stored_parts = stored× (stored_by unit_number unit_at unit_at-number) (stored_option stored_bytes)

-- a kind is stored as its unit and its zone
abbrev pub stored_kind : Storable PlainTimestamp
stored_kind =
    record {
      to = λ k. stored_parts.to (k.unit, k.zone);
      from = λ g. let p = stored_parts.from g in kind p.0 p.1;
      back = λ k i. let p = stored_parts.back (k.unit, k.zone) i in kind p.0 p.1;
    }

-- the code by which the logic decides equality of kinds
abbrev pub kind_code : Coded PlainTimestamp
kind_code = code_of stored_kind
