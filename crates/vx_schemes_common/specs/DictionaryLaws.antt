-- The type of a dictionary's codes holds each of them.
use Rattle.std.proofs.Common.{◌≡◌, ◌<◌, ◌≤◌, ◌-◌, ℕ, pos, true, false, inl, inr, arith}
use Rattle.std.specs.Prelude.{nat_lt}
use Rattle.std.proofs.lemmas.Bool.{cases_lt, lt-ltb, le-ltb}
use Rattle.vx_base.specs.Integers.{lies_in}
use Rattle.vx_schemes_common.specs.Dictionaries.{code_type}

pub code_type-holds : (count k : ℕ) → count ≤ 4_294_967_296 → k < count → lies_in (code_type count) (pos k) ≡ true
code_type-holds count k few h =
    elim (cases_lt (count - 1) 256) [
      | inl l ↦ let t : nat_lt (count - 1) 256 ≡ true = lt-ltb _ _ l in rw t (lt-ltb k 256 (omega arith))
      | inr g ↦
          let t : nat_lt (count - 1) 256 ≡ false = le-ltb _ _ g in
          elim (cases_lt (count - 1) 65_536) [
            | inl l ↦ let u : nat_lt (count - 1) 65_536 ≡ true = lt-ltb _ _ l in rw (t, u) (lt-ltb k 65_536 (omega arith))
            | inr m ↦
                let u : nat_lt (count - 1) 65_536 ≡ false = le-ltb _ _ m in
                let v : nat_lt (count - 1) 4_294_967_296 ≡ true = lt-ltb _ _ (omega arith) in
                rw (t, u, v) (lt-ltb k 4_294_967_296 (omega arith))
          ]
    ]
