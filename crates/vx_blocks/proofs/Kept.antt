-- Rows that are packed unchanged, with one test for many.
use Rattle.std.proofs.Common.{◌≡◌, ℕ, ◌+◌, ◌/◌, ◌^◌, ◌<◌, ◌≤◌, Bool, true, false, ◌&&◌, List, length, get_or, ◌∙◌, arith, inl, inr, refl, nat_eq}
use Rattle.std.specs.Bool.{OnTrue}
use Rattle.std.specs.Int.RustNames.{bit_or}
use Rattle.std.proofs.lemmas.Bool.{cases_lt}
use Rattle.std.proofs.lemmas.Bool.Decides.{nat_tests}
use Rattle.std.proofs.lemmas.Nat.{pow_pos, le_or_l, le_or_r}
use Rattle.std.proofs.Math.Nat as nat
use Rattle.vx_blocks.specs.AreKept.{AreKept}
use Rattle.vx_blocks.proofs.Rows.{kept_rows-get, kept_row-fits}

-- what a test that is true says
pub OnTrue_holds : {P : Type 0} (b : Bool) → b ≡ true → OnTrue b P → P
OnTrue_holds true e h = h
OnTrue_holds false e h = absurd cc

and_first : (a b : Bool) → a && b ≡ true → a ≡ true
and_first true b h = refl
and_first false b h = h

and_second : (a b : Bool) → a && b ≡ true → b ≡ true
and_second true b h = h
and_second false b h = absurd cc

-- one row more is seen
pub seen-more : (bits : List ℕ) (valid : List Bool) (start i word x : ℕ) (all : Bool) → x ≡ get_or bits i 0 → ((k : ℕ) → start ≤ k → k < i → (get_or bits k 0 ≤ word) × (all ≡ true → get_or valid k false ≡ true))
    → (k : ℕ) → start ≤ k → k < i + 1 → (get_or bits k 0 ≤ bit_or word x) × (all && get_or valid i false ≡ true → get_or valid k false ≡ true)
seen-more bits valid start i word x all is before k first last =
    elim (cases_lt k i) [
      | inl lt ↦
          let old = before k first lt in
          (nat.le_trans old.0 (le_or_l word x), λ both. old.1 (and_first all (get_or valid i false) both))
      | inr far ↦
          let here : k ≡ i = omega arith in
          (rw (here, ← is) (le_or_r word x), λ both. rw here (and_second all (get_or valid i false) both))
    ]

-- what the test says of all of them
pub seen-all : (width : ℕ) (bits : List ℕ) (valid : List Bool) (start end word : ℕ) (all : Bool) → length valid ≡ length bits → end ≤ length bits → all ≡ true
    → ((k : ℕ) → start ≤ k → k < end → (get_or bits k 0 ≤ word) × (all ≡ true → get_or valid k false ≡ true)) → (fits : Bool) → fits ≡ nat_eq (word / 2 ^ width) 0 → OnTrue fits (AreKept width bits valid start end)
seen-all width bits valid start end word all same within is_all seen false e = tt
seen-all width bits valid start end word all same within is_all seen true e =
    let none : word / 2 ^ width ≡ 0 = grind (arith, nat_tests) in
    let small : word < 2 ^ width = omega (arith, rw none at (nat.lt-div-mul-add {a = word} {b = 2 ^ width} (pow_pos width))) in
    record {
      each = λ k first last.
          let row = seen k first last in
          kept_rows-get width bits valid k same (omega arith) ∙ kept_row-fits width (get_or bits k 0) (get_or valid k false) (row.1 is_all) (nat.lt_of_le_of_lt row.0 small);
    }
