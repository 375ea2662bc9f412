-- The laws of bytes and numbers.
use Rattle.std.proofs.Common.{◌≡◌, ℕ, zero, suc, ◌+◌, ◌-◌, ◌*◌, ◌/◌, ◌%◌, ◌^◌, ◌<◌, ◌≤◌, Bool, true, false, cond, ltb, eqb, List, [], ◌∷◌, ◌++◌, length, take, drop, Option, Some, None, refl, sym, ap, subst, ◌∙◌, zero-add, arith, inl, inr}
use Rattle.std.proofs.lemmas.Bool.{cases_lt, ltb-false, ltb-true, le-ltb, lt-ltb, eqb-true, eqb-false, ne_eqb}
use Rattle.std.proofs.lemmas.List.{take_at, drop_at, take-append-drop, length-append, length-take}
use Rattle.vx_codec.specs.FixedWidth.{byte, byte_at, little_endian, little_endian_at, fixed_width, raw, enumerated}
use Rattle.vx_codec.specs.Format.{◌>>=◌, IsLawful}
use Rattle.vx_codec.specs.Varint.{groups, groups_at, grouped, is_below_64, varint}
use Rattle.vx_codec.proofs.FormatLaws.{bind_ok, some_is, test_ok, untest_ok, either, tested_lawful}

-- one group, and one byte more
group_power : (k : ℕ) → 128 ^ suc k ≡ 128 * 128 ^ k
group_power k = omega arith

byte_power : (k : ℕ) → 256 ^ suc k ≡ 256 * 256 ^ k
byte_power k = omega arith

groups_positive : (k : ℕ) → 0 < 128 ^ k
groups_positive zero = omega arith
groups_positive (suc k) = let ih = groups_positive k in let p = group_power k in omega arith

groups_grow : (k j : ℕ) → 128 ^ k ≤ 128 ^ (j + k)
groups_grow k zero = rw zero-add (omega arith)
groups_grow k (suc j) =
    let ih = groups_grow k j in
    let e : suc j + k ≡ suc (j + k) = omega arith in
    let p = group_power (j + k) in
    rw e (omega arith)

bytes_grow : (k j : ℕ) → 256 ^ k ≤ 256 ^ (j + k)
bytes_grow k zero = rw zero-add (omega arith)
bytes_grow k (suc j) =
    let ih = bytes_grow k j in
    let e : suc j + k ≡ suc (j + k) = omega arith in
    let p = byte_power (j + k) in
    rw e (omega arith)

pub few_groups : (k : ℕ) → k ≤ 10 → 128 ^ k ≤ 2 ^ 70
few_groups k h =
    let e : 10 - k + k ≡ 10 = omega arith in
    let g : 128 ^ k ≤ 128 ^ 10 = rw e at (groups_grow k (10 - k)) in g

pub few_bytes : (k : ℕ) → k ≤ 16 → 256 ^ k ≤ 2 ^ 128
few_bytes k h =
    let e : 16 - k + k ≡ 16 = omega arith in
    let g : 256 ^ k ≤ 256 ^ 16 = rw e at (bytes_grow k (16 - k)) in g

not_zero : (n : ℕ) → eqb n 0 ≡ false → 0 < n
not_zero n e = let ne = eqb-false n 0 e in grind (arith, ne)

low_byte : (b h : ℕ) → b < 256 → (b + 256 * h) % 256 ≡ b
low_byte b h lt = omega arith

high_bytes : (b h : ℕ) → b < 256 → (b + 256 * h) / 256 ≡ h
high_bytes b h lt = omega arith

first_group : (b h : ℕ) → 128 ≤ b → b < 256 → ((b - 128) + 128 * h) % 128 + 128 ≡ b
first_group b h le lt = omega arith

other_groups : (b h : ℕ) → 128 ≤ b → b < 256 → ((b - 128) + 128 * h) / 128 ≡ h
other_groups b h le lt = omega arith

pub byte_canonical : (bytes : List ℕ) (x : ℕ × List ℕ) → byte_at bytes ≡ Some x → (bytes ≡ x.0 ∷ x.1) × (x.0 < 256)
byte_canonical [] x e = absurd cc
byte_canonical (b ∷ bytes) x e =
    let g = test_ok (ltb b 256) (Some (b, bytes)) x e in
    subst (λ (y : ℕ × List ℕ). (b ∷ bytes ≡ y.0 ∷ y.1) × (y.0 < 256)) (some_is (b, bytes) x g.1) (refl, ltb-true _ _ g.0)

pub byte_lawful : IsLawful byte
byte_lawful = record {
  round_trip = λ b rest h. let a_byte : ltb b 256 ≡ true = lt-ltb _ _ h in rw a_byte refl;
  canonical = byte_canonical;
}

groups_round_trip : (k n : ℕ) (rest : List ℕ) → n < 128 ^ suc k → groups_at (suc k) (groups (suc k) n ++ rest) ≡ Some (n, rest)
groups_round_trip zero n rest h =
    let small : ltb n 128 ≡ true = lt-ltb _ _ (omega arith) in
    let a_byte : ltb n 256 ≡ true = lt-ltb _ _ (omega arith) in
    rw (small, a_byte, small) refl
groups_round_trip (suc k) n rest h =
    let p = group_power (suc k) in
    elim (cases_lt n 128) [
      | inl lt ↦
          let small : ltb n 128 ≡ true = lt-ltb _ _ lt in
          let a_byte : ltb n 256 ≡ true = lt-ltb _ _ (omega arith) in
          rw (small, a_byte, small) refl
      | inr le ↦
          let big : ltb n 128 ≡ false = le-ltb _ _ le in
          let a_byte : ltb (n % 128 + 128) 256 ≡ true = lt-ltb _ _ (omega arith) in
          let more : ltb (n % 128 + 128) 128 ≡ false = le-ltb _ _ (omega arith) in
          let ih = groups_round_trip k (n / 128) rest (omega arith) in
          let ne : eqb (n / 128) 0 ≡ false = ne_eqb (n / 128) 0 (λ z. absurd (omega arith)) in
          let back : (n % 128 + 128) - 128 + 128 * (n / 128) ≡ n = omega arith in
          rw (big, a_byte, more, ih, ne, back) refl
    ]

groups_canonical : (k : ℕ) (bytes : List ℕ) (x : ℕ × List ℕ) → groups_at k bytes ≡ Some x → (bytes ≡ groups k x.0 ++ x.1) × (x.0 < 128 ^ k)
groups_canonical zero bytes x e = absurd cc
groups_canonical (suc k) bytes x e =
    let p = group_power k in
    let b = bind_ok (byte_at bytes) (λ b. cond (ltb b.0 128) (Some b) (groups_at k b.1 >>= λ h. cond (eqb h.0 0) None (Some ((b.0 - 128) + 128 * h.0, h.1)))) x e in
    let t = byte_canonical bytes b.0 b.1 in
    elim (either (ltb b.0.0 128) (Some b.0) (groups_at k b.0.1 >>= λ h. cond (eqb h.0 0) None (Some ((b.0.0 - 128) + 128 * h.0, h.1))) (Some x) b.2) [
      | inl q ↦
          let small : b.0.0 < 128 = ltb-true _ _ q.0 in
          let some : 0 < 128 ^ k = groups_positive k in
          subst (λ (y : ℕ × List ℕ). (bytes ≡ groups (suc k) y.0 ++ y.1) × (y.0 < 128 ^ suc k)) (some_is b.0 x q.1) (rw q.0 t.0, omega arith)
      | inr q ↦
          let h = bind_ok (groups_at k b.0.1) (λ h. cond (eqb h.0 0) None (Some ((b.0.0 - 128) + 128 * h.0, h.1))) x q.1 in
          let g = untest_ok (eqb h.0.0 0) (Some ((b.0.0 - 128) + 128 * h.0.0, h.0.1)) x h.2 in
          let u = groups_canonical k b.0.1 h.0 h.1 in
          let n : ℕ = (b.0.0 - 128) + 128 * h.0.0 in
          let low : 128 ≤ b.0.0 = ltb-false _ _ q.0 in
          let a_byte : b.0.0 < 256 = t.1 in
          let positive : 0 < h.0.0 = not_zero h.0.0 g.0 in
          let below : h.0.0 < 128 ^ k = u.1 in
          let big : ltb ((b.0.0 - 128) + 128 * h.0.0) 128 ≡ false = le-ltb _ _ (omega arith) in
          let first : ((b.0.0 - 128) + 128 * h.0.0) % 128 + 128 ≡ b.0.0 = first_group b.0.0 h.0.0 low a_byte in
          let others : ((b.0.0 - 128) + 128 * h.0.0) / 128 ≡ h.0.0 = other_groups b.0.0 h.0.0 low a_byte in
          subst (λ (y : ℕ × List ℕ). (bytes ≡ groups (suc k) y.0 ++ y.1) × (y.0 < 128 ^ suc k)) (some_is ((b.0.0 - 128) + 128 * h.0.0, h.0.1) x g.1)
          (rw (big, first, others) (t.0 ∙ ap (λ (r : List ℕ). b.0.0 ∷ r) u.0), omega arith)
    ]

pub grouped_lawful : (k : ℕ) → IsLawful (grouped k)
grouped_lawful k = record { round_trip = groups_round_trip k; canonical = groups_canonical (suc k) }

pub varint_lawful : IsLawful varint
varint_lawful = tested_lawful is_below_64 (grouped 9) (grouped_lawful 9)

-- ---- numbers of a fixed width
fixed_round_trip : (k n : ℕ) (rest : List ℕ) → n < 256 ^ k → little_endian_at k (little_endian k n ++ rest) ≡ Some (n, rest)
fixed_round_trip zero n rest h = let none : n ≡ 0 = omega arith in rw none refl
fixed_round_trip (suc k) n rest h =
    let p = byte_power k in
    let a_byte : ltb (n % 256) 256 ≡ true = lt-ltb _ _ (omega arith) in
    let ih = fixed_round_trip k (n / 256) rest (omega arith) in
    let back : n % 256 + 256 * (n / 256) ≡ n = omega arith in
    rw (a_byte, ih, back) refl

fixed_canonical : (k : ℕ) (bytes : List ℕ) (x : ℕ × List ℕ) → little_endian_at k bytes ≡ Some x → (bytes ≡ little_endian k x.0 ++ x.1) × (x.0 < 256 ^ k)
fixed_canonical zero bytes x e = subst (λ (y : ℕ × List ℕ). (bytes ≡ y.1) × (y.0 < 1)) (some_is (0, bytes) x e) (refl, omega arith)
fixed_canonical (suc k) bytes x e =
    let p = byte_power k in
    let b = bind_ok (byte_at bytes) (λ b. (little_endian_at k b.1 >>= λ h. Some (b.0 + 256 * h.0, h.1))) x e in
    let h = bind_ok (little_endian_at k b.0.1) (λ h. Some (b.0.0 + 256 * h.0, h.1)) x b.2 in
    let t = byte_canonical bytes b.0 b.1 in
    let u = fixed_canonical k b.0.1 h.0 h.1 in
    let a_byte : b.0.0 < 256 = t.1 in
    let below : h.0.0 < 256 ^ k = u.1 in
    let first : (b.0.0 + 256 * h.0.0) % 256 ≡ b.0.0 = low_byte b.0.0 h.0.0 a_byte in
    let others : (b.0.0 + 256 * h.0.0) / 256 ≡ h.0.0 = high_bytes b.0.0 h.0.0 a_byte in
    subst (λ (y : ℕ × List ℕ). (bytes ≡ little_endian (suc k) y.0 ++ y.1) × (y.0 < 256 ^ suc k)) (some_is (b.0.0 + 256 * h.0.0, h.0.1) x h.2)
    (rw (first, others) (t.0 ∙ ap (λ (r : List ℕ). b.0.0 ∷ r) u.0), omega arith)

pub fixed_width_lawful : (k : ℕ) → IsLawful (fixed_width k)
fixed_width_lawful k = record { round_trip = fixed_round_trip k; canonical = fixed_canonical k }

pub raw_lawful : (n : ℕ) → IsLawful (raw n)
raw_lawful n = record {
  round_trip = λ b rest h.
      let long : ltb (length (b ++ rest)) n ≡ false = le-ltb _ _ (omega (arith, length-append b rest)) in
      rw (long, take_at b rest n h, drop_at b rest n h) refl;
  canonical = λ bytes x e.
      let g = untest_ok (ltb (length bytes) n) (Some (take n bytes, drop n bytes)) x e in
      let long : n ≤ length bytes = ltb-false _ _ g.0 in
      subst (λ (y : List ℕ × List ℕ). (bytes ≡ y.0 ++ y.1) × (length y.0 ≡ n)) (some_is (take n bytes, drop n bytes) x g.1) (sym (take-append-drop n bytes), omega (arith, length-take n bytes));
}

pub enumerated_lawful : {A : Type 0} (number : A → ℕ) (back : ℕ → Option A) → ((a : A) → (number a < 256) × (back (number a) ≡ Some a)) → ((n : ℕ) (a : A) → back n ≡ Some a → number a ≡ n) → IsLawful (enumerated number back)
enumerated_lawful {A} number back some sure = record {
  round_trip = λ a rest h.
      let a_byte : ltb (number a) 256 ≡ true = lt-ltb _ _ (some a).0 in
      rw (a_byte, (some a).1) refl;
  canonical = λ bytes x e.
      let n = bind_ok (byte_at bytes) (λ y. (back y.0 >>= λ a. Some (a, y.1))) x e in
      let a = bind_ok (back n.0.0) (λ a. Some (a, n.0.1)) x n.2 in
      let t = byte_canonical bytes n.0 n.1 in
      let made : A × List ℕ = (a.0, n.0.1) in
      subst (λ (y : A × List ℕ). (bytes ≡ number y.0 ∷ y.1) × Unit {0}) (some_is made x a.2)
      (t.0 ∙ ap (λ (k : ℕ). k ∷ n.0.1) (sym (sure n.0.0 a.0 a.1)), tt);
}

-- the one of a chain of names that is meant
pub name_is : {A : Type 0} (number : A → ℕ) (n k : ℕ) (a b : A) (others : Option A) → number a ≡ k → (others ≡ Some b → number b ≡ n) → cond (eqb n k) (Some a) others ≡ Some b → number b ≡ n
name_is number n k a b others is next e = by_test (eqb n k) refl e
  where
    by_test : (c : Bool) → eqb n k ≡ c → cond c (Some a) others ≡ Some b → number b ≡ n
    by_test true t e = ap number (sym (some_is a b e)) ∙ is ∙ sym (eqb-true n k t)
    by_test false t e = next e

pub nothing_is : {A : Type 0} (n : ℕ) (number : A → ℕ) (b : A) → None ≡ Some b → number b ≡ n
nothing_is n number b e = absurd cc

-- ---- steps of the writers
pub last_group : (k n : ℕ) → 0 < k → n < 128 → groups k n ≡ n ∷ []
last_group zero n p h = absurd (omega arith)
last_group (suc k) n p h = let small : ltb n 128 ≡ true = lt-ltb _ _ h in rw small refl

pub more_groups : (k n : ℕ) → 0 < k → 128 ≤ n → groups k n ≡ (n % 128 + 128) ∷ groups (k - 1) (n / 128)
more_groups zero n p h = absurd (omega arith)
more_groups (suc k) n p h =
    let big : ltb n 128 ≡ false = le-ltb _ _ h in
    let e : suc k - 1 ≡ k = omega arith in
    rw (big, e) refl

pub more_bytes : (k n : ℕ) → 0 < k → little_endian k n ≡ n % 256 ∷ little_endian (k - 1) (n / 256)
more_bytes zero n p = absurd (omega arith)
more_bytes (suc k) n p = let e : suc k - 1 ≡ k = omega arith in rw e refl

pub one_group : (k : ℕ) → 0 < k → 128 ≤ 128 ^ k
one_group zero h = absurd (omega arith)
one_group (suc k) h = let p = groups_positive k in let q = group_power k in omega arith

pub byte_more : (k : ℕ) → 0 < k → 256 ^ k ≡ 256 * 256 ^ (k - 1)
byte_more zero h = absurd (omega arith)
byte_more (suc k) h = let e : suc k - 1 ≡ k = omega arith in rw e (byte_power k)

pub group_more : (k : ℕ) → 0 < k → 128 ^ k ≡ 128 * 128 ^ (k - 1)
group_more zero h = absurd (omega arith)
group_more (suc k) h = let e : suc k - 1 ≡ k = omega arith in rw e (group_power k)
