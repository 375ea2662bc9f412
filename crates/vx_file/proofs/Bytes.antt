-- The low bytes of a number, as std lists them and as files do; and how a list of integers is written by groups.
use Rattle.std.proofs.Common.{◌≡◌, ◌≤◌, ◌<◌, ◌+◌, ◌-◌, ◌/◌, ◌%◌, ◌^◌, ℕ, ℤ, pos, zero, suc, true, List, [], ◌∷◌, ◌++◌, length, map, take, drop, get_or, refl, sym, ap, subst, ◌∙◌, append_assoc, arith}
use Rattle.std.specs.List.{list_all}
use Rattle.std.specs.Prelude.{nat_lt}
use Rattle.std.proofs.lemmas.Bool.{and_parts, ltb-true}
use Rattle.std.proofs.lemmas.List.{at_drop_more, length-append, length-take-le, map-append, take-append-drop, take-append-le}
use Rattle.std.proofs.lemmas.Slice.{take-put_mid}
use Rattle.std.proofs.Math.Seq.{take-append-add}
use borrow.Rule.Slice.PartMut.{put_mid}
use Rattle.vx_base.specs.declared.ptype.PType.{PType}
use Rattle.vx_base.specs.declared.ptype.PType.TheVariants.{U8}
use Rattle.vx_codec.specs.Lists.{spell_all}
use Rattle.vx_spelling.specs.Fields.{integer}
use Rattle.std.proofs.Math.Nat.{div-div-eq-div-mul, div-one, mod-eq_of_lt, pow-suc}
use Rattle.std.specs.Int.{byte_at, bytes_low_first, to_le_bytes, w64}
use Rattle.vx_codec.specs.FixedWidth.{little_endian}

byte_at-pow : (i x : ℕ) → byte_at i x ≡ x / 256 ^ i % 256
byte_at-pow zero x = ap (λ (y : ℕ). y % 256) (sym (div-one x))
byte_at-pow (suc i) x = refl

low_from : (n k i x : ℕ) → n ≤ k → take n (bytes_low_first i k x) ≡ little_endian n (x / 256 ^ i)
low_from zero k i x h = refl
low_from (suc n) zero i x h = absurd (omega arith)
low_from (suc n) (suc k) i x h =
    let shift : x / 256 ^ suc i ≡ x / 256 ^ i / 256 = ap (λ (p : ℕ). x / p) (pow-suc 256 i) ∙ sym (div-div-eq-div-mul x (256 ^ i) 256) in
    let rest : take n (bytes_low_first (suc i) k x) ≡ little_endian n (x / 256 ^ i / 256) = low_from n k (suc i) x (omega arith) ∙ ap (little_endian n) shift in
    λ j. byte_at-pow i x j ∷ rest j

-- the low bytes of 64 bits
pub low_bytes : (n x : ℕ) → n ≤ 8 → take n (to_le_bytes w64 x) ≡ little_endian n x
low_bytes n x h = low_from n 8 0 x h ∙ ap (little_endian n) (div-one x)

-- the front of a list of bytes, after n bytes were written behind its first a, of which k count
pub take-written : (a n k : ℕ) (xs ys : List ℕ) → k ≤ n → length ys ≡ n → a + n ≤ length xs → take (a + k) (put_mid a (a + n - a) xs ys) ≡ take a xs ++ take k ys
take-written a n k xs ys few long room =
    let all = put_mid a (a + n - a) xs ys in
    let front = take a xs ++ ys in
    let whole : take (a + n) all ≡ front = take-put_mid a (a + n - a) xs ys (a + n) (omega (arith, long)) (omega arith) in
    let split : all ≡ front ++ drop (a + n) all = sym (take-append-drop (a + n) all) ∙ ap (λ (x : List ℕ). x ++ drop (a + n) all) whole in
    let begin : length (take a xs) ≡ a = length-take-le a xs (omega arith) in
    let within : a + k ≤ length front = omega (arith, length-append (take a xs) ys, begin, long, few) in
    let cut : take (a + k) front ≡ take a xs ++ take k ys = subst (λ (m : ℕ). take (m + k) front ≡ take a xs ++ take k ys) begin (take-append-add (take a xs) ys k) in
    ap (take (a + k)) split ∙ take-append-le (a + k) front (drop (a + n) all) within ∙ cut

spell_all-append : {A : Type 0} (spell : A → List ℕ) (xs ys : List A) → spell_all spell (xs ++ ys) ≡ spell_all spell xs ++ spell_all spell ys
spell_all-append spell [] ys = refl
spell_all-append spell (x ∷ xs) ys = ap (λ (r : List ℕ). spell x ++ r) (spell_all-append spell xs ys) ∙ sym (append_assoc (spell x) (spell_all spell xs) (spell_all spell ys))

module _ {X : Type 0} (p : PType) (whole : X → ℤ) (xs : List X) where
  -- the first of the integers that are left
  pub integers_more : (i : ℕ) (x : X) → i < length xs → x ≡ get_or xs i x
      → spell_all (integer p).spell (map whole (drop i xs)) ≡ (integer p).spell (whole x) ++ spell_all (integer p).spell (map whole (drop (i + 1) xs))
  integers_more i x h e =
      at_drop_more (λ ys. spell_all (integer p).spell (map whole ys)) xs i x h
      ∙ ap (λ (y : X). (integer p).spell (whole y) ++ spell_all (integer p).spell (map whole (drop (i + 1) xs))) (sym e)

  -- the first n integers, and the others
  pub integers_split : (n : ℕ) → spell_all (integer p).spell (map whole xs) ≡ spell_all (integer p).spell (map whole (take n xs)) ++ spell_all (integer p).spell (map whole (drop n xs))
  integers_split n =
      ap (λ (ys : List X). spell_all (integer p).spell (map whole ys)) (sym (take-append-drop n xs))
      ∙ ap (spell_all (integer p).spell) (map-append whole (take n xs) (drop n xs))
      ∙ spell_all-append (integer p).spell (map whole (take n xs)) (map whole (drop n xs))

-- integers of one byte are spelled as they stand
pub spelled_bytes : (xs : List ℕ) → list_all (λ byte. nat_lt byte 256) xs ≡ true → spell_all (integer U8).spell (map (λ x. pos x) xs) ≡ xs
spelled_bytes [] h = refl
spelled_bytes (x ∷ xs) h =
    let b = and_parts (nat_lt x 256) (list_all (λ byte. nat_lt byte 256) xs) h in
    let small : x % 256 ≡ x = mod-eq_of_lt (ltb-true x 256 b.0) in
    λ i. small i ∷ spelled_bytes xs b.1 i
