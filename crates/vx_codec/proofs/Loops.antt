-- Reading one after the other, as a loop does.
use Rattle.std.proofs.Common.{◌≡◌, ℕ, suc, ◌-◌, ◌+◌, ◌≤◌, ◌<◌, ◌^◌, min, Bool, true, false, ltb, List, [], ◌∷◌, ◌++◌, length, take, drop, inl, inr, Option, Some, None, refl, sym, ap, subst, ◌∙◌, append_assoc, arith}
use Rattle.std.proofs.lemmas.Bool.{cases_lt, lt-ltb, le-ltb, ltb-false}
use Rattle.std.proofs.lemmas.List.{append-nil, take_all, drop_all}
use Rattle.vx_codec.specs.declared.error.ReadError.{ReadError}
use Rattle.vx_codec.specs.declared.error.ReadError.TheVariants.{NoMemory, Malformed}
use Rattle.vx_codec.specs.Bits.{bits_at, bit_bytes, number_bits, bits_number}
use Rattle.vx_codec.specs.FixedWidth.{byte_at}
use Rattle.vx_codec.specs.Format.{◌>>=◌, Parse}
use Rattle.vx_codec.specs.Lists.{repeated_at}
use Rattle.vx_codec.specs.Reads.{Fails, Reads}
use Rattle.std.specs.Prelude.{Result, Ok, Err, IsErrAnd}

-- what was read before, and what is still read
abbrev pub with_front : {A : Type 0} → List A → Option (List A × List ℕ) → Option (List A × List ℕ)
with_front front read = read >>= λ x. Some (front ++ x.0, x.1)

regroup : {A : Type 0} (front more : List A) (read : Option (List A × List ℕ)) → with_front front (read >>= λ x. Some (more ++ x.0, x.1)) ≡ with_front (front ++ more) read
regroup front more (Some x) = ap (λ (xs : List _). Some (xs, x.1)) (sym (append_assoc front more x.0))
regroup front more None = refl

pub no_front : {A : Type 0} (read : Option (List A × List ℕ)) → with_front [] read ≡ read
no_front (Some x) = refl
no_front None = refl

module _ {A : Type 0} (p : Parse A) where
  pub repeated_go_on : (front : List A) (count i : ℕ) (bytes : List ℕ) (a : A) (after : List ℕ) (total : Option (List A × List ℕ)) → i < count → p bytes ≡ Some (a, after)
      → with_front front (repeated_at p (count - i) bytes) ≡ total → with_front (front ++ a ∷ []) (repeated_at p (count - (i + 1)) after) ≡ total
  repeated_go_on front count i bytes a after total lt h so_far =
      let k : count - i ≡ suc (count - (i + 1)) = omega arith in
      let one : with_front front (repeated_at p (count - i) bytes) ≡ with_front (front ++ a ∷ []) (repeated_at p (count - (i + 1)) after) = rw (k, h) (regroup front (a ∷ []) (repeated_at p (count - (i + 1)) after)) in
      sym one ∙ so_far

  pub repeated_end : (e : ReadError) (front : List A) (count i : ℕ) (bytes : List ℕ) (total : Option (List A × List ℕ)) → i < count → Fails e (p bytes)
      → with_front front (repeated_at p (count - i) bytes) ≡ total → Fails e total
  repeated_end NoMemory front count i bytes total lt h so_far = tt
  repeated_end Malformed front count i bytes total lt h so_far =
      let k : count - i ≡ suc (count - (i + 1)) = omega arith in
      let one : with_front front (repeated_at p (count - i) bytes) ≡ None = rw (k, h) refl in
      sym so_far ∙ one

  pub repeated_done : (front : List A) (count i : ℕ) (bytes : List ℕ) (total : Option (List A × List ℕ)) → count ≤ i → with_front front (repeated_at p (count - i) bytes) ≡ total → total ≡ Some (front, bytes)
  repeated_done front count i bytes total le so_far =
      let k : count - i ≡ 0 = omega arith in
      let one : with_front front (repeated_at p (count - i) bytes) ≡ Some (front, bytes) = rw k (ap (λ (xs : List A). Some (xs, bytes)) (append-nil front)) in
      sym so_far ∙ one

pub bits_go_on : (front : List Bool) (count i n : ℕ) (bytes : List ℕ) (b : ℕ) (after : List ℕ) (total : Option (List Bool × List ℕ)) → i < count → byte_at bytes ≡ Some (b, after) → b < 2 ^ min n 8
    → with_front front (bits_at (count - i) n bytes) ≡ total → with_front (front ++ number_bits (min n 8) b) (bits_at (count - (i + 1)) (n - 8) after) ≡ total
bits_go_on front count i n bytes b after total lt h below so_far =
    let k : count - i ≡ suc (count - (i + 1)) = omega arith in
    let small : ltb b (2 ^ min n 8) ≡ true = lt-ltb _ _ below in
    let one : with_front front (bits_at (count - i) n bytes) ≡ with_front (front ++ number_bits (min n 8) b) (bits_at (count - (i + 1)) (n - 8) after) = rw (k, h, small) (regroup front (number_bits (min n 8) b) (bits_at (count - (i + 1)) (n - 8) after)) in
    sym one ∙ so_far

pub bits_end : (e : ReadError) (front : List Bool) (count i n : ℕ) (bytes : List ℕ) (total : Option (List Bool × List ℕ)) → i < count → Fails e (byte_at bytes)
    → with_front front (bits_at (count - i) n bytes) ≡ total → Fails e total
bits_end NoMemory front count i n bytes total lt h so_far = tt
bits_end Malformed front count i n bytes total lt h so_far =
    let k : count - i ≡ suc (count - (i + 1)) = omega arith in
    let one : with_front front (bits_at (count - i) n bytes) ≡ None = rw (k, h) refl in
    sym so_far ∙ one

pub bits_refused : (front : List Bool) (count i n : ℕ) (bytes : List ℕ) (b : ℕ) (after : List ℕ) (total : Option (List Bool × List ℕ)) → i < count → byte_at bytes ≡ Some (b, after) → 2 ^ min n 8 ≤ b
    → with_front front (bits_at (count - i) n bytes) ≡ total → total ≡ None
bits_refused front count i n bytes b after total lt h le so_far =
    let k : count - i ≡ suc (count - (i + 1)) = omega arith in
    let big : ltb b (2 ^ min n 8) ≡ false = le-ltb _ _ le in
    let one : with_front front (bits_at (count - i) n bytes) ≡ None = rw (k, h, big) refl in
    sym so_far ∙ one

pub bits_done : (front : List Bool) (count i n : ℕ) (bytes : List ℕ) (total : Option (List Bool × List ℕ)) → count ≤ i → with_front front (bits_at (count - i) n bytes) ≡ total → total ≡ Some (front, bytes)
bits_done front count i n bytes total le so_far =
    let k : count - i ≡ 0 = omega arith in
    let one : with_front front (bits_at (count - i) n bytes) ≡ Some (front, bytes) = rw k (ap (λ (xs : List Bool). Some (xs, bytes)) (append-nil front)) in
    sym so_far ∙ one

take_min : {A : Type 0} (xs : List A) (n : ℕ) → take (min (length xs) n) xs ≡ take n xs
take_min xs n =
    elim (cases_lt (length xs) n) [
      | inl lt ↦ take_all (min (length xs) n) xs (omega arith) ∙ sym (take_all n xs (omega arith))
      | inr le ↦ ap (λ (k : ℕ). take k xs) (omega arith)
    ]

drop_min : {A : Type 0} (xs : List A) (n : ℕ) → drop (min (length xs) n) xs ≡ drop n xs
drop_min xs n =
    elim (cases_lt (length xs) n) [
      | inl lt ↦ drop_all (min (length xs) n) xs (omega arith) ∙ sym (drop_all n xs (omega arith))
      | inr le ↦ ap (λ (k : ℕ). drop k xs) (omega arith)
    ]

-- so far the bytes of the bits before, and then those of the rest
pub put_go_on : (old out : List ℕ) (count i : ℕ) (bs : List Bool) (new : List ℕ) (total : List ℕ) → i < count → new ≡ out ++ bits_number (take (min (length bs) 8) bs) ∷ []
    → out ++ bit_bytes (count - i) bs ≡ total → new ++ bit_bytes (count - (i + 1)) (drop (min (length bs) 8) bs) ≡ total
put_go_on old out count i bs new total lt h so_far =
    let k : count - i ≡ suc (count - (i + 1)) = omega arith in
    let front = take_min bs 8 in
    let back = drop_min bs 8 in
    rw (h, front, back) (append_assoc out (bits_number (take 8 bs) ∷ []) (bit_bytes (count - (i + 1)) (drop 8 bs)) ∙ rw k at so_far)

pub bits_next : (front : List Bool) (count i n : ℕ) (bytes : List ℕ) (b : ℕ) (after : List ℕ) (total : Option (List Bool × List ℕ)) (width m : ℕ) (new : List Bool) → i < count → byte_at bytes ≡ Some (b, after)
    → width ≡ min n 8 → m ≡ n - 8 → new ≡ front ++ number_bits width b → b < 2 ^ width → with_front front (bits_at (count - i) n bytes) ≡ total → with_front new (bits_at (count - (i + 1)) m after) ≡ total
bits_next front count i n bytes b after total width m new lt h w e p below so_far =
    let small : b < 2 ^ min n 8 = rw w at below in
    rw (p, w, e) (bits_go_on front count i n bytes b after total lt h small so_far)

pub bits_too_wide : (front : List Bool) (count i n : ℕ) (bytes : List ℕ) (b : ℕ) (after : List ℕ) (total : Option (List Bool × List ℕ)) (width : ℕ) → i < count → byte_at bytes ≡ Some (b, after)
    → width ≡ min n 8 → ltb b (2 ^ width) ≡ false → with_front front (bits_at (count - i) n bytes) ≡ total → total ≡ None
bits_too_wide front count i n bytes b after total width lt h w big so_far =
    let large : 2 ^ min n 8 ≤ b = rw w at (ltb-false _ _ big) in
    bits_refused front count i n bytes b after total lt h large so_far

pub put_next : (out : List ℕ) (count i : ℕ) (bs front after : List Bool) (n : ℕ) (new : List ℕ) (total : List ℕ) (b : ℕ) → i < count → n ≡ min (length bs) 8 → front ≡ take n bs → after ≡ drop n bs
    → b ≡ bits_number front → new ≡ out ++ b ∷ [] → out ++ bit_bytes (count - i) bs ≡ total → new ++ bit_bytes (count - (i + 1)) after ≡ total
put_next out count i bs front after n new total b lt w f d is h so_far =
    let one : b ≡ bits_number (take (min (length bs) 8) bs) = is ∙ ap bits_number f ∙ ap (λ (k : ℕ). bits_number (take k bs)) w in
    let put : new ≡ out ++ bits_number (take (min (length bs) 8) bs) ∷ [] = h ∙ ap (λ (x : ℕ). out ++ x ∷ []) one in
    rw (d, w) (put_go_on out out count i bs new total lt put so_far)

-- an error that is handed on
pub handed_on : {X Y : Type 0} (view : X → Y) (r : Result X ReadError) (e : ReadError) (total : Option Y) → IsErrAnd r (λ d. d ≡ e) → Fails e total → Reads view r total
handed_on view (Ok x) e total h f = absurd h
handed_on view (Err d) e total h f = subst (λ (x : ReadError). Fails x total) (sym h) f

module _ {A : Type 0} (p : Parse A) where
  pub repeated_next : (front : List A) (count i : ℕ) (bytes : List ℕ) (a : A) (after : List ℕ) (total : Option (List A × List ℕ)) (new : List A) → i < count → p bytes ≡ Some (a, after)
      → new ≡ front ++ a ∷ [] → with_front front (repeated_at p (count - i) bytes) ≡ total → with_front new (repeated_at p (count - (i + 1)) after) ≡ total
  repeated_next front count i bytes a after total new lt h is so_far = rw is (repeated_go_on p front count i bytes a after total lt h so_far)

pub fails_bind : {A B : Type 0} (e : ReadError) (r : Option A) (f : A → Option B) → Fails e r → Fails e (r >>= f)
fails_bind NoMemory r f h = tt
fails_bind Malformed r f h = rw h refl
