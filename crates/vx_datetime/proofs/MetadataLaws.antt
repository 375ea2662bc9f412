-- What bytes spell, from the numbers that are read of them.
use Rattle.std.proofs.Common.{◌≡◌, ◌∙◌, ℕ, zero, suc, ◌<◌, ◌≤◌, ◌^◌, Bool, true, false, ltb, List, Option, Some, None, Result, Ok, Err, refl, sym, ap, subst, arith}
use Rattle.std.specs.Prelude.{IsErrAnd, ℤ, pos, negsuc, nat_abs}
use Rattle.std.proofs.lemmas.Bool.{ltb-true, lt-ltb}
use Rattle.vx_base.specs.Answers.{Decided, unless}
use Rattle.vx_base.specs.declared.error.VortexError.{VortexError}
use Rattle.vx_base.specs.declared.error.VortexError.TheVariants.{BadMetadata}
use Rattle.vx_base.specs.declared.ptype.PType.{PType}
use Rattle.vx_base.specs.PlainType.{ptype_at, ptype_number}
use Rattle.vx_codec.proofs.FormatLaws.{some_is}
use Rattle.vx_datetime.specs.declared.metadata.DateTimePartsMetadata.{DateTimePartsMetadata}
use Rattle.vx_datetime.specs.Metadata.{IsSpelled, by_numbers, of_ptypes, names_ptype, spelling, spelling_refusal}
use Rattle.vx_metadata.specs.Answers.{ReadsTheOne}
use Rattle.vx_metadata.specs.Numbers.{Numbers, numbers, three}
use Rattle.vx_metadata.proofs.NumbersLaws.{numbers_whole, number_fits, ptype_number_small}

-- ---- numbers that name integer types

pub named_small : (z : ℤ) → names_ptype z ≡ true → nat_abs z < 8
named_small (pos n) h = ltb-true n 8 h
named_small (negsuc n) h = absurd cc

named_whole : (z : ℤ) → names_ptype z ≡ true → pos (nat_abs z) ≡ z
named_whole (pos n) h = refl
named_whole (negsuc n) h = absurd cc

-- metadata that have a spelling, by their numbers
record AreNamed (m : DateTimePartsMetadata) : Type 0 where
  days : names_ptype m.days_ptype ≡ true
  seconds : names_ptype m.seconds_ptype ≡ true
  subseconds : names_ptype m.subseconds_ptype ≡ true

are_named : (m : DateTimePartsMetadata) → spelling_refusal m ≡ None → AreNamed m
are_named m h = by_tests (names_ptype m.days_ptype) (names_ptype m.seconds_ptype) (names_ptype m.subseconds_ptype) refl refl refl h
  where
    by_tests : (a b c : Bool) → names_ptype m.days_ptype ≡ a → names_ptype m.seconds_ptype ≡ b → names_ptype m.subseconds_ptype ≡ c
        → unless a BadMetadata (unless b BadMetadata (unless c BadMetadata None)) ≡ None → AreNamed m
    by_tests true true true d s u e = record { days = d; seconds = s; subseconds = u }
    by_tests true true false d s u e = absurd cc
    by_tests true false c d s u e = absurd cc
    by_tests false b c d s u e = absurd cc

-- those that name types
pub of_ptypes_named : (days seconds subseconds : PType) → spelling_refusal (of_ptypes days seconds subseconds) ≡ None
of_ptypes_named days seconds subseconds =
    rw (lt-ltb _ 8 (ptype_number_small days), lt-ltb _ 8 (ptype_number_small seconds), lt-ltb _ 8 (ptype_number_small subseconds)) refl

-- ---- messages

-- the numbers of a message
abbrev numbers_of : DateTimePartsMetadata → Numbers
numbers_of m = three (nat_abs m.days_ptype) (nat_abs m.seconds_ptype) (nat_abs m.subseconds_ptype)

-- what is spelled is read
spelled_read : (m : DateTimePartsMetadata) → AreNamed m → numbers.parse (spelling m) ≡ Some (numbers_of m)
spelled_read m n =
    let fits : (z : ℤ) → names_ptype z ≡ true → nat_abs z < 2 ^ 64 = λ z h. omega (arith, named_small z h) in
    numbers_whole.round_trip (numbers_of m)
    (number_fits _ (fits m.days_ptype n.days), (number_fits _ (fits m.seconds_ptype n.seconds), (number_fits _ (fits m.subseconds_ptype n.subseconds), tt)))

-- metadata with one spelling are one
pub spelled_one : (a b : DateTimePartsMetadata) → spelling_refusal a ≡ None → spelling_refusal b ≡ None → spelling a ≡ spelling b → a ≡ b
spelled_one a b h k e =
    let na = are_named a h in
    let nb = are_named b k in
    let same : numbers_of a ≡ numbers_of b = some_is (numbers_of a) (numbers_of b) (sym (spelled_read a na) ∙ ap numbers.parse e ∙ spelled_read b nb) in
    let one : (x y : ℤ) → names_ptype x ≡ true → names_ptype y ≡ true → nat_abs x ≡ nat_abs y → x ≡ y = λ x y p q i. sym (named_whole x p) ∙ ap pos i ∙ named_whole y q in
    let d = one a.days_ptype b.days_ptype na.days nb.days (ap (λ (x : Numbers). x.0) same) in
    let s = one a.seconds_ptype b.seconds_ptype na.seconds nb.seconds (ap (λ (x : Numbers). x.1.0) same) in
    let u = one a.subseconds_ptype b.subseconds_ptype na.subseconds nb.subseconds (ap (λ (x : Numbers). x.1.1.0) same) in
    λ i. by_numbers (d i) (s i) (u i)

read_one : (bytes : List ℕ) (children : ℕ) (m : DateTimePartsMetadata) → IsSpelled bytes children m → (b : DateTimePartsMetadata) → IsSpelled bytes children b → b ≡ m
read_one bytes children m h b k = spelled_one b m k.named h.named (sym k.spelled ∙ h.spelled)

-- what is read is the one that is spelled
pub read_alone : (bytes : List ℕ) (children : ℕ) (m : DateTimePartsMetadata) → children ≡ 3 → IsSpelled bytes 3 m → IsSpelled bytes children m × ((b : DateTimePartsMetadata) → IsSpelled bytes children b → b ≡ m)
read_alone bytes children m e h = let own = subst (λ (n : ℕ). IsSpelled bytes n m) (sym e) h in (own, read_one bytes children m own)

-- what is read of bytes that spell metadata
read_numbers : (bytes : List ℕ) (m : DateTimePartsMetadata) → IsSpelled bytes 3 m → numbers.parse bytes ≡ Some (numbers_of m)
read_numbers bytes m h = ap numbers.parse h.spelled ∙ spelled_read m (are_named m h.named)

-- bytes that are no message spell nothing
pub unread_none : (bytes : List ℕ) → numbers.parse bytes ≡ None → (m : DateTimePartsMetadata) → IsSpelled bytes 3 m → ⊥
unread_none bytes none m h = absurd (let e = sym none ∙ read_numbers bytes m h in cc)

-- ---- the message that was read
module _ (bytes : List ℕ) (x : Numbers) (e : numbers.parse bytes ≡ Some x) where
  is_read : (m : DateTimePartsMetadata) → IsSpelled bytes 3 m → x ≡ numbers_of m
  is_read m h = some_is x (numbers_of m) (sym e ∙ read_numbers bytes m h)

  -- it spells nothing where one of its numbers is that of no integer type
  pub outside_days : 8 ≤ x.0 → (m : DateTimePartsMetadata) → IsSpelled bytes 3 m → ⊥
  outside_days le m h = absurd (omega (arith, named_small m.days_ptype (are_named m h.named).days, ap (λ (y : Numbers). y.0) (is_read m h)))

  pub outside_seconds : 8 ≤ x.1.0 → (m : DateTimePartsMetadata) → IsSpelled bytes 3 m → ⊥
  outside_seconds le m h = absurd (omega (arith, named_small m.seconds_ptype (are_named m h.named).seconds, ap (λ (y : Numbers). y.1.0) (is_read m h)))

  pub outside_subseconds : 8 ≤ x.1.1.0 → (m : DateTimePartsMetadata) → IsSpelled bytes 3 m → ⊥
  outside_subseconds le m h = absurd (omega (arith, named_small m.subseconds_ptype (are_named m h.named).subseconds, ap (λ (y : Numbers). y.1.1.0) (is_read m h)))

  -- and else the metadata of the types
  pub read_spelled : (days seconds subseconds : PType) → ptype_number days ≡ x.0 → ptype_number seconds ≡ x.1.0 → ptype_number subseconds ≡ x.1.1.0 → IsSpelled bytes 3 (of_ptypes days seconds subseconds)
  read_spelled days seconds subseconds d s u = record {
    named = of_ptypes_named days seconds subseconds;
    spelled = (numbers_whole.canonical bytes x e).0 ∙ (λ i. numbers.spell (three (sym d i) (sym s i) (sym u i)));
    count = refl;
  }

-- ---- what is serialized

number-ptype_at : (n : ℕ) → n < 8 → ptype_number (ptype_at n) ≡ n
number-ptype_at zero lt = refl
number-ptype_at (suc zero) lt = refl
number-ptype_at (suc (suc zero)) lt = refl
number-ptype_at (suc (suc (suc zero))) lt = refl
number-ptype_at (suc (suc (suc (suc zero)))) lt = refl
number-ptype_at (suc (suc (suc (suc (suc zero))))) lt = refl
number-ptype_at (suc (suc (suc (suc (suc (suc zero)))))) lt = refl
number-ptype_at (suc (suc (suc (suc (suc (suc (suc zero))))))) lt = refl
number-ptype_at (suc (suc (suc (suc (suc (suc (suc (suc n)))))))) lt = absurd (omega arith)

-- a number that no integer type has
unnamed : (z : ℤ) → ((p : PType) → pos (ptype_number p) ≡ z → ⊥) → names_ptype z ≡ false
unnamed (negsuc n) none = refl
unnamed (pos n) none = by_test (ltb n 8) refl
  where
    by_test : (b : Bool) → ltb n 8 ≡ b → ltb n 8 ≡ false
    by_test false e = e
    by_test true e = absurd (none (ptype_at n) (ap pos (number-ptype_at n (ltb-true n 8 e))))

-- a number that an integer type has
has_name : (p : PType) (z : ℤ) → pos (ptype_number p) ≡ z → names_ptype z ≡ true
has_name p z e = subst (λ y. names_ptype y ≡ true) e (lt-ltb _ 8 (ptype_number_small p))

-- an error that is handed on
pub handed_on : (refusal : Option VortexError) (P : List ℕ → Type 0) (r : Result (List ℕ) VortexError) (e : VortexError) → IsErrAnd r (λ d. d ≡ e) → Decided refusal P (Err e) → Decided refusal P r
handed_on refusal P (Ok x) e h d = absurd h
handed_on refusal P (Err f) e h d = subst (λ (g : VortexError). Decided refusal P (Err g)) (sym h) d

module _ (m : DateTimePartsMetadata) (P : List ℕ → Type 0) (e : VortexError) where
  -- the first number that no integer type has is why metadata are refused
  pub days_refused : ReadsTheOne (λ p. pos (ptype_number p) ≡ m.days_ptype) (Err e) → Decided (spelling_refusal m) P (Err e)
  days_refused h = rw (unnamed m.days_ptype h.1) h.0

  pub seconds_refused : (days : PType) → pos (ptype_number days) ≡ m.days_ptype → ReadsTheOne (λ p. pos (ptype_number p) ≡ m.seconds_ptype) (Err e) → Decided (spelling_refusal m) P (Err e)
  seconds_refused days d h = rw (has_name days m.days_ptype d, unnamed m.seconds_ptype h.1) h.0

  pub subseconds_refused : (days seconds : PType) → pos (ptype_number days) ≡ m.days_ptype → pos (ptype_number seconds) ≡ m.seconds_ptype
      → ReadsTheOne (λ p. pos (ptype_number p) ≡ m.subseconds_ptype) (Err e) → Decided (spelling_refusal m) P (Err e)
  subseconds_refused days seconds d s h = rw (has_name days m.days_ptype d, has_name seconds m.seconds_ptype s, unnamed m.subseconds_ptype h.1) h.0
