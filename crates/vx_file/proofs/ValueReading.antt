-- Steps of the reader of values.
use Rattle.std.proofs.Common.{◌≡◌, ℕ, zero, suc, ◌+◌, ◌<◌, ◌≤◌, Bool, true, false, List, [], ◌∷◌, ◌++◌, length, drop, Option, Some, None, refl, sym, ap, ◌∙◌, append_assoc, add-one, arith}
use Rattle.std.specs.Prelude.{Ok, Err}
use Rattle.std.proofs.lemmas.Bool.{and_parts, and_from}
use Rattle.std.proofs.lemmas.List.{append-nil, drop_all}
use Rattle.vx_base.specs.Answers.{MakesSurely, unless}
use Rattle.vx_base.specs.declared.error.Refused.{Refused}
use Rattle.vx_base.specs.declared.error.VortexError.TheVariants.{MismatchedTypes, ValueTooLong}
use Rattle.vx_base.specs.PlainScalar.{fits, fields_fit, items_fit}
use Rattle.vx_base.specs.PlainType.{PlainType, PlainFields, null_type, boolean, primitive, utf8, binary, timestamp, structure, list, fixed_size_list, of_fields}
use Rattle.vx_base.specs.PlainType as types
use Rattle.vx_base.specs.PlainValue.{PlainValue, PlainValues, null, truth, int, bytes, items, of_list, has_short, have_short}
use Rattle.vx_base.specs.PlainValue as vals
use Rattle.vx_codec.specs.declared.error.ReadError.{ReadError}
use Rattle.vx_codec.specs.declared.error.ReadError.TheVariants.{NoMemory, Malformed}
use Rattle.vx_codec.specs.Format.{◌>>=◌, Parse, made_at, pair_at}
use Rattle.vx_codec.specs.Reads.{Fails}
use Rattle.vx_codec.proofs.Loops.{with_front}
use Rattle.vx_file.specs.Made.{behind_flag_at, field_type_at}
use Rattle.vx_spelling.specs.TypeSpelling.{type_depth, field_types_depth}
use Rattle.vx_spelling.specs.ValueSpelling.{flagged_at, value_at, fields_at}

pub value_at-flagged : (t : PlainType) (bs : List ℕ) → value_at t bs ≡ flagged_at (types.is_nullable t) (behind_flag_at t) bs
value_at-flagged null_type bs = refl
value_at-flagged (boolean n) bs = refl
value_at-flagged (primitive p n) bs = refl
value_at-flagged (utf8 n) bs = refl
value_at-flagged (binary n) bs = refl
value_at-flagged (timestamp k n) bs = refl
value_at-flagged (structure fs n) bs = refl
value_at-flagged (list t n) bs = refl
value_at-flagged (fixed_size_list t size n) bs = refl

pub type_depth_some : (t : PlainType) → 0 < type_depth t
type_depth_some null_type = omega arith
type_depth_some (boolean n) = omega arith
type_depth_some (primitive p n) = omega arith
type_depth_some (utf8 n) = omega arith
type_depth_some (binary n) = omega arith
type_depth_some (timestamp k n) = omega arith
type_depth_some (structure fs n) = omega arith
type_depth_some (list t n) = omega arith
type_depth_some (fixed_size_list t size n) = omega arith

-- ---- a value for each field, as a list

abbrev cons : PlainValue × List PlainValue → List PlainValue
cons x = x.0 ∷ x.1

abbrev more_values : PlainValue × PlainValues → PlainValues
more_values x = vals.more x.0 x.1

-- one value for each of some fields
abbrev pub each_at : List (List ℕ × PlainType) → Parse (List PlainValue)
each_at [] bs = Some ([], bs)
each_at (f ∷ fs) bs = made_at cons (pair_at (value_at f.1) (λ _. each_at fs)) bs

abbrev pub as_values : Option (List PlainValue × List ℕ) → Option (PlainValues × List ℕ)
as_values read = read >>= λ x. Some (of_list x.0, x.1)

abbrev paired : {A B : Type 0} → A → B × List ℕ → Option ((A × B) × List ℕ)
paired v y = Some ((v, y.0), y.1)

abbrev joined : {A B : Type 0} → (A → B) → A × List ℕ → Option (B × List ℕ)
joined make x = Some (make x.0, x.1)

second : (v : PlainValue) (read : Option (List PlainValue × List ℕ)) → ((as_values read >>= paired v) >>= joined more_values) ≡ as_values ((read >>= paired v) >>= joined cons)
second v None = refl
second v (Some x) = refl

first : (fs : List (List ℕ × PlainType)) → ((bs : List ℕ) → fields_at (of_fields fs) bs ≡ as_values (each_at fs bs)) → (read : Option (PlainValue × List ℕ))
    → ((read >>= λ x. (fields_at (of_fields fs) x.1 >>= paired x.0)) >>= joined more_values) ≡ as_values ((read >>= λ x. (each_at fs x.1 >>= paired x.0)) >>= joined cons)
first fs ih None = refl
first fs ih (Some x) = rw (ih x.1) (second x.0 (each_at fs x.1))

pub fields_at-each : (fs : List (List ℕ × PlainType)) (bs : List ℕ) → fields_at (of_fields fs) bs ≡ as_values (each_at fs bs)
fields_at-each [] bs = refl
fields_at-each (f ∷ fs) bs = first fs (fields_at-each fs) (value_at f.1 bs)

-- ---- steps of the loop over fields

each_more : (v : PlainValue) (front : List PlainValue) (read : Option (List PlainValue × List ℕ)) → with_front front ((read >>= paired v) >>= joined cons) ≡ with_front (front ++ v ∷ []) read
each_more v front None = refl
each_more v front (Some x) = ap (λ (xs : List PlainValue). Some (xs, x.1)) (sym (append_assoc front (v ∷ []) x.0))

each_step : (fs : List (List ℕ × PlainType)) (i : ℕ) (t : PlainType) (bs : List ℕ) → field_type_at fs i ≡ Some t → each_at (drop i fs) bs ≡ ((value_at t bs >>= λ x. (each_at (drop (suc i) fs) x.1 >>= paired x.0)) >>= joined cons)
each_step [] i t bs e = absurd cc
each_step (g ∷ fs) zero t bs e = let same : g.1 ≡ t = cc in rw same refl
each_step (g ∷ fs) (suc i) t bs e = each_step fs i t bs e

pub each_next : (fs : List (List ℕ × PlainType)) (i : ℕ) (t : PlainType) (front new : List PlainValue) (bs : List ℕ) (v : PlainValue) (after : List ℕ) (total : Option (List PlainValue × List ℕ)) → field_type_at fs i ≡ Some t
    → value_at t bs ≡ Some (v, after) → new ≡ front ++ v ∷ [] → with_front front (each_at (drop i fs) bs) ≡ total → with_front new (each_at (drop (i + 1) fs) after) ≡ total
each_next fs i t front new bs v after total at h is so_far =
    let one : with_front front (each_at (drop i fs) bs) ≡ with_front (front ++ v ∷ []) (each_at (drop (suc i) fs) after) = rw (each_step fs i t bs at, h) (each_more v front (each_at (drop (suc i) fs) after)) in
    rw (is, add-one i) (sym one ∙ so_far)

each_failed : (fs : List (List ℕ × PlainType)) (i : ℕ) (t : PlainType) (front : List PlainValue) (bs : List ℕ) (total : Option (List PlainValue × List ℕ)) → field_type_at fs i ≡ Some t → value_at t bs ≡ None
    → with_front front (each_at (drop i fs) bs) ≡ total → total ≡ None
each_failed fs i t front bs total at h so_far =
    let one : with_front front (each_at (drop i fs) bs) ≡ None = rw (each_step fs i t bs at, h) refl in
    sym so_far ∙ one

-- where a field isn't read, the fields aren't
pub each_end : (e : ReadError) (fs : List (List ℕ × PlainType)) (i : ℕ) (t : PlainType) (front : List PlainValue) (bs start : List ℕ) → field_type_at fs i ≡ Some t
    → Fails e (value_at t bs) → with_front front (each_at (drop i fs) bs) ≡ each_at fs start → Fails e (fields_at (of_fields fs) start)
each_end NoMemory fs i t front bs start at h so_far = tt
each_end Malformed fs i t front bs start at h so_far = rw (fields_at-each fs start, each_failed fs i t front bs (each_at fs start) at h so_far) refl

-- where no field is left, the fields are read
pub each_done : (fs : List (List ℕ × PlainType)) (i : ℕ) (front : List PlainValue) (bs start : List ℕ) → length fs ≤ i → with_front front (each_at (drop i fs) bs) ≡ each_at fs start
    → fields_at (of_fields fs) start ≡ Some (of_list front, bs)
each_done fs i front bs start le so_far =
    let none : drop i fs ≡ [] = drop_all i fs le in
    let one : with_front front (each_at (drop i fs) bs) ≡ Some (front, bs) = rw none (ap (λ (xs : List PlainValue). Some (xs, bs)) (append-nil front)) in
    let read : each_at fs start ≡ Some (front, bs) = sym so_far ∙ one in
    rw (fields_at-each fs start, read) refl

-- the type of a field nests less deep
pub field_depth : (fs : List (List ℕ × PlainType)) (i : ℕ) (t : PlainType) → field_type_at fs i ≡ Some t → type_depth t ≤ field_types_depth (of_fields fs)
field_depth [] i t e = absurd cc
field_depth (g ∷ fs) zero t e = let same : g.1 ≡ t = cc in rw (← same) (omega arith)
field_depth (g ∷ fs) (suc i) t e = let ih = field_depth fs i t e in omega arith

-- ---- scalars

-- texts and binaries of a type are short
mutual
  fits_short : (t : PlainType) (v : PlainValue) → fits t v ≡ true → has_short v ≡ true
  fits_short t null h = refl
  fits_short t (truth b) h = refl
  fits_short t (int z) h = refl
  fits_short (utf8 n) (bytes bs) h = (and_parts (vals.is_short bs) _ h).0
  fits_short (binary n) (bytes bs) h = h
  fits_short null_type (bytes bs) h = absurd cc
  fits_short (boolean n) (bytes bs) h = absurd cc
  fits_short (primitive p n) (bytes bs) h = absurd cc
  fits_short (timestamp k n) (bytes bs) h = absurd cc
  fits_short (structure fs n) (bytes bs) h = absurd cc
  fits_short (list t n) (bytes bs) h = absurd cc
  fits_short (fixed_size_list t size n) (bytes bs) h = absurd cc
  fits_short (structure fs n) (items vs) h = fields_short fs vs h
  fits_short (list t n) (items vs) h = items_short t vs h
  fits_short (fixed_size_list t size n) (items vs) h = items_short t vs (and_parts _ (items_fit t vs) h).1
  fits_short null_type (items vs) h = absurd cc
  fits_short (boolean n) (items vs) h = absurd cc
  fits_short (primitive p n) (items vs) h = absurd cc
  fits_short (utf8 n) (items vs) h = absurd cc
  fits_short (binary n) (items vs) h = absurd cc
  fits_short (timestamp k n) (items vs) h = absurd cc

  fields_short : (fs : PlainFields) (vs : PlainValues) → fields_fit fs vs ≡ true → have_short vs ≡ true
  fields_short types.none vals.none h = refl
  fields_short types.none (vals.more v vs) h = absurd cc
  fields_short (types.more name t fs) vals.none h = refl
  fields_short (types.more name t fs) (vals.more v vs) h = let b = and_parts (fits t v) (fields_fit fs vs) h in and_from _ _ (fits_short t v b.0) (fields_short fs vs b.1)

  items_short : (t : PlainType) (vs : PlainValues) → items_fit t vs ≡ true → have_short vs ≡ true
  items_short t vals.none h = refl
  items_short t (vals.more v vs) h = let b = and_parts (fits t v) (items_fit t vs) h in and_from _ _ (fits_short t v b.0) (items_short t vs b.1)

refused_by : {T U : Type 0} (short ok : Bool) (made : U) (inputs : T) (r : Refused T) → (ok ≡ true → short ≡ true) → MakesSurely (unless short ValueTooLong (unless ok MismatchedTypes None)) made inputs (Err r) → ok ≡ false
refused_by short false made inputs r law h = refl
refused_by true true made inputs r law h = absurd h
refused_by false true made inputs r law h = let e = law refl in absurd cc

-- what the constructor of scalars refuses is no value of the type
pub scalar_refused : {T U : Type 0} (t : PlainType) (v : PlainValue) (made : U) (inputs : T) (r : Refused T) → MakesSurely (unless (has_short v) ValueTooLong (unless (fits t v) MismatchedTypes None)) made inputs (Err r) → fits t v ≡ false
scalar_refused t v made inputs r h = refused_by (has_short v) (fits t v) made inputs r (fits_short t v) h

made_by : {T U : Type 0} (short ok : Bool) (made : U) (inputs : T) (a : U) → MakesSurely (unless short ValueTooLong (unless ok MismatchedTypes None)) made inputs (Ok a) → (ok ≡ true) × (a ≡ made)
made_by true true made inputs a h = (refl, h)
made_by true false made inputs a h = absurd h
made_by false ok made inputs a h = absurd h

-- what it makes is a value of the type
pub scalar_made : {T U : Type 0} (t : PlainType) (v : PlainValue) (made : U) (inputs : T) (a : U) → MakesSurely (unless (has_short v) ValueTooLong (unless (fits t v) MismatchedTypes None)) made inputs (Ok a) → (fits t v ≡ true) × (a ≡ made)
scalar_made t v made inputs a h = made_by (has_short v) (fits t v) made inputs a h

pub ruleset value_steps = (value_at-flagged, type_depth_some)
