-- The laws of values and scalars.
use Rattle.std.proofs.Common.{◌≡◌, ◌≤◌, ℕ, suc, Bool, true, cond, eqb, List, [], ◌∷◌, ◌++◌, length, Some, None, refl, sym, ap, subst, ◌∙◌, inl, inr}
use Rattle.std.proofs.lemmas.Bool.{eqb-true}
use Rattle.vx_base.specs.declared.ptype.PType.TheVariants.{I64}
use Rattle.vx_base.specs.PlainScalar.{PlainScalar, fits}
use Rattle.vx_base.specs.PlainType.{PlainType, PlainFields, null_type, boolean, primitive, utf8, binary, timestamp, structure, list, fixed_size_list, allows_null}
use Rattle.vx_base.specs.PlainType as types
use Rattle.vx_base.specs.PlainValue.{PlainValue, PlainValues, null, truth, int, bytes, items, of_list}
use Rattle.vx_base.specs.PlainValue as vals
use Rattle.vx_codec.specs.FixedWidth.{byte_at}
use Rattle.vx_codec.specs.Format.{Parse, Format, IsLawful, pair, both, made_at}
use Rattle.vx_codec.specs.Lists.{spell_all, AllFit, repeated, counted, delimited}
use Rattle.vx_codec.specs.Varint.{varint}
use Rattle.vx_codec.proofs.FormatLaws.{bind_ok, some_is, either, test_ok, pair_lawful, both_lawful, tested_lawful, made_round_trip, made_round_trip_as, made_canonical}
use Rattle.vx_codec.proofs.ListLaws.{repeated_lawful, counted_lawful, delimited_lawful}
use Rattle.vx_codec.proofs.NumberLaws.{byte_canonical}
use Rattle.vx_spelling.specs.Fields.{truth_value, integer}
use Rattle.vx_spelling.specs.TypeSpelling.{type_depth, type_format}
use Rattle.vx_spelling.specs.ValueSpelling.{count_values, value_text, each_field_text, each_text, ValueFits, EachFieldFits, EachFits, flagged_at, items_of, nothing_at, value_at, fields_at, value_format, is_scalar, scalar_parts, ScalarFits}
use Rattle.vx_spelling.proofs.FieldLaws.{truth_value_lawful, integer_lawful}
use Rattle.vx_spelling.proofs.TypeLaws.{type_lawful}

flagged_canonical : (nullable : Bool) (p : Parse PlainValue) (R : PlainValue × List ℕ → Type 0) (bs : List ℕ) (x : PlainValue × List ℕ) → flagged_at nullable p bs ≡ Some x
    → ((rest : List ℕ) → bs ≡ 0 ∷ rest → nullable ≡ true → R (null, rest)) → ((rest : List ℕ) → bs ≡ 1 ∷ rest → p rest ≡ Some x → R x) → R x
flagged_canonical nullable p R bs x e none some =
    let b = bind_ok (byte_at bs) (λ b. cond (eqb b.0 0) (cond nullable (Some (null, b.1)) None) (cond (eqb b.0 1) (p b.1) None)) x e in
    let t = byte_canonical bs b.0 b.1 in
    elim (either (eqb b.0.0 0) (cond nullable (Some (null, b.0.1)) None) (cond (eqb b.0.0 1) (p b.0.1) None) (Some x) b.2) [
      | inl q ↦
          let made : PlainValue × List ℕ = (null, b.0.1) in
          let g = test_ok nullable (Some made) x q.1 in
          subst R (some_is made x g.1) (none b.0.1 (t.0 ∙ ap (λ (k : ℕ). k ∷ b.0.1) (eqb-true _ _ q.0)) g.0)
      | inr q ↦
          let g = test_ok (eqb b.0.0 1) (p b.0.1) x q.1 in
          some b.0.1 (t.0 ∙ ap (λ (k : ℕ). k ∷ b.0.1) (eqb-true _ _ g.0)) g.1
    ]

-- ---- the values of a list

abbrev vals_of : PlainValues → List PlainValue
vals_of vals.none = []
vals_of (vals.more v vs) = v ∷ vals_of vs

of_vals : (vs : PlainValues) → of_list (vals_of vs) ≡ vs
of_vals vals.none = refl
of_vals (vals.more v vs) = ap (vals.more v) (of_vals vs)

count_of : (vs : List PlainValue) → count_values (of_list vs) ≡ length vs
count_of [] = refl
count_of (v ∷ vs) = ap suc (count_of vs)

text_of : (t : PlainType) (vs : List PlainValue) → each_text (of_list vs) t ≡ spell_all (value_format t).spell vs
text_of t [] = refl
text_of t (v ∷ vs) = ap (λ (r : List ℕ). value_text v t ++ r) (text_of t vs)

fit_in : (t : PlainType) (vs : List PlainValue) → AllFit (value_format t).Fits vs → EachFits (of_list vs) t
fit_in t [] h = tt
fit_in t (v ∷ vs) h = (h.0, fit_in t vs h.1)

fit_out : (t : PlainType) (vs : List PlainValue) → EachFits (of_list vs) t → AllFit (value_format t).Fits vs
fit_out t [] h = tt
fit_out t (v ∷ vs) h = (h.0, fit_out t vs h.1)

abbrev fields_format : PlainFields → Format PlainValues
fields_format fs = record { spell = λ vs. each_field_text vs fs; parse = fields_at fs; Fits = λ vs. EachFieldFits vs fs }

list_body : (t : PlainType) (vs : List PlainValue) → varint.spell (count_values (of_list vs)) ++ each_text (of_list vs) t ≡ (counted (value_format t)).spell vs
list_body t vs = rw (count_of vs, text_of t vs) refl

list_round_trip : (t : PlainType) → IsLawful (value_format t) → (vs : List PlainValue) (rest : List ℕ) → varint.Fits (count_values (of_list vs)) × EachFits (of_list vs) t
    → made_at items_of (counted (value_format t)).parse ((varint.spell (count_values (of_list vs)) ++ each_text (of_list vs) t) ++ rest) ≡ Some (items (of_list vs), rest)
list_round_trip t law vs rest h =
    made_round_trip_as (counted (value_format t)) items_of (counted_lawful (value_format t) law) vs (items (of_list vs)) (varint.spell (count_values (of_list vs)) ++ each_text (of_list vs) t) rest
    (subst varint.Fits (count_of vs) h.0, (refl, fit_out t vs h.1)) (list_body t vs) refl

fixed_round_trip : (t : PlainType) (size : ℕ) → IsLawful (value_format t) → (vs : List PlainValue) (rest : List ℕ) → (count_values (of_list vs) ≡ size) × EachFits (of_list vs) t
    → made_at items_of (repeated (value_format t) size).parse (each_text (of_list vs) t ++ rest) ≡ Some (items (of_list vs), rest)
fixed_round_trip t size law vs rest h =
    made_round_trip_as (repeated (value_format t) size) items_of (repeated_lawful (value_format t) size law) vs (items (of_list vs)) (each_text (of_list vs) t) rest
    (sym (count_of vs) ∙ h.0, fit_out t vs h.1) (text_of t vs) refl

-- ---- each type, both ways

abbrev IsRead : PlainType → List ℕ → PlainValue × List ℕ → Type 0
IsRead t bs x = (bs ≡ value_text x.0 t ++ x.1) × ValueFits x.0 t

behind_flag : {P : Type 0} (t : PlainType) (nullable : Bool) (f : Format P) (make : P → PlainValue) → types.is_nullable t ≡ nullable → IsLawful f
    → ((p : P) → f.Fits p → (value_text (make p) t ≡ 1 ∷ f.spell p) × ValueFits (make p) t) → (bs : List ℕ) (x : PlainValue × List ℕ) → flagged_at nullable (made_at make f.parse) bs ≡ Some x → IsRead t bs x
behind_flag t nullable f make is law into bs x e =
    flagged_canonical nullable (made_at make f.parse) (IsRead t bs) bs x e (λ rest b allowed. (b, is ∙ allowed))
    (λ rest b more. made_canonical f make law rest (IsRead t bs) (λ p after h parts. let k = into p h in (b ∙ ap (λ (r : List ℕ). 1 ∷ r) parts ∙ ap (λ (r : List ℕ). r ++ after) (sym k.0), k.1)) x more)

mutual
  value_round_trip : (t : PlainType) (v : PlainValue) (rest : List ℕ) → ValueFits v t → value_at t (value_text v t ++ rest) ≡ Some (v, rest)
  value_round_trip null_type null rest h = refl
  value_round_trip null_type (truth b) rest h = absurd h
  value_round_trip null_type (int z) rest h = absurd h
  value_round_trip null_type (bytes bs) rest h = absurd h
  value_round_trip null_type (items vs) rest h = absurd h
  value_round_trip (boolean n) null rest h = rw h refl
  value_round_trip (boolean n) (truth b) rest h = made_round_trip truth_value truth truth_value_lawful b rest tt
  value_round_trip (boolean n) (int z) rest h = absurd h
  value_round_trip (boolean n) (bytes bs) rest h = absurd h
  value_round_trip (boolean n) (items vs) rest h = absurd h
  value_round_trip (primitive p n) null rest h = rw h refl
  value_round_trip (primitive p n) (truth b) rest h = absurd h
  value_round_trip (primitive p n) (int z) rest h = made_round_trip (integer p) int (integer_lawful p) z rest h
  value_round_trip (primitive p n) (bytes bs) rest h = absurd h
  value_round_trip (primitive p n) (items vs) rest h = absurd h
  value_round_trip (utf8 n) null rest h = rw h refl
  value_round_trip (utf8 n) (truth b) rest h = absurd h
  value_round_trip (utf8 n) (int z) rest h = absurd h
  value_round_trip (utf8 n) (bytes bs) rest h = made_round_trip delimited bytes delimited_lawful bs rest h
  value_round_trip (utf8 n) (items vs) rest h = absurd h
  value_round_trip (binary n) null rest h = rw h refl
  value_round_trip (binary n) (truth b) rest h = absurd h
  value_round_trip (binary n) (int z) rest h = absurd h
  value_round_trip (binary n) (bytes bs) rest h = made_round_trip delimited bytes delimited_lawful bs rest h
  value_round_trip (binary n) (items vs) rest h = absurd h
  value_round_trip (timestamp k n) null rest h = rw h refl
  value_round_trip (timestamp k n) (truth b) rest h = absurd h
  value_round_trip (timestamp k n) (int z) rest h = made_round_trip (integer I64) int (integer_lawful I64) z rest h
  value_round_trip (timestamp k n) (bytes bs) rest h = absurd h
  value_round_trip (timestamp k n) (items vs) rest h = absurd h
  value_round_trip (structure fs n) null rest h = rw h refl
  value_round_trip (structure fs n) (truth b) rest h = absurd h
  value_round_trip (structure fs n) (int z) rest h = absurd h
  value_round_trip (structure fs n) (bytes bs) rest h = absurd h
  value_round_trip (structure fs n) (items vs) rest h =
      made_round_trip (fields_format fs) items (record { round_trip = fields_round_trip fs; canonical = fields_canonical fs }) vs rest h
  value_round_trip (list t n) null rest h = rw h refl
  value_round_trip (list t n) (truth b) rest h = absurd h
  value_round_trip (list t n) (int z) rest h = absurd h
  value_round_trip (list t n) (bytes bs) rest h = absurd h
  value_round_trip (list t n) (items vs) rest h =
      subst (λ (ws : PlainValues). ValueFits (items ws) (list t n) → value_at (list t n) (value_text (items ws) (list t n) ++ rest) ≡ Some (items ws, rest)) (of_vals vs)
      (λ k. list_round_trip t (record { round_trip = value_round_trip t; canonical = value_canonical t }) (vals_of vs) rest k) h
  value_round_trip (fixed_size_list t size n) null rest h = rw h refl
  value_round_trip (fixed_size_list t size n) (truth b) rest h = absurd h
  value_round_trip (fixed_size_list t size n) (int z) rest h = absurd h
  value_round_trip (fixed_size_list t size n) (bytes bs) rest h = absurd h
  value_round_trip (fixed_size_list t size n) (items vs) rest h =
      subst (λ (ws : PlainValues). ValueFits (items ws) (fixed_size_list t size n) → value_at (fixed_size_list t size n) (value_text (items ws) (fixed_size_list t size n) ++ rest) ≡ Some (items ws, rest)) (of_vals vs)
      (λ k. fixed_round_trip t size (record { round_trip = value_round_trip t; canonical = value_canonical t }) (vals_of vs) rest k) h

  value_canonical : (t : PlainType) (bs : List ℕ) (x : PlainValue × List ℕ) → value_at t bs ≡ Some x → (bs ≡ value_text x.0 t ++ x.1) × ValueFits x.0 t
  value_canonical null_type bs x e = flagged_canonical true nothing_at (IsRead null_type bs) bs x e (λ rest b allowed. (b, refl)) (λ rest b more. absurd cc)
  value_canonical (boolean n) bs x e = behind_flag (boolean n) (allows_null n) truth_value truth refl truth_value_lawful (λ b h. (refl, tt)) bs x e
  value_canonical (primitive p n) bs x e = behind_flag (primitive p n) (allows_null n) (integer p) int refl (integer_lawful p) (λ z h. (refl, h)) bs x e
  value_canonical (utf8 n) bs x e = behind_flag (utf8 n) (allows_null n) delimited bytes refl delimited_lawful (λ b h. (refl, h)) bs x e
  value_canonical (binary n) bs x e = behind_flag (binary n) (allows_null n) delimited bytes refl delimited_lawful (λ b h. (refl, h)) bs x e
  value_canonical (timestamp k n) bs x e = behind_flag (timestamp k n) (allows_null n) (integer I64) int refl (integer_lawful I64) (λ z h. (refl, h)) bs x e
  value_canonical (structure fs n) bs x e =
      behind_flag (structure fs n) (allows_null n) (fields_format fs) items refl (record { round_trip = fields_round_trip fs; canonical = fields_canonical fs }) (λ vs h. (refl, h)) bs x e
  value_canonical (list t n) bs x e =
      behind_flag (list t n) (allows_null n) (counted (value_format t)) items_of refl (counted_lawful (value_format t) (record { round_trip = value_round_trip t; canonical = value_canonical t }))
      (λ vs h. (ap (λ (r : List ℕ). 1 ∷ r) (list_body t vs), (subst varint.Fits (sym (count_of vs)) h.0, fit_in t vs h.1.1))) bs x e
  value_canonical (fixed_size_list t size n) bs x e =
      behind_flag (fixed_size_list t size n) (allows_null n) (repeated (value_format t) size) items_of refl (repeated_lawful (value_format t) size (record { round_trip = value_round_trip t; canonical = value_canonical t }))
      (λ vs h. (ap (λ (r : List ℕ). 1 ∷ r) (text_of t vs), (count_of vs ∙ h.0, fit_in t vs h.1))) bs x e

  fields_round_trip : (fs : PlainFields) (vs : PlainValues) (rest : List ℕ) → EachFieldFits vs fs → fields_at fs (each_field_text vs fs ++ rest) ≡ Some (vs, rest)
  fields_round_trip types.none vals.none rest h = refl
  fields_round_trip types.none (vals.more v vs) rest h = absurd h
  fields_round_trip (types.more nm t fs) vals.none rest h = absurd h
  fields_round_trip (types.more nm t fs) (vals.more v vs) rest h =
      made_round_trip (both (value_format t) (fields_format fs)) (λ x. vals.more x.0 x.1)
      (both_lawful (value_format t) (fields_format fs) (record { round_trip = value_round_trip t; canonical = value_canonical t }) (record { round_trip = fields_round_trip fs; canonical = fields_canonical fs })) (v, vs) rest h

  fields_canonical : (fs : PlainFields) (bs : List ℕ) (x : PlainValues × List ℕ) → fields_at fs bs ≡ Some x → (bs ≡ each_field_text x.0 fs ++ x.1) × EachFieldFits x.0 fs
  fields_canonical types.none bs x e =
      let made : PlainValues × List ℕ = (vals.none, bs) in
      subst (λ (y : PlainValues × List ℕ). (bs ≡ each_field_text y.0 types.none ++ y.1) × EachFieldFits y.0 types.none) (some_is made x e) (refl, tt)
  fields_canonical (types.more nm t fs) bs x e =
      made_canonical (both (value_format t) (fields_format fs)) (λ y. vals.more y.0 y.1)
      (both_lawful (value_format t) (fields_format fs) (record { round_trip = value_round_trip t; canonical = value_canonical t }) (record { round_trip = fields_round_trip fs; canonical = fields_canonical fs })) bs
      (λ y. (bs ≡ each_field_text y.0 (types.more nm t fs) ++ y.1) × EachFieldFits y.0 (types.more nm t fs)) (λ p rest h b. (b, h)) x e

pub value_lawful : (t : PlainType) → IsLawful (value_format t)
value_lawful t = record { round_trip = value_round_trip t; canonical = value_canonical t }

pub scalar_parts_lawful : IsLawful scalar_parts
scalar_parts_lawful = tested_lawful is_scalar (pair (type_format 64) value_format) (pair_lawful (type_format 64) value_format (type_lawful 64) (λ t h. value_lawful t))

-- a scalar in which at most 64 types nest, whose value is of its type and whose numbers fit
pub scalar_fits : (s : PlainScalar) → type_depth s.dtype ≤ 64 → fits s.dtype s.value ≡ true → ScalarFits s → scalar_parts.Fits (s.dtype, s.value)
scalar_fits s shallow fitting h = (((shallow, h.0), h.1), fitting)
