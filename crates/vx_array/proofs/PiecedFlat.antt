-- Pieces of flat columns: pieces of what a tree decodes to are what the rows that they give decode to.
use Rattle.std.proofs.Common.{◌≡◌, ◌∙◌, ℕ, pos, List, [], length, map, refl, sym, ap, Bool, true, false, cond, None}
use Rattle.std.specs.Prelude.{not}
use Rattle.std.specs.List.{list_all}
use Rattle.std.proofs.lemmas.List.{length-map}
use Rattle.vx_base.specs.declared.dtype.Nullability.{Nullability}
use Rattle.vx_base.specs.Defaults.{default_of, null_or_default, or_default}
use Rattle.vx_base.specs.PlainScalar.{fits}
use Rattle.vx_base.specs.PlainType.{PlainType, is_flat, is_nullable, is_timestamp, nullability_of}
use Rattle.vx_base.specs.PlainType as types
use Rattle.vx_base.specs.PlainValue.{PlainValue, null, truth, int, bytes, is_null}
use Rattle.vx_model.specs.Column.{column, column_of}
use Rattle.vx_model.specs.Plain.{FewElements, plain, plain_of, validity}
use Rattle.vx_model.specs.Refusals.{kept, primitive_refusal, timestamp_refusal, validity_length, var_bin_view_refusal}
use Rattle.vx_model.specs.Rows.{rows}
use Rattle.vx_model.specs.Tree.{Tree, Validity, bool, primitive, var_bin_view}
use Rattle.vx_model.specs.TreeType.{tree_type}
use Rattle.vx_model.specs.WellFormed.{WellFormed}
use Rattle.vx_model.proofs.DecodeLemmas.{length-validity}
use Rattle.vx_model.proofs.PlainLemmas.{column_of-plain, plain_of_well_formed, rows-plain_of, type-plain_of}
use Rattle.vx_pieces.specs.declared.piece.Piece.{Piece}
use Rattle.vx_pieces.specs.Bits.{pieced_validity}
use Rattle.vx_pieces.specs.Pieces.{pieced, are_pieces}
use Rattle.vx_pieces.proofs.PieceLemmas.{map-pieced}
use Rattle.vx_values.specs.declared.decoded.Decoded.{Decoded}
use Rattle.vx_values.specs.declared.ints.Ints.{Ints}
use Rattle.vx_values.specs.declared.values.Values.TheVariants as lists
use Rattle.vx_values.specs.IntsOf.{ptype_of, wholes_of}
use Rattle.vx_values.specs.ValuesOf.{ints, default_in, kind_in, kind_of, values_of}
use Rattle.vx_array.specs.AsType.{as_type}
use Rattle.vx_array.specs.IsDecoded.{IsDecoded}
use Rattle.vx_array.specs.PlainPieced.{plain_pieced}
use Rattle.vx_array.proofs.Canonicals.{bool_of, ints_of, var_bin_view_of}
use Rattle.vx_array.proofs.PiecedRows.{given_rows, given_fit, given_bits}

default-kind : (s : PlainType) → is_flat s ≡ true → default_of s ≡ default_in (kind_of s)
default-kind (types.boolean n) f = refl
default-kind (types.primitive p n) f = refl
default-kind (types.utf8 n) f = refl
default-kind (types.binary n) f = refl
default-kind (types.timestamp k n) f = refl
default-kind s f = absurd cc

flat_few : (s : PlainType) (vs : List PlainValue) → is_flat s ≡ true → FewElements s vs
flat_few (types.boolean n) vs f = tt
flat_few (types.primitive p n) vs f = tt
flat_few (types.utf8 n) vs f = tt
flat_few (types.binary n) vs f = tt
flat_few (types.timestamp k n) vs f = tt
flat_few s vs f = absurd cc

-- beneath a filled row stands the default
filled-default : (s : PlainType) → or_default (default_of s) (null_or_default s) ≡ default_of s
filled-default s = by_null (is_nullable s)
  where
    twice : (b : Bool) (v : PlainValue) → cond b v v ≡ v
    twice true v = refl
    twice false v = refl

    by_null : (b : Bool) → or_default (default_of s) (cond b null (default_of s)) ≡ default_of s
    by_null true = refl
    by_null false = twice (is_null (default_of s)) (default_of s)

module _ (t : Tree) (w : WellFormed t) (f : is_flat (tree_type t) ≡ true) (ps : List Piece) (own : are_pieces (length (rows t)) ps ≡ true) (d : Decoded) (h : IsDecoded t d) where
  abbrev s : PlainType
  s = tree_type t

  abbrev vs : List PlainValue
  vs = given_rows t w ps own

  fit : list_all (fits s) vs ≡ true
  fit = given_fit t w ps own

  well : WellFormed (plain_of s vs)
  well = plain_of_well_formed s vs fit (flat_few s vs f)

  back : plain (column_of (plain_of s vs)) ≡ plain_of s vs
  back = ap plain (column_of-plain (column s vs) fit)

  flat : is_flat (tree_type (plain_of s vs)) ≡ true
  flat = ap is_flat (type-plain_of s vs) ∙ f

  pub bits_long : validity_length d.valid (length (rows t)) ≡ true
  bits_long = ap (λ valid. validity_length valid (length (rows t))) h.2 ∙ ap (validity_length (validity (rows t))) (sym (length-map (rows t) is_null)) ∙ length-validity is_null (rows t)

  -- pieces are in bounds of the items
  pub within_items : {A : Type 0} (value : A → PlainValue) (xs : List A) → values_of d.values ≡ map value xs → are_pieces (length xs) ps ≡ true
  within_items value xs e =
      let long : length xs ≡ length (rows t) = sym (length-map xs value) ∙ ap length (sym e ∙ h.1) ∙ length-map (rows t) (or_default (default_of s)) in
      ap (λ k. are_pieces k ps) long ∙ own

  decoded : (e : Decoded) → kind_in e.values ≡ kind_in d.values → values_of e.values ≡ pieced (default_in (kind_in d.values)) ps (values_of d.values) → e.valid ≡ validity vs → IsDecoded (plain_of s vs) e
  decoded e k v b =
      let typed = type-plain_of s vs in
      let given = rows-plain_of s vs fit in
      let default : default_in (kind_in d.values) ≡ default_of s = ap default_in h.0 ∙ sym (default-kind s f) in
      let pieces : map (or_default (default_of s)) vs ≡ pieced (default_of s) ps (map (or_default (default_of s)) (rows t)) =
      map-pieced (or_default (default_of s)) (null_or_default s) ps (rows t) ∙ ap (λ x. pieced x ps (map (or_default (default_of s)) (rows t))) (filled-default s) in (
        k ∙ h.0 ∙ ap kind_of (sym typed),
        v ∙ (λ i. pieced (default i) ps (h.1 i)) ∙ sym pieces ∙ (λ i. map (or_default (default_of (sym typed i))) (sym given i)),
        b ∙ ap validity (sym given),
      )

  -- with the type, the length, the nullability and the validity that the code has
  module _ (q : PlainType) (m : q ≡ s) (len : ℕ) (l : len ≡ length (rows t)) (nullable : Bool) (k : nullable ≡ is_nullable q) (valid : Validity) (v : valid ≡ pieced_validity (not nullable) ps d.valid len) where
    typed : tree_type (plain_of s vs) ≡ q
    typed = type-plain_of s vs ∙ sym m

    bits : valid ≡ validity vs
    bits = v ∙ given_bits t w ps own d.valid len (not nullable) (sym h.2) (sym l) (ap not (k ∙ ap is_nullable m))

    -- ---- truth values
    pub record IsBoolPieced (bs : List Bool) (n : Nullability) : Type 0 where
      pub admitted : primitive_refusal (length bs) valid n ≡ None
      pub made : bool bs (kept valid) n ≡ plain_pieced ps t

    pub bool_pieced : (bs out : List Bool) (n : Nullability) → d.values ≡ lists.Bits bs → out ≡ pieced false ps bs → n ≡ nullability_of q → IsBoolPieced out n
    bool_pieced bs out n e o b =
        let now : Decoded = record { values = lists.Bits out; valid = valid } in
        let values : map truth out ≡ pieced (default_in (kind_in d.values)) ps (values_of d.values) =
        ap (map truth) o ∙ map-pieced truth false ps bs ∙ (λ i. pieced (default_in (kind_in (sym e i))) ps (values_of (sym e i))) in
        let is = bool_of (plain_of s vs) now out valid n well flat refl refl (b ∙ sym (ap nullability_of typed)) (decoded now (sym (ap kind_in e)) values bits) in
        record { admitted = is.admitted; made = is.made ∙ back }

    -- ---- integers and timestamps
    pub record AreIntsPieced (xs : Ints) : Type 0 where
      pub admitted : primitive_refusal (length (wholes_of xs)) valid (nullability_of q) ≡ None
      pub stamped : is_timestamp q ≡ true → timestamp_refusal (primitive (ptype_of xs) (wholes_of xs) (kept valid) (nullability_of q)) ≡ None
      pub made : as_type q (primitive (ptype_of xs) (wholes_of xs) (kept valid) (nullability_of q)) ≡ plain_pieced ps t

    pub ints_pieced : (xs out : Ints) → d.values ≡ lists.Ints xs → ptype_of out ≡ ptype_of xs → wholes_of out ≡ pieced (pos 0) ps (wholes_of xs) → AreIntsPieced out
    ints_pieced xs out e p o =
        let now : Decoded = record { values = lists.Ints out; valid = valid } in
        let values : map int (wholes_of out) ≡ pieced (default_in (kind_in d.values)) ps (values_of d.values) =
        ap (map int) o ∙ map-pieced int (pos 0) ps (wholes_of xs) ∙ (λ i. pieced (default_in (kind_in (sym e i))) ps (values_of (sym e i))) in
        let is = ints_of (plain_of s vs) now out valid (nullability_of q) well refl refl (sym (ap nullability_of typed)) (decoded now (ap ints p ∙ sym (ap kind_in e)) values bits) in
        record {
          admitted = is.admitted;
          stamped = λ r. is.stamped (ap is_timestamp typed ∙ r);
          made = ap (λ r. as_type r (primitive (ptype_of out) (wholes_of out) (kept valid) (nullability_of q))) (sym typed) ∙ is.made ∙ back;
        }

    -- ---- texts and binaries
    pub record AreViewsPieced (rs : List (List ℕ)) (r : PlainType) : Type 0 where
      pub admitted : var_bin_view_refusal rs valid r ≡ None
      pub made : var_bin_view rs (kept valid) r ≡ plain_pieced ps t

    pub views_pieced : (rs out : List (List ℕ)) (r : PlainType) → d.values ≡ lists.Bytes rs → out ≡ pieced [] ps rs → r ≡ q → AreViewsPieced out r
    views_pieced rs out r e o b =
        let now : Decoded = record { values = lists.Bytes out; valid = valid } in
        let values : map bytes out ≡ pieced (default_in (kind_in d.values)) ps (values_of d.values) =
        ap (map bytes) o ∙ map-pieced bytes [] ps rs ∙ (λ i. pieced (default_in (kind_in (sym e i))) ps (values_of (sym e i))) in
        let is = var_bin_view_of (plain_of s vs) now out valid r well refl refl (b ∙ sym typed) (decoded now (sym (ap kind_in e)) values bits) in
        record { admitted = is.admitted; made = is.made ∙ back }
