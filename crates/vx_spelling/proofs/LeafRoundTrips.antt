-- Nodes without trees inside are read back from their spelling.
use Rattle.std.proofs.Common.{◌≡◌, ℕ, suc, ◌<◌, ◌≤◌, ◌^◌, ◌++◌, ℤ, Bool, true, List, length, Some, None, refl, ap, ◌∙◌, arith}
use Rattle.std.specs.Prelude.{is_none, nat_le}
use Rattle.std.proofs.lemmas.Bool.{ltb-true, leb-true}
use Rattle.vx_base.specs.declared.dtype.Nullability.{Nullability}
use Rattle.vx_base.specs.declared.ptype.PType.{PType}
use Rattle.vx_base.specs.declared.ptype.PType.TheVariants.{U8, U16, U32, U64, I8, I16, I32, I64}
use Rattle.vx_base.specs.Integers.{lies_in, natural_bits}
use Rattle.vx_base.specs.PlainScalar.{PlainScalar}
use Rattle.vx_base.specs.PlainType.{PlainType, utf8, binary, is_bytes, is_text, nullability_of}
use Rattle.vx_base.specs.PlainType as types
use Rattle.vx_base.specs.PlainValue.{is_short}
use Rattle.vx_codec.specs.Lists.{delimited}
use Rattle.vx_codec.proofs.FormatLaws.{made_round_trip}
use Rattle.vx_model.specs.Nodes.{encoding}
use Rattle.vx_model.specs.Tree.{Tree, Validity, PlainPacked, bool, primitive, var_bin_view, constant, nulls, sequence, bit_packed}
use Rattle.vx_model.specs.WellFormed.{IsWellPacked}
use Rattle.vx_model.proofs.AdmittedLemmas.{sequence-admitted}
use Rattle.vx_model.proofs.BoolLemmas.{length-bool}
use Rattle.vx_model.proofs.NullsLemmas.{length-nulls}
use Rattle.vx_model.proofs.PackedLemmas.{length-bit_packed}
use Rattle.vx_model.proofs.RowLemmas.{length-primitive, length-constant}
use Rattle.vx_model.proofs.SequenceLemmas.{length-sequence}
use Rattle.vx_model.proofs.ViewLemmas.{length-var_bin_view}
use Rattle.vx_spelling.specs.Fields.{row_count, integer}
use Rattle.vx_spelling.specs.LeafParts.{bool_parts, bool_of, primitive_parts, primitive_of, byte_type_of, view_parts, view_of, constant_parts, constant_of, sequence_parts, sequence_of}
use Rattle.vx_spelling.specs.PackedParts.{packed_fields, packed_parts, packed_from}
use Rattle.vx_spelling.specs.TreeSpelling.{body, node_behind, trees_by, tree_at, FitsAt, tree_format, packed_fields_of}
use Rattle.vx_spelling.proofs.Admitted.{flat-admitted, var_bin_view-admitted, packed-admitted}
use Rattle.vx_spelling.proofs.Bounds.{few_rows, few_items, shallow_type, all_fit}
use Rattle.vx_spelling.proofs.FieldLaws.{row_count_lawful, small_fits, validity_fits}
use Rattle.vx_spelling.proofs.NodeLaws.{bool_lawful, primitive_lawful, view_lawful, constant_lawful, sequence_lawful, packed_lawful}
use Rattle.vx_spelling.proofs.ValueLaws.{scalar_fits}
use Rattle.vx_codec.specs.Format.{IsLawful}

-- a node of a tree is read back behind its id
abbrev pub IsReadBack : ℕ → Tree → Type 0
IsReadBack d t = (rest : List ℕ) → FitsAt (suc d) t → node_behind (trees_by (tree_at d)) (encoding t) (body t ++ rest) ≡ Some (t, rest)

pub nulls_read_back : (d len : ℕ) → IsReadBack d (nulls len)
nulls_read_back d len rest h = made_round_trip row_count nulls row_count_lawful len rest (few_rows (nulls len) len (length-nulls len) h.1.1.0)

pub bool_read_back : (d : ℕ) (bs : List Bool) (valid : Validity) (n : Nullability) → IsReadBack d (bool bs valid n)
bool_read_back d bs valid n rest h =
    let w = h.1.0 in
    made_round_trip bool_parts bool_of bool_lawful ((n, bs), valid) rest
    (((tt, (few_items (bool bs valid n) (length bs) (length-bool bs valid n w) h.1.1.0, refl)), validity_fits valid (length bs) n w.0), ap is_none (flat-admitted (length bs) valid n w.0))

pub primitive_read_back : (d : ℕ) (p : PType) (xs : List ℤ) (valid : Validity) (n : Nullability) → IsReadBack d (primitive p xs valid n)
primitive_read_back d p xs valid n rest h =
    let w = h.1.0 in
    let own = w.0 in
    made_round_trip primitive_parts primitive_of primitive_lawful ((p, n), (xs, valid)) rest (
      ((tt, tt), ((few_items (primitive p xs valid n) (length xs) (length-primitive p xs valid n w) h.1.1.0, (refl, all_fit (lies_in p) (integer p).Fits (λ z held. held) xs own.held)), validity_fits valid (length xs) n own.validity)),
      ap is_none (flat-admitted (length xs) valid n own.validity),
    )

-- a type of texts or binaries, from whether it is one of texts and its nullability
pub byte_type_again : (t : PlainType) → is_bytes t ≡ true → byte_type_of (is_text t, nullability_of t) ≡ t
byte_type_again (types.utf8 n) h = refl
byte_type_again (types.binary n) h = refl
byte_type_again types.null_type h = absurd cc
byte_type_again (types.boolean n) h = absurd cc
byte_type_again (types.primitive p n) h = absurd cc
byte_type_again (types.timestamp k n) h = absurd cc
byte_type_again (types.structure fs n) h = absurd cc
byte_type_again (types.list t n) h = absurd cc
byte_type_again (types.fixed_size_list t size n) h = absurd cc

pub short_fits : (bs : List ℕ) → is_short bs ≡ true → delimited.Fits bs
short_fits bs h = let lt : length bs < 2 ^ 32 = ltb-true (length bs) (2 ^ 32) h in (small_fits (length bs) (omega arith), refl)

pub view_read_back : (d : ℕ) (vs : List (List ℕ)) (valid : Validity) (t : PlainType) → IsReadBack d (var_bin_view vs valid t)
view_read_back d vs valid t rest h =
    let w = h.1.0 in
    let own = w.0 in
    let same = byte_type_again t own.byte_type in
    let made = made_round_trip view_parts view_of view_lawful ((is_text t, nullability_of t), (vs, valid)) rest (
      ((tt, tt), ((few_items (var_bin_view vs valid t) (length vs) (length-var_bin_view vs valid t w) h.1.1.0, (refl, all_fit is_short delimited.Fits short_fits vs own.short)), validity_fits valid (length vs) (nullability_of t) own.validity)),
      rw same (ap is_none (var_bin_view-admitted vs valid t w)),
    ) in
    made ∙ ap (λ (u : PlainType). Some (var_bin_view vs valid u, rest)) same

pub constant_read_back : (d : ℕ) (s : PlainScalar) (len : ℕ) → IsReadBack d (constant s len)
constant_read_back d s len rest h =
    made_round_trip constant_parts constant_of constant_lawful (len, (s.dtype, s.value)) rest
    (few_rows (constant s len) len (length-constant s len) h.1.1.0, scalar_fits s (shallow_type (constant s len) h.1.1.0) h.1.0.0 h.1.1.1)

pub sequence_read_back : (d : ℕ) (p : PType) (n : Nullability) (first step : ℤ) (len : ℕ) → IsReadBack d (sequence p n first step len)
sequence_read_back d p n first step len rest h =
    made_round_trip sequence_parts sequence_of sequence_lawful ((p, n), ((first, step), len)) rest
    (((tt, tt), (h.1.1.1, few_rows (sequence p n first step len) len (length-sequence p n first step len) h.1.1.0)), ap is_none (sequence-admitted p n first step len h.1.0))

narrow_below : (p : PType) (width : ℕ) → nat_le width (natural_bits p) ≡ true → width < 256
narrow_below U8 width h = let le : width ≤ 8 = leb-true width 8 h in omega arith
narrow_below U16 width h = let le : width ≤ 16 = leb-true width 16 h in omega arith
narrow_below U32 width h = let le : width ≤ 32 = leb-true width 32 h in omega arith
narrow_below U64 width h = let le : width ≤ 64 = leb-true width 64 h in omega arith
narrow_below I8 width h = let le : width ≤ 7 = leb-true width 7 h in omega arith
narrow_below I16 width h = let le : width ≤ 15 = leb-true width 15 h in omega arith
narrow_below I32 width h = let le : width ≤ 31 = leb-true width 31 h in omega arith
narrow_below I64 width h = let le : width ≤ 63 = leb-true width 63 h in omega arith

-- the fields of packed integers fit, where their rows are few
pub packed_fields_fit : (k : PlainPacked) → row_count.Fits k.len → IsWellPacked k → packed_fields.Fits (packed_fields_of k)
packed_fields_fit k few own = (((tt, tt), (narrow_below k.ptype k.width own.narrow, few)), ((own.sized, own.held), validity_fits k.valid k.len k.nullability own.validity))

pub bit_packed_read_back : (d : ℕ) → IsLawful (tree_format d) → (k : PlainPacked) → IsReadBack d (bit_packed k)
bit_packed_read_back d law k rest h =
    let w = h.1.0 in
    made_round_trip (packed_parts (tree_format d)) packed_from (packed_lawful (tree_format d) law) (packed_fields_of k, None) rest
    ((packed_fields_fit k (few_rows (bit_packed k) k.len (length-bit_packed k w) h.1.1.0) w.0, tt), ap is_none (packed-admitted k None w))
