-- Pieces of structs: each field takes the pieces that hide the null structs.
use Rattle.std.proofs.Common.{◌≡◌, ◌∙◌, ℕ, List, [], ◌∷◌, length, map, refl, sym, ap, arith, true, None}
use Rattle.std.specs.Prelude.{◌==◌, not}
use Rattle.std.specs.List.{list_all}
use Rattle.std.proofs.lemmas.Bool.{and_parts, and_from, eqb-true}
use Rattle.vx_base.specs.declared.dtype.Nullability.{Nullability}
use Rattle.vx_base.specs.declared.dtype.Nullability.TheVariants.{NonNullable, Nullable}
use Rattle.vx_base.specs.Defaults.{field_defaults, null_or_default, or_default}
use Rattle.vx_base.specs.PlainType.{PlainFields, allows_null}
use Rattle.vx_base.specs.PlainType as types
use Rattle.vx_base.specs.PlainValue.{PlainValue, PlainValues, null, items}
use Rattle.vx_model.specs.Nested.{within, first_within, rest_within, struct_rows}
use Rattle.vx_model.specs.Plain.{validity, plain_of, plain_fields}
use Rattle.vx_model.specs.Refusals.{kept, structure_refusal, validity_length}
use Rattle.vx_model.specs.Rows.{rows, each_before, field_rows, valid_rows}
use Rattle.vx_model.specs.Tree.{Tree, Validity, structure, more, list_of, of_list}
use Rattle.vx_model.specs.TreeType.{tree_type, field_types}
use Rattle.vx_model.specs.WellFormed.{WellFormed, all_have_rows}
use Rattle.vx_model.proofs.DecodeLemmas.{kept-validity}
use Rattle.vx_model.proofs.MadeLemmas.{has_length}
use Rattle.vx_model.proofs.PlainAdmittedLemmas.{structure_admitted}
use Rattle.vx_model.proofs.StructLemmas.{first-each_before, rest-each_before, length-field_rows, length-structure, validity-structure, items-structure}
use Rattle.vx_pieces.specs.declared.piece.Piece.{Piece}
use Rattle.vx_pieces.specs.Bits.{pieced_validity}
use Rattle.vx_pieces.specs.Pieces.{Gives, pieced, are_pieces, pieces_count}
use Rattle.vx_pieces.proofs.CarriedLemmas.{carried, carried_within}
use Rattle.vx_pieces.proofs.PieceLemmas.{map-pieced}
use Rattle.vx_array.specs.PlainPieced.{plain_pieced}
use Rattle.vx_array.proofs.PiecedRows.{given_rows, given_fit, given_count, given_bits}
use Rattle.vx_array.proofs.PlainNested.{names-back}

-- the plain trees of fields, of which each takes the same pieces
pub fields-pieced : (names : List (List ℕ)) (ts : List Tree) (len : ℕ) (ps : List Piece) → length names ≡ length (list_of (of_list ts)) → all_have_rows len (of_list ts) ≡ true
    → plain_fields (field_types names (of_list ts)) (pieced (field_defaults (field_types names (of_list ts))) ps (field_rows (of_list ts) len)) ≡ of_list (map (plain_pieced ps) ts)
fields-pieced [] [] len ps e h = refl
fields-pieced [] (t ∷ ts) len ps e h = absurd (omega arith)
fields-pieced (name ∷ names) [] len ps e h = absurd (omega arith)
fields-pieced (name ∷ names) (t ∷ ts) len ps e h =
    let fs = field_types names (of_list ts) in
    let both = and_parts (length (rows t) == len) (all_have_rows len (of_list ts)) h in
    let behind = field_rows (of_list ts) len in
    let same : length (rows t) ≡ length behind = eqb-true (length (rows t)) len both.0 ∙ sym (length-field_rows (of_list ts) len both.1) in
    let default = field_defaults (types.more name (tree_type t) fs) in
    let whole = pieced default ps (each_before (rows t) behind) in
    let firsts : map first_within whole ≡ pieced (null_or_default (tree_type t)) ps (rows t) =
    map-pieced first_within default ps (each_before (rows t) behind) ∙ ap (pieced (null_or_default (tree_type t)) ps) (first-each_before (rows t) behind same) in
    let rests : map rest_within whole ≡ pieced (field_defaults fs) ps behind =
    map-pieced rest_within default ps (each_before (rows t) behind) ∙ ap (pieced (field_defaults fs) ps) (rest-each_before (rows t) behind same) in
    let others = ap (plain_fields fs) rests ∙ fields-pieced names ts len ps (omega arith) both.1 in
    λ i. more (plain_of (tree_type t) (firsts i)) (others i)

-- each field has the rows of the structs
each_within : (ts : List Tree) (len : ℕ) (ps : List Piece) → all_have_rows len (of_list ts) ≡ true → are_pieces len ps ≡ true → list_all (λ t. are_pieces (length (rows t)) ps) ts ≡ true
each_within [] len ps h own = refl
each_within (t ∷ ts) len ps h own =
    let both = and_parts (length (rows t) == len) (all_have_rows len (of_list ts)) h in
    and_from _ _ (ap (λ k. are_pieces k ps) (eqb-true (length (rows t)) len both.0) ∙ own) (each_within ts len ps both.1 own)

-- a filled struct has its fields' defaults
filled-struct : (fs : PlainFields) (n : Nullability) → within (or_default (items (field_defaults fs)) (null_or_default (types.structure fs n))) ≡ field_defaults fs
filled-struct fs NonNullable = refl
filled-struct fs Nullable = refl

module _ (names : List (List ℕ)) (ts : List Tree) (len : ℕ) (valid : Validity) (n : Nullability) (w : WellFormed (structure names (of_list ts) len valid n)) (ps : List Piece) (own : are_pieces len ps ≡ true) (out : List Piece)
    (hides : (values : List PlainValue) → are_pieces (length values) ps ≡ true → validity_length valid (length values) ≡ true → Gives null out values (pieced null ps (valid_rows valid values))) where
  abbrev tree : Tree
  tree = structure names (of_list ts) len valid n

  abbrev fs : PlainFields
  fs = field_types names (of_list ts)

  abbrev inside : List PlainValues
  inside = field_rows (of_list ts) len

  count : length inside ≡ len
  count = length-field_rows (of_list ts) len w.1.lengths

  within_inside : are_pieces (length inside) ps ≡ true
  within_inside = ap (λ k. are_pieces k ps) count ∙ own

  bits_inside : validity_length valid (length inside) ≡ true
  bits_inside = ap (validity_length valid) count ∙ has_length valid len n w.1.validity

  within_tree : are_pieces (length (rows tree)) ps ≡ true
  within_tree = ap (λ k. are_pieces k ps) (length-structure names (of_list ts) len valid n w) ∙ own

  pub fields_within : list_all (λ t. are_pieces (length (rows t)) out) ts ≡ true
  fields_within = each_within ts len out w.1.lengths (ap (λ k. are_pieces k out) (sym count) ∙ carried_within ps valid out hides (field_defaults fs) inside within_inside bits_inside)

  structs : struct_rows fs (given_rows tree w ps within_tree) ≡ pieced (field_defaults fs) out inside
  structs =
      let row = λ (v : PlainValue). within (or_default (items (field_defaults fs)) v) in
      map-pieced row (null_or_default (tree_type tree)) ps (rows tree)
      ∙ (λ i. pieced (filled-struct fs n i) ps (items-structure names (of_list ts) len valid n w i))
      ∙ sym (carried ps valid out hides (field_defaults fs) inside within_inside bits_inside)

  -- over the fields' plain trees
  pub record IsStructPieced (trees : List Tree) (rows : ℕ) (bits : Validity) : Type 0 where
    pub admitted : structure_refusal names (of_list trees) rows bits n ≡ None
    pub made : structure names (of_list trees) rows (kept bits) n ≡ plain_pieced ps tree

  pub struct_pieced : (trees : List Tree) (rows : ℕ) (bits : Validity) → trees ≡ map (plain_pieced out) ts → rows ≡ pieces_count ps → bits ≡ pieced_validity (not (allows_null n)) ps valid len → IsStructPieced trees rows bits
  struct_pieced trees rows bits t r b =
      let vs = given_rows tree w ps within_tree in
      let named = names-back names (of_list ts) w.1.named in
      let fields : of_list trees ≡ plain_fields fs (struct_rows fs vs) = ap of_list t ∙ sym (fields-pieced names ts len out w.1.named w.1.lengths) ∙ ap (plain_fields fs) (sym structs) in
      let long : rows ≡ length vs = r ∙ given_count tree w ps within_tree in
      let own_bits : bits ≡ validity vs =
      b ∙ given_bits tree w ps within_tree valid len (not (allows_null n)) (validity-structure names (of_list ts) len valid n w) (length-structure names (of_list ts) len valid n w) refl in
      record {
        admitted = (λ i. structure_refusal (sym named i) (fields i) (long i) (own_bits i) n) ∙ structure_admitted fs n vs (given_fit tree w ps within_tree);
        made = λ i. structure (sym named i) (fields i) (long i) ((ap kept own_bits ∙ kept-validity vs) i) n;
      }
