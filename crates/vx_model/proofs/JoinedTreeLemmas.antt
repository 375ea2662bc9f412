-- The tree of concatenated rows over any tree of their offsets: it is accepted, well formed, and stands for the column.
use Rattle.std.proofs.Common.{◌≡◌, ◌+◌, ◌-◌, ◌∙◌, length, map, refl, sym, ap, subst, Bool, true, false, Option, None, arith}
use Rattle.std.specs.Prelude.{not, nat_le, ◌&&◌}
use Rattle.std.specs.List.{list_all}
use Rattle.std.proofs.lemmas.Bool.{and_from}
use Rattle.std.proofs.lemmas.Bool.Decides.{nat_tests}
use Rattle.vx_base.specs.declared.dtype.Nullability.TheVariants.{NonNullable}
use Rattle.vx_base.specs.declared.ptype.PType.TheVariants.{U64}
use Rattle.vx_base.specs.declared.error.VortexError.{VortexError}
use Rattle.vx_base.specs.Answers.{unless}
use Rattle.vx_base.specs.PlainScalar.{fits}
use Rattle.vx_base.specs.PlainType.{PlainType, is_integer, is_nullable, is_bytes, nullability_of}
use Rattle.vx_base.specs.PlainType as types
use Rattle.vx_base.specs.PlainValue.{bytes, is_short, bytes_or_empty}
use Rattle.vx_model.specs.Column.{Column, IsColumn, column_of}
use Rattle.vx_model.specs.Nested.{concatenated}
use Rattle.vx_model.specs.Offsets.{offsets_column, offset_values, byte_rows_of}
use Rattle.vx_model.specs.Plain.{validity}
use Rattle.vx_model.specs.Refusals.{kept, validity_length, validity_allowed, var_bin_refusal}
use Rattle.vx_model.specs.Rows.{rows, cut_at, valid_rows}
use Rattle.vx_model.specs.Tree.{Tree, var_bin, var_bin_view}
use Rattle.vx_model.specs.TreeType.{tree_type}
use Rattle.vx_model.specs.WellFormed.{WellFormed, IsView, are_offsets}
use Rattle.vx_model.proofs.DecodeLemmas.{kept-validity, length-validity, items_admitted}
use Rattle.vx_model.proofs.FewLemmas.{few-flat}
use Rattle.vx_model.proofs.FlatTypeLemmas.{bytes-flat}
use Rattle.vx_model.proofs.JoinedLemmas.{length-offset_values, cut_joined, joined_offsets}
use Rattle.vx_model.proofs.PackedLemmas.{passed}
use Rattle.vx_model.proofs.PlainLemmas.{rows-plain_of, plain_well_formed, short_items}
use Rattle.vx_model.proofs.ViewLemmas.{plain_of-bytes}

-- ---- of a column of texts or binaries, and a tree of its offsets

module _ (c : Column) (typed : is_bytes c.dtype ≡ true) (h : IsColumn c) (offsets : Tree) (same : column_of offsets ≡ offsets_column (byte_rows_of c)) where
  own_rows : rows offsets ≡ offset_values (byte_rows_of c)
  own_rows = ap (λ k. k.values) same

  own_type : tree_type offsets ≡ types.primitive U64 NonNullable
  own_type = ap (λ k. k.dtype) same

  cut_back : cut_at (rows offsets) (concatenated (byte_rows_of c)) ≡ byte_rows_of c
  cut_back = ap (λ os. cut_at os (concatenated (byte_rows_of c))) own_rows ∙ cut_joined (byte_rows_of c)

  view_rows : valid_rows (validity c.values) (map bytes (byte_rows_of c)) ≡ c.values
  view_rows = ap rows (sym (plain_of-bytes c.dtype c.values typed)) ∙ rows-plain_of c.dtype c.values h

  pub rows-joined : rows (var_bin offsets (concatenated (byte_rows_of c)) (validity c.values) c.dtype) ≡ c.values
  rows-joined = ap (λ rs. valid_rows (validity c.values) (map bytes rs)) cut_back ∙ view_rows

  -- it stands for the column
  pub column_of-joined : column_of (var_bin offsets (concatenated (byte_rows_of c)) (validity c.values) c.dtype) ≡ c
  column_of-joined = ap (λ vs. record { dtype = c.dtype; values = vs }) rows-joined

  view : WellFormed (var_bin_view (byte_rows_of c) (validity c.values) c.dtype)
  view = subst WellFormed (plain_of-bytes c.dtype c.values typed) (plain_well_formed c h (few-flat c.dtype c.values (bytes-flat c.dtype typed)))

  ends : are_offsets (length (concatenated (byte_rows_of c))) (rows offsets) ≡ true
  ends = ap (are_offsets (length (concatenated (byte_rows_of c)))) own_rows ∙ joined_offsets (byte_rows_of c)

  count : length (rows offsets) ≡ length (byte_rows_of c) + 1
  count = ap length own_rows ∙ length-offset_values (byte_rows_of c)

  some : nat_le 1 (length (rows offsets)) ≡ true
  some = rw count (grind (arith, nat_tests))

  -- it is well formed
  pub joined_well_formed : WellFormed offsets → WellFormed (var_bin offsets (concatenated (byte_rows_of c)) (validity c.values) c.dtype)
  joined_well_formed w = (
    w,
    record {
      offsets_type = ap is_integer own_type;
      not_null = ap is_nullable own_type;
      some = some;
      ends = ends;
      values = subst (λ rs. IsView rs (validity c.values) c.dtype) (sym cut_back) view.0;
    },
    ap (list_all (fits c.dtype)) rows-joined ∙ h,
  )

  -- nothing is refused
  pub joined_admitted : var_bin_refusal offsets (concatenated (byte_rows_of c)) (validity c.values) c.dtype ≡ None
  joined_admitted =
      let len : length (rows offsets) - 1 ≡ length (byte_rows_of c) = omega (arith, count) in
      let bits : validity_length (validity c.values) (length (byte_rows_of c)) ≡ true = length-validity bytes_or_empty c.values in
      let allowed : validity_allowed (validity c.values) (nullability_of c.dtype) ≡ true = (passed _ _ _ (passed _ _ _ (items_admitted bytes_or_empty c.dtype c.values h)).1).0 in
      let fitting = ap (λ valid. valid_rows valid (map bytes (byte_rows_of c))) (kept-validity c.values) ∙ view_rows in
      let held : validity_length (validity c.values) (length (rows offsets) - 1) ≡ true = ap (validity_length (validity c.values)) len ∙ bits in
      let kinds : is_integer (tree_type offsets) && not (is_nullable (tree_type offsets)) && is_bytes c.dtype ≡ true = rw (own_type, typed) refl in
      let short = ap (list_all is_short) cut_back ∙ short_items c.dtype typed c.values h in
      let fit = ap (λ rs. list_all (fits c.dtype) (valid_rows (kept (validity c.values)) (map bytes rs))) cut_back ∙ ap (list_all (fits c.dtype)) fitting ∙ h in
      pass _ _ _ kinds (pass _ _ _ (and_from _ _ some held) (pass _ _ _ ends (pass _ _ _ short (pass _ _ _ (and_from _ _ allowed fit) refl))))
    where
      pass : (b : Bool) (e : VortexError) (others : Option VortexError) → b ≡ true → others ≡ None → unless b e others ≡ None
      pass true e others h o = o
      pass false e others h o = absurd cc
