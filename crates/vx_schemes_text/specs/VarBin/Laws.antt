-- The offsets of binaries are a lawful part, and the bytes over any tree of them stand for the column.
use Rattle.std.proofs.Common.{◌≡◌, ◌≤◌, ◌+◌, ◌∙◌, pos, true, false, None, length, map, refl, ap, subst, arith}
use Rattle.std.proofs.lemmas.List.{length-map}
use Rattle.vx_base.specs.declared.dtype.Nullability.TheVariants.{NonNullable}
use Rattle.vx_base.specs.declared.ptype.PType.TheVariants.{U64}
use Rattle.vx_base.specs.PlainType.{is_bytes, is_integer, is_nullable}
use Rattle.vx_base.specs.PlainValue.{bytes, bytes_or_empty}
use Rattle.vx_model.specs.Column.{Column, IsColumn, column, column_of}
use Rattle.vx_model.specs.Nested.{concatenated}
use Rattle.vx_model.specs.Offsets.{offsets_of, offset_values, byte_rows_of}
use Rattle.vx_model.specs.Plain.{validity}
use Rattle.vx_model.specs.Refusals.{var_bin_refusal}
use Rattle.vx_model.specs.Rows.{rows, cut_at, valid_rows}
use Rattle.vx_model.specs.Tree.{Tree, primitive, var_bin}
use Rattle.vx_model.specs.TreeType.{tree_type}
use Rattle.vx_model.specs.WellFormed.{WellFormed}
use Rattle.vx_model.proofs.DecodeLemmas.{kept-validity}
use Rattle.vx_model.proofs.JoinedLemmas.{length-offset_values}
use Rattle.vx_model.proofs.JoinedTreeLemmas.{column_of-joined, joined_admitted}
use Rattle.vx_model.proofs.OffsetColumnLemmas.{offsets_fit, few_bytes}
use Rattle.vx_model.proofs.VarBinLemmas.{var_bin_accepted}
use Rattle.vx_schemes_common.specs.NarrowedLaws.{index_type-holds}
use Rattle.vx_schemes_common.specs.OnePart.{PartStands}
use Rattle.vx_schemes_text.specs.TypeLaws.{binary_is_bytes}
use Rattle.vx_schemes_text.specs.Types.{is_binary}
use Rattle.vx_schemes_text.specs.VarBin.Tree.{binary_offsets, binaries_over}

-- the same offsets as words, for which vx_model has the lemmas
abbrev words : Column → Tree
words c = primitive U64 (map pos (offsets_of (byte_rows_of c))) None NonNullable

module _ (c : Column) (typed : is_bytes c.dtype ≡ true) (h : IsColumn c) (offsets : Tree) (same : column_of offsets ≡ binary_offsets c) where
  same_rows : rows offsets ≡ rows (words c)
  same_rows = ap (λ k. k.values) same

  integers : is_integer (tree_type offsets) ≡ true
  integers = ap (λ k. is_integer k.dtype) same

  not_null : is_nullable (tree_type offsets) ≡ false
  not_null = ap (λ k. is_nullable k.dtype) same

  pub binaries-admitted : var_bin_refusal offsets (concatenated (byte_rows_of c)) (validity c.values) c.dtype ≡ None
  binaries-admitted = rw (integers, not_null, same_rows) (joined_admitted c typed h (words c) refl)

  pub binaries-column : column_of (binaries_over c offsets) ≡ c
  binaries-column = ap (λ os. column c.dtype (valid_rows (validity c.values) (map bytes (cut_at os (concatenated (byte_rows_of c)))))) same_rows ∙ column_of-joined c typed h (words c) refl

  pub binaries-well : WellFormed offsets → WellFormed (binaries_over c offsets)
  binaries-well w =
      subst (λ v. WellFormed (var_bin offsets (concatenated (byte_rows_of c)) v c.dtype)) (kept-validity c.values)
      (var_bin_accepted offsets (concatenated (byte_rows_of c)) (validity c.values) c.dtype binaries-admitted w)

-- one offset more than there are rows
offsets-rows : (c : Column) → length (binary_offsets c).values ≤ length c.values + 1024
offsets-rows c = omega (arith, length-offset_values (byte_rows_of c), length-map c.values bytes_or_empty)

pub binaries-stand : PartStands is_binary (λ c. true) binary_offsets binaries_over
binaries-stand = record {
  is_part = λ c taken h few passes. record {
    column = index_type-holds (offset_values (byte_rows_of c)) (offsets_fit (byte_rows_of c) (few_bytes c (binary_is_bytes c.dtype taken) h (omega (arith, few))));
    leaf = refl;
    rows = offsets-rows c;
  };
  stands = λ c tree taken h passes well same. (binaries-well c (binary_is_bytes c.dtype taken) h tree same well, binaries-column c (binary_is_bytes c.dtype taken) h tree same);
}
