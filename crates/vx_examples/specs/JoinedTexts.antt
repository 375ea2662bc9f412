-- What the scheme of joined texts means, and the list that it stands in.
use Rattle.std.specs.Prelude.{◌≡◌, ◌≤◌, true, false, List, [], ◌∷◌, codes, length, refl}
use Rattle.std.proofs.Common.{◌+◌, arith}
use Rattle.std.proofs.lemmas.List.{length-map}
use Rattle.vx_base.specs.declared.array_id.ArrayId.TheVariants.{VarBin}
use Rattle.vx_base.specs.IdNumber.{same_id}
use Rattle.vx_base.specs.PlainType.{PlainType, is_text, is_bytes}
use Rattle.vx_base.specs.PlainType as types
use Rattle.vx_base.specs.PlainValue.{bytes_or_empty}
use Rattle.vx_model.specs.Column.{Column}
use Rattle.vx_model.specs.Nested.{concatenated}
use Rattle.vx_model.specs.Offsets.{offsets_column, byte_rows_of}
use Rattle.vx_model.specs.Plain.{validity}
use Rattle.vx_model.specs.Tree.{Tree, var_bin}
use Rattle.vx_model.proofs.JoinedLemmas.{length-offset_values}
use Rattle.vx_model.proofs.JoinedTreeLemmas.{joined_well_formed, column_of-joined}
use Rattle.vx_model.proofs.OffsetColumnLemmas.{offsets_fit, few_bytes}
use Rattle.vx_scheme.specs.Lawful.{Lawful}
use Rattle.vx_scheme.specs.Meaning.{Meaning}
use Rattle.vx_scheme.specs.declared.estimate.CompressionEstimate.TheVariants.{Deferred}
use Rattle.vx_scheme.specs.declared.estimate.DeferredEstimate.TheVariants.{Sample}
use Rattle.vx_scheme.specs.declared.estimate.EstimateVerdict.TheVariants.{Skip}
use Rattle.vx_schemes_common.specs.OnePart.{PartStands, part_where, over_part}
use Rattle.vx_schemes_common.specs.OnePartLaws.{one_part-lawful}
use Rattle.vx_btrblocks.specs.Shipped.{shipped_schemes}

-- the offsets of the concatenated texts: where each begins, and where the last ends
abbrev pub text_offsets : Column → Column
text_offsets c = offsets_column (byte_rows_of c)

-- the concatenated texts over the tree of their offsets
abbrev pub texts_over : Column → Tree → Tree
texts_over c offsets = var_bin offsets (concatenated (byte_rows_of c)) (validity c.values) c.dtype

-- tried on a sample; the one part is the offsets
abbrev pub joined_texts : Meaning
joined_texts = record {
  name = codes "example.text.joined";
  takes = is_text;
  children = 1;
  options = record { count_distinct_values = false };
  produces = λ id. same_id id VarBin;
  descendants = [];
  ancestors = [];
  estimate = λ c site. Deferred Sample;
  resolve = λ c site. Skip;
  splits = λ c site. part_where true (text_offsets c);
  joined = λ c site trees. over_part texts_over c trees;
}

text_is_bytes : (t : PlainType) → is_text t ≡ true → is_bytes t ≡ true
text_is_bytes (types.utf8 n) e = refl
text_is_bytes t e = absurd cc

-- one offset more than there are rows
text_offsets-rows : (c : Column) → length (text_offsets c).values ≤ length c.values + 1024
text_offsets-rows c = omega (arith, length-offset_values (byte_rows_of c), length-map c.values bytes_or_empty)

-- the offsets are a part, and over any tree of them the texts stand for the column
joined_texts-stands : PartStands is_text (λ c. true) text_offsets texts_over
joined_texts-stands = record {
  is_part = λ c taken h few passes. record { column = offsets_fit (byte_rows_of c) (few_bytes c (text_is_bytes c.dtype taken) h (omega (arith, few))); leaf = refl; rows = text_offsets-rows c };
  stands = λ c tree taken h passes well same. (joined_well_formed c (text_is_bytes c.dtype taken) h tree same well, column_of-joined c (text_is_bytes c.dtype taken) h tree same);
}

pub joined_texts_lawful : Lawful joined_texts
joined_texts_lawful = one_part-lawful joined_texts (λ c. true) text_offsets texts_over (λ c site. refl) (λ c site tree. refl) (omega arith) joined_texts-stands

-- joined texts, and behind them the shipped schemes
abbrev pub with_joined_texts : List Meaning
with_joined_texts = joined_texts ∷ shipped_schemes
