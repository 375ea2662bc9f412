-- What the schemes of texts and binaries make has an encoding that they produce.
use Rattle.std.proofs.Common.{ℕ, Bool, true, Option, Some, None, List, refl, inl, inr}
use Rattle.vx_base.specs.PlainType.{PlainType}
use Rattle.vx_model.specs.Column.{Column}
use Rattle.vx_model.specs.Tree.{Tree}
use Rattle.vx_schemes_common.specs.Dictionaries.{dictionary_or_plain}
use Rattle.vx_schemes_common.specs.Pairs.{pair_of}
use Rattle.vx_schemes_common.specs.Produced.{IsProduced, MakesProduced}
use Rattle.vx_schemes_common.proofs.Produced.{one_part-produced}
use Rattle.vx_schemes_text.specs.Dictionary.Meaning.{byte_dictionary, string_dict_meaning, binary_dict_meaning, unfinished}
use Rattle.vx_schemes_text.specs.NullSparse.Meaning.{null_dominated_meaning}
use Rattle.vx_schemes_text.specs.VarBin.Meaning.{var_bin_meaning}
use Rattle.vx_schemes_text.specs.VarBin.Tree.{binary_offsets, binaries_over}
use Rattle.vx_schemes_text.specs.declared.binary.dictionary.BinaryDictScheme.{BinaryDictScheme}
use Rattle.vx_schemes_text.specs.declared.binary.var_bin.VarBinScheme.{VarBinScheme}
use Rattle.vx_schemes_text.specs.declared.string.dictionary.StringDictScheme.{StringDictScheme}
use Rattle.vx_schemes_text.specs.declared.string.sparse.NullDominatedSparseScheme.{NullDominatedSparseScheme}

-- a dictionary of texts or binaries
dictionaries-produced : (name : List ℕ) (takes : PlainType → Bool) → MakesProduced (byte_dictionary name takes)
dictionaries-produced name takes = record {
  by_finishing = λ c site tree e. absurd (unfinished c tree e);
  by_joining = λ c site trees. by_pair c (pair_of trees);
}
  where
    by_pair : (c : Column) (pair : Option (Tree × Tree)) → IsProduced (byte_dictionary name takes) c (dictionary_or_plain c pair)
    by_pair c None = inl refl
    by_pair c (Some pair) = inr refl

pub string_dicts-produced : (s : StringDictScheme) → MakesProduced (string_dict_meaning s)
string_dicts-produced s = dictionaries-produced _ _

pub binary_dicts-produced : (s : BinaryDictScheme) → MakesProduced (binary_dict_meaning s)
binary_dicts-produced s = dictionaries-produced _ _

pub null_sparse-produced : (s : NullDominatedSparseScheme) → MakesProduced (null_dominated_meaning s)
null_sparse-produced s = one_part-produced (null_dominated_meaning s) _ _ _ (λ c site. refl) (λ c site trees. refl) (λ c tree. refl)

pub var_bins-produced : (s : VarBinScheme) → MakesProduced (var_bin_meaning s)
var_bins-produced s = one_part-produced (var_bin_meaning s) (λ c. true) binary_offsets binaries_over (λ c site. refl) (λ c site trees. refl) (λ c tree. refl)
