-- What the schemes of this crate make has an encoding that they produce.
use Rattle.std.proofs.Common.{◌≡◌, ℤ, Bool, true, false, Option, Some, None, cond, refl, ap, subst, inl, inr}
use Rattle.std.specs.Prelude.{◌||◌, ◌==◌, map, option_map}
use Rattle.std.specs.List.{list_any}
use Rattle.vx_base.specs.Integers.{bits_of}
use Rattle.vx_base.specs.PlainType.{integer_of, nullability_of}
use Rattle.vx_base.specs.PlainValue.{whole_or_zero}
use Rattle.vx_base.specs.declared.array_id.ArrayId.TheVariants as ids
use Rattle.vx_model.specs.Column.{Column}
use Rattle.vx_model.specs.Nodes.{encoding}
use Rattle.vx_model.specs.Plain.{valid_bits}
use Rattle.vx_model.specs.Tree.{Tree}
use Rattle.vx_model.proofs.PackedOfLemmas.{encoding-packed_of}
use Rattle.vx_schemes.specs.BitPacking.Meaning.{bit_packing_meaning}
use Rattle.vx_schemes.specs.BitPacking.Tree.{is_negative, packed_tree, bit_packing_made}
use Rattle.vx_schemes.specs.Dictionary.Meaning.{int_dict_meaning, unfinished}
use Rattle.vx_schemes_common.specs.Dictionaries.{dictionary_or_plain}
use Rattle.vx_schemes.specs.FrameOfReference.Meaning.{for_meaning}
use Rattle.vx_schemes.specs.FrameOfReference.Tree.{least_value, framed, for_made}
use Rattle.vx_schemes_common.specs.Pairs.{pair_of}
use Rattle.vx_schemes_common.specs.Produced.{IsProduced, MakesProduced}
use Rattle.vx_schemes_common.proofs.Produced.{finishing-produced, one_part-produced}
use Rattle.vx_schemes.specs.Widths.{best_width_of}
use Rattle.vx_schemes.specs.ZigZag.Meaning.{zig_zag_meaning}
use Rattle.vx_schemes.specs.declared.integer.bit_packing.BitPackingScheme.{BitPackingScheme}
use Rattle.vx_schemes.specs.declared.integer.dictionary.IntDictScheme.{IntDictScheme}
use Rattle.vx_schemes.specs.declared.integer.frame_of_reference.FoRScheme.{FoRScheme}
use Rattle.vx_schemes.specs.declared.integer.zig_zag.ZigZagScheme.{ZigZagScheme}

pub encoding-made : (c : Column) (tree : Tree) → bit_packing_made c ≡ Some tree → encoding tree ≡ ids.BitPacked
encoding-made c tree e =
    let xs = map whole_or_zero c.values in
    let bits = valid_bits c.values in
    let p = integer_of c.dtype in
    by_test (list_any is_negative xs || (best_width_of p xs bits == bits_of p)) (packed_tree p (nullability_of c.dtype) xs bits (best_width_of p xs bits)) (encoding-packed_of _ _) e
  where
    by_test : (b : Bool) (made : Tree) → encoding made ≡ ids.BitPacked → cond b None (Some made) ≡ Some tree → encoding tree ≡ ids.BitPacked
    by_test true made is q = absurd cc
    by_test false made is q = let same : made ≡ tree = cc in subst (λ t. encoding t ≡ ids.BitPacked) same is

pub packings-produced : (s : BitPackingScheme) → MakesProduced (bit_packing_meaning s)
packings-produced s =
    finishing-produced (bit_packing_meaning s) bit_packing_made (λ c site. refl) (λ c tree e. ap (bit_packing_meaning s).produces (encoding-made c tree e)) (λ c site trees. refl)

pub encoding-framed : (c : Column) (tree : Tree) → for_made c ≡ Some tree → encoding tree ≡ ids.FoR
encoding-framed c tree e = by_least (least_value c.values) e
  where
    by_least : (o : Option ℤ) → option_map (framed c) o ≡ Some tree → encoding tree ≡ ids.FoR
    by_least None q = absurd cc
    by_least (Some z) q = let same : framed c z ≡ tree = cc in subst (λ t. encoding t ≡ ids.FoR) same refl

pub frames-produced : (s : FoRScheme) → MakesProduced (for_meaning s)
frames-produced s = finishing-produced (for_meaning s) for_made (λ c site. refl) (λ c tree e. ap (for_meaning s).produces (encoding-framed c tree e)) (λ c site trees. refl)

pub zigzags-produced : (s : ZigZagScheme) → MakesProduced (zig_zag_meaning s)
zigzags-produced s = one_part-produced (zig_zag_meaning s) _ _ _ (λ c site. refl) (λ c site trees. refl) (λ c tree. refl)

pub dictionaries-produced : (s : IntDictScheme) → MakesProduced (int_dict_meaning s)
dictionaries-produced s = record {
  by_finishing = λ c site tree e. absurd (unfinished c tree e);
  by_joining = λ c site trees. by_pair c (pair_of trees);
}
  where
    by_pair : (c : Column) (pair : Option (Tree × Tree)) → IsProduced (int_dict_meaning s) c (dictionary_or_plain c pair)
    by_pair c None = inl refl
    by_pair c (Some pair) = inr refl
