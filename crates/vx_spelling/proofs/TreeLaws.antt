-- The laws of trees.
use Rattle.std.proofs.Common.{◌≡◌, ℕ, zero, suc, ◌<◌, ◌≤◌, Bool, true, cond, List, ◌++◌, Some, None, refl, ap, subst, sym, ◌∙◌, append_assoc, arith}
use Rattle.std.proofs.lemmas.Bool.{and_from}
use Rattle.vx_base.specs.declared.array_id.ArrayId.{ArrayId}
use Rattle.vx_base.specs.declared.array_id.ArrayId.TheVariants as ids
use Rattle.vx_base.specs.IdNumber.{id_number}
use Rattle.vx_codec.specs.Format.{Parse, Format, IsLawful, tested_at, keyed_at}
use Rattle.vx_codec.proofs.FormatLaws.{bind_ok, test_ok, some_is}
use Rattle.vx_codec.proofs.NumberLaws.{enumerated_lawful, name_is, nothing_is}
use Rattle.vx_model.specs.Nodes.{encoding}
use Rattle.vx_model.specs.Tree.{Tree, bool, primitive, var_bin_view, var_bin, timestamp, constant, masked, bit_packed, bit_packed_with, frame_of_reference, zig_zag, dict, nulls, structure, list, fixed_size_list, sparse, run_end, rle, sequence, delta, datetime_parts, bit_packed_v2, bit_packed_v2_with, frame_of_reference_v2, sparse_chunked}
use Rattle.vx_spelling.specs.Storable.{depth, is_within, is_within_below}
use Rattle.vx_spelling.specs.TreeSpelling.{id_from, node_id, body, tree_text, trees_by, node_behind, tree_at, FitsAt, tree_format}
use Rattle.vx_spelling.proofs.Bounds.{root_of}
use Rattle.vx_spelling.proofs.LeafCanonicals.{IsCanonical, nulls_canonical, bool_canonical, primitive_canonical, view_canonical, constant_canonical, sequence_canonical}
use Rattle.vx_spelling.proofs.LeafRoundTrips.{IsReadBack, nulls_read_back, bool_read_back, primitive_read_back, view_read_back, constant_read_back, sequence_read_back, bit_packed_read_back}
use Rattle.vx_spelling.proofs.NodeCanonicals.{list_canonical, fixed_canonical, timestamp_canonical, datetime_canonical, var_bin_canonical, masked_canonical, dict_canonical, run_end_canonical, rle_canonical, for_canonical, frames_canonical, delta_canonical, zig_zag_canonical}
use Rattle.vx_spelling.proofs.NodeRoundTrips.{list_read_back, fixed_read_back, timestamp_read_back, datetime_read_back, var_bin_read_back, masked_read_back, dict_read_back, run_end_read_back, rle_read_back, for_read_back, frames_read_back, delta_read_back, zig_zag_read_back, sparse_read_back, sparse_chunked_read_back, packed_with_read_back, blocks_read_back, blocks_with_read_back}
use Rattle.vx_spelling.proofs.PatchCanonicals.{sparse_canonical, packed_canonical, blocks_canonical}
use Rattle.vx_spelling.proofs.StructLaws.{struct_read_back, struct_canonical}

id_some : (k : ArrayId) → (id_number k < 256) × (id_from (id_number k) ≡ Some k)
id_some ids.Null = (omega arith, refl)
id_some ids.Bool = (omega arith, refl)
id_some ids.Primitive = (omega arith, refl)
id_some ids.VarBinView = (omega arith, refl)
id_some ids.Struct = (omega arith, refl)
id_some ids.List = (omega arith, refl)
id_some ids.FixedSizeList = (omega arith, refl)
id_some ids.Timestamp = (omega arith, refl)
id_some ids.Constant = (omega arith, refl)
id_some ids.Masked = (omega arith, refl)
id_some ids.Dict = (omega arith, refl)
id_some ids.VarBin = (omega arith, refl)
id_some ids.Sparse = (omega arith, refl)
id_some ids.DateTimeParts = (omega arith, refl)
id_some ids.RunEnd = (omega arith, refl)
id_some ids.BitPacked = (omega arith, refl)
id_some ids.BitPackedV2 = (omega arith, refl)
id_some ids.FoR = (omega arith, refl)
id_some ids.FoRV2 = (omega arith, refl)
id_some ids.Delta = (omega arith, refl)
id_some ids.Rle = (omega arith, refl)
id_some ids.ZigZag = (omega arith, refl)
id_some ids.Sequence = (omega arith, refl)

pub node_id_lawful : IsLawful node_id
node_id_lawful =
    enumerated_lawful id_number id_from id_some
    (λ n b. name_is id_number n 0 ids.Null b _ refl (name_is id_number n 1 ids.Bool b _ refl (name_is id_number n 2 ids.Primitive b _ refl (name_is id_number n 3 ids.VarBinView b _ refl
    (name_is id_number n 4 ids.Struct b _ refl (name_is id_number n 5 ids.List b _ refl (name_is id_number n 6 ids.FixedSizeList b _ refl (name_is id_number n 7 ids.Timestamp b _ refl
    (name_is id_number n 8 ids.Constant b _ refl (name_is id_number n 9 ids.Masked b _ refl (name_is id_number n 10 ids.Dict b _ refl (name_is id_number n 11 ids.VarBin b _ refl
    (name_is id_number n 12 ids.Sparse b _ refl (name_is id_number n 13 ids.DateTimeParts b _ refl (name_is id_number n 14 ids.RunEnd b _ refl (name_is id_number n 15 ids.BitPacked b _ refl
    (name_is id_number n 16 ids.BitPackedV2 b _ refl (name_is id_number n 17 ids.FoR b _ refl (name_is id_number n 18 ids.FoRV2 b _ refl (name_is id_number n 19 ids.Delta b _ refl
    (name_is id_number n 20 ids.Rle b _ refl (name_is id_number n 21 ids.ZigZag b _ refl (name_is id_number n 22 ids.Sequence b _ refl (nothing_is n id_number b))))))))))))))))))))))))

node_round_trip : (d : ℕ) → IsLawful (tree_format d) → (t : Tree) → IsReadBack d t
node_round_trip d law (bool bs valid n) = bool_read_back d bs valid n
node_round_trip d law (primitive p xs valid n) = primitive_read_back d p xs valid n
node_round_trip d law (var_bin_view vs valid t) = view_read_back d vs valid t
node_round_trip d law (var_bin offsets bs valid t) = var_bin_read_back d law offsets bs valid t
node_round_trip d law (timestamp storage k) = timestamp_read_back d law storage k
node_round_trip d law (constant s len) = constant_read_back d s len
node_round_trip d law (masked child valid) = masked_read_back d law child valid
node_round_trip d law (bit_packed k) = bit_packed_read_back d law k
node_round_trip d law (bit_packed_with k len offset indices values) = packed_with_read_back d law k len offset indices values
node_round_trip d law (frame_of_reference encoded reference) = for_read_back d law encoded reference
node_round_trip d law (zig_zag encoded) = zig_zag_read_back d law encoded
node_round_trip d law (dict codes values) = dict_read_back d law codes values
node_round_trip d law (nulls len) = nulls_read_back d len
node_round_trip d law (structure names fields len valid n) = struct_read_back d law names fields len valid n
node_round_trip d law (list elements offsets valid n) = list_read_back d law elements offsets valid n
node_round_trip d law (fixed_size_list elements size len valid n) = fixed_read_back d law elements size len valid n
node_round_trip d law (sparse len offset indices values fill) = sparse_read_back d law len offset indices values fill
node_round_trip d law (run_end ends values) = run_end_read_back d law ends values
node_round_trip d law (rle values indices offsets len) = rle_read_back d law values indices offsets len
node_round_trip d law (sequence p n first step len) = sequence_read_back d p n first step len
node_round_trip d law (delta bases deltas len valid n) = delta_read_back d law bases deltas len valid n
node_round_trip d law (datetime_parts k n days seconds subseconds) = datetime_read_back d law k n days seconds subseconds
node_round_trip d law (bit_packed_v2 k offsets) = blocks_read_back d law k offsets
node_round_trip d law (bit_packed_v2_with k offsets len offset indices values) = blocks_with_read_back d law k offsets len offset indices values
node_round_trip d law (frame_of_reference_v2 encoded references) = frames_read_back d law encoded references
node_round_trip d law (sparse_chunked len offset indices values chunks fill) = sparse_chunked_read_back d law len offset indices values chunks fill

node_canonical : (d : ℕ) → IsLawful (tree_format d) → (id : ArrayId) → IsCanonical d id
node_canonical d law ids.Null = nulls_canonical d
node_canonical d law ids.Bool = bool_canonical d
node_canonical d law ids.Primitive = primitive_canonical d
node_canonical d law ids.VarBinView = view_canonical d
node_canonical d law ids.Struct = struct_canonical d law
node_canonical d law ids.List = list_canonical d law
node_canonical d law ids.FixedSizeList = fixed_canonical d law
node_canonical d law ids.Timestamp = timestamp_canonical d law
node_canonical d law ids.Constant = constant_canonical d
node_canonical d law ids.Masked = masked_canonical d law
node_canonical d law ids.Dict = dict_canonical d law
node_canonical d law ids.VarBin = var_bin_canonical d law
node_canonical d law ids.Sparse = sparse_canonical d law
node_canonical d law ids.DateTimeParts = datetime_canonical d law
node_canonical d law ids.RunEnd = run_end_canonical d law
node_canonical d law ids.BitPacked = packed_canonical d law
node_canonical d law ids.BitPackedV2 = blocks_canonical d law
node_canonical d law ids.FoR = for_canonical d law
node_canonical d law ids.FoRV2 = frames_canonical d law
node_canonical d law ids.Delta = delta_canonical d law
node_canonical d law ids.Rle = rle_canonical d law
node_canonical d law ids.ZigZag = zig_zag_canonical d law
node_canonical d law ids.Sequence = sequence_canonical d

depth_some : (t : Tree) → 0 < depth t
depth_some (bool bs valid n) = omega arith
depth_some (primitive p xs valid n) = omega arith
depth_some (var_bin_view vs valid t) = omega arith
depth_some (var_bin offsets bs valid t) = omega arith
depth_some (timestamp storage k) = omega arith
depth_some (constant s len) = omega arith
depth_some (masked child valid) = omega arith
depth_some (bit_packed k) = omega arith
depth_some (bit_packed_with k len offset indices values) = omega arith
depth_some (frame_of_reference encoded reference) = omega arith
depth_some (zig_zag encoded) = omega arith
depth_some (dict codes values) = omega arith
depth_some (nulls len) = omega arith
depth_some (structure names fields len valid n) = omega arith
depth_some (list elements offsets valid n) = omega arith
depth_some (fixed_size_list elements size len valid n) = omega arith
depth_some (sparse len offset indices values fill) = omega arith
depth_some (run_end ends values) = omega arith
depth_some (rle values indices offsets len) = omega arith
depth_some (sequence p n first step len) = omega arith
depth_some (delta bases deltas len valid n) = omega arith
depth_some (datetime_parts k n days seconds subseconds) = omega arith
depth_some (bit_packed_v2 k offsets) = omega arith
depth_some (bit_packed_v2_with k offsets len offset indices values) = omega arith
depth_some (frame_of_reference_v2 encoded references) = omega arith
depth_some (sparse_chunked len offset indices values chunks fill) = omega arith

-- what is read behind a key, and passes a test
behind_key : {K A : Type 0} (f : Format K) (k : K) (p : K → Parse A) (ok : A → Bool) (text rest : List ℕ) (a : A) → IsLawful f → f.Fits k → p k (text ++ rest) ≡ Some (a, rest) → ok a ≡ true
    → tested_at ok (keyed_at f.parse p) ((f.spell k ++ text) ++ rest) ≡ Some (a, rest)
behind_key f k p ok text rest a law h e t =
    let regroup : (f.spell k ++ text) ++ rest ≡ f.spell k ++ (text ++ rest) = append_assoc (f.spell k) text rest in
    ap (tested_at ok (keyed_at f.parse p)) regroup ∙ rw (law.round_trip k (text ++ rest) h, e, t) refl

tree_round_trip : (d : ℕ) → IsLawful (tree_format d) → (t : Tree) (rest : List ℕ) → FitsAt (suc d) t → tree_at (suc d) (tree_text t ++ rest) ≡ Some (t, rest)
tree_round_trip d law t rest h =
    behind_key node_id (encoding t) (node_behind (trees_by (tree_at d))) is_within (body t) rest t node_id_lawful tt (node_round_trip d law t rest h) (root_of t h.1.1.0)

tree_canonical : (d : ℕ) → IsLawful (tree_format d) → (bytes : List ℕ) (x : Tree × List ℕ) → tree_at (suc d) bytes ≡ Some x → (bytes ≡ tree_text x.0 ++ x.1) × FitsAt (suc d) x.0
tree_canonical d law bytes x e =
    let a = bind_ok (keyed_at node_id.parse (node_behind (trees_by (tree_at d))) bytes) (λ y. cond (is_within y.0) (Some y) None) x e in
    let g = test_ok (is_within a.0.0) (Some a.0) x a.2 in
    let k = bind_ok (node_id.parse bytes) (λ y. node_behind (trees_by (tree_at d)) y.0 y.1) a.0 a.1 in
    let t = node_id_lawful.canonical bytes k.0 k.1 in
    let u = node_canonical d law k.0.0 k.0.1 a.0 k.2 in
    let parts : bytes ≡ (node_id.spell k.0.0 ++ body a.0.0) ++ a.0.1 = t.0 ∙ ap (λ (r : List ℕ). node_id.spell k.0.0 ++ r) u.0 ∙ sym (append_assoc (node_id.spell k.0.0) (body a.0.0) a.0.1) in
    let whole : bytes ≡ tree_text a.0.0 ++ a.0.1 = subst (λ (y : ArrayId). bytes ≡ (node_id.spell y ++ body a.0.0) ++ a.0.1) (sym u.1) parts in
    let fits : FitsAt (suc d) a.0.0 = (u.2.0, (u.2.1.0, (and_from (is_within a.0.0) (is_within_below a.0.0) g.0 u.2.1.1.0, u.2.1.1.1))) in
    subst (λ (y : Tree × List ℕ). (bytes ≡ tree_text y.0 ++ y.1) × FitsAt (suc d) y.0) (some_is a.0 x g.1) (whole, fits)

pub tree_lawful : (d : ℕ) → IsLawful (tree_format d)
tree_lawful zero = record {
  round_trip = λ t rest h. let p = depth_some t in let le : depth t ≤ 0 = h.0 in absurd (omega arith);
  canonical = λ bytes x e. absurd cc;
}
tree_lawful (suc d) = record { round_trip = tree_round_trip d (tree_lawful d); canonical = tree_canonical d (tree_lawful d) }
