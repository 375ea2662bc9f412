-- What is read as a node that may have patches is the node's spelling.
use Rattle.std.proofs.Common.{◌≡◌, ℕ, suc, ◌≤◌, max, ◌&&◌, ◌++◌, List, Option, Some, None, refl, arith}
use Rattle.std.proofs.lemmas.Bool.{and_from}
use Rattle.vx_base.specs.declared.array_id.ArrayId.TheVariants as ids
use Rattle.vx_base.specs.PlainType.{PlainType}
use Rattle.vx_base.specs.PlainValue.{PlainValue}
use Rattle.vx_codec.specs.Format.{IsLawful}
use Rattle.vx_codec.proofs.FormatLaws.{made_canonical}
use Rattle.vx_model.specs.Tree.{Tree, packed_of, blocks_of}
use Rattle.vx_model.specs.WellFormed.{WellFormed, WellFormedPatches}
use Rattle.vx_model.proofs.BlocksLemmas.{blocks_accepted}
use Rattle.vx_model.proofs.PackedLemmas.{packed_accepted, patches_accepted, chunked_accepted}
use Rattle.vx_model.proofs.SparseLemmas.{sparse_accepted}
use Rattle.vx_spelling.specs.LeafParts.{scalar_of}
use Rattle.vx_spelling.specs.PackedParts.{FlatParts, flat_of, flat_parts, patches_of, sparse_parts, sparse_from, PackedFields, plain_packed_of, packed_parts, packed_from, BlocksFields, plain_blocks_of, blocks_parts, blocks_from}
use Rattle.vx_spelling.specs.Storable.{depth, all_within}
use Rattle.vx_spelling.specs.TreeSpelling.{FitsAt, tree_format}
use Rattle.vx_spelling.proofs.Bounds.{none_is}
use Rattle.vx_spelling.proofs.FieldLaws.{fitted_kept}
use Rattle.vx_spelling.proofs.LeafCanonicals.{IsRead, IsCanonical, with_kept}
use Rattle.vx_spelling.proofs.NodeCanonicals.{above_one, above_two, above_three}
use Rattle.vx_spelling.proofs.NodeLaws.{sparse_lawful, packed_lawful, blocks_lawful}

module _ (d : ℕ) (law : IsLawful (tree_format d)) where
  flat_patches : (x : FlatParts) → (flat_parts (tree_format d)).Fits (x, tt) → WellFormedPatches (flat_of x)
  flat_patches x h = patches_accepted (flat_of x) (none_is _ h.1) h.0.0.1.0.1.0 h.0.0.1.1.1.0 tt

  sparse_read : (bytes : List ℕ) (x : FlatParts) (c : Option Tree) (s : PlainType × PlainValue) (rest : List ℕ) → (sparse_parts (tree_format d)).Fits ((x, c), s) → bytes ≡ (sparse_parts (tree_format d)).spell ((x, c), s) ++ rest
      → IsRead d ids.Sparse bytes (sparse_from ((x, c), s), rest)
  sparse_read bytes x None s rest h b =
      let f = h.0.0.0.0 in
      let i = f.1 in
      let fill = h.0.1 in
      let r = above_two d x.1.0 x.1.1 i.0 i.1 in
      let w = sparse_accepted (patches_of (x, None)) (scalar_of s) (none_is _ h.1) fill.1 (patches_accepted (flat_of x) (none_is _ h.0.0.1) i.0.1.0 i.1.1.0 tt) in
      (b, refl, (r.0, (w, (r.1, ((f.0.1, (i.0.1.1.1, i.1.1.1.1)), (fill.0.0.1, fill.0.1))))))
  sparse_read bytes x (Some c) s rest h b =
      let f = h.0.0.0.0 in
      let i = f.1 in
      let k : FitsAt d c = h.0.0.0.1 in
      let fill = h.0.1 in
      let r = above_two d x.1.0 x.1.1 i.0 i.1 in
      let two : suc (max (depth x.1.0) (depth x.1.1)) ≤ suc d = r.0 in
      let one : suc (depth c) ≤ suc d = above_one d c k in
      let w = sparse_accepted (patches_of (x, Some c)) (scalar_of s) (none_is _ h.1) fill.1 (chunked_accepted (flat_of x) c (none_is _ h.0.0.1) i.0.1.0 i.1.1.0 k.1.0) in
      (b, refl, (omega arith, (w, (and_from (all_within x.1.0 && all_within x.1.1) (all_within c) r.1 k.1.1.0, (((f.0.1, (i.0.1.1.1, i.1.1.1.1)), k.1.1.1), (fill.0.0.1, fill.0.1))))))

  pub sparse_canonical : IsCanonical d ids.Sparse
  sparse_canonical bytes x e =
      made_canonical (sparse_parts (tree_format d)) sparse_from (sparse_lawful (tree_format d) law) bytes (IsRead d ids.Sparse bytes) (λ p rest h b. sparse_read bytes p.0.0 p.0.1 p.1 rest h b) x e

  packed_read : (bytes : List ℕ) (k : PackedFields) (o : Option (FlatParts × Unit {0})) (rest : List ℕ) → (packed_parts (tree_format d)).Fits (k, o) → bytes ≡ (packed_parts (tree_format d)).spell (k, o) ++ rest
      → IsRead d ids.BitPacked bytes (packed_from (k, o), rest)
  packed_read bytes k None rest h b =
      let f = h.0.0.1 in
      let w = with_kept (λ v. WellFormed (packed_of (record (plain_packed_of k) { valid = v }) None)) k.1.1 (fitted_kept k.1.1 k.0.1.1 f.1)
      (packed_accepted (plain_packed_of k) None (none_is _ h.1) f.0.1 tt) in
      (b, refl, (omega arith, (w, (refl, tt))))
  packed_read bytes k (Some q) rest h b =
      let f = h.0.0.1 in
      let g = h.0.1 in
      let i = g.0.0.1 in
      let r = above_two d q.0.1.0 q.0.1.1 i.0 i.1 in
      let w = with_kept (λ v. WellFormed (packed_of (record (plain_packed_of k) { valid = v }) (Some (flat_of q.0)))) k.1.1 (fitted_kept k.1.1 k.0.1.1 f.1)
      (packed_accepted (plain_packed_of k) (Some (flat_of q.0)) (none_is _ h.1) f.0.1 (flat_patches q.0 g)) in
      (b, refl, (r.0, (w, (r.1, (g.0.0.0.1, (i.0.1.1.1, i.1.1.1.1))))))

  pub packed_canonical : IsCanonical d ids.BitPacked
  packed_canonical bytes x e =
      made_canonical (packed_parts (tree_format d)) packed_from (packed_lawful (tree_format d) law) bytes (IsRead d ids.BitPacked bytes) (λ p rest h b. packed_read bytes p.0 p.1 rest h b) x e

  blocks_read : (bytes : List ℕ) (k : BlocksFields) (o : Option (FlatParts × Unit {0})) (rest : List ℕ) → (blocks_parts (tree_format d)).Fits (k, o) → bytes ≡ (blocks_parts (tree_format d)).spell (k, o) ++ rest
      → IsRead d ids.BitPackedV2 bytes (blocks_from (k, o), rest)
  blocks_read bytes k None rest h b =
      let f = h.0.0.1 in
      let i = f.0 in
      let w = with_kept (λ v. WellFormed (blocks_of (record (plain_blocks_of k) { valid = v }) k.1.0 None)) k.1.1.1 (fitted_kept k.1.1.1 k.0.1 f.1.1)
      (blocks_accepted (plain_blocks_of k) k.1.0 None (none_is _ h.1) f.1.0.1 i.1.0 tt) in
      (b, refl, (above_one d k.1.0 i, (w, (i.1.1.0, (i.1.1.1, f.1.0.0)))))
  blocks_read bytes k (Some q) rest h b =
      let f = h.0.0.1 in
      let o = f.0 in
      let g = h.0.1 in
      let i = g.0.0.1 in
      let r = above_three d k.1.0 q.0.1.0 q.0.1.1 o i.0 i.1 in
      let w = with_kept (λ v. WellFormed (blocks_of (record (plain_blocks_of k) { valid = v }) k.1.0 (Some (flat_of q.0)))) k.1.1.1 (fitted_kept k.1.1.1 k.0.1 f.1.1)
      (blocks_accepted (plain_blocks_of k) k.1.0 (Some (flat_of q.0)) (none_is _ h.1) f.1.0.1 o.1.0 (flat_patches q.0 g)) in
      (b, refl, (r.0, (w, (r.1, ((o.1.1.1, f.1.0.0), (g.0.0.0.1, (i.0.1.1.1, i.1.1.1.1)))))))

  pub blocks_canonical : IsCanonical d ids.BitPackedV2
  blocks_canonical bytes x e =
      made_canonical (blocks_parts (tree_format d)) blocks_from (blocks_lawful (tree_format d) law) bytes (IsRead d ids.BitPackedV2 bytes) (λ p rest h b. blocks_read bytes p.0 p.1 rest h b) x e
