-- What is read as a node with trees inside is the node's spelling.
use Rattle.std.proofs.Common.{◌≡◌, ℕ, suc, ◌≤◌, max, ◌&&◌, ◌-◌, ◌++◌, Bool, true, false, List, length, None, refl, ap, sym, ◌∙◌, arith}
use Rattle.std.specs.Prelude.{not, ◌==◌}
use Rattle.std.specs.List.{list_any}
use Rattle.std.proofs.lemmas.Bool.{and_parts, and_from}
use Rattle.vx_base.specs.declared.array_id.ArrayId.TheVariants as ids
use Rattle.vx_base.specs.declared.dtype.Nullability.{Nullability}
use Rattle.vx_base.specs.PlainType.{PlainType, is_nullable, is_flat, is_text, nullability_of}
use Rattle.vx_base.specs.PlainValue.{is_null}
use Rattle.vx_codec.specs.Format.{IsLawful}
use Rattle.vx_codec.proofs.FormatLaws.{made_canonical}
use Rattle.vx_model.specs.Refusals.{masked_refusal}
use Rattle.vx_model.specs.Rows.{rows}
use Rattle.vx_model.specs.Tree.{Tree, var_bin, masked, list, fixed_size_list, delta, zig_zag}
use Rattle.vx_model.specs.TreeType.{tree_type}
use Rattle.vx_model.specs.WellFormed.{WellFormed}
use Rattle.vx_model.proofs.DateTimePartsLemmas.{datetime_parts_accepted}
use Rattle.vx_model.proofs.DeltaLemmas.{delta_accepted}
use Rattle.vx_model.proofs.DictLemmas.{dict_accepted}
use Rattle.vx_model.proofs.FixedSizeListLemmas.{fixed_size_list_accepted}
use Rattle.vx_model.proofs.FrameOfReferenceV2Lemmas.{for_v2_accepted}
use Rattle.vx_model.proofs.ListLemmas.{list_accepted}
use Rattle.vx_model.proofs.MadeLemmas.{masked_made}
use Rattle.vx_model.proofs.PackedLemmas.{passed, for_accepted}
use Rattle.vx_model.proofs.RleLemmas.{rle_accepted}
use Rattle.vx_model.proofs.RunEndLemmas.{run_end_accepted}
use Rattle.vx_model.proofs.TimestampLemmas.{timestamp_accepted}
use Rattle.vx_model.proofs.VarBinLemmas.{var_bin_accepted}
use Rattle.vx_model.proofs.ZigZagLemmas.{zig_zag_accepted}
use Rattle.vx_spelling.specs.LeafParts.{byte_type_of, scalar_of}
use Rattle.vx_spelling.specs.NestedParts.{list_parts, list_of, fixed_parts, fixed_of, timestamp_parts, timestamp_of, datetime_of, var_bin_parts, var_bin_of, masked_parts, masked_of, dict_parts, dict_of, run_end_parts, run_end_of, rle_parts, rle_of}
use Rattle.vx_spelling.specs.PackedParts.{for_parts, for_of, frames_parts, frames_of, delta_parts, delta_of, zig_zag_parts}
use Rattle.vx_spelling.specs.NestedParts as parts
use Rattle.vx_spelling.specs.Storable.{depth, all_within}
use Rattle.vx_spelling.specs.TreeSpelling.{FitsAt, tree_format}
use Rattle.vx_spelling.proofs.Bounds.{none_is}
use Rattle.vx_spelling.proofs.FieldLaws.{fitted_kept}
use Rattle.vx_spelling.proofs.LeafCanonicals.{IsRead, IsCanonical, with_kept, of_byte_type}
use Rattle.vx_spelling.proofs.NodeLaws.{list_lawful, fixed_lawful, timestamp_lawful, datetime_lawful, var_bin_lawful, masked_lawful, dict_lawful, run_end_lawful, rle_lawful, for_lawful, frames_lawful, delta_lawful, zig_zag_lawful}

-- what holds of a node above two trees that fit, and above three
abbrev pub Above2 : ℕ → Tree → Tree → Type 0
Above2 d a b = (suc (max (depth a) (depth b)) ≤ suc d) × ((all_within a && all_within b) ≡ true)

pub above_two : (d : ℕ) (a b : Tree) → FitsAt d a → FitsAt d b → Above2 d a b
above_two d a b ha hb = let da : depth a ≤ d = ha.0 in let db : depth b ≤ d = hb.0 in (omega arith, and_from (all_within a) (all_within b) ha.1.1.0 hb.1.1.0)

abbrev pub Above3 : ℕ → Tree → Tree → Tree → Type 0
Above3 d a b c = (suc (max (depth a) (max (depth b) (depth c))) ≤ suc d) × ((all_within a && (all_within b && all_within c)) ≡ true)

pub above_three : (d : ℕ) (a b c : Tree) → FitsAt d a → FitsAt d b → FitsAt d c → Above3 d a b c
above_three d a b c ha hb hc =
    let da : depth a ≤ d = ha.0 in
    let r = above_two d b c hb hc in
    let dr : suc (max (depth b) (depth c)) ≤ suc d = r.0 in
    (omega arith, and_from (all_within a) (all_within b && all_within c) ha.1.1.0 r.1)

pub above_one : (d : ℕ) (a : Tree) → FitsAt d a → suc (depth a) ≤ suc d
above_one d a h = let da : depth a ≤ d = h.0 in omega arith

-- a masked node is well formed, where nothing is refused
masked_accepted : (child : Tree) (valid : List Bool) → masked_refusal child valid ≡ None → length valid ≡ length (rows child) → WellFormed child → WellFormed (masked child valid)
masked_accepted child valid h len w =
    let a = passed (is_flat (tree_type child) && is_nullable (tree_type child)) _ _ h in
    let typed = and_parts (is_flat (tree_type child)) (is_nullable (tree_type child)) a.0 in
    let b = passed (length valid == length (rows child)) _ _ a.1 in
    let c = passed (not (list_any is_null (rows child))) _ _ b.1 in
    masked_made child valid typed.0 typed.1 len (not_true _ c.0) w
  where
    not_true : (b : Bool) → not b ≡ true → b ≡ false
    not_true true e = absurd cc
    not_true false e = refl

module _ (d : ℕ) (law : IsLawful (tree_format d)) where
  pub list_canonical : IsCanonical d ids.List
  list_canonical bytes x e =
      made_canonical (list_parts (tree_format d)) list_of (list_lawful (tree_format d) law) bytes (IsRead d ids.List bytes)
      (λ p rest h b.
      let inside = h.0.1.0 in
      let r = above_two d p.1.0.0 p.1.0.1 inside.0 inside.1 in
      let w = with_kept (λ v. WellFormed (list p.1.0.0 p.1.0.1 v p.0)) p.1.1 (fitted_kept p.1.1 (length (rows p.1.0.1) - 1) h.0.1.1)
      (list_accepted p.1.0.0 p.1.0.1 p.1.1 p.0 (none_is _ h.1) inside.0.1.0 inside.1.1.0) in
      (b, refl, (r.0, (w, (r.1, (inside.0.1.1.1, inside.1.1.1.1)))))) x e

  pub fixed_canonical : IsCanonical d ids.FixedSizeList
  fixed_canonical bytes x e =
      made_canonical (fixed_parts (tree_format d)) fixed_of (fixed_lawful (tree_format d) law) bytes (IsRead d ids.FixedSizeList bytes)
      (λ p rest h b.
      let inside = h.0.1.0 in
      let w = with_kept (λ v. WellFormed (fixed_size_list p.1.0 p.0.1.0 p.0.1.1 v p.0.0)) p.1.1 (fitted_kept p.1.1 p.0.1.1 h.0.1.1)
      (fixed_size_list_accepted p.1.0 p.0.1.0 p.0.1.1 p.1.1 p.0.0 (none_is _ h.1) inside.1.0) in
      (b, refl, (above_one d p.1.0 inside, (w, (inside.1.1.0, (inside.1.1.1, h.0.0.1.0)))))) x e

  pub timestamp_canonical : IsCanonical d ids.Timestamp
  timestamp_canonical bytes x e =
      made_canonical (timestamp_parts (tree_format d)) timestamp_of (timestamp_lawful (tree_format d) law) bytes (IsRead d ids.Timestamp bytes)
      (λ p rest h b. let inside = h.0.1 in (b, refl, (above_one d p.1 inside, (timestamp_accepted p.1 p.0 (none_is _ h.1) inside.1.0, (inside.1.1.0, (inside.1.1.1, h.0.0)))))) x e

  pub datetime_canonical : IsCanonical d ids.DateTimeParts
  datetime_canonical bytes x e =
      made_canonical (parts.datetime_parts (tree_format d)) datetime_of (datetime_lawful (tree_format d) law) bytes (IsRead d ids.DateTimeParts bytes)
      (λ p rest h b.
      let i = h.0.1 in
      let r = above_three d p.1.0 p.1.1.0 p.1.1.1 i.0 i.1.0 i.1.1 in
      let w = datetime_parts_accepted p.0.0 p.0.1 p.1.0 p.1.1.0 p.1.1.1 (none_is _ h.1) i.0.1.0 i.1.0.1.0 i.1.1.1.0 in
      (b, refl, (r.0, (w, (r.1, (h.0.0.0, (i.0.1.1.1, (i.1.0.1.1.1, i.1.1.1.1.1)))))))) x e

  pub var_bin_canonical : IsCanonical d ids.VarBin
  var_bin_canonical bytes x e =
      made_canonical (var_bin_parts (tree_format d)) var_bin_of (var_bin_lawful (tree_format d) law) bytes (IsRead d ids.VarBin bytes)
      (λ p rest h b.
      let t : PlainType = byte_type_of p.0 in
      let i = h.0.1.0 in
      let w = with_kept (λ v. WellFormed (var_bin p.1.0 p.1.1.0 v t)) p.1.1.1 (fitted_kept p.1.1.1 (length (rows p.1.0) - 1) h.0.1.1.1)
      (var_bin_accepted p.1.0 p.1.1.0 p.1.1.1 t (none_is _ h.1) i.1.0) in
      let spelled : bytes ≡ (var_bin_parts (tree_format d)).spell ((is_text t, nullability_of t), p.1) ++ rest = b ∙ ap (λ (k : Bool × Nullability). (var_bin_parts (tree_format d)).spell (k, p.1) ++ rest) (sym (of_byte_type p.0)) in
      (spelled, refl, (above_one d p.1.0 i, (w, (i.1.1.0, (i.1.1.1, h.0.1.1.0)))))) x e

  pub masked_canonical : IsCanonical d ids.Masked
  masked_canonical bytes x e =
      made_canonical (masked_parts (tree_format d)) masked_of (masked_lawful (tree_format d) law) bytes (IsRead d ids.Masked bytes)
      (λ p rest h b.
      let i = h.0.0 in
      (b, refl, (above_one d p.0 i, (masked_accepted p.0 p.1 (none_is _ h.1) h.0.1 i.1.0, (i.1.1.0, i.1.1.1))))) x e

  pub dict_canonical : IsCanonical d ids.Dict
  dict_canonical bytes x e =
      made_canonical (dict_parts (tree_format d)) dict_of (dict_lawful (tree_format d) law) bytes (IsRead d ids.Dict bytes)
      (λ p rest h b.
      let i = h.0 in
      let r = above_two d p.0 p.1 i.0 i.1 in
      (b, refl, (r.0, (dict_accepted p.0 p.1 (none_is _ h.1) i.0.1.0 i.1.1.0, (r.1, (i.0.1.1.1, i.1.1.1.1)))))) x e

  pub run_end_canonical : IsCanonical d ids.RunEnd
  run_end_canonical bytes x e =
      made_canonical (run_end_parts (tree_format d)) run_end_of (run_end_lawful (tree_format d) law) bytes (IsRead d ids.RunEnd bytes)
      (λ p rest h b.
      let i = h.0 in
      let r = above_two d p.0 p.1 i.0 i.1 in
      (b, refl, (r.0, (run_end_accepted p.0 p.1 (none_is _ h.1) i.0.1.0 i.1.1.0, (r.1, (i.0.1.1.1, i.1.1.1.1)))))) x e

  pub rle_canonical : IsCanonical d ids.Rle
  rle_canonical bytes x e =
      made_canonical (rle_parts (tree_format d)) rle_of (rle_lawful (tree_format d) law) bytes (IsRead d ids.Rle bytes)
      (λ p rest h b.
      let i = h.0.1 in
      let r = above_three d p.1.0 p.1.1.0 p.1.1.1 i.0 i.1.0 i.1.1 in
      let w = rle_accepted p.1.0 p.1.1.0 p.1.1.1 p.0 (none_is _ h.1) i.0.1.0 i.1.0.1.0 i.1.1.1.0 in
      (b, refl, (r.0, (w, (r.1, (i.0.1.1.1, (i.1.0.1.1.1, i.1.1.1.1.1))))))) x e

  pub for_canonical : IsCanonical d ids.FoR
  for_canonical bytes x e =
      made_canonical (for_parts (tree_format d)) for_of (for_lawful (tree_format d) law) bytes (IsRead d ids.FoR bytes)
      (λ p rest h b.
      let i = h.0.0 in
      let s = h.0.1 in
      (b, refl, (above_one d p.0 i, (for_accepted p.0 (scalar_of p.1) (none_is _ h.1) s.1 i.1.0, (i.1.1.0, (i.1.1.1, (s.0.0.1, s.0.1))))))) x e

  pub frames_canonical : IsCanonical d ids.FoRV2
  frames_canonical bytes x e =
      made_canonical (frames_parts (tree_format d)) frames_of (frames_lawful (tree_format d) law) bytes (IsRead d ids.FoRV2 bytes)
      (λ p rest h b.
      let i = h.0 in
      let r = above_two d p.0 p.1 i.0 i.1 in
      (b, refl, (r.0, (for_v2_accepted p.0 p.1 (none_is _ h.1) i.0.1.0 i.1.1.0, (r.1, (i.0.1.1.1, i.1.1.1.1)))))) x e

  pub delta_canonical : IsCanonical d ids.Delta
  delta_canonical bytes x e =
      made_canonical (delta_parts (tree_format d)) delta_of (delta_lawful (tree_format d) law) bytes (IsRead d ids.Delta bytes)
      (λ p rest h b.
      let i = h.0.1.0 in
      let r = above_two d p.1.0.0 p.1.0.1 i.0 i.1 in
      let w = with_kept (λ v. WellFormed (delta p.1.0.0 p.1.0.1 p.0.1 v p.0.0)) p.1.1 (fitted_kept p.1.1 p.0.1 h.0.1.1)
      (delta_accepted p.1.0.0 p.1.0.1 p.0.1 p.1.1 p.0.0 (none_is _ h.1) i.0.1.0 i.1.1.0) in
      (b, refl, (r.0, (w, (r.1, (i.0.1.1.1, i.1.1.1.1)))))) x e

  pub zig_zag_canonical : IsCanonical d ids.ZigZag
  zig_zag_canonical bytes x e =
      made_canonical (zig_zag_parts (tree_format d)) zig_zag (zig_zag_lawful (tree_format d) law) bytes (IsRead d ids.ZigZag bytes)
      (λ t rest h b. let i = h.0 in (b, refl, (above_one d t i, (zig_zag_accepted t (none_is _ h.1) i.1.0, (i.1.1.0, i.1.1.1))))) x e
