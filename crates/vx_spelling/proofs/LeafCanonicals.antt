-- What is read as a node without trees inside is the node's spelling.
use Rattle.std.proofs.Common.{◌≡◌, ℕ, suc, ◌≤◌, ◌++◌, Bool, true, false, IsTrue, List, length, Some, refl, ap, subst, sym, ◌∙◌, arith}
use Rattle.vx_base.specs.declared.array_id.ArrayId.{ArrayId}
use Rattle.vx_base.specs.declared.array_id.ArrayId.TheVariants as ids
use Rattle.vx_base.specs.declared.dtype.Nullability.{Nullability}
use Rattle.vx_base.specs.Integers.{lies_in}
use Rattle.vx_base.specs.PlainType.{PlainType, is_text, nullability_of}
use Rattle.vx_codec.proofs.FormatLaws.{made_canonical}
use Rattle.vx_model.specs.Nodes.{encoding}
use Rattle.vx_model.specs.Refusals.{kept, validity_length, validity_allowed, primitive_refusal}
use Rattle.vx_model.specs.Tree.{Tree, Validity, bool, primitive, var_bin_view, nulls}
use Rattle.vx_model.specs.WellFormed.{WellFormed}
use Rattle.vx_model.proofs.BoolLemmas.{bool_accepted}
use Rattle.vx_model.proofs.MadeLemmas.{primitive_made, constant_made}
use Rattle.vx_model.proofs.NullsLemmas.{nulls_made}
use Rattle.vx_model.proofs.PackedLemmas.{passed}
use Rattle.vx_model.proofs.SequenceLemmas.{sequence_accepted}
use Rattle.vx_model.proofs.ViewLemmas.{var_bin_view_accepted}
use Rattle.vx_spelling.specs.Fields.{row_count}
use Rattle.vx_spelling.specs.LeafParts.{bool_parts, bool_of, primitive_parts, primitive_of, byte_type_of, view_parts, view_of, constant_parts, constant_of, sequence_parts, sequence_of}
use Rattle.vx_spelling.specs.Storable.{depth, is_within_below, NumbersFit}
use Rattle.vx_spelling.specs.TreeSpelling.{body, node_behind, trees_by, tree_at}
use Rattle.vx_spelling.proofs.Bounds.{all_pass, none_is}
use Rattle.vx_spelling.proofs.FieldLaws.{row_count_lawful, fitted_kept}
use Rattle.vx_spelling.proofs.NodeLaws.{bool_lawful, primitive_lawful, view_lawful, constant_lawful, sequence_lawful}

-- a well-formed tree of at most d + 1 nodes on a path, within bounds below its root, whose numbers fit
abbrev pub ReadAt : ℕ → Tree → Type 0
ReadAt d t = (depth t ≤ suc d) × (WellFormed t × (IsTrue (is_within_below t) × NumbersFit t))

-- bytes begin with what stands behind an id in the spelling of such a tree
abbrev pub IsRead : ℕ → ArrayId → List ℕ → Tree × List ℕ → Type 0
IsRead d id bytes x = (bytes ≡ body x.0 ++ x.1) × (encoding x.0 ≡ id) × ReadAt d x.0

-- whatever is read behind an id is such a tree
abbrev pub IsCanonical : ℕ → ArrayId → Type 0
IsCanonical d id = (bytes : List ℕ) (x : Tree × List ℕ) → node_behind (trees_by (tree_at d)) id bytes ≡ Some x → IsRead d id bytes x

pub nulls_canonical : (d : ℕ) → IsCanonical d ids.Null
nulls_canonical d bytes x e = made_canonical row_count nulls row_count_lawful bytes (IsRead d ids.Null bytes) (λ len rest h b. (b, refl, (omega arith, (nulls_made len, (refl, tt))))) x e

-- a tree made with the validity that is kept is the one with the validity that was read
pub with_kept : (P : Validity → Type 0) (valid : Validity) → kept valid ≡ valid → P (kept valid) → P valid
with_kept P valid e p = subst P e p

pub bool_canonical : (d : ℕ) → IsCanonical d ids.Bool
bool_canonical d bytes x e =
    made_canonical bool_parts bool_of bool_lawful bytes (IsRead d ids.Bool bytes)
    (λ p rest h b.
    let w : WellFormed (bool p.0.1 p.1 p.0.0) = with_kept (λ v. WellFormed (bool p.0.1 v p.0.0)) p.1 (fitted_kept p.1 (length p.0.1) h.0.1) (bool_accepted p.0.1 p.1 p.0.0 (none_is _ h.1)) in
    (b, refl, (omega arith, (w, (refl, tt))))) x e

pub primitive_canonical : (d : ℕ) → IsCanonical d ids.Primitive
primitive_canonical d bytes x e =
    made_canonical primitive_parts primitive_of primitive_lawful bytes (IsRead d ids.Primitive bytes)
    (λ p rest h b.
    let a = passed (validity_length p.1.1 (length p.1.0)) _ _ (none_is (primitive_refusal (length p.1.0) p.1.1 p.0.1) h.1) in
    let c = passed (validity_allowed p.1.1 p.0.1) _ _ a.1 in
    let made = primitive_made p.0.0 p.1.0 p.1.1 p.0.1 a.0 c.0 (all_pass (lies_in p.0.0) p.1.0 h.0.1.0.1.1) in
    let w : WellFormed (primitive p.0.0 p.1.0 p.1.1 p.0.1) = with_kept (λ v. WellFormed (primitive p.0.0 p.1.0 v p.0.1)) p.1.1 (fitted_kept p.1.1 (length p.1.0) h.0.1.1) made in
    (b, refl, (omega arith, (w, (refl, tt))))) x e

-- whether it is one of texts, and the nullability, of a type made of the two
pub of_byte_type : (h : Bool × Nullability) → (is_text (byte_type_of h), nullability_of (byte_type_of h)) ≡ h
of_byte_type (true, n) = refl
of_byte_type (false, n) = refl

pub view_canonical : (d : ℕ) → IsCanonical d ids.VarBinView
view_canonical d bytes x e =
    made_canonical view_parts view_of view_lawful bytes (IsRead d ids.VarBinView bytes)
    (λ p rest h b.
    let t : PlainType = byte_type_of p.0 in
    let w : WellFormed (var_bin_view p.1.0 p.1.1 t) = with_kept (λ v. WellFormed (var_bin_view p.1.0 v t)) p.1.1 (fitted_kept p.1.1 (length p.1.0) h.0.1.1) (var_bin_view_accepted p.1.0 p.1.1 t (none_is _ h.1)) in
    let spelled : bytes ≡ view_parts.spell ((is_text t, nullability_of t), p.1) ++ rest = b ∙ ap (λ (k : Bool × Nullability). view_parts.spell (k, p.1) ++ rest) (sym (of_byte_type p.0)) in
    (spelled, refl, (omega arith, (w, (refl, tt))))) x e

pub constant_canonical : (d : ℕ) → IsCanonical d ids.Constant
constant_canonical d bytes x e =
    made_canonical constant_parts constant_of constant_lawful bytes (IsRead d ids.Constant bytes)
    (λ p rest h b. (b, refl, (omega arith, (constant_made (record { dtype = p.1.0; value = p.1.1 }) p.0 h.1.1, (refl, (h.1.0.0.1, h.1.0.1)))))) x e

pub sequence_canonical : (d : ℕ) → IsCanonical d ids.Sequence
sequence_canonical d bytes x e =
    made_canonical sequence_parts sequence_of sequence_lawful bytes (IsRead d ids.Sequence bytes)
    (λ p rest h b. (b, refl, (omega arith, (sequence_accepted p.0.0 p.0.1 p.1.0.0 p.1.0.1 p.1.1 (none_is _ h.1), (refl, h.0.1.0))))) x e
