-- Roots of truth values, texts and binaries: which plain trees have them, and what a well-formed one has.
use Rattle.std.proofs.Common.{◌≡◌, ◌<◌, ◌∙◌, ℕ, Bool, true, List, [], ◌∷◌, length, map, Some, None, refl, sym, ap, subst, arith}
use Rattle.std.specs.Prelude.{IsTrue, ◌^◌}
use Rattle.std.specs.List.{list_all}
use Rattle.vx_base.specs.declared.array_id.ArrayId.TheVariants as ids
use Rattle.vx_base.specs.declared.dtype.Nullability.{Nullability}
use Rattle.vx_base.specs.declared.dtype.Nullability.TheVariants.{Nullable}
use Rattle.vx_base.specs.PlainScalar.{PlainScalar, fits}
use Rattle.vx_base.specs.PlainType.{PlainType, is_bytes, is_flat, nullability_of}
use Rattle.vx_base.specs.PlainType as types
use Rattle.vx_base.specs.PlainValue.{PlainValue, truth, is_short}
use Rattle.vx_model.specs.Column.{column_of}
use Rattle.vx_model.specs.Nodes.{encoding}
use Rattle.vx_model.specs.Plain.{IsPlain, plain, plain_of}
use Rattle.vx_model.specs.Refusals.{validity_length}
use Rattle.vx_model.specs.Rows.{rows, valid_rows}
use Rattle.vx_model.specs.Tree.{Tree, Validity, bool, var_bin_view, constant}
use Rattle.vx_model.specs.TreeType.{tree_type}
use Rattle.vx_model.specs.WellFormed.{WellFormed}
use Rattle.vx_model.proofs.BoolLemmas.{length-bool}
use Rattle.vx_model.proofs.MadeLemmas.{has_length, masked_fit, rows_fit}
use Rattle.vx_model.proofs.PlainLemmas.{plain_is_plain, rows-plain_of, type-plain_of}
use Rattle.vx_model.proofs.RowLemmas.{length-constant}
use Rattle.vx_model.proofs.ViewLemmas.{length-var_bin_view, plain_of-bytes}
use Rattle.vx_stats.specs.Bools.{is_bool}
use Rattle.vx_array.specs.declared.array.Node.{Node}
use Rattle.vx_array.specs.declared.array.Node.TheVariants as nodes
use Rattle.vx_array.specs.TreeOf.{tree_of}
use Rattle.vx_model.proofs.SparseLemmas.{encoding-sparse_of}

-- ---- truth values

encoding-bools_of : (t : PlainType) (vs : List PlainValue) → IsTrue (is_bool t) → encoding (plain_of t vs) ≡ ids.Bool
encoding-bools_of (types.boolean n) vs h = refl
encoding-bools_of t vs h = absurd cc

pub encoding-bool : (t : Tree) → IsTrue (is_bool (tree_type t)) → IsPlain t → encoding t ≡ ids.Bool
encoding-bool t h e = ap encoding e ∙ encoding-bools_of (tree_type t) (rows t) h

-- a node that is no Bool has another encoding
pub no_bool : (n : Node) → ((x : _) (y : _) (z : _) → n ≡ nodes.Bool x y z → ⊥) → encoding (tree_of n) ≡ ids.Bool → ⊥
no_bool (nodes.Bool x y z) other e = other x y z refl
no_bool (nodes.BitPacked p width bytes len bits None n) other e = cc
no_bool (nodes.BitPacked p width bytes len bits (Some patches) n) other e = cc
no_bool (nodes.Sparse patches fill) other e = let same = sym (encoding-sparse_of patches.value fill) ∙ e in cc
no_bool (nodes.BitPackedV2 p bytes offsets len bits None n) other e = cc
no_bool (nodes.BitPackedV2 p bytes offsets len bits (Some patches) n) other e = cc
no_bool n other e = cc

pub bool_is_flat : (t : PlainType) → IsTrue (is_bool t) → IsTrue (is_flat t)
bool_is_flat (types.boolean n) h = h
bool_is_flat t h = absurd cc

pub record IsBools (bs : List Bool) (valid : Validity) : Type 0 where
  pub mask : validity_length valid (length bs) ≡ true
  pub few : length bs < 2 ^ 32

pub bool-node : (t : Tree) (bs : List Bool) (valid : Validity) (n : Nullability) → t ≡ bool bs valid n → WellFormed t → length (rows t) < 2 ^ 32 → IsBools bs valid
bool-node t bs valid n is well few =
    let h = subst WellFormed is well in
    record { mask = has_length valid (length bs) n h.0; few = omega (arith, few, ap (λ s. length (rows s)) is, length-bool bs valid n h) }

each-fits : (bs : List Bool) → list_all (fits (types.boolean Nullable)) (map truth bs) ≡ true
each-fits [] = refl
each-fits (b ∷ bs) = each-fits bs

pub truths-fit : (valid : Validity) (bs : List Bool) → list_all (fits (types.boolean Nullable)) (valid_rows valid (map truth bs)) ≡ true
truths-fit None bs = each-fits bs
truths-fit (Some bits) bs = masked_fit (types.boolean Nullable) bits (map truth bs) refl (each-fits bs)

pub bool-fit : (t : PlainType) (v : PlainValue) → IsTrue (is_bool t) → IsTrue (fits t v) → fits (types.boolean (nullability_of t)) v ≡ true
bool-fit (types.boolean n) v h e = e
bool-fit t v h e = absurd cc

-- ---- texts and binaries

pub encoding-view : (t : Tree) → IsTrue (is_bytes (tree_type t)) → IsPlain t → encoding t ≡ ids.VarBinView
encoding-view t h e = ap encoding (e ∙ plain_of-bytes (tree_type t) (rows t) h)

-- a node that is no VarBinView has another encoding
pub no_view : (n : Node) → ((x : _) (y : _) (z : _) → n ≡ nodes.VarBinView x y z → ⊥) → encoding (tree_of n) ≡ ids.VarBinView → ⊥
no_view (nodes.VarBinView x y z) other e = other x y z refl
no_view (nodes.BitPacked p width bytes len bits None n) other e = cc
no_view (nodes.BitPacked p width bytes len bits (Some patches) n) other e = cc
no_view (nodes.Sparse patches fill) other e = let same = sym (encoding-sparse_of patches.value fill) ∙ e in cc
no_view (nodes.BitPackedV2 p bytes offsets len bits None n) other e = cc
no_view (nodes.BitPackedV2 p bytes offsets len bits (Some patches) n) other e = cc
no_view n other e = cc

pub record IsTexts (vs : List (List ℕ)) (valid : Validity) : Type 0 where
  pub mask : validity_length valid (length vs) ≡ true
  pub few : length vs < 2 ^ 32
  pub short : IsTrue (list_all is_short vs)

pub view-node : (t : Tree) (vs : List (List ℕ)) (valid : Validity) (s : PlainType) → t ≡ var_bin_view vs valid s → WellFormed t → length (rows t) < 2 ^ 32 → IsTexts vs valid
view-node t vs valid s is well few =
    let h = subst WellFormed is well in
    record {
      mask = has_length valid (length vs) (nullability_of s) h.0.validity;
      few = omega (arith, few, ap (λ u. length (rows u)) is, length-var_bin_view vs valid s h);
      short = h.0.short;
    }

-- ---- constants

pub constant-few : (t : Tree) (s : PlainScalar) (len : ℕ) → t ≡ constant s len → length (rows t) < 2 ^ 32 → len < 2 ^ 32
constant-few t s len is few = omega (arith, few, ap (λ u. length (rows u)) is, length-constant s len)

pub constant-bool : (t : Tree) (s : PlainScalar) (len : ℕ) → t ≡ constant s len → IsTrue (is_bool (tree_type t)) → IsTrue (is_bool s.dtype)
constant-bool t s len is h = subst (λ u. IsTrue (is_bool (tree_type u))) is h

-- ---- decoded trees

-- what is known of a decoded tree
pub record IsDecodedTree (t p : Tree) : Type 0 where
  pub plain : IsPlain p
  pub dtype : tree_type p ≡ tree_type t
  pub rows : rows p ≡ rows t

pub decoded-tree : (t p : Tree) → WellFormed t → p ≡ plain (column_of t) → IsDecodedTree t p
decoded-tree t p well same =
    let fit = rows_fit t well in
    record {
      plain = subst IsPlain (sym same) (plain_is_plain (column_of t) fit);
      dtype = ap tree_type same ∙ type-plain_of (tree_type t) (rows t);
      rows = ap rows same ∙ rows-plain_of (tree_type t) (rows t) fit;
    }
