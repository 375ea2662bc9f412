-- A struct is read back from its spelling, and from that alone.
use Rattle.std.proofs.Common.{◌≡◌, ℕ, suc, ◌≤◌, ◌++◌, true, List, [], ◌∷◌, length, Some, refl, ap, subst, sym, ◌∙◌, arith}
use Rattle.std.specs.Prelude.{is_none}
use Rattle.std.proofs.lemmas.Bool.{and_parts, and_from}
use Rattle.vx_base.specs.declared.array_id.ArrayId.TheVariants as ids
use Rattle.vx_base.specs.declared.dtype.Nullability.{Nullability}
use Rattle.vx_codec.specs.Format.{IsLawful, both}
use Rattle.vx_codec.specs.Lists.{spell_all, AllFit}
use Rattle.vx_codec.specs.Varint.{varint}
use Rattle.vx_codec.proofs.FormatLaws.{made_round_trip_as, made_canonical}
use Rattle.vx_model.specs.Tree.{Tree, Trees, Validity, structure, none, more}
use Rattle.vx_model.specs.WellFormed.{WellFormed, AllWellFormed}
use Rattle.vx_model.proofs.AdmittedLemmas.{structure-admitted}
use Rattle.vx_model.proofs.StructLemmas.{length-structure, structure_accepted}
use Rattle.vx_spelling.specs.Fields.{name}
use Rattle.vx_spelling.specs.NestedParts.{names_of, trees_of, struct_parts, struct_of}
use Rattle.vx_spelling.specs.Storable.{depth, depths, are_within, all_within, FieldsFit}
use Rattle.vx_spelling.specs.TreeSpelling.{body, fields_body, tree_text, node_behind, trees_by, tree_at, FitsAt, tree_format}
use Rattle.vx_spelling.proofs.Bounds.{few_rows, below_of, none_is}
use Rattle.vx_spelling.proofs.FieldLaws.{validity_fits, fitted_kept}
use Rattle.vx_spelling.proofs.LeafCanonicals.{IsRead, IsCanonical, with_kept}
use Rattle.vx_spelling.proofs.LeafRoundTrips.{IsReadBack}
use Rattle.vx_spelling.proofs.NodeLaws.{struct_lawful}

abbrev Field : Type 0
Field = List ℕ × Tree

-- names and trees as fields, and back
abbrev pairs_of : List (List ℕ) → Trees → List Field
pairs_of [] none = []
pairs_of [] (more t ts) = []
pairs_of (field ∷ names) none = []
pairs_of (field ∷ names) (more t ts) = (field, t) ∷ pairs_of names ts

of_pairs : (names : List (List ℕ)) (ts : Trees) → FieldsFit names ts → (names_of (pairs_of names ts) ≡ names) × (trees_of (pairs_of names ts) ≡ ts)
of_pairs [] none h = (refl, refl)
of_pairs [] (more t ts) h = absurd h
of_pairs (field ∷ names) none h = absurd h
of_pairs (field ∷ names) (more t ts) h = let ih = of_pairs names ts h.1 in (ap (λ (r : List (List ℕ)). field ∷ r) ih.0, ap (more t) ih.1)

count_of : (fs : List Field) → length (names_of fs) ≡ length fs
count_of [] = refl
count_of (f ∷ fs) = ap suc (count_of fs)

body_of : (d : ℕ) (fs : List Field) → fields_body (names_of fs) (trees_of fs) ≡ spell_all (both name (tree_format d)).spell fs
body_of d [] = refl
body_of d (f ∷ fs) = ap (λ (r : List ℕ). (name.spell f.0 ++ tree_text f.1) ++ r) (body_of d fs)

fit_in : (d : ℕ) (fs : List Field) → AllFit (both name (tree_format d)).Fits fs → (depths (trees_of fs) ≤ d) × (AllWellFormed (trees_of fs) × ((are_within (trees_of fs) ≡ true) × FieldsFit (names_of fs) (trees_of fs)))
fit_in d [] h = (omega arith, (tt, (refl, tt)))
fit_in d (f ∷ fs) h =
    let ih = fit_in d fs h.1 in
    let own = h.0.1 in
    let a : depth f.1 ≤ d = own.0 in
    let b : depths (trees_of fs) ≤ d = ih.0 in
    (omega arith, ((own.1.0, ih.1.0), (and_from (all_within f.1) (are_within (trees_of fs)) own.1.1.0 ih.1.1.0, ((h.0.0, own.1.1.1), ih.1.1.1))))

fit_out : (d : ℕ) (fs : List Field) → depths (trees_of fs) ≤ d → AllWellFormed (trees_of fs) → are_within (trees_of fs) ≡ true → FieldsFit (names_of fs) (trees_of fs) → AllFit (both name (tree_format d)).Fits fs
fit_out d [] le w b h = tt
fit_out d (f ∷ fs) le w b h =
    let p = and_parts (all_within f.1) (are_within (trees_of fs)) b in
    ((h.0.0, (omega arith, (w.0, (p.0, h.0.1)))), fit_out d fs (omega arith) w.1 p.1 h.1)

struct_body : (d : ℕ) (fs : List Field) (len : ℕ) (valid : Validity) (n : Nullability) → body (structure (names_of fs) (trees_of fs) len valid n) ≡ (struct_parts (tree_format d)).spell ((n, len), (fs, valid))
struct_body d fs len valid n = rw (count_of fs, body_of d fs) refl

module _ (d : ℕ) (law : IsLawful (tree_format d)) where
  fields_read_back : (fs : List Field) (len : ℕ) (valid : Validity) (n : Nullability) → IsReadBack d (structure (names_of fs) (trees_of fs) len valid n)
  fields_read_back fs len valid n rest h =
      let names = names_of fs in
      let fields = trees_of fs in
      let t = structure names fields len valid n in
      let w = h.1.0 in
      let nf = h.1.1.1 in
      let deep : suc (depths (trees_of fs)) ≤ suc d = h.0 in
      made_round_trip_as (struct_parts (tree_format d)) struct_of (struct_lawful (tree_format d) law) ((n, len), (fs, valid)) t (body t) rest (
        (
          (tt, few_rows t len (length-structure names fields len valid n w) h.1.1.0),
          ((subst varint.Fits (count_of fs) nf.0, (refl, fit_out d fs (omega arith) w.0 (below_of t h.1.1.0) nf.1)), validity_fits valid len n w.1.validity),
        ),
        ap is_none (structure-admitted names fields len valid n w),
      ) (struct_body d fs len valid n) refl

  pub struct_read_back : (names : List (List ℕ)) (fields : Trees) (len : ℕ) (valid : Validity) (n : Nullability) → IsReadBack d (structure names fields len valid n)
  struct_read_back names fields len valid n rest h =
      let e = of_pairs names fields h.1.1.1.1 in
      subst (λ (y : List (List ℕ) × Trees). FitsAt (suc d) (structure y.0 y.1 len valid n) → node_behind (trees_by (tree_at d)) ids.Struct (body (structure y.0 y.1 len valid n) ++ rest) ≡ Some (structure y.0 y.1 len valid n, rest))
      (λ i. (e.0 i, e.1 i)) (fields_read_back (pairs_of names fields) len valid n rest) h

  pub struct_canonical : IsCanonical d ids.Struct
  struct_canonical bytes x e =
      made_canonical (struct_parts (tree_format d)) struct_of (struct_lawful (tree_format d) law) bytes (IsRead d ids.Struct bytes)
      (λ p rest h b.
      let fs = p.1.0 in
      let i = fit_in d fs h.0.1.0.1.1 in
      let le : depths (trees_of fs) ≤ d = i.0 in
      let w = with_kept (λ v. WellFormed (structure (names_of fs) (trees_of fs) p.0.1 v p.0.0)) p.1.1 (fitted_kept p.1.1 p.0.1 h.0.1.1)
      (structure_accepted (names_of fs) (trees_of fs) p.0.1 p.1.1 p.0.0 (none_is _ h.1) i.1.0) in
      (b ∙ ap (λ (r : List ℕ). r ++ rest) (sym (struct_body d fs p.0.1 p.1.1 p.0.0)), refl, (omega arith, (w, (i.1.1.0, (subst varint.Fits (sym (count_of fs)) h.0.1.0.0, i.1.1.1)))))) x e
