-- Lists: their rows, and that a constructor's tree is well formed.
use Rattle.std.proofs.Common.{◌≡◌, ◌<◌, ◌+◌, ◌-◌, ◌∙◌, ℕ, List, [], ◌∷◌, length, map, refl, ap, sym, subst, true, cond, None}
use Rattle.std.specs.Prelude.{is_some}
use Rattle.std.specs.List.{list_all, list_any}
use Rattle.std.proofs.lemmas.Bool.{and_parts, and_from, not-true}
use Rattle.vx_base.specs.declared.dtype.Nullability.{Nullability}
use Rattle.vx_base.specs.Masks.{rows_between}
use Rattle.vx_base.specs.PlainScalar.{fits}
use Rattle.vx_base.specs.PlainType.{PlainType}
use Rattle.vx_base.specs.PlainType as types
use Rattle.vx_base.specs.PlainValue.{PlainValue, null, is_null, items_or_empty}
use Rattle.vx_base.proofs.WithinLemmas.{list_of-of_list, list_fits-all}
use Rattle.vx_model.specs.Decoded.{zeroed_by}
use Rattle.vx_model.specs.Nested.{list_rows}
use Rattle.vx_model.specs.Plain.{validity}
use Rattle.vx_model.specs.Refusals.{kept, list_refusal}
use Rattle.vx_model.specs.Rows.{rows, row_at, is_valid_at, offset_at, cut_at, list_value}
use Rattle.vx_model.specs.Tree.{Tree, Validity, list}
use Rattle.vx_model.specs.TreeType.{tree_type}
use Rattle.vx_model.specs.WellFormed.{WellFormed, IsValidityOf}
use Rattle.vx_model.proofs.FlatLemmas.{length-flat, row_at-flat, any_null-flat, validity-flat, items-flat}
use Rattle.vx_model.proofs.MadeLemmas.{kept_validity, valid_fit, rows_fit}
use Rattle.vx_model.proofs.PackedLemmas.{passed}
use Rattle.vx_model.proofs.PartLemmas.{cut_at-passes}
use Rattle.vx_model.proofs.VarBinLemmas.{length-cut_at, cut_at-at}

-- lists whose items fit
pub lists-fit : (t : PlainType) (n : Nullability) (parts : List (List PlainValue)) → list_all (list_all (fits t)) parts ≡ true → list_all (fits (types.list t n)) (map list_value parts) ≡ true
lists-fit t n [] h = refl
lists-fit t n (part ∷ parts) h = let b = and_parts (list_all (fits t) part) (list_all (list_all (fits t)) parts) h in and_from _ _ (list_fits-all t part ∙ b.0) (lists-fit t n parts b.1)

-- lists that aren't null have their items
pub list_rows-values : (parts : List (List PlainValue)) → list_rows (map list_value parts) ≡ parts
list_rows-values [] = refl
list_rows-values (part ∷ parts) = λ i. list_of-of_list part i ∷ list_rows-values parts i

-- a constructor's tree is well formed, where nothing is refused
pub list_accepted : (elements offsets : Tree) (valid : Validity) (n : Nullability) → list_refusal elements offsets valid n ≡ None → WellFormed elements → WellFormed offsets → WellFormed (list elements offsets (kept valid) n)
list_accepted elements offsets valid n h w k =
    let typed = passed _ _ _ h in
    let lengths = passed _ _ _ typed.1 in
    let ends = passed _ _ _ lengths.1 in
    let allowed = passed _ _ _ ends.1 in
    let own = and_parts _ _ typed.0 in
    let some = and_parts _ _ lengths.0 in
    let len = length (rows offsets) - 1 in
    let bits = kept_validity valid len n some.1 allowed.0 in (
      w,
      k,
      record { offsets_type = own.0; not_null = not-true _ own.1; some = some.0; ends = ends.0; validity = bits },
      valid_fit (kept valid) (types.list (tree_type elements) n) len (map list_value (cut_at (rows offsets) (rows elements))) bits
          (lists-fit (tree_type elements) n (cut_at (rows offsets) (rows elements)) (cut_at-passes (fits (tree_type elements)) (rows offsets) (rows elements) (rows_fit elements w))),
    )

module _ (elements offsets : Tree) (valid : Validity) (n : Nullability) (h : WellFormed (list elements offsets valid n)) where
  count : length (cut_at (rows offsets) (rows elements)) ≡ length (rows offsets) - 1
  count = length-cut_at (rows offsets) (rows elements)

  bits : IsValidityOf valid (length (cut_at (rows offsets) (rows elements))) n
  bits = subst (λ k. IsValidityOf valid k n) (sym count) h.2.validity

  pub length-list : length (rows (list elements offsets valid n)) ≡ length (rows offsets) - 1
  length-list = length-flat list_value (λ vs. refl) (cut_at (rows offsets) (rows elements)) valid n bits ∙ count

  pub row_at-list : (i : ℕ) → i < length (rows offsets) - 1
      → row_at (rows (list elements offsets valid n)) i ≡ cond (is_valid_at valid i) (list_value (rows_between (rows elements) (offset_at (rows offsets) i) (offset_at (rows offsets) (i + 1)))) null
  row_at-list i l =
      row_at-flat list_value (λ vs. refl) (cut_at (rows offsets) (rows elements)) valid n bits [] i (subst (λ k. i < k) (sym count) l)
      ∙ ap (λ vs. cond (is_valid_at valid i) (list_value vs) null) (cut_at-at (rows offsets) (rows elements) i l)

  pub any_null-list : list_any is_null (rows (list elements offsets valid n)) ≡ is_some valid
  any_null-list = any_null-flat list_value (λ vs. refl) (cut_at (rows offsets) (rows elements)) valid n bits

  pub validity-list : validity (rows (list elements offsets valid n)) ≡ valid
  validity-list = validity-flat list_value (λ vs. refl) (cut_at (rows offsets) (rows elements)) valid n bits

  -- the items of each list, none beneath nulls
  pub items-list : list_rows (rows (list elements offsets valid n)) ≡ zeroed_by [] valid (cut_at (rows offsets) (rows elements))
  items-list = items-flat list_value (λ vs. refl) (cut_at (rows offsets) (rows elements)) valid n bits items_or_empty list_of-of_list

pub ruleset list_reads = (length-list, row_at-list)
