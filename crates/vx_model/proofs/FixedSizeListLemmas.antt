-- Lists of fixed size: their rows, and that a constructor's tree is well formed.
use Rattle.std.proofs.Common.{◌≡◌, ◌<◌, ◌+◌, ◌-◌, ◌*◌, ◌∙◌, ℕ, List, [], ◌∷◌, length, map, take, drop, refl, ap, sym, subst, arith, true, cond, None}
use Rattle.std.specs.Prelude.{is_some, ◌==◌}
use Rattle.std.specs.List.{list_all, list_any}
use Rattle.std.proofs.lemmas.Bool.{and_parts, and_from, eqb-true}
use Rattle.std.proofs.lemmas.Simd.{map-map}
use Rattle.vx_base.specs.declared.dtype.Nullability.{Nullability}
use Rattle.vx_base.specs.declared.dtype.Nullability.TheVariants.{NonNullable}
use Rattle.vx_base.specs.Defaults.{default_of, or_default}
use Rattle.vx_base.specs.Masks.{rows_between}
use Rattle.vx_base.specs.PlainScalar.{fits}
use Rattle.vx_base.specs.PlainType.{PlainType}
use Rattle.vx_base.specs.PlainType as types
use Rattle.vx_base.specs.PlainValue.{PlainValue, null, is_null, items_or_empty}
use Rattle.vx_base.proofs.WithinLemmas.{list_of-of_list, list_fits-all, fits-fixed_size_list}
use Rattle.vx_model.specs.Decoded.{zeroed_by}
use Rattle.vx_model.specs.Nested.{list_rows, fixed_rows}
use Rattle.vx_model.specs.Plain.{validity}
use Rattle.vx_model.specs.Refusals.{kept, fixed_size_list_refusal}
use Rattle.vx_model.specs.Rows.{rows, row_at, is_valid_at, parts_of, list_value}
use Rattle.vx_model.specs.Tree.{Tree, Validity, fixed_size_list}
use Rattle.vx_model.specs.TreeType.{tree_type}
use Rattle.vx_model.specs.WellFormed.{WellFormed, IsValidityOf}
use Rattle.vx_model.proofs.FlatLemmas.{length-flat, row_at-flat, any_null-flat, validity-flat, items-flat}
use Rattle.vx_model.proofs.MadeLemmas.{kept_validity, valid_fit, rows_fit}
use Rattle.vx_model.proofs.PackedLemmas.{passed}
use Rattle.vx_model.proofs.PartLemmas.{length-parts_of, parts_of-at, parts_of-sized, parts_of-passes}

-- lists of the size whose items fit
pub fixed_lists-fit : (t : PlainType) (size : ℕ) (n : Nullability) (parts : List (List PlainValue)) → list_all (λ part. length part == size) parts ≡ true → list_all (list_all (fits t)) parts ≡ true
    → list_all (fits (types.fixed_size_list t size n)) (map list_value parts) ≡ true
fixed_lists-fit t size n [] e h = refl
fixed_lists-fit t size n (part ∷ parts) e h =
    let b = and_parts (list_all (fits t) part) (list_all (list_all (fits t)) parts) h in
    let s = and_parts (length part == size) (list_all (λ part. length part == size) parts) e in
    and_from _ _ (fits-fixed_size_list t size n part ∙ and_from _ _ s.0 (list_fits-all t part ∙ b.0)) (fixed_lists-fit t size n parts s.1 b.1)

-- lists that aren't null stay
pub fixed_rows-values : (t : PlainType) (size : ℕ) (parts : List (List PlainValue)) → fixed_rows t size (map list_value parts) ≡ map list_value parts
fixed_rows-values t size [] = refl
fixed_rows-values t size (part ∷ parts) = ap (λ rest. list_value part ∷ rest) (fixed_rows-values t size parts)

-- a constructor's tree is well formed, where nothing is refused
pub fixed_size_list_accepted : (elements : Tree) (size len : ℕ) (valid : Validity) (n : Nullability) → fixed_size_list_refusal elements size len valid n ≡ None → WellFormed elements → WellFormed (fixed_size_list elements size len (kept valid) n)
fixed_size_list_accepted elements size len valid n h w =
    let lengths = passed _ _ _ h in
    let allowed = passed _ _ _ lengths.1 in
    let both = and_parts _ _ lengths.0 in
    let whole = eqb-true (length (rows elements)) (len * size) both.0 in
    let bits = kept_validity valid len n both.1 allowed.0 in
    let parts = parts_of size len (rows elements) in (
      w,
      record { lengths = whole; validity = bits },
      valid_fit (kept valid) (types.fixed_size_list (tree_type elements) size n) len (map list_value parts) bits
          (fixed_lists-fit (tree_type elements) size n parts (parts_of-sized size len (rows elements) whole) (parts_of-passes (fits (tree_type elements)) size len (rows elements) (rows_fit elements w))),
    )

module _ (elements : Tree) (size len : ℕ) (valid : Validity) (n : Nullability) (h : WellFormed (fixed_size_list elements size len valid n)) where
  count : length (parts_of size len (rows elements)) ≡ len
  count = length-parts_of size len (rows elements)

  bits : IsValidityOf valid (length (parts_of size len (rows elements))) n
  bits = subst (λ k. IsValidityOf valid k n) (sym count) h.1.validity

  pub length-fixed_size_list : length (rows (fixed_size_list elements size len valid n)) ≡ len
  length-fixed_size_list = length-flat list_value (λ vs. refl) (parts_of size len (rows elements)) valid n bits ∙ count

  pub row_at-fixed_size_list : (i : ℕ) → i < len → row_at (rows (fixed_size_list elements size len valid n)) i ≡ cond (is_valid_at valid i) (list_value (rows_between (rows elements) (i * size) (i * size + size))) null
  row_at-fixed_size_list i l =
      let own : size ≡ i * size + size - i * size = omega arith in
      row_at-flat list_value (λ vs. refl) (parts_of size len (rows elements)) valid n bits [] i (subst (λ k. i < k) (sym count) l)
      ∙ ap (λ vs. cond (is_valid_at valid i) (list_value vs) null) (parts_of-at size len (rows elements) i l ∙ ap (λ k. take k (drop (i * size) (rows elements))) own)

  pub any_null-fixed_size_list : list_any is_null (rows (fixed_size_list elements size len valid n)) ≡ is_some valid
  any_null-fixed_size_list = any_null-flat list_value (λ vs. refl) (parts_of size len (rows elements)) valid n bits

  pub validity-fixed_size_list : validity (rows (fixed_size_list elements size len valid n)) ≡ valid
  validity-fixed_size_list = validity-flat list_value (λ vs. refl) (parts_of size len (rows elements)) valid n bits

  -- the items of each list, those of the default beneath nulls
  pub items-fixed_size_list : (t : PlainType)
      → list_rows (fixed_rows t size (rows (fixed_size_list elements size len valid n))) ≡ zeroed_by (items_or_empty (default_of (types.fixed_size_list t size NonNullable))) valid (parts_of size len (rows elements))
  items-fixed_size_list t =
      let default = default_of (types.fixed_size_list t size NonNullable) in
      map-map items_or_empty (or_default default) (rows (fixed_size_list elements size len valid n))
      ∙ items-flat list_value (λ vs. refl) (parts_of size len (rows elements)) valid n bits (λ v. items_or_empty (or_default default v)) list_of-of_list

pub ruleset fixed_size_list_reads = (length-fixed_size_list, row_at-fixed_size_list)
