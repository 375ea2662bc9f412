-- Columns whose lists have fewer than 2^64 elements.
use Rattle.std.proofs.Common.{◌≡◌, ◌<◌, ◌+◌, ◌^◌, ◌∙◌, ℕ, pos, List, [], ◌∷◌, map, length, true, sym, arith}
use Rattle.std.specs.Prelude.{nat_le}
use Rattle.std.specs.List.{list_all}
use Rattle.std.proofs.lemmas.Bool.{and_parts, ltb-true}
use Rattle.std.proofs.lemmas.List.{length-append}
use Rattle.std.proofs.lemmas.List.Folds.{list_all-append}
use Rattle.vx_base.specs.declared.ptype.PType.TheVariants.{U64}
use Rattle.vx_base.specs.Integers.{lies_in}
use Rattle.vx_base.specs.PlainType.{PlainType, PlainFields, boolean, primitive, utf8, binary, timestamp, is_flat}
use Rattle.vx_base.specs.PlainType as types
use Rattle.vx_base.specs.PlainValue.{PlainValue, PlainValues}
use Rattle.vx_model.specs.Extents.{counts, field_counts}
use Rattle.vx_model.specs.Nested.{first_within, rest_within, struct_rows, concatenated, list_rows, elements, fixed_elements}
use Rattle.vx_model.specs.Offsets.{offsets_from}
use Rattle.vx_model.specs.Plain.{plain_of, plain_fields, FewElements, FewFieldElements}
use Rattle.vx_model.specs.WellFormed.{WellFormed, AllWellFormed}
use Rattle.vx_model.proofs.CountLemmas.{rows-few}

-- a flat type has no lists
pub few-flat : (t : PlainType) (vs : List PlainValue) → is_flat t ≡ true → FewElements t vs
few-flat (boolean n) vs f = tt
few-flat (primitive p n) vs f = tt
few-flat (utf8 n) vs f = tt
few-flat (binary n) vs f = tt
few-flat (timestamp k n) vs f = tt
few-flat t vs f = absurd cc

-- where each count is within a limit, so is the number of elements of all lists
mutual
  pub few-counts : (most : ℕ) → most < 2 ^ 64 → (t : PlainType) (vs : List PlainValue) → list_all (λ count. nat_le count most) (counts t vs) ≡ true → FewElements t vs
  few-counts most l types.null_type vs h = tt
  few-counts most l (boolean n) vs h = tt
  few-counts most l (primitive p n) vs h = tt
  few-counts most l (utf8 n) vs h = tt
  few-counts most l (binary n) vs h = tt
  few-counts most l (timestamp k n) vs h = tt
  few-counts most l (types.structure fs n) vs h = few-field_counts most l fs (struct_rows fs vs) (and_parts (nat_le (length vs) most) _ h).1
  few-counts most l (types.list t n) vs h =
      let within = (and_parts (nat_le (length vs) most) (list_all (λ count. nat_le count most) (counts t (elements vs))) h).1 in
      (let few = rows-few t (elements vs) most within in omega arith, few-counts most l t (elements vs) within)
  few-counts most l (types.fixed_size_list t size n) vs h =
      few-counts most l t (fixed_elements t size vs) (and_parts (nat_le (length vs) most) (list_all (λ count. nat_le count most) (counts t (fixed_elements t size vs))) h).1

  pub few-field_counts : (most : ℕ) → most < 2 ^ 64 → (fs : PlainFields) (rs : List PlainValues) → list_all (λ count. nat_le count most) (field_counts fs rs) ≡ true → FewFieldElements fs rs
  few-field_counts most l types.none rs h = tt
  few-field_counts most l (types.more name t fs) rs h =
      let first = counts t (map first_within rs) in
      let others = field_counts fs (map rest_within rs) in
      let b = and_parts (list_all (λ count. nat_le count most) first) (list_all (λ count. nat_le count most) others) (sym (list_all-append (λ count. nat_le count most) first others) ∙ h) in
      (few-counts most l t (map first_within rs) b.0, few-field_counts most l fs (map rest_within rs) b.1)

-- ---- a well-formed plain tree has few elements

few-held : {A : Type 0} (here : ℕ) (rows : List (List A)) → list_all (lies_in U64) (map pos (offsets_from here rows)) ≡ true → here + length (concatenated rows) < 2 ^ 64
few-held here [] h = let last : here < 2 ^ 64 = ltb-true here (2 ^ 64) (and_parts _ _ h).0 in omega arith
few-held here (row ∷ rows) h =
    let rest = few-held (here + length row) rows (and_parts (lies_in U64 (pos here)) (list_all (lies_in U64) (map pos (offsets_from (here + length row) rows))) h).1 in
    omega (arith, length-append row (concatenated rows))

mutual
  pub few-plain : (t : PlainType) (vs : List PlainValue) → WellFormed (plain_of t vs) → FewElements t vs
  few-plain types.null_type vs w = tt
  few-plain (boolean n) vs w = tt
  few-plain (primitive p n) vs w = tt
  few-plain (utf8 n) vs w = tt
  few-plain (binary n) vs w = tt
  few-plain (timestamp k n) vs w = tt
  few-plain (types.structure fs n) vs w = few-plain_fields fs (struct_rows fs vs) w.0
  few-plain (types.list t n) vs w = (let few = few-held 0 (list_rows vs) w.1.0.held in omega arith, few-plain t (elements vs) w.0)
  few-plain (types.fixed_size_list t size n) vs w = few-plain t (fixed_elements t size vs) w.0

  few-plain_fields : (fs : PlainFields) (rs : List PlainValues) → AllWellFormed (plain_fields fs rs) → FewFieldElements fs rs
  few-plain_fields types.none rs w = tt
  few-plain_fields (types.more name t fs) rs w = (few-plain t (map first_within rs) w.0, few-plain_fields fs (map rest_within rs) w.1)
