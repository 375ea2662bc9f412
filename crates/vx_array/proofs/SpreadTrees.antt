-- Plain trees of values with nulls, from those of the others; and of equal rows, from that of one.
use Rattle.std.proofs.Common.{◌≡◌, ◌∙◌, ℕ, List, [], ◌∷◌, length, map, refl, sym, ap, Bool, true, false, cond, Some, None}
use Rattle.std.specs.Prelude.{not, unwrap_or}
use Rattle.std.specs.List.{list_all, list_any}
use Rattle.std.proofs.lemmas.Bool.{and_parts, and_from}
use Rattle.std.proofs.lemmas.List.{length-map}
use Rattle.std.proofs.lemmas.Simd.{map-map}
use Rattle.vx_base.specs.declared.dtype.Nullability.TheVariants.{NonNullable}
use Rattle.vx_base.specs.Defaults.{default_of, field_defaults, null_or_default, or_default}
use Rattle.vx_base.specs.PlainScalar.{PlainScalar, fits}
use Rattle.vx_base.specs.PlainType.{PlainFields, PlainType, is_flat, is_nullable}
use Rattle.vx_base.specs.PlainType as types
use Rattle.vx_base.specs.PlainValue.{PlainValue, null, truth, int, bytes, items, is_null}
use Rattle.vx_base.proofs.NullLemmas.{null-fitted}
use Rattle.vx_model.specs.Nested.{fixed_rows, struct_rows, within}
use Rattle.vx_model.specs.Plain.{plain_of, valid_bits, validity}
use Rattle.vx_model.specs.Rows.{rows, masked_rows}
use Rattle.vx_model.specs.Tree.{constant}
use Rattle.vx_model.proofs.PlainLemmas.{rows-plain_of, type-plain_of}
use Rattle.vx_pieces.specs.declared.piece.Piece.{Piece}
use Rattle.vx_pieces.specs.Kept.{kept_items}
use Rattle.vx_pieces.specs.Pieces.{Gives, are_pieces, in_one_row, pieced}
use Rattle.vx_pieces.proofs.SpreadLemmas.{are_one-row-pieces, masked-own, one-row-pieces}
use Rattle.vx_array.specs.PlainPieced.{has_rows_within, plain_pieced}
use Rattle.vx_array.proofs.Decodings.{no_nulls}

-- what pieces give of a plain tree
plain-pieced : (t : PlainType) (vs : List PlainValue) (ps : List Piece) → list_all (fits t) vs ≡ true → plain_pieced ps (plain_of t vs) ≡ plain_of t (pieced (null_or_default t) ps vs)
plain-pieced t vs ps fit = λ i. plain_of (type-plain_of t vs i) (pieced (null_or_default (type-plain_of t vs i)) ps (rows-plain_of t vs fit i))

-- ---- values with nulls

pub within-nested : (t : PlainType) → has_rows_within t ≡ true → is_flat t ≡ false
within-nested (types.structure fs n) h = refl
within-nested (types.fixed_size_list t size n) h = refl
within-nested t h = absurd cc

-- the values that aren't null
abbrev pub valid_of : List PlainValue → List PlainValue
valid_of vs = kept_items (valid_bits vs) vs

pub kept-fit : (test : PlainValue → Bool) (keep : List Bool) (vs : List PlainValue) → list_all test vs ≡ true → list_all test (kept_items keep vs) ≡ true
kept-fit test [] vs h = refl
kept-fit test (b ∷ keep) [] h = refl
kept-fit test (true ∷ keep) (v ∷ vs) h = let b = and_parts (test v) (list_all test vs) h in and_from _ _ b.0 (kept-fit test keep vs b.1)
kept-fit test (false ∷ keep) (v ∷ vs) h = kept-fit test keep vs (and_parts (test v) (list_all test vs) h).1

some-null : (vs : List PlainValue) (bits : List Bool) → validity vs ≡ Some bits → (list_any is_null vs ≡ true) × (valid_bits vs ≡ bits)
some-null vs bits e = by_any (list_any is_null vs) e
  where
    by_any : (b : Bool) → cond b (Some (valid_bits vs)) None ≡ Some bits → (b ≡ true) × (valid_bits vs ≡ bits)
    by_any true h = (refl, ap (λ o. unwrap_or o []) h)
    by_any false h = absurd cc

module _ (t : PlainType) (vs : List PlainValue) (bits : List Bool) (fit : list_all (fits t) vs ≡ true) (is : validity vs ≡ Some bits) where
  abbrev valid : List PlainValue
  valid = valid_of vs

  nullable : is_nullable t ≡ true
  nullable = null-fitted t vs fit (some-null vs bits is).0

  pub spread-long : length vs ≡ length bits
  spread-long = sym (length-map vs (λ v. not (is_null v))) ∙ ap length (some-null vs bits is).1

  pub spread-fit : list_all (fits t) valid ≡ true
  spread-fit = kept-fit (fits t) (valid_bits vs) vs fit

  pub spread-within : (ps : List Piece) → Gives null ps (kept_items bits vs) (masked_rows bits vs) → are_pieces (length (rows (plain_of t valid))) ps ≡ true
  spread-within ps g =
      let same = ap (λ k. kept_items k vs) (some-null vs bits is).1 in
      ap (λ xs. are_pieces (length xs) ps) (rows-plain_of t valid spread-fit ∙ same) ∙ g.within

  pub spread-tree : (ps : List Piece) → Gives null ps (kept_items bits vs) (masked_rows bits vs) → plain_pieced ps (plain_of t valid) ≡ plain_of t vs
  spread-tree ps g =
      let own = (some-null vs bits is).1 in
      let filling : null_or_default t ≡ null = ap (λ b. cond b null (default_of t)) nullable in
      plain-pieced t valid ps spread-fit
      ∙ ap (plain_of t) ((λ i. pieced (filling i) ps (kept_items (own i) vs)) ∙ g.gives ∙ ap (λ k. masked_rows k vs) (sym own) ∙ masked-own vs)

-- ---- values of which none is null

pub kept-valid : (vs : List PlainValue) → list_any is_null (valid_of vs) ≡ false
kept-valid [] = refl
kept-valid (null ∷ vs) = kept-valid vs
kept-valid (truth b ∷ vs) = kept-valid vs
kept-valid (int z ∷ vs) = kept-valid vs
kept-valid (bytes bs ∷ vs) = kept-valid vs
kept-valid (items xs ∷ vs) = kept-valid vs

pub none-null : (vs : List PlainValue) → validity vs ≡ None → list_any is_null vs ≡ false
none-null vs e = by_any (list_any is_null vs) e
  where
    by_any : (b : Bool) → cond b (Some (valid_bits vs)) None ≡ None → b ≡ false
    by_any true h = absurd cc
    by_any false h = refl

module _ (vs : List PlainValue) (valid : list_any is_null vs ≡ false) where
  pub valid-none : validity vs ≡ None
  valid-none = ap (λ b. cond b (Some (valid_bits vs)) None) valid

  pub valid-structs : (fs : PlainFields) → struct_rows fs vs ≡ map within vs
  valid-structs fs = let default = items (field_defaults fs) in sym (map-map within (or_default default) vs) ∙ ap (map within) (no_nulls default vs valid)

  pub valid-lists : (t : PlainType) (size : ℕ) → fixed_rows t size vs ≡ vs
  valid-lists t size = no_nulls (default_of (types.fixed_size_list t size NonNullable)) vs valid

-- ---- equal rows

pub one-fit : (s : PlainScalar) → fits s.dtype s.value ≡ true → list_all (fits s.dtype) (s.value ∷ []) ≡ true
one-fit s fit = and_from _ _ fit refl

module _ (s : PlainScalar) (len : ℕ) (ps : List Piece) (fit : fits s.dtype s.value ≡ true) (own : are_pieces len ps ≡ true) where
  pub constant-within : are_pieces (length (rows (plain_of s.dtype (s.value ∷ [])))) (map in_one_row ps) ≡ true
  constant-within = ap (λ xs. are_pieces (length xs) (map in_one_row ps)) (rows-plain_of s.dtype (s.value ∷ []) (one-fit s fit)) ∙ are_one-row-pieces ps

  pub constant-tree : plain_pieced (map in_one_row ps) (plain_of s.dtype (s.value ∷ [])) ≡ plain_pieced ps (constant s len)
  constant-tree = plain-pieced s.dtype (s.value ∷ []) (map in_one_row ps) (one-fit s fit) ∙ ap (plain_of s.dtype) (one-row-pieces (null_or_default s.dtype) s.value len ps own)
