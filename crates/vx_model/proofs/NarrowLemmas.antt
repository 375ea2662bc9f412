-- The offsets of lists in the narrowest type that holds them, from their plain tree.
use Rattle.std.proofs.Common.{◌≡◌, ◌<◌, ◌≤◌, ◌+◌, ◌^◌, ◌∙◌, ℕ, ℤ, pos, negsuc, true, false, List, [], ◌∷◌, map, length, Option, Some, None, refl, sym, ap, subst, IfSome, arith, rules}
use Rattle.std.specs.Prelude.{nat_le, nat_lt, unwrap_or, IsSome, IsTrue, find}
use Rattle.std.specs.List.{list_all, list_any}
use Rattle.std.proofs.lemmas.Bool.{and_parts, and_from, cond_both, lt-ltb, ltb-true}
use Rattle.vx_base.specs.declared.ptype.PType.{PType}
use Rattle.vx_base.specs.declared.ptype.PType.TheVariants.{U8, U16, U32, U64}
use Rattle.vx_base.specs.declared.array_id.ArrayId.TheVariants as ids
use Rattle.vx_base.specs.declared.dtype.Nullability.{Nullability}
use Rattle.vx_base.specs.declared.dtype.Nullability.TheVariants.{NonNullable}
use Rattle.vx_base.specs.Integers.{lies_in, unsigned_of}
use Rattle.vx_base.specs.Narrow.{narrow_of}
use Rattle.vx_base.specs.PlainScalar.{fits}
use Rattle.vx_base.specs.PlainType as types
use Rattle.vx_base.specs.PlainValue.{PlainValue, int, is_null, whole_or_zero}
use Rattle.vx_model.specs.Cascade.{narrow_offsets}
use Rattle.vx_model.specs.Column.{column, IsColumn}
use Rattle.vx_model.specs.Extents.{row_limit}
use Rattle.vx_model.specs.Nested.{concatenated, offsets_type}
use Rattle.vx_model.specs.Offsets.{offset_values}
use Rattle.vx_model.specs.Plain.{plain, plain_of, plain_offsets}
use Rattle.vx_model.specs.Nodes.{encoding}
use Rattle.vx_model.specs.Rows.{rows}
use Rattle.vx_model.specs.Tree.{Tree, Validity, primitive}
use Rattle.vx_model.specs.WellFormed.{lies_between}
use Rattle.vx_model.specs.Whole.{ArePlainOffsets, narrowed}
use Rattle.vx_model.proofs.CascadeLemmas.{length-joined_by, narrowed-lies}
use Rattle.vx_model.proofs.JoinedLemmas.{length-offset_values, joined_offsets}
use Rattle.vx_model.proofs.OffsetColumnLemmas.{plain-offsets}
use Rattle.vx_model.proofs.OffsetLemmas.{all_between}

-- ---- the plain offsets of lists

pub plain_offsets-are : (lists : List (List PlainValue)) (end : ℕ) → end ≡ length (concatenated lists) → length lists ≤ row_limit → ArePlainOffsets (plain_offsets lists) end
plain_offsets-are lists end e l =
    let count = length-offset_values lists in
    record {
      plain = sym (plain-offsets lists);
      typed = refl;
      between = rw e (all_between (length (concatenated lists)) (offset_values lists) (joined_offsets lists));
      few = omega arith;
    }

pub narrowed-is : (lists : List (List PlainValue)) (end : ℕ) → end ≡ length (concatenated lists) → narrowed end (offset_values lists) ≡ narrow_offsets lists
narrowed-is lists end e = ap (λ n. column (types.primitive (offsets_type n) NonNullable) (offset_values lists)) (e ∙ sym (length-joined_by lists))

-- ---- the type

find-some : (z : ℤ) → lies_in U64 z ≡ true → IsSome (find (λ p. lies_in p z) (U8 ∷ U16 ∷ U32 ∷ U64 ∷ []))
find-some z h =
    let last : IsSome (find (λ p. lies_in p z) (U64 ∷ [])) = rw h (search rules) in
    let third : IsSome (find (λ p. lies_in p z) (U32 ∷ U64 ∷ [])) = cond_both (lies_in U32 z) (Some U32) (find (λ p. lies_in p z) (U64 ∷ [])) IsSome (λ e. search rules) (λ e. last) in
    let second : IsSome (find (λ p. lies_in p z) (U16 ∷ U32 ∷ U64 ∷ [])) = cond_both (lies_in U16 z) (Some U16) (find (λ p. lies_in p z) (U32 ∷ U64 ∷ [])) IsSome (λ e. search rules) (λ e. third) in
    cond_both (lies_in U8 z) (Some U8) (find (λ p. lies_in p z) (U16 ∷ U32 ∷ U64 ∷ [])) IsSome (λ e. search rules) (λ e. second)

-- each number below 2^64 has an unsigned type
pub narrow-some : (end : ℕ) → end < 2 ^ 64 → IsSome (narrow_of (pos 0) (pos end))
narrow-some end l = find-some (pos end) (lt-ltb _ _ l)

pub narrow-type : (end : ℕ) (p : PType) → narrow_of (pos 0) (pos end) ≡ Some p → p ≡ offsets_type end
narrow-type end p e = sym (ap (λ o. unwrap_or o U64) e)

-- it is unsigned
pub narrow-unsigned : (end : ℕ) (p : PType) → narrow_of (pos 0) (pos end) ≡ Some p → unsigned_of p ≡ p
narrow-unsigned end p e =
    let unsigned = λ (o : Option PType). IfSome o (λ q. unsigned_of q ≡ q) in
    let fits = λ (q : PType). lies_in q (pos end) in
    let fourth : unsigned (find fits (U64 ∷ [])) = cond_both (fits U64) (Some U64) (find fits []) unsigned (λ t. refl) (λ f. tt) in
    let third : unsigned (find fits (U32 ∷ U64 ∷ [])) = cond_both (fits U32) (Some U32) (find fits (U64 ∷ [])) unsigned (λ t. refl) (λ f. fourth) in
    let second : unsigned (find fits (U16 ∷ U32 ∷ U64 ∷ [])) = cond_both (fits U16) (Some U16) (find fits (U32 ∷ U64 ∷ [])) unsigned (λ t. refl) (λ f. third) in
    let first : unsigned (find fits (U8 ∷ U16 ∷ U32 ∷ U64 ∷ [])) = cond_both (fits U8) (Some U8) (find fits (U16 ∷ U32 ∷ U64 ∷ [])) unsigned (λ t. refl) (λ f. second) in
    subst unsigned e first

-- ---- offsets up to an end

offset-lies : (p : PType) (end : ℕ) (v : PlainValue) → lies_in p (pos end) ≡ true → lies_between 0 (end + 1) v ≡ true → lies_in p (whole_or_zero v) ≡ true
offset-lies p end (int (pos n)) l h =
    let below = ltb-true n (end + 1) (and_parts (nat_le 0 n) (nat_lt n (end + 1)) h).1 in
    let top = ltb-true _ _ l in
    lt-ltb _ _ (omega arith)
offset-lies p end (int (negsuc n)) l h = absurd cc
offset-lies p end v l h = absurd cc

offsets-lie : (p : PType) (end : ℕ) (os : List PlainValue) → lies_in p (pos end) ≡ true → list_all (lies_between 0 (end + 1)) os ≡ true → list_all (lies_in p) (map whole_or_zero os) ≡ true
offsets-lie p end [] l h = refl
offsets-lie p end (v ∷ os) l h = let b = and_parts (lies_between 0 (end + 1) v) (list_all (lies_between 0 (end + 1)) os) h in and_from _ _ (offset-lies p end v l b.0) (offsets-lie p end os l b.1)

offset-fits : (p : PType) (end : ℕ) (v : PlainValue) → lies_in p (pos end) ≡ true → lies_between 0 (end + 1) v ≡ true → fits (types.primitive p NonNullable) v ≡ true
offset-fits p end (int z) l h = offset-lies p end (int z) l h
offset-fits p end v l h = absurd cc

offsets-fit : (p : PType) (end : ℕ) (os : List PlainValue) → lies_in p (pos end) ≡ true → list_all (lies_between 0 (end + 1)) os ≡ true → list_all (fits (types.primitive p NonNullable)) os ≡ true
offsets-fit p end [] l h = refl
offsets-fit p end (v ∷ os) l h = let b = and_parts (lies_between 0 (end + 1) v) (list_all (lies_between 0 (end + 1)) os) h in and_from _ _ (offset-fits p end v l b.0) (offsets-fit p end os l b.1)

no_null : (len : ℕ) (os : List PlainValue) → list_all (lies_between 0 len) os ≡ true → list_any is_null os ≡ false
no_null len [] h = refl
no_null len (int z ∷ os) h = no_null len os (and_parts (lies_between 0 len (int z)) (list_all (lies_between 0 len) os) h).1
no_null len (v ∷ os) h = absurd cc

module _ (end : ℕ) (os : List PlainValue) (between : list_all (lies_between 0 (end + 1)) os ≡ true) where
  pub narrowed-fits : end < 2 ^ 64 → IsColumn (narrowed end os)
  narrowed-fits l = offsets-fit (offsets_type end) end os (narrowed-lies end l) between

  module _ (xs : List ℤ) (wholes : xs ≡ map whole_or_zero os) where
    pub narrowed-held : end < 2 ^ 64 → IsTrue (list_all (lies_in (offsets_type end)) xs)
    narrowed-held l = rw wholes (offsets-lie (offsets_type end) end os (narrowed-lies end l) between)

    pub narrowed-plain : primitive (offsets_type end) xs None NonNullable ≡ plain (narrowed end os)
    narrowed-plain = rw (wholes, no_null (end + 1) os between) refl

-- the integers at the root of plain offsets
pub plain_offsets-wholes : (offsets : Tree) (end : ℕ) → ArePlainOffsets offsets end → (p : PType) (xs : List ℤ) (valid : Validity) (n : Nullability) → primitive p xs valid n ≡ offsets → (p ≡ U64) × (xs ≡ map whole_or_zero (rows offsets))
plain_offsets-wholes offsets end own p xs valid n e =
    let is : primitive p xs valid n ≡ plain_of (types.primitive U64 NonNullable) (rows offsets) = e ∙ own.plain ∙ ap (λ t. plain_of t (rows offsets)) own.typed in
    (cc, cc)

pub plain_offsets-root : (offsets : Tree) (end : ℕ) → ArePlainOffsets offsets end → encoding offsets ≡ ids.Primitive
plain_offsets-root offsets end own = ap encoding (own.plain ∙ ap (λ t. plain_of t (rows offsets)) own.typed)
