-- The counts of a column: the first is the number of its own rows, and those of concatenated columns are sums.
use Rattle.std.proofs.Common.{◌≡◌, ◌≤◌, ◌+◌, ◌++◌, ◌∙◌, ℕ, List, [], ◌∷◌, length, map, true, refl, sym, ap, subst, arith}
use Rattle.std.specs.Prelude.{nat_le}
use Rattle.std.specs.List.{list_all}
use Rattle.std.proofs.lemmas.Bool.{and_parts, leb-true}
use Rattle.std.proofs.lemmas.List.{length-append, map-append}
use Rattle.vx_base.specs.Defaults.{or_default, field_defaults}
use Rattle.vx_base.specs.PlainType.{PlainType, PlainFields, boolean, primitive, utf8, binary, timestamp, is_flat}
use Rattle.vx_base.specs.PlainType as types
use Rattle.vx_base.specs.PlainValue.{PlainValue, PlainValues, items, items_or_empty}
use Rattle.vx_model.specs.Extents.{counts, field_counts}
use Rattle.vx_model.specs.Laws.{AreWithin}
use Rattle.vx_model.specs.Nested.{within, first_within, rest_within, concatenated, struct_rows, elements, list_rows, fixed_rows, fixed_elements}
use Rattle.vx_model.proofs.JoinedLemmas.{concatenated-append}

-- a flat type has one count
pub counts-flat : (t : PlainType) (vs : List PlainValue) → is_flat t ≡ true → counts t vs ≡ length vs ∷ []
counts-flat (boolean n) vs h = refl
counts-flat (primitive p n) vs h = refl
counts-flat (utf8 n) vs h = refl
counts-flat (binary n) vs h = refl
counts-flat (timestamp k n) vs h = refl
counts-flat t vs h = absurd cc

pub counts-first : (t : PlainType) (vs : List PlainValue) → (rest : List ℕ) × (counts t vs ≡ length vs ∷ rest)
counts-first types.null_type vs = ([], refl)
counts-first (boolean n) vs = ([], refl)
counts-first (primitive p n) vs = ([], refl)
counts-first (utf8 n) vs = ([], refl)
counts-first (binary n) vs = ([], refl)
counts-first (timestamp k n) vs = ([], refl)
counts-first (types.structure fs n) vs = (field_counts fs (struct_rows fs vs), refl)
counts-first (types.list t n) vs = (counts t (elements vs), refl)
counts-first (types.fixed_size_list t size n) vs = (counts t (fixed_elements t size vs), refl)

-- where each count is within a limit, so are the rows
pub rows-few : (t : PlainType) (vs : List PlainValue) (most : ℕ) → list_all (λ count. nat_le count most) (counts t vs) ≡ true → length vs ≤ most
rows-few t vs most h =
    let first = counts-first t vs in
    leb-true (length vs) most (and_parts (nat_le (length vs) most) (list_all (λ count. nat_le count most) first.0) (subst (λ cs. list_all (λ count. nat_le count most) cs ≡ true) first.1 h)).0

-- ---- numbers at most others, index by index

pub within-same : (ns : List ℕ) → AreWithin ns ns
within-same [] = tt
within-same (n ∷ ns) = (omega arith, within-same ns)

pub within-next : (ks ms ns : List ℕ) → AreWithin ks ms → AreWithin ms ns → AreWithin ks ns
within-next [] [] [] h l = tt
within-next (k ∷ ks) (m ∷ ms) (n ∷ ns) h l = (let a = h.0 in let b = l.0 in omega arith, within-next ks ms ns h.1 l.1)
within-next [] [] (n ∷ ns) h l = absurd l
within-next [] (m ∷ ms) ns h l = absurd h
within-next (k ∷ ks) [] ns h l = absurd h
within-next (k ∷ ks) (m ∷ ms) [] h l = absurd l

pub within-append : (ks ms ls ns : List ℕ) → AreWithin ks ms → AreWithin ls ns → AreWithin (ks ++ ls) (ms ++ ns)
within-append [] [] ls ns h l = l
within-append (k ∷ ks) (m ∷ ms) ls ns h l = (h.0, within-append ks ms ls ns h.1 l)
within-append [] (m ∷ ms) ls ns h l = absurd h
within-append (k ∷ ks) [] ls ns h l = absurd h

-- sums, index by index
abbrev pub sums : List ℕ → List ℕ → List ℕ
sums [] ns = []
sums (m ∷ ms) [] = []
sums (m ∷ ms) (n ∷ ns) = (m + n) ∷ sums ms ns

pub within-sums : (ks ms ls ns : List ℕ) → AreWithin ks ms → AreWithin ls ns → AreWithin (sums ks ls) (sums ms ns)
within-sums [] [] ls ns h l = tt
within-sums [] (m ∷ ms) ls ns h l = absurd h
within-sums (k ∷ ks) [] ls ns h l = absurd h
within-sums (k ∷ ks) (m ∷ ms) [] [] h l = tt
within-sums (k ∷ ks) (m ∷ ms) [] (n ∷ ns) h l = absurd l
within-sums (k ∷ ks) (m ∷ ms) (x ∷ ls) [] h l = absurd l
within-sums (k ∷ ks) (m ∷ ms) (x ∷ ls) (n ∷ ns) h l = (let a = h.0 in let b = l.0 in omega arith, within-sums ks ms ls ns h.1 l.1)

sums-append : (ks ms ls ns : List ℕ) → length ks ≡ length ms → sums (ks ++ ls) (ms ++ ns) ≡ sums ks ms ++ sums ls ns
sums-append [] [] ls ns e = refl
sums-append [] (m ∷ ms) ls ns e = absurd (omega arith)
sums-append (k ∷ ks) [] ls ns e = absurd (omega arith)
sums-append (k ∷ ks) (m ∷ ms) ls ns e = ap (λ rest. (k + m) ∷ rest) (sums-append ks ms ls ns (omega arith))

-- ---- the number of counts is determined by the type

mutual
  pub counts-width : (t : PlainType) (vs ws : List PlainValue) → length (counts t vs) ≡ length (counts t ws)
  counts-width types.null_type vs ws = refl
  counts-width (boolean n) vs ws = refl
  counts-width (primitive p n) vs ws = refl
  counts-width (utf8 n) vs ws = refl
  counts-width (binary n) vs ws = refl
  counts-width (timestamp k n) vs ws = refl
  counts-width (types.structure fs n) vs ws = let rest = field_counts-width fs (struct_rows fs vs) (struct_rows fs ws) in omega arith
  counts-width (types.list t n) vs ws = let rest = counts-width t (elements vs) (elements ws) in omega arith
  counts-width (types.fixed_size_list t size n) vs ws = let rest = counts-width t (fixed_elements t size vs) (fixed_elements t size ws) in omega arith

  field_counts-width : (fs : PlainFields) (rs qs : List PlainValues) → length (field_counts fs rs) ≡ length (field_counts fs qs)
  field_counts-width types.none rs qs = refl
  field_counts-width (types.more name t fs) rs qs =
      let first = counts-width t (map first_within rs) (map first_within qs) in
      let rest = field_counts-width fs (map rest_within rs) (map rest_within qs) in
      omega (arith, length-append {A = ℕ})

-- ---- concatenated columns

pub elements-append : (vs ws : List PlainValue) → elements (vs ++ ws) ≡ elements vs ++ elements ws
elements-append vs ws = ap concatenated (map-append items_or_empty vs ws) ∙ concatenated-append (list_rows vs) (list_rows ws)

mutual
  pub counts-append : (t : PlainType) (vs ws : List PlainValue) → counts t (vs ++ ws) ≡ sums (counts t vs) (counts t ws)
  counts-append types.null_type vs ws = ap (λ n. n ∷ []) (length-append vs ws)
  counts-append (boolean n) vs ws = ap (λ n. n ∷ []) (length-append vs ws)
  counts-append (primitive p n) vs ws = ap (λ n. n ∷ []) (length-append vs ws)
  counts-append (utf8 n) vs ws = ap (λ n. n ∷ []) (length-append vs ws)
  counts-append (binary n) vs ws = ap (λ n. n ∷ []) (length-append vs ws)
  counts-append (timestamp k n) vs ws = ap (λ n. n ∷ []) (length-append vs ws)
  counts-append (types.structure fs n) vs ws =
      λ i. length-append vs ws i ∷ (ap (field_counts fs) (map-append (λ v. within (or_default (items (field_defaults fs)) v)) vs ws) ∙ field_counts-append fs (struct_rows fs vs) (struct_rows fs ws)) i
  counts-append (types.list t n) vs ws = λ i. length-append vs ws i ∷ (ap (counts t) (elements-append vs ws) ∙ counts-append t (elements vs) (elements ws)) i
  counts-append (types.fixed_size_list t size n) vs ws =
      λ i. length-append vs ws i ∷ (
      ap (λ rs. counts t (elements rs)) (map-append _ vs ws) ∙ ap (counts t) (elements-append (fixed_rows t size vs) (fixed_rows t size ws)) ∙ counts-append t (fixed_elements t size vs) (fixed_elements t size ws)
      ) i

  field_counts-append : (fs : PlainFields) (rs qs : List PlainValues) → field_counts fs (rs ++ qs) ≡ sums (field_counts fs rs) (field_counts fs qs)
  field_counts-append types.none rs qs = refl
  field_counts-append (types.more name t fs) rs qs =
      (λ i. (ap (counts t) (map-append first_within rs qs) ∙ counts-append t (map first_within rs) (map first_within qs)) i ++ (ap (field_counts fs) (map-append rest_within rs qs) ∙ field_counts-append fs (map rest_within rs) (map rest_within qs)) i)
      ∙ sym (sums-append _ _ _ _ (counts-width t (map first_within rs) (map first_within qs)))

-- the counts of no rows are at most any others
pub counts-none : (t : PlainType) (ns : List ℕ) (vs : List PlainValue) → length ns ≡ length (counts t vs) → AreWithin (counts t []) ns
counts-none t ns vs e = doubled (counts t []) ns (counts-append t [] []) (counts-width t [] vs ∙ sym e)
  where
    doubled : (ms ns : List ℕ) → ms ≡ sums ms ms → length ms ≡ length ns → AreWithin ms ns
    doubled [] [] d e = tt
    doubled [] (n ∷ ns) d e = absurd (omega arith)
    doubled (m ∷ ms) [] d e = absurd (omega arith)
    doubled (m ∷ ms) (n ∷ ns) d e =
        let first : m ≡ m + m = cc in
        let rest : ms ≡ sums ms ms = cc in
        (omega arith, doubled ms ns rest (omega arith))
