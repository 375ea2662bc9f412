-- Indices less an offset: they are words, and rise from 0.
use Rattle.std.proofs.Common.{◌≡◌, ◌≤◌, ◌+◌, ◌-◌, ◌∙◌, ℕ, ℤ, pos, true, List, ◌∷◌, length, map, None, refl, sym, ap, arith}
use Rattle.std.specs.Prelude.{◌-ℤ◌}
use Rattle.std.specs.List.{list_all}
use Rattle.std.proofs.lemmas.Bool.{and_from, and_parts, eq-eqb, ltb-true, lt-ltb}
use Rattle.std.proofs.lemmas.Int.{ints}
use Rattle.std.proofs.lemmas.List.{length-map}
use Rattle.vx_base.specs.declared.ptype.PType.{PType}
use Rattle.vx_base.specs.declared.ptype.PType.TheVariants.{U64}
use Rattle.vx_base.specs.declared.dtype.Nullability.{Nullability}
use Rattle.vx_base.specs.Integers.{lies_in}
use Rattle.vx_base.specs.PlainScalar.{fits}
use Rattle.vx_base.specs.PlainType.{PlainType, is_integer}
use Rattle.vx_base.specs.PlainType as types
use Rattle.vx_base.specs.PlainValue.{PlainValue, int, whole_or_zero}
use Rattle.vx_base.specs.Wrapping.{wrap}
use Rattle.vx_base.proofs.WrapLemmas.{wrap-same}
use Rattle.vx_model.specs.Refusals.{patches_refusal}
use Rattle.vx_model.specs.Rows.{rows}
use Rattle.vx_model.specs.Plain.{IsPlain, plain_of}
use Rattle.vx_model.specs.Tree.{Tree, Validity, PlainPatches, primitive}
use Rattle.vx_model.specs.TreeType.{tree_type}
use Rattle.vx_model.specs.WellFormed.{WellFormedPatches, ascend}
use Rattle.vx_model.proofs.AscentLemmas.{by_ascent}
use Rattle.vx_model.proofs.MadeLemmas.{rows_fit}
use Rattle.vx_model.proofs.PatchLemmas.{ascend_from}
use Rattle.vx_model.proofs.RisingLemmas.{word_of}
use Rattle.vx_sparse_array.specs.Resolved.{patched_places, resolved}

-- ---- indices are words

words_held : (t : PlainType) (low high : ℕ) (is : List PlainValue) → is_integer t ≡ true → ascend low high is ≡ true → list_all (fits t) is ≡ true → list_all (lies_in U64) (map whole_or_zero is) ≡ true
words_held t low high is j =
    by_ascent high (λ low is. list_all (fits t) is ≡ true → list_all (lies_in U64) (map whole_or_zero is) ≡ true) (λ low f. refl)
    (λ low n is from under rest later f. (let d = and_parts (fits t (int (pos n))) (list_all (fits t) is) f in and_from _ _ (word_of t n d.0) (later d.1))) low is

-- ---- less the offset it is one too

less-word : (n offset : ℕ) → offset ≤ n → lies_in U64 (pos n) ≡ true → wrap U64 (pos n -ℤ pos offset) ≡ pos n -ℤ pos offset
less-word n offset l h =
    let less : pos n -ℤ pos offset ≡ pos (n - offset) = omega (arith, ints) in
    let held : lies_in U64 (pos (n - offset)) ≡ true = lt-ltb _ _ (omega (arith, ltb-true _ _ h)) in
    wrap-same U64 (pos n -ℤ pos offset) (ap (lies_in U64) less ∙ held)

words-less : (t : PlainType) (offset low high : ℕ) (is : List PlainValue) → is_integer t ≡ true → ascend low high is ≡ true → list_all (fits t) is ≡ true → offset ≤ low
    → map (λ z. wrap U64 (z -ℤ pos offset)) (map whole_or_zero is) ≡ map (λ v. whole_or_zero v -ℤ pos offset) is
words-less t offset low high is j =
    by_ascent high (λ low is. list_all (fits t) is ≡ true → offset ≤ low → map (λ z. wrap U64 (z -ℤ pos offset)) (map whole_or_zero is) ≡ map (λ v. whole_or_zero v -ℤ pos offset) is)
    (λ low f l. refl)
    (λ low n is from under rest later f l. (let d = and_parts (fits t (int (pos n))) (list_all (fits t) is) f in
    let here = less-word n offset (omega arith) (word_of t n d.0) in
    let others = later d.1 (omega arith) in
    λ i. here i ∷ others i)) low is

-- ---- and they rise from 0

less-ascends : (offset len low : ℕ) (is : List PlainValue) → ascend low (offset + len) is ≡ true → offset ≤ low → ascend (low - offset) (0 + len) (map int (map (λ v. whole_or_zero v -ℤ pos offset) is)) ≡ true
less-ascends offset len low is =
    by_ascent (offset + len) (λ low is. offset ≤ low → ascend (low - offset) (0 + len) (map int (map (λ v. whole_or_zero v -ℤ pos offset) is)) ≡ true)
    (λ low l. refl)
    (λ low n is from under rest later l. (let less : pos n -ℤ pos offset ≡ pos (n - offset) = omega (arith, ints) in
    let next : n + 1 - offset ≡ n - offset + 1 = omega arith in
    let others = map int (map (λ v. whole_or_zero v -ℤ pos offset) is) in
    ap (λ z. ascend (low - offset) (0 + len) (int z ∷ others)) less
    ∙ ascend_from (low - offset) (0 + len) (n - offset) others (omega arith) (omega arith) (ap (λ k. ascend k (0 + len) others) (sym next) ∙ later (omega arith)))) low is

-- ---- the numbers of a plain tree are its rows'

pub plain_numbers : (t : Tree) (p : PType) (xs : List ℤ) (valid : Validity) (n : Nullability) → primitive p xs valid n ≡ t → IsPlain t → xs ≡ map whole_or_zero (rows t)
plain_numbers t p xs valid n e plain =
    let typed : types.primitive p n ≡ tree_type t = ap tree_type e in
    of_node (e ∙ plain ∙ ap (λ s. plain_of s (rows t)) (sym typed))
  where
    of_node : primitive p xs valid n ≡ plain_of (types.primitive p n) (rows t) → xs ≡ map whole_or_zero (rows t)
    of_node f = cc

-- ---- patches with offset 0

module _ (p : PlainPatches) (w : WellFormedPatches p) where
  pub indices-held : list_all (lies_in U64) (map whole_or_zero (rows p.indices)) ≡ true
  indices-held = words_held (tree_type p.indices) p.offset (p.offset + p.array_len) (rows p.indices) w.2.indices_type w.2.ascending (rows_fit p.indices w.0)

  pub places-are : map (λ z. wrap U64 (z -ℤ pos p.offset)) (map whole_or_zero (rows p.indices)) ≡ patched_places p
  places-are =
      words-less (tree_type p.indices) p.offset p.offset (p.offset + p.array_len) (rows p.indices) w.2.indices_type w.2.ascending (rows_fit p.indices w.0) (omega arith)

  places-long : length (map int (patched_places p)) ≡ length (rows p.values)
  places-long = length-map (patched_places p) int ∙ length-map (rows p.indices) (λ v. whole_or_zero v -ℤ pos p.offset) ∙ w.2.lengths

  places-rise : ascend 0 (0 + p.array_len) (map int (patched_places p)) ≡ true
  places-rise =
      let none : p.offset - p.offset ≡ 0 = omega arith in
      ap (λ k. ascend k (0 + p.array_len) (map int (patched_places p))) (sym none) ∙ less-ascends p.offset p.array_len p.offset (rows p.indices) w.2.ascending (omega arith)

  pub resolved-admitted : patches_refusal (resolved p) ≡ None
  resolved-admitted = rw (eq-eqb _ _ places-long, places-rise) refl
