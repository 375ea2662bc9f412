-- Rows that rise, and their numbers as words.
use Rattle.std.proofs.Common.{◌≡◌, ◌≤◌, ◌+◌, ℕ, zero, suc, pos, Bool, true, false, List, ◌∷◌, map, cond, refl, arith}
use Rattle.std.specs.Prelude.{filter}
use Rattle.std.specs.List.{range_with_len}
use Rattle.std.proofs.lemmas.Bool.{ltb-true, lt-ltb}
use Rattle.vx_base.specs.declared.ptype.PType.{PType}
use Rattle.vx_base.specs.declared.ptype.PType.TheVariants.{U64, U8, U16, U32, I8, I16, I32, I64}
use Rattle.vx_base.specs.Integers.{lies_in}
use Rattle.vx_base.specs.PlainScalar.{fits}
use Rattle.vx_base.specs.PlainType.{PlainType}
use Rattle.vx_base.specs.PlainType as types
use Rattle.vx_base.specs.PlainValue.{PlainValue, int}
use Rattle.vx_model.specs.WellFormed.{ascend}
use Rattle.vx_model.proofs.PatchLemmas.{ascend_from}
use Rattle.vx_model.proofs.AscentLemmas.{by_ascent}

-- what rises from a number rises from a lower one
pub ascend-lower : (low lower high : ℕ) (is : List PlainValue) → lower ≤ low → ascend low high is ≡ true → ascend lower high is ≡ true
ascend-lower low lower high is l h =
    by_ascent high (λ first is. (before : ℕ) → before ≤ first → ascend before high is ≡ true) (λ first before l. refl) (λ first n is from under rest later before l. ascend_from before high n is (omega arith) under rest) low is h lower l

-- the numbers of a range that are chosen rise
pub filter-ascends : (p : ℕ → Bool) (start n high : ℕ) → start + n ≤ high → ascend start high (map int (map pos (filter p (range_with_len start n)))) ≡ true
filter-ascends p start zero high h = refl
filter-ascends p start (suc n) high h = pick (p start) (filter-ascends p (start + 1) n high (omega arith))
  where
    pick : (b : Bool) → ascend (start + 1) high (map int (map pos (filter p (range_with_len (start + 1) n)))) ≡ true
        → ascend start high (map int (map pos (cond b (start ∷ filter p (range_with_len (start + 1) n)) (filter p (range_with_len (start + 1) n))))) ≡ true
    pick true rest = ascend_from start high start _ (omega arith) (omega arith) rest
    pick false rest = ascend-lower (start + 1) start high _ (omega arith) rest

natural_word : (p : PType) (n : ℕ) → lies_in p (pos n) ≡ true → lies_in U64 (pos n) ≡ true
natural_word U8 n h = lt-ltb _ _ (omega (arith, ltb-true _ _ h))
natural_word U16 n h = lt-ltb _ _ (omega (arith, ltb-true _ _ h))
natural_word U32 n h = lt-ltb _ _ (omega (arith, ltb-true _ _ h))
natural_word U64 n h = lt-ltb _ _ (omega (arith, ltb-true _ _ h))
natural_word I8 n h = lt-ltb _ _ (omega (arith, ltb-true _ _ h))
natural_word I16 n h = lt-ltb _ _ (omega (arith, ltb-true _ _ h))
natural_word I32 n h = lt-ltb _ _ (omega (arith, ltb-true _ _ h))
natural_word I64 n h = lt-ltb _ _ (omega (arith, ltb-true _ _ h))

-- a number from 0 on that fits some type is a word
pub word_of : (t : PlainType) (n : ℕ) → fits t (int (pos n)) ≡ true → lies_in U64 (pos n) ≡ true
word_of (types.primitive p m) n h = natural_word p n h
word_of (types.timestamp k m) n h = natural_word I64 n h
word_of t n h = absurd cc
