-- Columns that are summed: their types, and what one value in every row comes to.
use Rattle.std.proofs.Common.{◌≡◌, zero, suc, ℤ, pos, negsuc, Bool, true, false, map, None, refl, arith}
use Rattle.std.specs.Prelude.{◌||◌, replicate, Result, Err}
use Rattle.std.specs.List.{list_all}
use Rattle.std.proofs.lemmas.Bool.{and_parts}
use Rattle.std.proofs.lemmas.Bool.Decides.{nat_tests}
use Rattle.vx_base.specs.declared.ptype.PType.{PType}
use Rattle.vx_base.specs.declared.ptype.PType.TheVariants as kinds
use Rattle.vx_base.specs.CellValue.{cell_value}
use Rattle.vx_base.specs.Integers.{lies_in}
use Rattle.vx_base.specs.declared.dtype.Nullability.TheVariants.{Nullable}
use Rattle.vx_base.specs.declared.error.VortexError.{VortexError}
use Rattle.vx_base.specs.declared.error.VortexError.TheVariants.{MismatchedTypes}
use Rattle.vx_base.specs.Answers.{Answers, Decided, OrMemory, unless}
use Rattle.vx_base.specs.PlainScalar.{PlainScalar, fits, scalar}
use Rattle.vx_base.specs.PlainType.{PlainType, is_flat}
use Rattle.vx_base.specs.PlainType as types
use Rattle.vx_base.specs.PlainValue.{PlainValue, null, truth, int, bytes, items}
use Rattle.vx_base.specs.Undelta.{total}
use Rattle.vx_model.specs.Column.{Column}
use Rattle.vx_rules.specs.Aggregates.{or_null, sum, sum_ptype, sum_refusal, summand}
use Rattle.vx_rows.specs.declared.lent.Lent.{Lent}
use Rattle.vx_rows.specs.declared.lent.Lent.TheVariants.{Bits, Ints, Bytes, Same}
use Rattle.vx_rows.specs.Readable.{lent_rows}
use Rattle.vx_rows.specs.Totals.{has_total, is_summed, is_word}
use Rattle.vx_rows.proofs.ExtremeLemmas.{same-answer}

pub summed-flat : (t : PlainType) → is_summed t ≡ true → is_flat t ≡ true
summed-flat (types.boolean n) h = refl
summed-flat (types.primitive p n) h = refl
summed-flat t h = absurd cc

word-in : (p : PType) (z : ℤ) → lies_in p z ≡ true → (lies_in kinds.I64 z || lies_in kinds.U64 z) ≡ true
word-in kinds.U8 (pos n) h = grind (arith, nat_tests)
word-in kinds.U16 (pos n) h = grind (arith, nat_tests)
word-in kinds.U32 (pos n) h = grind (arith, nat_tests)
word-in kinds.U64 (pos n) h = grind (arith, nat_tests)
word-in kinds.I8 (pos n) h = grind (arith, nat_tests)
word-in kinds.I16 (pos n) h = grind (arith, nat_tests)
word-in kinds.I32 (pos n) h = grind (arith, nat_tests)
word-in kinds.I64 (pos n) h = grind (arith, nat_tests)
word-in kinds.I8 (negsuc n) h = grind (arith, nat_tests)
word-in kinds.I16 (negsuc n) h = grind (arith, nat_tests)
word-in kinds.I32 (negsuc n) h = grind (arith, nat_tests)
word-in kinds.I64 (negsuc n) h = grind (arith, nat_tests)
word-in p (negsuc n) h = absurd cc

word-fits : (t : PlainType) (v : PlainValue) → fits t v ≡ true → is_word v ≡ true
word-fits (types.primitive p n) (int z) h = word-in p z h
word-fits (types.timestamp k n) (int z) h = word-in kinds.I64 z h
word-fits t (int z) h = absurd cc
word-fits t null h = refl
word-fits t (truth b) h = refl
word-fits t (bytes bs) h = refl
word-fits t (items vs) h = refl

or-left : (b c : Bool) → b ≡ true → (b || c) ≡ true
or-left true c e = refl
or-left false c e = absurd cc

or-right : (b c : Bool) → c ≡ true → (b || c) ≡ true
or-right true c e = refl
or-right false c e = e

pub sized : (t : PlainType) (rows : Lent) → list_all (fits t) (lent_rows rows) ≡ true → has_total rows ≡ true
sized t (Bits bs valid) h = refl
sized t (Ints xs valid) h = refl
sized t (Bytes bss valid) h = refl
sized t (Same v zero) h = or-right (is_word (cell_value v)) true refl
sized t (Same v (suc n)) h = or-left (is_word (cell_value v)) _ (word-fits t (cell_value v) (and_parts (fits t (cell_value v)) (list_all (fits t) (replicate n (cell_value v))) h).0)

-- ---- what a sum answers

by-test : {A : Type 0} (b : Bool) (e : VortexError) (P : A → Type 0) (r : Result A VortexError) → b ≡ true → OrMemory r P → Decided (unless b e None) P r
by-test true e P r h a = a
by-test false e P r h a = absurd cc

pub sum-refused : (c : Column) (P : PlainScalar → Type 0) → is_summed c.dtype ≡ false → Decided (sum_refusal c) P (Err MismatchedTypes)
sum-refused c P h = by (is_summed c.dtype) h
  where
    by : (b : Bool) → b ≡ false → Decided (unless b MismatchedTypes None) P (Err MismatchedTypes)
    by true e = absurd cc
    by false e = refl

pub sum-answered : (c : Column) (p : PType) (z : ℤ) (r : Result PlainScalar VortexError) → is_summed c.dtype ≡ true → p ≡ sum_ptype c.dtype → z ≡ total (map summand c.values)
    → Answers r (scalar (types.primitive p Nullable) (or_null p z)) → Decided (sum_refusal c) (λ out. out ≡ sum c) r
sum-answered c p z r h e f a =
    by-test (is_summed c.dtype) MismatchedTypes (λ out. out ≡ sum c) r h
    (same-answer r (scalar (types.primitive p Nullable) (or_null p z)) (sum c) (λ i. scalar (types.primitive (e i) Nullable) (or_null (e i) (f i))) a)
