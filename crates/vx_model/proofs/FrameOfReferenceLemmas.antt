-- Each difference from a reference is in the range of the unsigned type of its width.
use Rattle.std.proofs.Common.{◌≡◌, ◌<◌, ℕ, zero, suc, ℤ, pos, negsuc, List, [], ◌∷◌, length, Bool, true, refl, subst, ap, sym, ◌∙◌, arith}
use Rattle.std.specs.List.{list_all}
use Rattle.std.proofs.lemmas.Bool.{and_parts, and_from, lt-ltb, ltb-true}
use Rattle.vx_base.specs.declared.ptype.PType.{PType}
use Rattle.vx_base.specs.declared.ptype.PType.TheVariants.{U8, U16, U32, U64, I8, I16, I32, I64}
use Rattle.vx_base.specs.Integers.{lies_in, unsigned_of}
use Rattle.vx_base.specs.PlainScalar.{PlainScalar, fits}
use Rattle.vx_base.specs.PlainType.{integer_of}
use Rattle.vx_base.specs.PlainValue.{PlainValue, int}
use Rattle.vx_model.specs.Tree.{Tree, frame_of_reference}
use Rattle.vx_model.specs.Rows.{rows, row_at}
use Rattle.vx_model.specs.TreeType.{tree_type}
use Rattle.vx_model.specs.WellFormed.{WellFormed, differences_type}
use Rattle.vx_model.proofs.MadeLemmas.{rows_fit}

pub row_passes : (p : PlainValue → Bool) (vs : List PlainValue) (i : ℕ) → i < length vs → list_all p vs ≡ true → p (row_at vs i) ≡ true
row_passes p [] i h e = absurd (omega arith)
row_passes p (v ∷ vs) zero h e = (and_parts _ _ e).0
row_passes p (v ∷ vs) (suc i) h e = row_passes p vs i (omega arith) (and_parts _ _ e).1

pub row_fits : (t : Tree) (i : ℕ) → WellFormed t → i < length (rows t) → fits (tree_type t) (row_at (rows t) i) ≡ true
row_fits t i h l = row_passes (fits (tree_type t)) (rows t) i l (rows_fit t h)

pub difference-held : (encoded : Tree) (reference : PlainScalar) (i : ℕ) (z : ℤ) → WellFormed (frame_of_reference encoded reference) → i < length (rows encoded) → row_at (rows encoded) i ≡ int z
    → lies_in (unsigned_of (integer_of reference.dtype)) z ≡ true
difference-held encoded reference i z h l e =
    ap (λ v. fits (differences_type reference.dtype (tree_type encoded)) v) (sym e) ∙ subst (λ t. fits t (row_at (rows encoded) i) ≡ true) h.1.encoded_type (row_fits encoded i h.0 l)

unsigned_word : (p : PType) (z : ℤ) → lies_in (unsigned_of p) z ≡ true → lies_in U64 z ≡ true
unsigned_word U8 (pos n) h = lt-ltb _ _ (omega (arith, ltb-true _ _ h))
unsigned_word U8 (negsuc n) h = absurd cc
unsigned_word U16 (pos n) h = lt-ltb _ _ (omega (arith, ltb-true _ _ h))
unsigned_word U16 (negsuc n) h = absurd cc
unsigned_word U32 (pos n) h = lt-ltb _ _ (omega (arith, ltb-true _ _ h))
unsigned_word U32 (negsuc n) h = absurd cc
unsigned_word U64 (pos n) h = lt-ltb _ _ (omega (arith, ltb-true _ _ h))
unsigned_word U64 (negsuc n) h = absurd cc
unsigned_word I8 (pos n) h = lt-ltb _ _ (omega (arith, ltb-true _ _ h))
unsigned_word I8 (negsuc n) h = absurd cc
unsigned_word I16 (pos n) h = lt-ltb _ _ (omega (arith, ltb-true _ _ h))
unsigned_word I16 (negsuc n) h = absurd cc
unsigned_word I32 (pos n) h = lt-ltb _ _ (omega (arith, ltb-true _ _ h))
unsigned_word I32 (negsuc n) h = absurd cc
unsigned_word I64 (pos n) h = lt-ltb _ _ (omega (arith, ltb-true _ _ h))
unsigned_word I64 (negsuc n) h = absurd cc

pub difference-word : (encoded : Tree) (reference : PlainScalar) (i : ℕ) (z : ℤ) → WellFormed (frame_of_reference encoded reference) → i < length (rows encoded) → row_at (rows encoded) i ≡ int z → lies_in U64 z ≡ true
difference-word encoded reference i z h l e = unsigned_word (integer_of reference.dtype) z (difference-held encoded reference i z h l e)

pub unsigned_wholes-word : (p : PType) (zs : List ℤ) → unsigned_of p ≡ p → list_all (lies_in p) zs ≡ true → list_all (lies_in U64) zs ≡ true
unsigned_wholes-word p [] e h = refl
unsigned_wholes-word p (z ∷ zs) e h = let b = and_parts _ _ h in and_from _ _ (unsigned_word p z (subst (λ q. lies_in q z ≡ true) (sym e) b.0)) (unsigned_wholes-word p zs e b.1)

pub ruleset unsigned_wholes = (unsigned_wholes-word)
