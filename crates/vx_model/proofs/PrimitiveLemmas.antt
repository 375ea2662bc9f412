-- When the root of a tree is a Primitive, and trees with its validity and other integers.
use Rattle.std.proofs.Common.{◌≡◌, ◌∙◌, ℕ, ℤ, List, length, refl, sym, ap, subst, Some, None}
use Rattle.std.specs.Prelude.{IsTrue}
use Rattle.std.proofs.lemmas.Bool.{eq-eqb}
use Rattle.vx_base.specs.declared.array_id.ArrayId.TheVariants as ids
use Rattle.vx_base.specs.declared.dtype.Nullability.{Nullability}
use Rattle.vx_base.specs.declared.ptype.PType.{PType}
use Rattle.vx_base.specs.PlainType.{PlainType, is_integer, nullability_of}
use Rattle.vx_base.specs.PlainType as types
use Rattle.vx_base.specs.PlainValue.{PlainValue}
use Rattle.vx_model.specs.Nodes.{encoding}
use Rattle.vx_model.specs.Plain.{IsPlain, plain_of, validity}
use Rattle.vx_model.specs.Refusals.{kept, primitive_refusal}
use Rattle.vx_model.specs.Rows.{rows}
use Rattle.vx_model.specs.Tree.{Tree, Validity, primitive}
use Rattle.vx_model.specs.TreeType.{tree_type}
use Rattle.vx_model.specs.WellFormed.{WellFormed, IsValidityOf}
use Rattle.vx_model.proofs.DecodeLemmas.{validity-cells}
use Rattle.vx_model.proofs.RowLemmas.{length-primitive}

encoding-plain_of : (t : PlainType) (vs : List PlainValue) → IsTrue (is_integer t) → encoding (plain_of t vs) ≡ ids.Primitive
encoding-plain_of (types.primitive p n) vs h = refl
encoding-plain_of t vs h = absurd cc

-- a plain tree of integers
pub encoding-plain : (t : Tree) → IsTrue (is_integer (tree_type t)) → IsPlain t → encoding t ≡ ids.Primitive
encoding-plain t h e = ap encoding e ∙ encoding-plain_of (tree_type t) (rows t) h

pub ruleset plain_roots = (encoding-plain)

-- ---- validity bits that stand exactly where some row isn't valid

primitive_refusal-validity : (valid : Validity) (len : ℕ) (n : Nullability) → IsValidityOf valid len n → primitive_refusal len valid n ≡ None
primitive_refusal-validity None len n h = refl
primitive_refusal-validity (Some bits) len n h = rw (eq-eqb _ _ h.0, h.1) refl

kept-validity : (valid : Validity) (len : ℕ) (n : Nullability) → IsValidityOf valid len n → kept valid ≡ valid
kept-validity None len n h = refl
kept-validity (Some bits) len n h = rw h.2 refl

-- a tree of other integers, with the validity and the nullability of a Primitive, is made
pub record IsOther (t : Tree) (p : PType) (xs : List ℤ) (valid : Validity) (n : Nullability) : Type 0 where
  pub accepted : primitive_refusal (length xs) valid n ≡ None
  pub made : primitive p xs (kept valid) n ≡ primitive p xs (validity (rows t)) (nullability_of (tree_type t))

other : (p q : PType) (xs ys : List ℤ) (valid : Validity) (n : Nullability) → WellFormed (primitive q ys valid n) → length xs ≡ length (rows (primitive q ys valid n)) → IsOther (primitive q ys valid n) p xs valid n
other p q xs ys valid n w e =
    let same : length xs ≡ length ys = e ∙ length-primitive q ys valid n w in
    let bits = w.0.validity in
    record {
      accepted = primitive_refusal-validity valid (length xs) n (subst (λ len. IsValidityOf valid len n) (sym same) bits);
      made = ap (λ v. primitive p xs v n) (kept-validity valid (length ys) n bits ∙ sym (validity-cells valid ys n bits));
    }

pub other_integers : (t : Tree) (p q : PType) (xs ys : List ℤ) (valid : Validity) (n : Nullability) → primitive q ys valid n ≡ t → WellFormed (primitive q ys valid n) → length xs ≡ length (rows t) → IsOther t p xs valid n
other_integers t p q xs ys valid n e w = subst (λ t. length xs ≡ length (rows t) → IsOther t p xs valid n) e (other p q xs ys valid n w)
