-- Validity in its one form stands for the same rows.
use Rattle.std.proofs.Common.{◌≡◌, ℕ, Bool, true, false, cond, List, [], ◌∷◌, length, map, Option, Some, None, refl, sym, ap, arith}
use Rattle.std.specs.Prelude.{◌||◌}
use Rattle.std.specs.List.{list_all}
use Rattle.std.proofs.lemmas.Bool.{and_from, and_parts, cond_both, eqb-true, eq-eqb}
use Rattle.vx_base.specs.declared.error.VortexError.{VortexError}
use Rattle.vx_base.specs.declared.dtype.Nullability.{Nullability}
use Rattle.vx_base.specs.Answers.{unless}
use Rattle.vx_base.specs.PlainScalar.{fits}
use Rattle.vx_base.specs.PlainType.{PlainType, allows_null, is_bytes, nullability_of}
use Rattle.vx_base.specs.PlainValue.{PlainValue, bytes, is_short, null}
use Rattle.vx_model.specs.Refusals.{kept, primitive_refusal, validity_allowed, validity_length, var_bin_view_refusal}
use Rattle.vx_model.specs.Rows.{masked_rows, valid_rows}
use Rattle.vx_model.specs.Tree.{Validity}
use Rattle.vx_model.specs.WellFormed.{IsValidityOf}
use Rattle.vx_model.proofs.PackedLemmas.{passed}

-- a mask that is true throughout changes no row
all_masked : (bits : List Bool) (rs : List PlainValue) → list_all (λ bit. bit) bits ≡ true → length bits ≡ length rs → masked_rows bits rs ≡ rs
all_masked [] [] a l = refl
all_masked [] (r ∷ rs) a l = absurd (omega arith)
all_masked (b ∷ bits) [] a l = absurd (omega arith)
all_masked (b ∷ bits) (r ∷ rs) a l = let h = and_parts b (list_all (λ bit. bit) bits) a in λ i. cond (h.0 i) r null ∷ all_masked bits rs h.1 (omega arith) i

pub kept-rows : (valid : Validity) (rs : List PlainValue) → validity_length valid (length rs) ≡ true → valid_rows (kept valid) rs ≡ valid_rows valid rs
kept-rows None rs l = refl
kept-rows (Some bits) rs l =
    cond_both (list_all (λ bit. bit) bits) None (Some bits) (λ valid. valid_rows valid rs ≡ masked_rows bits rs)
    (λ all. sym (all_masked bits rs all (eqb-true _ _ l))) (λ some. refl)

-- nothing is dropped twice
pub kept-kept : (valid : Validity) → kept (kept valid) ≡ kept valid
kept-kept None = refl
kept-kept (Some bits) = cond_both (list_all (λ bit. bit) bits) None (Some bits) (λ valid. kept valid ≡ valid) (λ all. refl) (λ some. rw some refl)

pub kept-length : (valid : Validity) (len : ℕ) → validity_length valid len ≡ true → validity_length (kept valid) len ≡ true
kept-length None len l = refl
kept-length (Some bits) len l = cond_both (list_all (λ bit. bit) bits) None (Some bits) (λ valid. validity_length valid len ≡ true) (λ all. refl) (λ some. l)

pub kept-allowed : (valid : Validity) (n : Nullability) → validity_allowed valid n ≡ true → validity_allowed (kept valid) n ≡ true
kept-allowed None n a = refl
kept-allowed (Some bits) n a = cond_both (list_all (λ bit. bit) bits) None (Some bits) (λ valid. validity_allowed valid n ≡ true) (λ all. refl) (λ some. a)

-- validity of a well-formed node is allowed
pub own-allowed : (valid : Validity) (len : ℕ) (n : Nullability) → IsValidityOf valid len n → validity_allowed valid n ≡ true
own-allowed None len n h = refl
own-allowed (Some bits) len n h = ap (λ m. allows_null m || list_all (λ bit. bit) bits) h.1

pub own-length : (valid : Validity) (len : ℕ) (n : Nullability) → IsValidityOf valid len n → validity_length valid len ≡ true
own-length None len n h = refl
own-length (Some bits) len n h = eq-eqb (length bits) len h.0

pub pass : (b : Bool) (e : VortexError) (o : Option VortexError) → b ≡ true → o ≡ None → unless b e o ≡ None
pass true e o h n = n
pass false e o h n = absurd cc

pub admitted : (valid : Validity) (len : ℕ) (n : Nullability) → validity_length valid len ≡ true → validity_allowed valid n ≡ true → primitive_refusal len valid n ≡ None
admitted valid len n l a = pass _ _ _ l (pass _ _ _ a refl)

-- texts and binaries, whose number and validity are checked as those of any items
pub view_admitted : (vs : List (List ℕ)) (valid : Validity) (t : PlainType) → is_bytes t ≡ true → list_all is_short vs ≡ true → primitive_refusal (length vs) valid (nullability_of t) ≡ None
    → list_all (fits t) (valid_rows (kept valid) (map bytes vs)) ≡ true → var_bin_view_refusal vs valid t ≡ None
view_admitted vs valid t typed short h fit =
    let long = passed _ _ _ h in
    let allowed = passed _ _ _ long.1 in
    pass _ _ _ typed (pass _ _ _ long.0 (pass _ _ _ short (pass _ _ _ (and_from _ _ allowed.0 fit) refl)))
