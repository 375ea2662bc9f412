-- Validity where two conditions hold at once: its length, what it admits, and its rows.
use Rattle.std.proofs.Common.{◌≡◌, ◌<◌, ◌≤◌, ◌+◌, ◌++◌, ℕ, zero, suc, Bool, true, false, cond, List, [], ◌∷◌, length, take, Some, None, refl, sym, ap, arith, ◌∙◌}
use Rattle.std.specs.Prelude.{◌&&◌, slice_index_or}
use Rattle.std.proofs.lemmas.Bool.{eq-eqb, eqb-true}
use Rattle.vx_base.specs.declared.dtype.Nullability.{Nullability}
use Rattle.vx_base.specs.declared.dtype.Nullability.TheVariants.{Nullable}
use Rattle.vx_base.specs.PlainType.{or_nullable}
use Rattle.vx_base.specs.PlainValue.{PlainValue, null}
use Rattle.vx_model.specs.Refusals.{kept, primitive_refusal, validity_allowed, validity_length}
use Rattle.vx_model.specs.Rows.{masked_rows, valid_rows}
use Rattle.vx_model.specs.Tree.{Validity}
use Rattle.vx_model.specs.WellFormed.{IsValidityOf}
use Rattle.vx_selections.specs.Narrowed.{also, both, narrowed}
use Rattle.vx_selections.proofs.Validities.{admitted, kept-rows}

-- ---- bit by bit

both-step : (xs ys : List Bool) (row : ℕ) → row < length xs → length xs ≡ length ys
    → both (take (suc row) xs) (take (suc row) ys) ≡ both (take row xs) (take row ys) ++ (slice_index_or xs row false && slice_index_or ys row false) ∷ []
both-step [] ys row l e = absurd (omega arith)
both-step (x ∷ xs) [] row l e = absurd (omega arith)
both-step (x ∷ xs) (y ∷ ys) zero l e = refl
both-step (x ∷ xs) (y ∷ ys) (suc row) l e = ap (λ bs. (x && y) ∷ bs) (both-step xs ys row (omega arith) (omega arith))

pub both-next : (xs ys : List Bool) (row : ℕ) → row < length xs → length xs ≡ length ys
    → both (take (row + 1) xs) (take (row + 1) ys) ≡ both (take row xs) (take row ys) ++ (slice_index_or xs row false && slice_index_or ys row false) ∷ []
both-next xs ys row l e = let next : row + 1 ≡ suc row = omega arith in ap (λ n. both (take n xs) (take n ys)) next ∙ both-step xs ys row l e

length-both : (xs ys : List Bool) → length xs ≡ length ys → length (both xs ys) ≡ length ys
length-both [] [] e = refl
length-both [] (y ∷ ys) e = absurd (omega arith)
length-both (x ∷ xs) [] e = absurd (omega arith)
length-both (x ∷ xs) (y ∷ ys) e = ap suc (length-both xs ys (omega arith))

-- ---- length

pub length-also : (own : Validity) (bits : List Bool) → validity_length own (length bits) ≡ true → length (also own bits) ≡ length bits
length-also None bits e = refl
length-also (Some xs) bits e = length-both xs bits (eqb-true _ _ e)

pub length-narrowed : (own valid : Validity) (len : ℕ) → validity_length own len ≡ true → validity_length valid len ≡ true → validity_length (narrowed own valid) len ≡ true
length-narrowed own None len o v = o
length-narrowed own (Some bits) len o v =
    let long = eqb-true _ _ v in
    eq-eqb _ _ (length-also own bits (ap (validity_length own) long ∙ o) ∙ long)

-- ---- what is admitted

pub bits-allowed : (bits : List Bool) (n : Nullability) → n ≡ Nullable → validity_allowed (Some bits) n ≡ true
bits-allowed bits n e = ap (validity_allowed (Some bits)) e

widened : (n m : Nullability) → n ≡ Nullable → or_nullable n m ≡ m → m ≡ Nullable
widened n m e w = sym (ap (λ k. or_nullable k m) (sym e) ∙ w)

pub narrowed-allowed : (own valid : Validity) (len : ℕ) (n m : Nullability) → IsValidityOf own len n → or_nullable n m ≡ m → validity_allowed valid m ≡ true → validity_allowed (narrowed own valid) m ≡ true
narrowed-allowed None None len n m h w a = refl
narrowed-allowed (Some own) None len n m h w a = bits-allowed own m (widened n m h.1 w)
narrowed-allowed None (Some bits) len n m h w a = a
narrowed-allowed (Some own) (Some bits) len n m h w a = bits-allowed (both own bits) m (widened n m h.1 w)

-- ---- rows

both-row : (x y : Bool) (r : PlainValue) → cond (x && y) r null ≡ cond y (cond x r null) null
both-row true y r = refl
both-row false true r = refl
both-row false false r = refl

masked-both : (xs ys : List Bool) (rs : List PlainValue) → masked_rows (both xs ys) rs ≡ masked_rows ys (masked_rows xs rs)
masked-both [] [] rs = refl
masked-both [] (y ∷ ys) rs = refl
masked-both (x ∷ xs) [] rs = refl
masked-both (x ∷ xs) (y ∷ ys) [] = refl
masked-both (x ∷ xs) (y ∷ ys) (r ∷ rs) = λ i. both-row x y r i ∷ masked-both xs ys rs i

pub masked-also : (own : Validity) (bits : List Bool) (rs : List PlainValue) → masked_rows (also own bits) rs ≡ masked_rows bits (valid_rows own rs)
masked-also None bits rs = refl
masked-also (Some xs) bits rs = masked-both xs bits rs

rows-narrowed : (own valid : Validity) (rs : List PlainValue) → valid_rows (narrowed own valid) rs ≡ valid_rows valid (valid_rows own rs)
rows-narrowed own None rs = refl
rows-narrowed own (Some bits) rs = masked-also own bits rs

-- ---- a node with narrowed validity

module _ (own valid : Validity) (len : ℕ) (n m : Nullability) (h : IsValidityOf own len n) (o : validity_length own len ≡ true) (v : validity_length valid len ≡ true) (w : or_nullable n m ≡ m) (a : validity_allowed valid m ≡ true) where
  pub narrowed_long : validity_length (narrowed own valid) len ≡ true
  narrowed_long = length-narrowed own valid len o v

  pub narrowed_allowed : validity_allowed (narrowed own valid) m ≡ true
  narrowed_allowed = narrowed-allowed own valid len n m h w a

  pub narrowed_admitted : primitive_refusal len (narrowed own valid) m ≡ None
  narrowed_admitted = admitted (narrowed own valid) len m narrowed_long narrowed_allowed

  pub narrowed_rows : (rs : List PlainValue) → length rs ≡ len → valid_rows (kept (narrowed own valid)) rs ≡ valid_rows valid (valid_rows own rs)
  narrowed_rows rs l = kept-rows (narrowed own valid) rs (ap (validity_length (narrowed own valid)) l ∙ narrowed_long) ∙ rows-narrowed own valid rs
