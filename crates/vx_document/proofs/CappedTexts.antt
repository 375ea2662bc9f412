-- Pieces behind one another in a text with a limit.
use Rattle.std.proofs.Common.{◌≡◌, ◌≤◌, ◌+◌, ◌++◌, ◌∙◌, ℕ, List, [], length, Bool, true, false, cond, Option, Some, None, refl, sym, ap, arith, append_assoc, length-append}
use Rattle.std.specs.Prelude.{nat_le}
use Rattle.std.proofs.lemmas.Bool.{leb-false, lt-leb}
use Rattle.vx_document.specs.CappedText.{most_bytes, has_room, put}

-- two pieces are one
pub put_put : (s : Option (List ℕ)) (a b : List ℕ) → put (put s a) b ≡ put s (a ++ b)
put_put None a b = refl
put_put (Some t) a b = by (nat_le (length t + length a) most_bytes) refl
  where
    long : length (t ++ a) + length b ≡ length t + length (a ++ b)
    long = omega (arith, length-append t a, length-append a b)

    by : (fits : Bool) → nat_le (length t + length a) most_bytes ≡ fits → put (cond fits (Some (t ++ a)) None) b ≡ put (Some t) (a ++ b)
    by true e = λ i. cond (nat_le (long i) most_bytes) (Some (append_assoc t a b i)) None
    by false e =
        let above = leb-false _ _ e in
        let over : nat_le (length t + length (a ++ b)) most_bytes ≡ false = lt-leb _ _ (omega (arith, above, length-append a b)) in
        ap (λ fits. cond fits (Some (t ++ (a ++ b))) None) (sym over)

-- a piece behind another one
pub put_step : (s m n : Option (List ℕ)) (a b : List ℕ) → m ≡ put s a → n ≡ put m b → n ≡ put s (a ++ b)
put_step s m n a b p q = q ∙ ap (λ t. put t b) p ∙ put_put s a b

-- two pieces, put as one, behind another one
pub put_last : (s m n : Option (List ℕ)) (a b c : List ℕ) → m ≡ put s a → n ≡ put m (b ++ c) → n ≡ put s (a ++ b ++ c)
put_last s m n a b c p q = put_step s m n a (b ++ c) p q ∙ ap (put s) (sym (append_assoc a b c))

-- a piece for which there is no room ends the text
pub put_over : (s : Option (List ℕ)) (count : ℕ) (piece : List ℕ) → count ≤ length piece → has_room s count ≡ false → put s piece ≡ None
put_over None count piece le e = refl
put_over (Some t) count piece le e =
    let above = leb-false _ _ e in
    let over : nat_le (length t + length piece) most_bytes ≡ false = lt-leb _ _ (omega (arith, above, le)) in
    ap (λ fits. cond fits (Some (t ++ piece)) None) over

-- a text to which the first part of the rest has been appended
pub put_more : (s pushed new : Option (List ℕ)) (before part rest left : List ℕ) (total : Option (List ℕ))
    → new ≡ put pushed part → pushed ≡ put s before → left ≡ before ++ part ++ rest → put s left ≡ total → put new rest ≡ total
put_more s pushed new before part rest left total a b c d =
    let same : before ++ part ++ rest ≡ before ++ (part ++ rest) = simp append_assoc in
    ap (λ x. put x rest) (a ∙ ap (λ x. put x part) b) ∙ put_put (put s before) part rest ∙ put_put s before (part ++ rest) ∙ ap (put s) (sym same ∙ sym c) ∙ d

-- a text that is over stays so, whatever else is said of the rest
pub put_ended : (s : Option (List ℕ)) (rest whole end : List ℕ) (first : Option (List ℕ)) → s ≡ None → put s rest ≡ put first whole → None ≡ put first (whole ++ end)
put_ended s rest whole end first over same =
    let ended : put first whole ≡ None = sym same ∙ ap (λ x. put x rest) over in
    ap (λ x. put x end) (sym ended) ∙ put_put first whole end

-- and the end behind the rest
pub put_end : (s new : Option (List ℕ)) (left whole end : List ℕ) (first : Option (List ℕ)) → left ≡ [] → new ≡ put s end → put s left ≡ put first whole → new ≡ put first (whole ++ end)
put_end s new left whole end first none e same =
    let joined = put_put s left end ∙ ap (λ x. put s (x ++ end)) none in
    e ∙ sym joined ∙ ap (λ x. put x end) same ∙ put_put first whole end
