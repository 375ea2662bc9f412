-- A test of equal items is one test.
use Rattle.std.proofs.Common.{◌≡◌, ◌∙◌, ℕ, zero, suc, Bool, true, false, refl, ap, sym, arith}
use Rattle.std.specs.Prelude.{◌==◌, ◌&&◌, ◌||◌, replicate}
use Rattle.std.specs.List.{list_all}
use Rattle.std.proofs.lemmas.Bool.{ne_eqb}
use Rattle.vx_base.specs.PlainValue.{PlainValue}

absorbed : (b x : Bool) → (b && (x || b)) ≡ b
absorbed true true = refl
absorbed true false = refl
absorbed false x = refl

pub list_all-copies : (p : PlainValue → Bool) (len : ℕ) (v : PlainValue) → list_all p (replicate len v) ≡ (len == 0 || p v)
list_all-copies p zero v = refl
list_all-copies p (suc len) v =
    ap (λ b. p v && b) (list_all-copies p len v) ∙ absorbed (p v) (len == 0) ∙ sym (ap (λ b. b || p v) (ne_eqb (suc len) 0 (λ (e : suc len ≡ 0). omega (arith, e))))

pub ruleset copies = (list_all-copies)
