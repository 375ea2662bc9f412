-- Known bytes that are written in pieces.
use Rattle.std.proofs.Common.{◌≡◌, ◌+◌, ◌-◌, ℕ, List, ◌++◌, length, take, drop, Option, sym, ap, subst, ◌∙◌, arith}
use Rattle.std.proofs.Math.Seq.{take-add}
use Rattle.std.proofs.lemmas.List.{take_all, length-drop}
use Rattle.std.proofs.KnownBytes.{Appends-trans}
use Rattle.std.specs.Io.KnownBytes.{Appends}

-- the first a bytes and the next n
pub take-append-next : (bytes : List ℕ) (a n : ℕ) → take a bytes ++ take n (take (length bytes - a) (drop a bytes)) ≡ take (a + n) bytes
take-append-next bytes a n =
    ap (λ l. take a bytes ++ take n l) (take_all (length bytes - a) (drop a bytes) (omega (arith, length-drop a bytes))) ∙ sym (take-add a n bytes)

pub Appends-next : (old mid new : Option (List ℕ)) (bytes : List ℕ) (a n : ℕ) → Appends old mid (take a bytes)
    → Appends mid new (take n (take (length bytes - a) (drop a bytes))) → Appends old new (take (a + n) bytes)
Appends-next old mid new bytes a n p q = subst (Appends old new) (take-append-next bytes a n) (Appends-trans old mid new _ _ p q)
