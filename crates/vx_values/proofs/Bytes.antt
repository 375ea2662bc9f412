-- Bytes are below 256.
use Rattle.std.proofs.Common.{◌≡◌, ℕ, suc, List, [], ◌∷◌, true, refl, arith, Fits, w8}
use Rattle.std.proofs.lemmas.Bool.Decides.{nat_tests}
use Rattle.std.specs.Prelude.{nat_lt, slice_index_or}
use Rattle.std.specs.List.{list_all}

pub bytes_fit : (xs : List ℕ) → ((i : ℕ) → Fits w8 (slice_index_or xs i 0)) → list_all (λ byte. nat_lt byte 256) xs ≡ true
bytes_fit [] a = refl
bytes_fit (x ∷ xs) a = let b = a 0 in rw (bytes_fit xs (λ k. a (suc k))) (grind (arith, nat_tests, b))
