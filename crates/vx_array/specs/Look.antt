-- What one probe of the search for a patch finds, among indices that rise.
use Rattle.std.specs.Prelude.{◌≡◌, ◌≤◌, ◌-◌, ◌*◌, ℕ, List, Some}
use Rattle.vx_base.specs.PlainValue.{PlainValue}
use Rattle.vx_model.specs.Rows.{place_of}
use Rattle.vx_model.proofs.PatchLemmas.{NoneBelow, NoneFrom}
use Rattle.vx_array.specs.declared.patches.search.Look.{Look}
use Rattle.vx_array.specs.declared.patches.search.Look.TheVariants.{Found, Left}

-- of the places from low up to before high at most half are left, and if none outside of the former had the index n, none
-- outside of the latter has
pub record IsHalf (is : List PlainValue) (n low high from to : ℕ) : Type 0 where
  pub after : low ≤ from
  pub order : from ≤ to
  pub before : to ≤ high
  pub half : 2 * (to - from) ≤ high - low
  pub none_below : NoneBelow is n low → NoneBelow is n from
  pub none_from : NoneFrom is n high → NoneFrom is n to

-- the place of the index n, or which places are left
abbrev pub Looks : List PlainValue → ℕ → ℕ → ℕ → Look → Type 0
Looks is n low high (Found place) = place_of is n ≡ Some place
Looks is n low high (Left from to) = IsHalf is n low high from to
