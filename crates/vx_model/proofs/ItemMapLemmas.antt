-- Zeroed items and picked items under a map of the items.
use Rattle.std.proofs.Common.{◌≡◌, ℕ, zero, suc, ℤ, List, [], ◌∷◌, map, refl, Bool, true, false, cond, Some, None}
use Rattle.std.specs.Prelude.{slice_index_or}
use Rattle.vx_base.specs.declared.ptype.PType.{PType}
use Rattle.vx_base.specs.Integers.{bits_in}
use Rattle.vx_model.specs.Tree.{Validity}
use Rattle.vx_model.specs.Decoded.{zeroed, zeroed_by, picked}

module _ {A B : Type 0} (f : A → B) (default : A) where
  at_bit : (bit : Bool) (x : A) → f (cond bit x default) ≡ cond bit (f x) (f default)
  at_bit true x = refl
  at_bit false x = refl

  pub map-zeroed : (bits : List Bool) (xs : List A) → map f (zeroed default bits xs) ≡ zeroed (f default) bits (map f xs)
  map-zeroed [] xs = refl
  map-zeroed (bit ∷ bits) [] = refl
  map-zeroed (bit ∷ bits) (x ∷ xs) = λ i. at_bit bit x i ∷ map-zeroed bits xs i

  pub map-zeroed_by : (valid : Validity) (xs : List A) → map f (zeroed_by default valid xs) ≡ zeroed_by (f default) valid (map f xs)
  map-zeroed_by None xs = refl
  map-zeroed_by (Some bits) xs = map-zeroed bits xs

  item_at : (xs : List A) (k : ℕ) → f (slice_index_or xs k default) ≡ slice_index_or (map f xs) k (f default)
  item_at [] k = refl
  item_at (x ∷ xs) zero = refl
  item_at (x ∷ xs) (suc k) = item_at xs k

  pub map-picked : (p : PType) (items : List A) (codes : List ℤ) → map f (map (λ code. picked p items default code) codes) ≡ map (λ code. picked p (map f items) (f default) code) codes
  map-picked p items [] = refl
  map-picked p items (code ∷ codes) = λ i. item_at items (bits_in p code) i ∷ map-picked p items codes i

pub ruleset item_maps = (map-zeroed)
